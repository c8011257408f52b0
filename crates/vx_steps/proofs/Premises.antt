-- What has to be so for a fault to have its cause, from what else is so.
use Rattle.std.proofs.Common.{Result, Ok, Err}
use Rattle.vx_base.specs.Columns.{ColumnData}
use Rattle.vx_rows.specs.Derivations.{Leaves}
use Rattle.vx_steps.specs.declared.errors.StepError.{StepError}
use Rattle.vx_steps.specs.declared.errors.StepError.TheVariants.{Unsupported, BadSegment, BadCode, EvalFault, Memory}
use Rattle.vx_steps.specs.Computed.{IsByFor, UnlessList}
use Rattle.vx_steps.specs.Held.{Held, IsBy}

pub unless_by : (fault : StepError) (P Q : Type 0) → (P → Q) → UnlessList fault P → UnlessList fault Q
unless_by (Unsupported list) P Q to is = tt
unless_by (BadSegment segment) P Q to is = to is
unless_by (BadCode take row) P Q to is = to is
unless_by (EvalFault row) P Q to is = to is
unless_by Memory P Q to is = to is

pub unless_held : (fault : StepError) (P : Type 0) → P → UnlessList fault P
unless_held (Unsupported list) P is = tt
unless_held (BadSegment segment) P is = is
unless_held (BadCode take row) P is = is
unless_held (EvalFault row) P is = is
unless_held Memory P is = is

pub is_by_for : (h other : Held) (leaves : Leaves) → (IsBy h leaves → IsBy other leaves) → (result : Result ColumnData StepError) → IsByFor h leaves result → IsByFor other leaves result
is_by_for h other leaves to (Ok column) is = to is
is_by_for h other leaves to (Err fault) is = unless_by fault (IsBy h leaves) (IsBy other leaves) to is
