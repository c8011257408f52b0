-- Faults at a value of the selected rows of a plan.
use Rattle.std.specs.Prelude.{◌≡◌, ℕ, Bool, List}
use Rattle.vx_base.specs.Data.{DataType, Datum}
use Rattle.vx_expr.specs.Terms.{Term}
use Rattle.vx_expr.specs.declared.applying.ApplyError.TheVariants as applied
use Rattle.vx_picking.specs.declared.errors.LookUpError.TheVariants as looked
use Rattle.vx_picking.specs.RowFaults as picking
use Rattle.vx_plan.specs.Refs.{number_of}
use Rattle.vx_steps.specs.declared.errors.StepError.{StepError}
use Rattle.vx_steps.specs.declared.errors.StepError.TheVariants.{BadCode, EvalFault, Memory}

-- a value at which the expression is a fault, and its row
abbrev pub IsEvalFault : DataType → Term → List Datum → ℕ → List Bool → StepError → Type 0
IsEvalFault t e values start bits (EvalFault row) = picking.IsEvalFault t e values start bits (applied.EvalFault row)
IsEvalFault t e values start bits Memory = Unit {0}
IsEvalFault t e values start bits fault = ⊥

-- a code that is none of the values of the take, and its row
abbrev pub IsCodeFault : ℕ → ℕ → List Datum → ℕ → List Bool → StepError → Type 0
IsCodeFault plan count codes start bits (BadCode take row) = (number_of take ≡ plan) × picking.IsCodeFault count codes start bits (looked.BadCode row)
IsCodeFault plan count codes start bits Memory = Unit {0}
IsCodeFault plan count codes start bits fault = ⊥
