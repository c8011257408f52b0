-- What reading the rows of an evaluation to their end gives.
use Rattle.std.specs.Prelude.{◌≡◌, ℕ, ◌≤◌, [], length, Result, Ok, Err}
use Rattle.vx_base.specs.Columns.{ColumnData}
use Rattle.vx_base.specs.Masks.{true_count}
use Rattle.vx_base.specs.Sources.{SourceState, RoseBy}
use Rattle.vx_readers.specs.declared.reading.ReadRowsError.{ReadRowsError}
use Rattle.vx_readers.specs.declared.reading.ReadRowsError.TheVariants.{Reader, Stalled, ZeroSize, Memory}
use Rattle.vx_readers.specs.Evaluations.{Evaluation, IsCaused, WhereTold}
use Rattle.vx_readers.specs.States.{IsProjection, ProjectionFault}
use Rattle.vx_reads.specs.declared.errors.ReaderError.TheVariants as faults
use Rattle.vx_reads.specs.Reads.{asked_also, segments_of, AsksOnly, IsRangeOf}

-- Only ranges of the evaluation's segments are asked for, nothing is left in flight, the file stays, and the counts never
-- fall.
pub record Leaves (e : Evaluation) (before after : SourceState) : Type 0 where
  pub file : after.file ≡ before.file
  pub asks : AsksOnly (IsRangeOf e.locations (segments_of e.reads)) before.asked after.asked
  pub in_flight : after.in_flight ≡ []
  pub faults : before.faults ≤ after.faults
  pub idle : before.idle ≤ after.idle

-- With a column no call failed, and each read that was not asked for is asked for once, and nothing else.
abbrev pub Ends : ℕ → Result ColumnData ReadRowsError → Evaluation → SourceState → SourceState → Type 0
Ends limit (Ok column) e before after =
    WhereTold e before (IsProjection e column.values) × (column.dtype ≡ e.expression.dtype) × (length column.values ≡ true_count e.mask)
    × (after.faults ≡ before.faults) × (after.asked ≡ asked_also e.locations e.reads before.asked)
Ends limit (Err (Reader faults.Memory)) e before after = ⊥
Ends limit (Err (Reader error)) e before after =
    IsCaused e error before after (ProjectionFault e error)
Ends limit (Err Stalled) e before after = RoseBy limit before.idle after.idle
Ends limit (Err ZeroSize) e before after = ⊥
Ends limit (Err Memory) e before after = Unit {0}

pub record ReadsRange (limit : ℕ) (result : Result ColumnData ReadRowsError) (e : Evaluation) (before after : SourceState) : Type 0 where
  pub leaves : Leaves e before after
  pub ends : Ends limit result e before after
