-- Why a source was asked for a segment.
use Rattle.std.specs.Prelude.{◌≡◌, ℕ, List, [], ◌∷◌, Some}
use Rattle.std.specs.List.{slice_get}
use Rattle.vx_rows.specs.Reads.{Way, IsAmong, directly, through}
use Rattle.vx_steps.specs.declared.leaf_reads.LeafRead.{LeafRead}
use Rattle.vx_steps.specs.Rows.{SomeRow}
use Rattle.vx_splits.specs.declared.selected_rows.SelectedRows.{SelectedRows}
use Rattle.vx_drive.specs.declared.plans.ScanPlans.{ScanPlans}
use Rattle.vx_drive.specs.Plans.{projection_plan}
use Rattle.vx_chunks.specs.ChunkRows.{ChunkReaches}
use Rattle.vx_chunks.specs.Ways.{ReadsBy}

-- A row of the chunk with that number reads the leaf of that number that way, directly or through the values of an
-- outermost take, and the leaf's values lie in the segment.
pub record Reason : Type 0 where
  pub chunk : ℕ
  pub leaf : ℕ
  pub segment : ℕ
  pub way : Way

abbrev pub read_for : Reason → LeafRead
read_for reason = record { leaf = reason.leaf; segment = reason.segment }

abbrev pub leaf_of : Reason → ℕ
leaf_of reason = reason.leaf

abbrev pub segment_of : Reason → ℕ
segment_of reason = reason.segment

-- both are of one leaf only if the first is of one of these chunks
abbrev pub AreOfOneLeafOnlyBehind : List ℕ → Reason → Reason → Type 0
AreOfOneLeafOnlyBehind chunks one other = one.leaf ≡ other.leaf → IsAmong one.chunk chunks

-- which segment is asked for, and for which chunk
abbrev pub chunk_and_segment : Reason → ℕ × ℕ
chunk_and_segment reason = (reason.chunk, reason.segment)

-- which segment is asked for, and for the values of which take: none, where it is read directly
abbrev pub taken_by : Way → ℕ → List (ℕ × ℕ)
taken_by directly segment = []
taken_by (through take) segment = (take, segment) ∷ []

abbrev pub take_and_segment : Reason → List (ℕ × ℕ)
take_and_segment reason = taken_by reason.way reason.segment

-- so it is: a selected row of that chunk reads the leaf that way, and reaches the segment
pub record IsReasonAmong (plans : ScanPlans) (chunks : List SelectedRows) (reason : Reason) : Type 0 where
  pub chunk : SelectedRows
  pub here : slice_get chunks reason.chunk ≡ Some chunk
  pub reads : SomeRow (ReadsBy reason.way (read_for reason) (projection_plan plans)) chunk.scope.rows.start chunk.mask
  pub reaches : ChunkReaches plans chunk reason.segment
