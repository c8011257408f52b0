-- Chunks that ran with whole values that their workers borrowed.
use Rattle.std.specs.Prelude.{◌≡◌, ◌≢◌, ℕ, Bool, true, List, [], length, map, Result, Ok, Err, IfOk, IfErr, IsSomeAnd, Some}
use Rattle.std.specs.List.{slice_get, AllByRecursion}
use Rattle.vx_rows.specs.SegmentLeaves.{Bytes, leaves_of}
use Rattle.vx_plan.specs.Refs.{number_of}
use Rattle.vx_steps.specs.KeptData.{Kept}
use Rattle.vx_steps.specs.Offers.{IsForPlan}
use Rattle.vx_splits.specs.declared.selected_rows.SelectedRows.{SelectedRows}
use Rattle.vx_drive.specs.declared.errors.ScanError.{ScanError}
use Rattle.vx_drive.specs.declared.errors.ScanError.TheVariants.{BadCode, EvalFault}
use Rattle.vx_drive.specs.declared.plans.ScanPlans.{ScanPlans}
use Rattle.vx_drive.specs.Plans.{projection_node}
use Rattle.vx_chunks.specs.ChunkRows.{ChunkFaultsAt, ChunkReadsBadCode, IsPiece}
use Rattle.vx_chunks.specs.Outcomes.{data_of, told_by, ChunkAsks}
use Rattle.vx_workers.specs.declared.worker_states.Borrower.{Borrower}
use Rattle.vx_workers.specs.Unhindered.{IsUnhindered}
use Rattle.vx_base.specs.Columns.{ColumnData}
use Rattle.vx_base.specs.Masks.{true_count}
use Rattle.vx_base.specs.Sources.{SourceState}

-- ---- what is borrowed

-- Whole values that a chunk borrows: each has its plan's dtype and rows, and the chunk asks for it.
pub record AreBorrowed (plans : ScanPlans) (chosen : SelectedRows) (borrowed : List Kept) : Type 0 where
  pub fit : AllByRecursion (IsForPlan plans.table) borrowed
  pub asked : AllByRecursion (λ (one : Kept). ChunkAsks plans [] chosen one.node) borrowed

-- an error that may come of a value that is wrong
abbrev pub RestsOnValues : ScanError → Type 0
RestsOnValues (BadCode take row) = Unit {0}
RestsOnValues (EvalFault row) = Unit {0}
RestsOnValues error = ⊥

-- the chunk asks for whole values: some selected row reads a code of an outermost take, or an outermost share
abbrev pub AsksForWholes : ScanPlans → SelectedRows → Type 0
AsksForWholes plans chosen = (n : ℕ) × ChunkAsks plans [] chosen n

-- so it is of the chunk of that number, and nothing else hinders its rows
abbrev pub IsAsking : ScanPlans → List SelectedRows → ℕ → Type 0
IsAsking plans chunks x = IsSomeAnd (slice_get chunks x) (λ chunk. AsksForWholes plans chunk × IsUnhindered plans chunk)

-- ---- what came of it

-- the chunks that ran so, in their order
abbrev pub borrower_chunks : List Borrower → List ℕ
borrower_chunks borrowers = map (λ (borrower : Borrower). borrower.chunk) borrowers

-- The chunk asks for the values that it borrowed, at least one. A column has its shape, and an error may come of a value.
-- Nothing else hinders its rows.
pub record IsBorrower (plans : ScanPlans) (chunks : List SelectedRows) (borrower : Borrower) : Type 0 where
  pub chunk : SelectedRows
  pub here : slice_get chunks borrower.chunk ≡ Some chunk
  pub some : borrower.borrowed.items ≢ []
  pub borrowed : AreBorrowed plans chunk (data_of borrower.borrowed.items)
  pub dtype : IfOk borrower.result (λ column. column.dtype ≡ (projection_node plans).dtype)
  pub rows : IfOk borrower.result (λ column. length column.values ≡ true_count chunk.mask)
  pub rests : IfErr borrower.result RestsOnValues
  pub unhindered : IsUnhindered plans chunk

-- with these values in place of the plan's own, and by these bytes, the column is the chunk's piece, or the error has its
-- cause
abbrev pub IsResultBy : Bytes → ScanPlans → List Kept → SelectedRows → Result ColumnData ScanError → Type 0
IsResultBy bytes plans given chosen (Ok column) = IsPiece (leaves_of bytes) plans given chosen column
IsResultBy bytes plans given chosen (Err (BadCode take row)) = ChunkReadsBadCode (leaves_of bytes) plans given chosen (number_of take) row
IsResultBy bytes plans given chosen (Err (EvalFault row)) = ChunkFaultsAt (leaves_of bytes) plans given chosen row
IsResultBy bytes plans given chosen (Err error) = ⊥

-- so it is of the chunk and the values that it borrowed
abbrev pub IsBorrowerBy : Bytes → ScanPlans → List SelectedRows → Borrower → Type 0
IsBorrowerBy bytes plans chunks borrower = IsSomeAnd (slice_get chunks borrower.chunk) (λ chunk. IsResultBy bytes plans (data_of borrower.borrowed.items) chunk borrower.result)

-- With values that its worker borrowed, which is not alone, the chunk of that number ended in a fault of rows, which has its
-- cause by the file.
pub record FaultsBorrowing (shares : Bool) (plans : ScanPlans) (chunks : List SelectedRows) (before : SourceState) (number : ℕ) : Type 0 where
  pub shared : shares ≡ true
  pub borrower : Borrower
  pub number_is : borrower.chunk ≡ number
  pub is : IsBorrower plans chunks borrower
  pub error : ScanError
  pub failed : borrower.result ≡ Err error
  pub by : told_by plans before (λ bytes. IsBorrowerBy bytes plans chunks borrower)
