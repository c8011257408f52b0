-- What the run of a chunk gives.
use Rattle.std.specs.Prelude.{◌≡◌, ℕ, ◌<◌, ◌≤◌, ◌⊎◌, List, [], ◌++◌, length, map, Some, None, Err, IfOk, IfErr, IfSome}
use Rattle.vx_rows.specs.SegmentLeaves.{Bytes, leaves_of}
use Rattle.vx_plan.specs.Refs.{number_of}
use Rattle.vx_steps.specs.Below.{HasNoEvalBelowTake, HasNoShare}
use Rattle.vx_steps.specs.Held.{AreMade, AreTyped, HaveLeaves}
use Rattle.vx_steps.specs.Kept.{kept_at, kept_data, AreOfDistinctPlans, IsKept}
use Rattle.vx_steps.specs.KeptData.{Kept}
use Rattle.vx_steps.specs.declared.kept.KeptValue.{KeptValue}
use Rattle.vx_steps.specs.declared.leaf_reads.LeafRead.{LeafRead}
use Rattle.vx_steps.specs.Offers.{IsForPlan, Keeps}
use Rattle.vx_steps.specs.Visits.{IsLeafRead, IsWholeRead}
use Rattle.vx_splits.specs.declared.selected_rows.SelectedRows.{SelectedRows}
use Rattle.vx_drive.specs.declared.errors.ScanError.{ScanError}
use Rattle.vx_drive.specs.declared.errors.ScanError.TheVariants.{Unsupported, NoLocation, ReadFault, Stalled, BadSegment, BadCode, EvalFault, Memory}
use Rattle.vx_drive.specs.declared.plans.ScanPlans.{ScanPlans}
use Rattle.vx_drive.specs.Asks.{AsksOnly, Lasts, TellsFaults}
use Rattle.vx_drive.specs.Plans.{bytes_of, projection_node, projection_plan}
use Rattle.vx_drive.specs.Runs.{row_fault}
use Rattle.vx_chunks.specs.declared.outcomes.ChunkOutcome.{ChunkOutcome}
use Rattle.vx_chunks.specs.declared.outcomes.HandedOn.{HandedOn}
use Rattle.vx_chunks.specs.declared.outcomes.Ran.{Ran}
use Rattle.vx_chunks.specs.ChunkRows.{ChunkFailsInside, ChunkReaches, ChunkVisits, ChunkFaultsAt, IsPiece, ChunkReadsBadCode, ChunkReadsList, ChunkReadsSegment, ChunkReadsTorn}
use Rattle.vx_chunks.specs.LeafRows.{IsReadAt, row_behind}
use Rattle.vx_chunks.specs.Lent.{WhereAllTell}
use Rattle.vx_base.specs.Columns.{ColumnData}
use Rattle.vx_base.specs.Masks.{true_count}
use Rattle.vx_base.specs.Sources.{SourceState, Rose, RoseBy}

-- ---- what is claimed of bytes

-- Of which bytes of the segments something is claimed: it holds of them all.
abbrev pub Claims : Type 1
Claims = (Bytes → Type 0) → Type 0

-- those of the file, where the source tells it
abbrev pub told_by : ScanPlans → SourceState → Claims
told_by plans source P = (file : List ℕ) → source.file ≡ Some file → P (bytes_of plans file)

-- those of the file that all sources tell
abbrev pub told_by_all : ScanPlans → List SourceState → Claims
told_by_all plans sources P = WhereAllTell sources (λ file. P (bytes_of plans file))

-- what is handed on is so by the bytes
pub record AreHandedBy (plans : ScanPlans) (leaves made : List Kept) (bytes : Bytes) : Type 0 where
  pub leaves_are : HaveLeaves plans.table leaves (leaves_of bytes)
  pub made_are : AreMade plans.table plans.row_offset made (leaves_of bytes)

-- ---- pieces and causes

-- The column has the projection's dtype, and its values at the chunk's selected rows, in order.
pub record GivesPiece (Told : Claims) (plans : ScanPlans) (given : List Kept) (chosen : SelectedRows) (column : ColumnData) : Type 0 where
  pub dtype : column.dtype ≡ (projection_node plans).dtype
  pub count : length column.values ≡ true_count chosen.mask
  pub values : Told (λ bytes. IsPiece (leaves_of bytes) plans given chosen column)

-- why a chunk has no piece
abbrev pub Causes : Claims → ScanPlans → List Kept → SelectedRows → ScanError → SourceState → SourceState → Type 0
Causes Told plans given chosen (Unsupported list) before after = ChunkReadsList plans given chosen (number_of list)
Causes Told plans given chosen (NoLocation segment) before after = ChunkReadsSegment plans given chosen segment × (length plans.locations.items ≤ segment)
Causes Told plans given chosen ReadFault before after = Rose before.faults after.faults
Causes Told plans given chosen Stalled before after = RoseBy plans.idle_limit before.idle after.idle
Causes Told plans given chosen (BadSegment segment) before after = Told (λ bytes. ChunkReadsTorn bytes plans given chosen segment)
Causes Told plans given chosen (BadCode take row) before after = Told (λ bytes. ChunkReadsBadCode (leaves_of bytes) plans given chosen (number_of take) row)
Causes Told plans given chosen (EvalFault row) before after = Told (λ bytes. ChunkFaultsAt (leaves_of bytes) plans given chosen row)
Causes Told plans given chosen Memory before after = Unit {0}
Causes Told plans given chosen error before after = ⊥

-- A selected row reads the segment by a leaf that was not handed in, and not only for values that are given.
pub record IsWanted (plans : ScanPlans) (given leaves : List Kept) (chosen : SelectedRows) (segment : ℕ) : Type 0 where
  pub leaf : ℕ
  pub visited : ChunkVisits (IsLeafRead (record { leaf = leaf; segment = segment })) plans given chosen
  pub not_handed : kept_at leaves leaf ≡ None
  pub reached : ChunkReaches plans chosen segment

-- some selected row asks for the whole values of that number
abbrev pub ChunkAsks : ScanPlans → List Kept → SelectedRows → ℕ → Type 0
ChunkAsks plans given chosen n = ChunkVisits (IsWholeRead n) plans given chosen

-- ---- a chunk with values that are given

-- what is kept of whole values
abbrev pub data_of : List KeptValue → List Kept
data_of values = map kept_data values

-- the whole values of the number were used where they are given, and else made
abbrev pub AreUsedOrMade : List Kept → List Kept → List Kept → ℕ → Type 0
AreUsedOrMade given used made n = (IsKept given n × IsKept used n) ⊎ ((kept_at given n ≡ None) × IsKept made n)

-- the same of all that the selected rows ask for
abbrev pub AreAllUsedOrMade : ScanPlans → List Kept → SelectedRows → ChunkOutcome → Type 0
AreAllUsedOrMade plans given chosen outcome = (n : ℕ) → ChunkAsks plans given chosen n → AreUsedOrMade given (data_of outcome.used.items) (data_of outcome.made.items) n

-- Only given values were used, and what was used or made is what the selected rows ask for, each once. Those that were
-- made are whole by the file. Those that the selected rows of a piece ask for were used where they are given, and else
-- made. So were those that rows with a fault ask for, or the fault is one inside whole values; an expression's is none
-- such, where no share stands in the projection's plan and no expression below a take.
pub record KeepsValues (plans : ScanPlans) (given : List Kept) (chosen : SelectedRows) (outcome : ChunkOutcome) (before : SourceState) : Type 0 where
  pub used : (n : ℕ) (column : ColumnData) → kept_at (data_of outcome.used.items) n ≡ Some column → kept_at given n ≡ Some column
  pub apart_used : AreOfDistinctPlans (data_of outcome.used.items)
  pub apart_made : AreOfDistinctPlans (data_of outcome.made.items)
  pub asked_used : (n : ℕ) → IsKept (data_of outcome.used.items) n → ChunkAsks plans given chosen n
  pub asked_made : (n : ℕ) → IsKept (data_of outcome.made.items) n → ChunkAsks plans given chosen n
  pub made : told_by plans before (λ bytes. AreMade plans.table plans.row_offset (data_of outcome.made.items) (leaves_of bytes))
  pub typed : AreTyped plans.table (data_of outcome.made.items)
  pub typed_used : AreTyped plans.table (data_of outcome.used.items)
  pub there : IfOk outcome.piece (λ column. AreAllUsedOrMade plans given chosen outcome)
  pub left : IfErr outcome.piece (λ error. IfSome (row_fault error) (λ fault.
      AreAllUsedOrMade plans given chosen outcome ⊎ told_by plans before (λ bytes. ChunkFailsInside (leaves_of bytes) plans given chosen fault)))
  pub faults : (row : ℕ) → outcome.piece ≡ Err (EvalFault row) → HasNoShare (projection_plan plans) → HasNoEvalBelowTake (projection_plan plans) → told_by plans before (λ bytes. AreAllUsedOrMade plans given chosen outcome)

pub record RunsChunk (plans : ScanPlans) (chosen : SelectedRows) (given : List Kept) (outcome : ChunkOutcome) (before after : SourceState) : Type 0 where
  -- the given values that fit their plans: they stand in place of whole ones; where memory lacked, none may count, and then
  -- nothing was asked for
  pub fitting : List Kept
  pub fits : Keeps (IsForPlan plans.table) given fitting ⊎ ((outcome.piece ≡ Err Memory) × (after.asked ≡ before.asked))
  -- Ok is the chunk's piece by the file
  pub content : IfOk outcome.piece (GivesPiece (told_by plans before) plans fitting chosen)
  pub values : KeepsValues plans fitting chosen outcome before
  -- each error has its cause
  pub cause : IfErr outcome.piece (λ error. Causes (told_by plans before) plans fitting chosen error before after)
  -- segments that the chunk's rows read were asked for, each once, and none that is read only for values that are given
  pub asks : AsksOnly (IsWanted plans fitting [] chosen) plans.locations.items before after
  -- where a call on the source failed, that is the error
  pub faults : TellsFaults outcome.piece before after
  pub lasts : Lasts before after
  pub in_flight : after.in_flight ≡ []

-- ---- a chunk among those of one source

-- What is handed on has the dtypes and the rows of its plans, and no plan stands twice among whole values.
pub record CanHandOn (plans : ScanPlans) (handed : HandedOn) : Type 0 where
  pub leaves : AreTyped plans.table (data_of handed.leaves.items)
  pub made : AreTyped plans.table (data_of handed.made.items)
  pub apart : AreOfDistinctPlans (data_of handed.made.items)

-- where a chunk has no rows, no leaves are lent to it
abbrev pub LendsLeaves : SelectedRows → HandedOn → Type 0
LendsLeaves chosen handed = chosen.scope.rows.end ≤ chosen.scope.rows.start → data_of handed.leaves.items ≡ []

-- what is handed on is so by the bytes
abbrev pub IsHandedBy : ScanPlans → HandedOn → Bytes → Type 0
IsHandedBy plans handed bytes = AreHandedBy plans (data_of handed.leaves.items) (data_of handed.made.items) bytes

-- those of the file, where the source tells it and what was handed in is so by them
abbrev pub told_on : ScanPlans → HandedOn → SourceState → Claims
told_on plans handed source P = (file : List ℕ) → source.file ≡ Some file → IsHandedBy plans handed (bytes_of plans file) → P (bytes_of plans file)

-- the whole values of the number were given or made
abbrev pub IsGivenOrMade : List Kept → List Kept → ℕ → Type 0
IsGivenOrMade given made n = IsKept given n ⊎ IsKept made n

-- the same of all that the selected rows ask for
abbrev pub AreAllThere : ScanPlans → List Kept → List Kept → SelectedRows → Type 0
AreAllThere plans given made chosen = (n : ℕ) → ChunkAsks plans given chosen n → IsGivenOrMade given made n

-- of the leaves that the selected rows read, each is handed on that the row behind the chunk reads
abbrev pub HandsLeavesRead : ScanPlans → SelectedRows → List Kept → List Kept → Type 0
HandsLeavesRead plans chosen given leaves = (read : LeafRead) → IsReadAt plans (row_behind chosen) read.leaf → ChunkVisits (IsLeafRead read) plans given chosen → IsKept leaves read.leaf

-- What is handed on is so by the file, if what was handed in is, whatever was given. The values that were made before
-- stay, and those that the selected rows of a piece ask for are among them or given. So are those that rows with a fault
-- ask for, or the fault is one inside whole values. Of the leaves that were handed in, and of those that the selected
-- rows of a piece read, each is handed on that the row behind the chunk reads. A fault of rows may be found before all
-- that the chunk reads came, so that nothing is said of the leaves that its rows read.
pub record HandsOnMore (plans : ScanPlans) (chosen : SelectedRows) (handed : HandedOn) (given : List Kept) (ran : Ran) (before : SourceState) : Type 0 where
  pub can : CanHandOn plans ran.handed
  pub by_file : told_on plans handed before (IsHandedBy plans ran.handed)
  pub stays : (n : ℕ) (column : ColumnData) → n < length plans.table → kept_at (data_of handed.made.items) n ≡ Some column → kept_at (data_of ran.handed.made.items) n ≡ Some column
  pub there : IfOk ran.piece (λ column. AreAllThere plans given (data_of ran.handed.made.items) chosen)
  pub left : IfErr ran.piece (λ error. IfSome (row_fault error) (λ fault.
      AreAllThere plans given (data_of ran.handed.made.items) chosen ⊎ told_on plans handed before (λ bytes. ChunkFailsInside (leaves_of bytes) plans given chosen fault)))
  pub leaves_stay : (leaf : ℕ) → IsReadAt plans (row_behind chosen) leaf → IsKept (data_of handed.leaves.items) leaf → IsKept (data_of ran.handed.leaves.items) leaf
  pub leaves_there : IfOk ran.piece (λ column. HandsLeavesRead plans chosen given (data_of ran.handed.leaves.items))

-- These are some of the values that were made, and all of them that the chunk asks for.
pub record AreOwn (plans : ScanPlans) (chosen : SelectedRows) (made own : List Kept) : Type 0 where
  pub from : (n : ℕ) (column : ColumnData) → kept_at own n ≡ Some column → kept_at made n ≡ Some column
  pub asked : (n : ℕ) → ChunkAsks plans [] chosen n → IsKept made n → IsKept own n

-- They stand behind the given ones.
pub record HasOwn (plans : ScanPlans) (chosen : SelectedRows) (given made all : List Kept) : Type 0 where
  pub own : List Kept
  pub are : AreOwn plans chosen made own
  pub is : all ≡ given ++ own

-- What stands in place of whole values where a chunk runs: those that are given, and of those that its worker made what it
-- asks for.
pub record StandFor (plans : ScanPlans) (chosen : SelectedRows) (given made all : List Kept) : Type 0 where
  pub has_given : (n : ℕ) → IsKept given n → IsKept all n
  pub has_made : (n : ℕ) → n < length plans.table → ChunkAsks plans [] chosen n → IsKept made n → IsKept all n

-- What the run gives with these values in place of whole ones. What it asked for and hands on goes by all that stood so,
-- those that its worker made among them.
pub record RunsGiven (plans : ScanPlans) (chosen : SelectedRows) (handed : HandedOn) (given all : List Kept) (ran : Ran) (before after : SourceState) : Type 0 where
  -- Ok is the chunk's piece by the file, if what was handed in is so by it
  pub content : IfOk ran.piece (GivesPiece (told_on plans handed before) plans given chosen)
  -- each error has its cause
  pub cause : IfErr ran.piece (λ error. Causes (told_on plans handed before) plans given chosen error before after)
  -- segments that the chunk's rows read by leaves that were not handed in were asked for, each once, and none that is
  -- read only for values that are given or were made before
  pub asks : AsksOnly (IsWanted plans all (data_of handed.leaves.items) chosen) plans.locations.items before after
  pub more : HandsOnMore plans chosen handed all ran before
  -- where a call on the source failed, that is the error
  pub faults : TellsFaults ran.piece before after
  pub lasts : Lasts before after
  pub in_flight : after.in_flight ≡ []

pub record RunsOn (plans : ScanPlans) (chosen : SelectedRows) (handed : HandedOn) (given : List Kept) (ran : Ran) (before after : SourceState) : Type 0 where
  -- the given values that fit their plans: they stand in place of whole ones; where memory lacked, none may count
  pub fitting : List Kept
  pub fits : Keeps (IsForPlan plans.table) given fitting ⊎ ((ran.piece ≡ Err Memory) × (fitting ≡ []))
  pub all : List Kept
  pub stand : StandFor plans chosen fitting (data_of handed.made.items) all
  pub runs : RunsGiven plans chosen handed fitting all ran before after

-- And nothing else stood in place of whole values.
pub record RunsOnly (plans : ScanPlans) (chosen : SelectedRows) (handed : HandedOn) (given : List Kept) (ran : Ran) (before after : SourceState) : Type 0 where
  pub runs : RunsOn plans chosen handed given ran before after
  pub only : (n : ℕ) → IsKept runs.all n → IsGivenOrMade given (data_of handed.made.items) n
