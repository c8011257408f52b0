-- Whole values that are right: those that workers made, and those that are read once no worker did.
use Rattle.std.specs.Prelude.{◌≡◌, ◌≢◌, ℕ, ◌<◌, ◌⊎◌, List, [], length, map, Option, Some, None, Result, Ok, Err, IfOk, IfSome, IsSomeAnd}
use Rattle.std.specs.List.{slice_get, AllByRecursion}
use Rattle.std.specs.Global.{Vec}
use Rattle.vx_rows.specs.Reads.{IsAmong}
use Rattle.vx_rows.specs.SegmentLeaves.{leaves_of}
use Rattle.vx_plan.specs.declared.children.PlanRef.{PlanRef}
use Rattle.vx_plan.specs.Plans.{plan_at}
use Rattle.vx_plan.specs.Refs.{number_of}
use Rattle.vx_plan.specs.Rules.{node_at}
use Rattle.vx_steps.specs.declared.kept.KeptValue.{KeptValue}
use Rattle.vx_steps.specs.declared.leaf_reads.LeafRead.{LeafRead}
use Rattle.vx_steps.specs.Held.{AreMade, AreTyped}
use Rattle.vx_steps.specs.Kept.{kept_at, IsKept}
use Rattle.vx_steps.specs.KeptData.{Kept}
use Rattle.vx_steps.specs.Visits.{SomeWholeVisit, IsLeafRead}
use Rattle.vx_splits.specs.declared.selected_rows.SelectedRows.{SelectedRows}
use Rattle.vx_io.specs.Fetches.{asked_for}
use Rattle.vx_drive.specs.declared.errors.ScanError.{ScanError}
use Rattle.vx_drive.specs.declared.errors.ScanError.TheVariants.{ReadFault, Memory}
use Rattle.vx_drive.specs.declared.plans.ScanPlans.{ScanPlans}
use Rattle.vx_drive.specs.Asks.{IsLeftClear, KeepsFaults, Lasts}
use Rattle.vx_drive.specs.Fetched.{AllLocated, AreDistinct, location_of}
use Rattle.vx_drive.specs.Plans.{with_projection}
use Rattle.vx_chunks.specs.Outcomes.{data_of, told_by, Causes, ChunkAsks}
use Rattle.vx_chunks.specs.Values.{all_rows}
use Rattle.vx_base.specs.Columns.{ColumnData}
use Rattle.vx_base.specs.Sources.{SourceState}

-- ---- what is asked for

-- A row of the whole values of the plan of that number reads the leaf of that number, whose values lie in the segment.
pub record ValueRead : Type 0 where
  pub node : ℕ
  pub leaf : ℕ
  pub segment : ℕ

abbrev pub leaf_in : ValueRead → LeafRead
leaf_in read = record { leaf = read.leaf; segment = read.segment }

abbrev pub segment_in : ValueRead → ℕ
segment_in read = read.segment

abbrev pub node_and_segment : ValueRead → ℕ × ℕ
node_and_segment read = (read.node, read.segment)

-- so it is, of values that are wanted and were not there
pub record IsValueRead (plans : ScanPlans) (Wants : ℕ → Type 0) (right : List Kept) (read : ValueRead) : Type 0 where
  pub wanted : Wants read.node
  pub known : read.node < length plans.table
  pub lacked : kept_at right read.node ≡ None
  pub visited : SomeWholeVisit (IsLeafRead (leaf_in read)) (plan_at plans.table read.node) (node_at plans.table read.node).rows

-- ---- whole values that are made sure of

-- the error that a result tells, if any
abbrev pub error_in : {X : Type 0} → Result X ScanError → Option ScanError
error_in (Ok x) = None
error_in (Err error) = Some error

-- why they can't be: memory lacks, or some row of a plan that is wanted has the cause
abbrev pub FailsToRead : ScanPlans → (ℕ → Type 0) → ScanError → SourceState → SourceState → Type 0
FailsToRead plans Wants error before after =
    (error ≡ Memory) ⊎ ((node : PlanRef) × Wants (number_of node) × (number_of node < length plans.table) × Causes (told_by plans before) (with_projection plans node) [] (all_rows plans node) error before after)

-- There are more values, and they are right if those before were. Where some lacked they were read, each once; and what was
-- read of them is there, unless it failed.
pub record Certifies (plans : ScanPlans) (Wants : ℕ → Type 0) (old new : List Kept) (failure : Option ScanError) (before after : SourceState) : Type 0 where
  pub grows : (n : ℕ) (column : ColumnData) → kept_at old n ≡ Some column → kept_at new n ≡ Some column
  pub typed : AreTyped plans.table old → AreTyped plans.table new
  pub right : told_by plans before (λ bytes. AreMade plans.table plans.row_offset old (leaves_of bytes) → AreMade plans.table plans.row_offset new (leaves_of bytes))
  pub cause : IfSome failure (λ error. FailsToRead plans Wants error before after)
  pub reads : List ValueRead
  pub are : AllByRecursion (IsValueRead plans Wants old) reads
  pub kept : failure ≡ None → AllByRecursion (λ (read : ValueRead). IsKept new read.node) reads
  pub apart : AreDistinct (map node_and_segment reads)
  pub located : AllLocated plans.locations.items (map segment_in reads)
  pub asked : after.asked ≡ asked_for (map (location_of plans.locations.items) (map segment_in reads)) before.asked
  pub faults : KeepsFaults before after ⊎ (failure ≡ Some ReadFault)
  pub lasts : Lasts before after
  pub in_flight : IsLeftClear before after

-- ---- borrowed values

abbrev pub nodes_in : List Kept → List ℕ
nodes_in values = map (λ (one : Kept). one.node) values

-- each of them is the one that is right for its plan
abbrev pub AreRight : List Kept → List Kept → Type 0
AreRight borrowed right = (place : ℕ) (one : Kept) → slice_get borrowed place ≡ Some one → kept_at right one.node ≡ Some one.column

-- there is one that is right for its plan, and it is another
abbrev pub IsWrong : List Kept → Kept → Type 0
IsWrong right one = (made : ColumnData) × (kept_at right one.node ≡ Some made) × (one.column ≢ made)

-- all are right, or the one at the place is wrong
abbrev pub IsTested : List Kept → List Kept → Option ℕ → Type 0
IsTested borrowed right None = AreRight borrowed right
IsTested borrowed right (Some place) = IsSomeAnd (slice_get borrowed place) (IsWrong right)

-- Where values of their plans lacked, they were read.
pub record Tests (plans : ScanPlans) (borrowed old new : List Kept) (result : Result (Option ℕ) ScanError) (before after : SourceState) : Type 0 where
  pub certifies : Certifies plans (λ n. IsAmong n (nodes_in borrowed)) old new (error_in result) before after
  pub tested : IfOk result (IsTested borrowed new)

-- ---- all that a chunk asks for

-- These are among the right ones, and for each plan of which the chunk asks for the whole values there is one.
pub record AreGiven (plans : ScanPlans) (chosen : SelectedRows) (right given : List Kept) : Type 0 where
  pub from : (n : ℕ) (column : ColumnData) → kept_at given n ≡ Some column → kept_at right n ≡ Some column
  pub all : (n : ℕ) → ChunkAsks plans [] chosen n → (n < length plans.table) × IsKept given n

pub record GivesRight (plans : ScanPlans) (chosen : SelectedRows) (old new : List Kept) (result : Result (Vec KeptValue) ScanError) (before after : SourceState) : Type 0 where
  pub certifies : Certifies plans (ChunkAsks plans [] chosen) old new (error_in result) before after
  pub given : IfOk result (λ given. AreGiven plans chosen new (data_of given.items))
