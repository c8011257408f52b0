-- What is true of a scan between its calls.
use Rattle.std.specs.Prelude.{◌≡◌, ℕ, ◌<◌, ◌≤◌, ◌⊎◌, false, true, List, [], length, map, slice_range, slice_set, Some, None}
use Rattle.std.specs.List.{slice_get, remove, AllByRecursion}
use Rattle.vx_base.specs.Columns.{ColumnData}
use Rattle.vx_picking.specs.Rows.{SelectsSome}
use Rattle.vx_plan.specs.Nodes.{Node}
use Rattle.vx_plan.specs.Rules.{node_at}
use Rattle.vx_steps.specs.declared.jobs.ActiveSplit.{ActiveSplit}
use Rattle.vx_steps.specs.declared.jobs.Job.{Job}
use Rattle.vx_steps.specs.declared.jobs.Progress.{Progress}
use Rattle.vx_steps.specs.declared.placed_reads.PlacedRead.{PlacedRead}
use Rattle.vx_steps.specs.declared.splits.Split.{Split}
use Rattle.vx_steps.specs.declared.wholes.Wholes.{Wholes}
use Rattle.vx_steps.specs.Held.{AreTyped, FitsOffset}
use Rattle.vx_steps.specs.KeptData.{Kept}
use Rattle.vx_steps.specs.Kept.{kept_at, AreOfDistinctPlans, IsKept}
use Rattle.vx_steps.specs.LeavesData.{LeavesData}
use Rattle.vx_steps.specs.HeldData.{Holds}
use Rattle.vx_steps.specs.Leavings.{IsReadBehind}
use Rattle.vx_steps.specs.Needed.{still_reads, AreOpen, KeepsNeeded}
use Rattle.vx_steps.specs.StillRead.{SegmentIsRead}
use Rattle.vx_steps.specs.Needs.{Among, AreLeaves}
use Rattle.vx_steps.specs.OpenSegments.{AreCounted}
use Rattle.vx_steps.specs.Pieces.{piece_of, read_of, AreInOrder, ArePlaced, IsGivenTo, IsNextRow}
use Rattle.vx_steps.specs.Placed.{AskForNone}
use Rattle.vx_steps.specs.ReadTable.{bytes_of, IsGone}
use Rattle.vx_steps.specs.ReadTableData.{Wanted}
use Rattle.vx_steps.specs.Releasing.{ServesAll}
use Rattle.vx_steps.specs.Splits.{IsInside}
use Rattle.vx_steps.specs.Standings.{split_left, standing_of}
use Rattle.vx_steps.specs.Steps.{HasCame, IsHeldUpAt, IsReadByRest, IsSplitOutput}
use Rattle.vx_steps.specs.Turns.{AreLeavesKept}
use Rattle.vx_steps.specs.Wants.{IsAsked}
use Rattle.vx_steps.specs.Wholes.{AreThere, UsesGiven}

-- the first so many needs were decoded
abbrev pub AreDecoded : List Kept → List PlacedRead → ℕ → Type 0
AreDecoded leaves needs next = (place : ℕ) (need : PlacedRead) → place < next → slice_get needs place ≡ Some need → IsKept leaves need.leaf

-- A split has just been started: it has the needs of its split, all of them open, and no row was given. Whole values count as
-- made only where none are asked for.
pub record IsStarting (nodes : List Node) (job : Job) (split : Split) (active : ActiveSplit) : Type 0 where
  pub placed : ArePlaced nodes job.given job.plan split.rows.start split.mask active.needs.items
  pub order : AreInOrder active.needs.items
  pub are_leaves : AreLeaves nodes (map read_of active.needs.items)
  pub row : IsNextRow split.mask 0 active.at.row
  pub done : active.at.done ≡ 0
  pub next : active.at.next ≡ 0
  pub made : active.at.made ≡ true → AskForNone nodes job.given job.plan split.rows.start split.mask
  pub rest : AreOpen active.needs.items active.rest 0

-- A split that was started has the needs of its split, each of which is kept or asked for.
pub record IsStarted (nodes : List Node) (job : Job) (leaves : LeavesData) (wanted : List Wanted) (wholes : Wholes) (active : ActiveSplit) : Type 0 where
  pub split : Split
  pub at : slice_get job.splits.items active.split ≡ Some split
  pub placed : ArePlaced nodes job.given job.plan split.rows.start split.mask active.needs.items
  pub order : AreInOrder active.needs.items
  pub are_leaves : AreLeaves nodes (map read_of active.needs.items)
  pub asked : (need : PlacedRead) → Among need active.needs.items → kept_at leaves.all need.leaf ≡ None → IsAsked wanted need.segment
  pub given : IsGivenTo nodes job.given leaves.here wholes job.plan split active.needs.items active.at
  pub decoded : AreDecoded leaves.all active.needs.items active.at.next

-- An active split is one that was started, with a selected row that was not given.
pub record IsActive (nodes : List Node) (job : Job) (leaves : LeavesData) (wanted : List Wanted) (wholes : Wholes) (active : ActiveSplit) : Type 0 where
  pub started : IsStarted nodes job leaves wanted wholes active
  pub left : active.at.row < length started.split.mask
  pub rest : AreOpen active.needs.items active.rest active.at.done

-- What is true of a scan, whether a step was refused or not.
pub record IsSound (nodes : List Node) (job : Job) (progress : Progress) : Type 0 where
  pub known : job.plan < length nodes
  pub inside : AllByRecursion (IsInside (node_at nodes job.plan).rows) job.splits.items
  pub fits : FitsOffset nodes job.offset
  pub typed_given : AreTyped nodes job.given
  pub typed_leaves : AreTyped nodes progress.store.columns.all
  pub typed_made : AreTyped nodes progress.wholes.made
  pub apart_made : AreOfDistinctPlans progress.wholes.made
  pub apart_used : AreOfDistinctPlans progress.wholes.used
  pub uses : UsesGiven job.given [] progress.wholes.used
  pub counted : AreCounted nodes progress.store.columns.all progress.store.segments
  pub behind : (n : ℕ) → IsReadBehind nodes job n → IsKept progress.store.columns.all n → IsKept progress.store.columns.here n

-- each segment whose bytes came is held, as long as a row that is left reads a leaf over it
abbrev pub HoldsWhatIsRead : List Node → Job → Progress → Type 0
HoldsWhatIsRead nodes job progress = (s : ℕ) (bytes : List ℕ) → bytes_of progress.reads.wanted s ≡ Some bytes → IsReadByRest nodes job (standing_of progress) s → Holds progress.needed.held s

-- of each segment that is held bytes came, or the column of a leaf over it was kept
abbrev pub HeldCame : List Node → Progress → Type 0
HeldCame nodes progress = (s : ℕ) → Holds progress.needed.held s → HasCame nodes progress.reads.wanted progress.store.columns.all s

-- And what is true as long as none was: the active splits are as they should be, no bytes are gone that they need, and what is
-- held is what came and is needed.
pub record IsGoing (nodes : List Node) (job : Job) (progress : Progress) : Type 0 where
  pub ready : 0 < progress.next → progress.store.columns.ready ≡ true
  pub noted : 0 < progress.next → progress.needed.noted ≡ true
  pub actives : (active : ActiveSplit) → Among active progress.active.items → IsActive nodes job progress.store.columns progress.reads.wanted progress.wholes active
  pub serves : ServesAll nodes job progress
  pub keeps : KeepsNeeded nodes job progress
  pub needed : (s : ℕ) → Holds progress.needed.held s → IsReadByRest nodes job (standing_of progress) s
  pub holds : HoldsWhatIsRead nodes job progress
  pub came : HeldCame nodes progress

-- And what splits read is noted only once one was started, unless there is none. No leaf is forgotten before.
pub record IsRunning (nodes : List Node) (job : Job) (progress : Progress) : Type 0 where
  pub first : progress.needed.noted ≡ true → progress.next ≡ 0 → length job.splits.items ≡ 0
  pub unforgotten : progress.needed.noted ≡ false → (n : ℕ) → IsKept progress.store.columns.all n → IsKept progress.store.columns.here n
  pub going : IsGoing nodes job progress

-- What is true of one after a refusal: nothing is held, and all bytes that came are gone.
abbrev pub IsEmptied : Progress → Type 0
IsEmptied progress = (progress.needed.held.held ≡ []) × ((segment : ℕ) (bytes : List ℕ) → bytes_of progress.reads.wanted segment ≡ Some bytes → IsGone progress.reads.stored segment)

-- Rows of the active split at the place were given, of which there was one, and its needs are being passed: some may still count as
-- open of which no row is left.
pub record IsPassing (nodes : List Node) (job : Job) (place : ℕ) (progress : Progress) : Type 0 where
  pub ready : progress.store.columns.ready ≡ true
  pub noted : progress.needed.noted ≡ true
  pub others : (at : ℕ) (active : ActiveSplit) → slice_get progress.active.items at ≡ Some active → (at ≡ place → ⊥) → IsActive nodes job progress.store.columns progress.reads.wanted progress.wholes active
  pub this : (active : ActiveSplit) → slice_get progress.active.items place ≡ Some active → IsStarted nodes job progress.store.columns progress.reads.wanted progress.wholes active
  pub begun : (active : ActiveSplit) → slice_get progress.active.items place ≡ Some active → 0 < active.at.done
  pub rest_only : (active : ActiveSplit) (need : PlacedRead) → slice_get progress.active.items place ≡ Some active → Among need active.rest → Among need active.needs.items
  pub rest_all : (active : ActiveSplit) (need : PlacedRead) → slice_get progress.active.items place ≡ Some active → Among need active.needs.items → active.at.done ≤ need.last → Among need active.rest
  pub serves : ServesAll nodes job progress
  pub keeps : KeepsNeeded nodes job progress
  pub needed : (s : ℕ) → Holds progress.needed.held s → IsReadByRest nodes job (standing_of progress) s ⊎ SegmentIsRead s (still_reads progress.active.items)
  pub holds : HoldsWhatIsRead nodes job progress
  pub came : HeldCame nodes progress

-- All its needs are passed of which no row is left.
pub record ArePassedAt (place : ℕ) (progress : Progress) : Type 0 where
  pub rest : (active : ActiveSplit) → slice_get progress.active.items place ≡ Some active → AreOpen active.needs.items active.rest active.at.done

-- no split is left to be started, and one alone is active
abbrev pub IsLast : Job → Progress → Type 0
IsLast job progress = (progress.next ≡ length job.splits.items) × (length progress.active.items ≡ 1)

-- All rows are given: no split is left to be started, and no row of the one that alone is active.
pub record IsEnded (job : Job) (place : ℕ) (progress : Progress) : Type 0 where
  pub last : IsLast job progress
  pub given : (active : ActiveSplit) (split : Split) → slice_get progress.active.items place ≡ Some active → slice_get job.splits.items active.split ≡ Some split → length split.mask ≤ active.at.done

-- Rows of the active split at the place were given, from those that were on, up to the next selected one, if any is left: the
-- column is theirs. The whole values that the split asks for are there, and the leaves that these rows read are kept.
pub record IsActiveOutput (nodes : List Node) (job : Job) (old new : Progress) (place : ℕ) (column : ColumnData) : Type 0 where
  pub active : ActiveSplit
  pub active_at : slice_get old.active.items place ≡ Some active
  pub after : ActiveSplit
  pub after_at : slice_get new.active.items place ≡ Some after
  pub same : after.split ≡ active.split
  pub started : (standing_of new).started ≡ slice_set (standing_of old).started place (split_left after)
  pub split : Split
  pub split_at : slice_get job.splits.items active.split ≡ Some split
  pub within : after.at.done ≤ length split.mask
  pub some : SelectsSome (slice_range split.mask active.at.done after.at.done)
  pub rest : after.at.done < length split.mask → slice_get split.mask after.at.done ≡ Some true
  pub output : IsSplitOutput nodes job (standing_of old) new.wholes (piece_of split active.at.done after.at.done) column
  pub there : AreThere nodes job.given new.wholes job.plan split.rows.start split.mask
  pub leaves : AreLeavesKept nodes job (piece_of split active.at.done after.at.done) new.store.columns.all

-- the active split at the place is held up
abbrev pub IsHeldAt : List Node → Job → Progress → ℕ → Type 0
IsHeldAt nodes job progress place = (active : ActiveSplit) → slice_get progress.active.items place ≡ Some active → IsHeldUpAt nodes job progress.store.columns.all progress.reads.wanted (split_left active)

-- The needs of the active split at the place are passed. It has the number, and is active no more where none of its rows is
-- left. Nothing else changed but what was let go.
pub record Settles (job : Job) (place number : ℕ) (old new : Progress) : Type 0 where
  pub active : ActiveSplit
  pub at : slice_get old.active.items place ≡ Some active
  pub number_is : active.split ≡ number
  pub split : Split
  pub split_at : slice_get job.splits.items number ≡ Some split
  pub started : ((active.at.done < length split.mask) × ((standing_of new).started ≡ (standing_of old).started)) ⊎ ((length split.mask ≤ active.at.done) × ((standing_of new).started ≡ remove (standing_of old).started place))
  pub next : new.next ≡ old.next
  pub wanted : new.reads.wanted ≡ old.reads.wanted
  pub handed : new.reads.handed ≡ old.reads.handed
  pub leaves : new.store.columns.all ≡ old.store.columns.all
  pub wholes : new.wholes ≡ old.wholes
