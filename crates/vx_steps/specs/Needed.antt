-- What rows that are left need of leaves and segments, and what is held for them.
use Rattle.std.specs.Prelude.{◌≡◌, ℕ, ◌<◌, ◌≤◌, ◌⊎◌, true, false, List, [], length, map, Some, None}
use Rattle.std.specs.List.{slice_get}
use Rattle.vx_plan.specs.Nodes.{Node}
use Rattle.vx_steps.specs.declared.jobs.ActiveSplit.{ActiveSplit}
use Rattle.vx_steps.specs.declared.jobs.Job.{Job}
use Rattle.vx_steps.specs.declared.jobs.Progress.{Progress}
use Rattle.vx_steps.specs.declared.leaf_reads.LeafRead.{LeafRead}
use Rattle.vx_steps.specs.declared.needed.Needed.{Needed}
use Rattle.vx_steps.specs.declared.placed_reads.PlacedRead.{PlacedRead}
use Rattle.vx_steps.specs.declared.splits.Split.{Split}
use Rattle.vx_steps.specs.HeldData.{Holds, HasRoom}
use Rattle.vx_steps.specs.Kept.{kept_at, IsKept}
use Rattle.vx_steps.specs.LaterReads.{SplitRead, IsNotedOf, LeafReadFrom, SegmentReadFrom}
use Rattle.vx_steps.specs.Leavings.{behind_all, IsReadBehind}
use Rattle.vx_steps.specs.Needs.{Among}
use Rattle.vx_steps.specs.Pieces.{piece_of, read_of}
use Rattle.vx_steps.specs.Places.{place_in}
use Rattle.vx_steps.specs.ReadTable.{bytes_of, IsGone}
use Rattle.vx_steps.specs.Standings.{left_of, standing_of, SplitLeft, Standing}
use Rattle.vx_steps.specs.StillRead.{all_reads, IsTallyOf, LeafIsRead, SegmentIsRead}
use Rattle.vx_steps.specs.Turns.{ReadsFor}
use Rattle.vx_steps.specs.Wants.{IsAsked}

-- ---- what started splits still read

-- The needs of which rows are left: those whose last row stands at the place or behind it.
pub record AreOpen (needs rest : List PlacedRead) (done : ℕ) : Type 0 where
  pub only : (need : PlacedRead) → Among need rest → Among need needs × (done ≤ need.last)
  pub all : (need : PlacedRead) → Among need needs → done ≤ need.last → Among need rest

abbrev pub open_reads : ActiveSplit → List LeafRead
open_reads active = map read_of active.rest

-- the reads of all needs of which rows are left, of all active splits
abbrev pub still_reads : List ActiveSplit → List LeafRead
still_reads actives = all_reads (map open_reads actives)

-- ---- what splits read that were not started

-- what the splits read, by their numbers, all of it and nothing else
pub record AreReadsOfSplits (nodes : List Node) (job : Job) (reads : List SplitRead) : Type 0 where
  pub only : (one : SplitRead) → Among one reads → (split : Split) × (slice_get job.splits.items one.number ≡ Some split) × ReadsFor nodes job split one.read
  pub all : (number : ℕ) (split : Split) (read : LeafRead) → slice_get job.splits.items number ≡ Some split → ReadsFor nodes job split read → Among (record { number = number; read = read }) reads

-- ---- what is needed

-- a selected row that is left reads the leaf
abbrev pub LeafIsNeeded : List Node → Job → Standing → ℕ → Type 0
LeafIsNeeded nodes job standing leaf =
    (s : SplitLeft) × Among s (left_of job standing) × ((split : Split) × (slice_get job.splits.items s.number ≡ Some split) × ((read : LeafRead) × (read.leaf ≡ leaf) × ReadsFor nodes job (piece_of split s.given (length split.mask)) read))

-- an open need of a started split is of the leaf, or a split of that number or a later one reads it
abbrev pub LeafIsAhead : List LeafRead → List SplitRead → ℕ → ℕ → ℕ → Type 0
LeafIsAhead still later next splits leaf = LeafIsRead leaf still ⊎ ((next < splits) × LeafReadFrom leaf next later)

abbrev pub SegmentIsAhead : List LeafRead → List SplitRead → ℕ → ℕ → ℕ → Type 0
SegmentIsAhead still later next splits segment = SegmentIsRead segment still ⊎ ((next < splits) × SegmentReadFrom segment next later)

-- What is told of the reads of rows that are left is so by these reads: of started splits, and of all splits where one is
-- left to be started.
pub record IsNeededBy (needed : Needed) (still : List LeafRead) (later : List SplitRead) (next splits : ℕ) : Type 0 where
  pub tallies : IsTallyOf needed.still still
  pub noted : next < splits → IsNotedOf needed.later later

-- a started split needs a leaf over the segment, of which no column is kept
abbrev pub IsLacked : Progress → ℕ → Type 0
IsLacked progress segment = (active : ActiveSplit) × Among active progress.active.items × ((need : PlacedRead) × Among need active.needs.items × (need.segment ≡ segment) × (kept_at progress.store.columns.all need.leaf ≡ None))

-- What is noted is what rows that are left need: the open needs of started splits, and, once that was found, what all splits
-- read, where there are two or more, and the row behind them. What is held is needed by rows that are left. Before the first
-- split was started nothing is held.
pub record KeepsNeeded (nodes : List Node) (job : Job) (progress : Progress) : Type 0 where
  pub tallies : IsTallyOf progress.needed.still (still_reads progress.active.items)
  pub unnoted : progress.needed.noted ≡ false → IsNotedOf progress.needed.later []
  pub later : List SplitRead
  pub noted : progress.needed.noted ≡ true → 1 < length job.splits.items → IsNotedOf progress.needed.later later × AreReadsOfSplits nodes job later
  pub found : progress.needed.apart.found ≡ true
  pub row : progress.needed.noted ≡ true → progress.needed.row ≡ behind_all job.splits.items
  pub apart : (n place : ℕ) → place_in progress.needed.apart.places n ≡ Some place → IsReadBehind nodes job n → ⊥
  pub forgotten : (n : ℕ) → IsKept progress.store.columns.all n → kept_at progress.store.columns.here n ≡ None → LeafIsNeeded nodes job (standing_of progress) n → ⊥
  pub none_before : progress.next ≡ 0 → progress.needed.held.held ≡ []
  pub bytes : (s : ℕ) (bytes : List ℕ) → bytes_of progress.reads.wanted s ≡ Some bytes → (IsGone progress.reads.stored s → ⊥) → Holds progress.needed.held s
  pub room : (s : ℕ) → IsAsked progress.reads.wanted s → HasRoom progress.needed.held s
  pub asked : (s : ℕ) → IsAsked progress.reads.wanted s → bytes_of progress.reads.wanted s ≡ None → IsLacked progress s
