-- Which delivered bytes may be gone from memory: those that no split decodes any more.
use Rattle.std.specs.Prelude.{◌≡◌, ℕ, ◌<◌, ◌≤◌, ◌⊎◌, List, Some, None, length, map}
use Rattle.std.specs.List.{slice_get}
use Rattle.vx_plan.specs.Nodes.{Node}
use Rattle.vx_steps.specs.declared.jobs.ActiveSplit.{ActiveSplit}
use Rattle.vx_steps.specs.declared.jobs.Job.{Job}
use Rattle.vx_steps.specs.declared.jobs.Progress.{Progress}
use Rattle.vx_steps.specs.declared.leaf_reads.LeafRead.{LeafRead}
use Rattle.vx_steps.specs.declared.splits.Split.{Split}
use Rattle.vx_steps.specs.Kept.{kept_at, IsKept}
use Rattle.vx_steps.specs.KeptData.{Kept}
use Rattle.vx_steps.specs.Needs.{Among}
use Rattle.vx_steps.specs.OpenSegments.{IsLeafOver}
use Rattle.vx_steps.specs.Pieces.{read_of}
use Rattle.vx_steps.specs.ReadTable.{IsGone, IsNamed, KeepsGone}
use Rattle.vx_steps.specs.ReadTableData.{ReadsData, Stored}
use Rattle.vx_steps.specs.Turns.{ReadsFor}

-- where the bytes of a segment are gone, each needed leaf over it is kept
abbrev pub AreHeld : List Kept → List Stored → List LeafRead → Type 0
AreHeld leaves stored needs = (need : LeafRead) → Among need needs → IsGone stored need.segment → IsKept leaves need.leaf

-- the first so many needed leaves are kept
abbrev pub ArePassed : List Kept → ℕ → List LeafRead → Type 0
ArePassed leaves count needs = (place : ℕ) (need : LeafRead) → place < count → slice_get needs place ≡ Some need → IsKept leaves need.leaf

-- the segment of a needed leaf that is not kept is named by that need, or by a later one
abbrev pub AreNamed : List Kept → List LeafRead → List Stored → Type 0
AreNamed leaves needs stored = (place : ℕ) (need : LeafRead) → slice_get needs place ≡ Some need → kept_at leaves need.leaf ≡ None → IsNamed stored need.segment place

-- A split's needs are served: no bytes are gone that one of them has to be decoded from.
pub record IsServed (leaves : List Kept) (reads : ReadsData) (needs : List LeafRead) : Type 0 where
  pub held : AreHeld leaves reads.stored needs
  pub passed : ArePassed leaves reads.passed needs
  pub named : AreNamed leaves needs reads.stored

-- each leaf of the table over the segment is kept
abbrev pub IsSpent : List Node → List Kept → ℕ → Type 0
IsSpent nodes leaves segment = (n : ℕ) → IsLeafOver nodes segment n → IsKept leaves n

-- Only bytes of segments were let go each of whose leaves is kept.
pub record LetsSpentGo (nodes : List Node) (leaves : List Kept) (old new : ReadsData) : Type 0 where
  pub wanted : new.wanted ≡ old.wanted
  pub handed : new.handed ≡ old.handed
  pub passed : new.passed ≡ old.passed
  pub named : (segment n : ℕ) → IsNamed old.stored segment n → IsNamed new.stored segment n
  pub gone : (segment : ℕ) → IsGone new.stored segment → IsGone old.stored segment ⊎ IsSpent nodes leaves segment
  pub still_gone : KeepsGone old.stored new.stored

-- no selected row of the split of that number, or of one behind it, reads a leaf over the segment
abbrev pub NoneReads : List Node → Job → ℕ → ℕ → Type 0
NoneReads nodes job next segment = (number : ℕ) (split : Split) (read : LeafRead) → next ≤ number → slice_get job.splits.items number ≡ Some split → ReadsFor nodes job split read → read.segment ≡ segment → ⊥

-- While a split is left to be started nothing is passed. Bytes are gone only of segments each of whose leaves is kept, or of
-- which no split that is left to be started reads a leaf. The needs of each active split are served. Before a split was
-- started none is active, and no bytes are gone.
pub record ServesAll (nodes : List Node) (job : Job) (progress : Progress) : Type 0 where
  pub gone_late : (segment : ℕ) → IsGone progress.reads.stored segment → IsSpent nodes progress.store.columns.all segment ⊎ NoneReads nodes job progress.next segment
  pub passed_late : 0 < progress.reads.passed → progress.next ≡ length job.splits.items
  pub served : (active : ActiveSplit) → Among active progress.active.items → IsServed progress.store.columns.all progress.reads (map read_of active.needs.items)
  pub active_after : (active : ActiveSplit) → Among active progress.active.items → 0 < progress.next
  pub gone_after : (segment : ℕ) → IsGone progress.reads.stored segment → 0 < progress.next
