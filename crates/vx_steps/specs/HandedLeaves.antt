-- What is found at the first step, of leaves that were handed in and of splits that are to be started.
use Rattle.std.specs.Prelude.{◌≡◌, ℕ, ◌<◌, ◌⊎◌, true, List, [], length, map, Some, None}
use Rattle.vx_plan.specs.Nodes.{Node}
use Rattle.vx_plan.specs.Rules.{node_at}
use Rattle.vx_steps.specs.declared.jobs.Job.{Job}
use Rattle.vx_steps.specs.declared.jobs.Progress.{Progress}
use Rattle.vx_steps.specs.declared.later_reads.LaterReads.{LaterReads}
use Rattle.vx_steps.specs.declared.needed.Needed.{Needed}
use Rattle.vx_steps.specs.declared.placed_reads.PlacedRead.{PlacedRead}
use Rattle.vx_steps.specs.KeptData.{Kept}
use Rattle.vx_steps.specs.Kept.{IsKept}
use Rattle.vx_steps.specs.LaterReads.{SplitRead, IsNotedOf}
use Rattle.vx_steps.specs.Leavings.{behind_all, RowReads}
use Rattle.vx_steps.specs.LettingGo.{ForgetsUnneeded, HoldsOnlyNeeded}
use Rattle.vx_steps.specs.Needed.{AreReadsOfSplits}
use Rattle.vx_steps.specs.Needs.{Among}
use Rattle.vx_steps.specs.Pieces.{read_of}
use Rattle.vx_steps.specs.Places.{place_in}
use Rattle.vx_steps.specs.Running.{IsGoing}

-- the reads of the needs, by the number of their split
abbrev pub split_reads : ℕ → List PlacedRead → List SplitRead
split_reads number needs = map (λ need. record { number = number; read = read_of need }) needs

-- what was noted is, and the needs of the split besides
abbrev pub NotesSplit : List PlacedRead → ℕ → LaterReads → LaterReads → Type 0
NotesSplit needs number old new = (reads : List SplitRead) → IsNotedOf old reads → (more : List SplitRead) × IsNotedOf new more × ((one : SplitRead) → Among one more → Among one reads ⊎ Among one (split_reads number needs)) × ((one : SplitRead) → Among one reads ⊎ Among one (split_reads number needs) → Among one more)

-- The row behind the splits is found, and what all splits read is noted, where there are two or more.
pub record NotesAll (nodes : List Node) (job : Job) (old new : Needed) : Type 0 where
  pub row : new.row ≡ behind_all job.splits.items
  pub is_noted : new.noted ≡ true
  pub same : new ≡ record old { later = new.later; row = new.row; noted = new.noted }
  pub noted : IsNotedOf old.later [] → 1 < length job.splits.items → (reads : List SplitRead) × IsNotedOf new.later reads × AreReadsOfSplits nodes job reads

-- there is such a row, and it reads the leaf
abbrev pub ReadsBehind : List Node → ℕ → ℕ → ℕ → Type 0
ReadsBehind nodes plan row leaf = (row < (node_at nodes plan).rows) × RowReads nodes plan row leaf

-- These leaves are set apart besides those that were, and none that the row reads.
pub record SetsApart (nodes : List Node) (plan : ℕ) (P : ℕ → Type 0) (old new : Needed) : Type 0 where
  pub same : new ≡ record old { apart = new.apart }
  pub found : old.apart.found ≡ true → new.apart.found ≡ true
  pub only : old.apart.found ≡ true → (leaf place : ℕ) → place_in new.apart.places leaf ≡ Some place → ReadsBehind nodes plan old.row leaf → ⊥
  pub all : old.apart.found ≡ true → (leaf : ℕ) → place_in new.apart.places leaf ≡ None → P leaf → ReadsBehind nodes plan old.row leaf

abbrev pub AreSetApart : List Node → ℕ → List PlacedRead → Needed → Needed → Type 0
AreSetApart nodes plan needs old new = SetsApart nodes plan (λ leaf. (need : PlacedRead) × Among need needs × (need.leaf ≡ leaf)) old new

abbrev pub HandedAreApart : List Node → ℕ → List Kept → Needed → Needed → Type 0
HandedAreApart nodes plan handed old new = SetsApart nodes plan (IsKept handed) old new

-- A leaf that was handed in is forgotten, if it is set apart and no row reads it, and its segment is held, if rows read it.
pub record HoldsLeaf (leaf segment splits : ℕ) (old new : Progress) : Type 0 where
  pub leaves : ForgetsUnneeded leaf splits old new
  pub held : HoldsOnlyNeeded segment splits old new
  pub next : new.next ≡ old.next
  pub active : new.active ≡ old.active
  pub reads : new.reads ≡ old.reads
  pub counted : new.store.segments ≡ old.store.segments
  pub wholes : new.wholes ≡ old.wholes
  pub needed : new.needed ≡ record old.needed { held = new.needed.held }

-- All is as it should be, and there is room to forget leaves: those that were handed in are looked through next.
pub record IsHolding (nodes : List Node) (job : Job) (progress : Progress) : Type 0 where
  pub ready : progress.store.columns.ready ≡ true
  pub first : progress.next ≡ 0 → length job.splits.items ≡ 0
  pub noted : progress.needed.noted ≡ true
  pub going : IsGoing nodes job progress
