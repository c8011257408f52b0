-- What is let go once rows were given.
use Rattle.std.specs.Prelude.{◌≡◌, ℕ, ◌⊎◌, List, [], length, Option, Some, None}
use Rattle.std.specs.List.{slice_get}
use Rattle.vx_steps.specs.declared.jobs.ActiveSplit.{ActiveSplit}
use Rattle.vx_steps.specs.declared.jobs.Progress.{Progress}
use Rattle.vx_steps.specs.declared.leaf_reads.LeafRead.{LeafRead}
use Rattle.vx_steps.specs.HeldData.{HoldsNoMore, HoldsOneMore, KeepsRoom}
use Rattle.vx_steps.specs.LaterReads.{SplitRead}
use Rattle.vx_steps.specs.LeafColumns.{Forgets, ForgetsApart}
use Rattle.vx_steps.specs.Needed.{IsNeededBy, LeafIsAhead, SegmentIsAhead}
use Rattle.vx_steps.specs.Places.{place_in}
use Rattle.vx_steps.specs.ReadTable.{LetsAllGo, LetsGo}
use Rattle.vx_steps.specs.Standings.{standing_of}
use Rattle.vx_steps.specs.StillRead.{IsTallyOf}

-- The leaf is forgotten, where it is set apart and no row to come reads it by these reads, and else stays.
abbrev pub ForgetsUnneeded : ℕ → ℕ → Progress → Progress → Type 0
ForgetsUnneeded leaf splits old new = (new.store.columns ≡ old.store.columns) ⊎ (Forgets leaf old.store.columns new.store.columns × ((place : ℕ) × (place_in old.needed.apart.places leaf ≡ Some place)) × ((still : List LeafRead) (later : List SplitRead) → IsNeededBy old.needed still later old.next splits → LeafIsAhead still later old.next splits leaf → ⊥))

-- The segment is held no more, where no row to come reads it by these reads, and else all stays.
abbrev pub ReleasesUnneeded : ℕ → ℕ → Progress → Progress → Type 0
ReleasesUnneeded segment splits old new =
    ((new.reads ≡ old.reads) × (new.needed.held ≡ old.needed.held) × ((still : List LeafRead) (later : List SplitRead) → IsNeededBy old.needed still later old.next splits → SegmentIsAhead still later old.next splits segment))
    ⊎ (LetsGo segment old.reads new.reads × HoldsNoMore segment old.needed.held new.needed.held × KeepsRoom old.needed.held new.needed.held × ((still : List LeafRead) (later : List SplitRead) → IsNeededBy old.needed still later old.next splits → SegmentIsAhead still later old.next splits segment → ⊥))

-- No more is held, or the segment is, which a row to come reads by these reads.
abbrev pub HoldsOnlyNeeded : ℕ → ℕ → Progress → Progress → Type 0
HoldsOnlyNeeded segment splits old new =
    (new.needed.held ≡ old.needed.held)
    ⊎ (HoldsOneMore segment old.needed.held new.needed.held × KeepsRoom old.needed.held new.needed.held × ((still : List LeafRead) (later : List SplitRead) → IsNeededBy old.needed still later old.next splits → SegmentIsAhead still later old.next splits segment))

-- A leaf and a segment are let go, unless rows to come need them, and nothing else changes.
pub record LetsGoUnneeded (leaf segment splits : ℕ) (old new : Progress) : Type 0 where
  pub leaves : ForgetsUnneeded leaf splits old new
  pub segments : ReleasesUnneeded segment splits old new
  pub next : new.next ≡ old.next
  pub active : new.active ≡ old.active
  pub counted : new.store.segments ≡ old.store.segments
  pub wholes : new.wholes ≡ old.wholes
  pub needed : new.needed ≡ record old.needed { held = new.needed.held }

-- how many needs of the active split at the place count as open
abbrev pub rest_count : Option ActiveSplit → ℕ
rest_count None = 0
rest_count (Some active) = length active.rest

abbrev pub open_count : ℕ → Progress → ℕ
open_count place progress = rest_count (slice_get progress.active.items place)

-- Only bytes, columns and open needs went: which rows are left, what is wanted, and what clauses remember of leaves and whole
-- values stays.
pub record KeepsStanding (old new : Progress) : Type 0 where
  pub next : new.next ≡ old.next
  pub started : (standing_of new).started ≡ (standing_of old).started
  pub wanted : new.reads.wanted ≡ old.reads.wanted
  pub handed : new.reads.handed ≡ old.reads.handed
  pub leaves : new.store.columns.all ≡ old.store.columns.all
  pub wholes : new.wholes ≡ old.wholes

-- No split is active any more, and no read counts as open; all bytes that came are gone, and nothing is held. The leaves are
-- forgotten that are set apart, and nothing else changes.
pub record Ends (old new : Progress) : Type 0 where
  pub active : new.active.items ≡ []
  pub reads : LetsAllGo old.reads new.reads
  pub held : new.needed.held.held ≡ []
  pub room : KeepsRoom old.needed.held new.needed.held
  pub still : IsTallyOf new.needed.still []
  pub leaves : ForgetsApart old.needed.apart.places old.store.columns new.store.columns
  pub same : new ≡ record old { active = new.active; reads = new.reads; store = record old.store { columns = new.store.columns }; needed = record old.needed { still = new.needed.still; held = new.needed.held } }
