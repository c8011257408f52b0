-- What is read of the zones of one node, by all bytes that the reads have.
use Rattle.std.specs.Prelude.{◌≡◌, ℕ, ◌+◌, ◌<◌, Bool, List, Some, IsSome}
use Rattle.std.specs.List.{slice_get}
use Rattle.vx_expr.specs.Terms.{Term}
use Rattle.vx_layout.specs.Kept.{all}
use Rattle.vx_layout.specs.Rows.{derivation}
use Rattle.vx_layout.specs.Trees.{Tree, head_of}
use Rattle.vx_reads.specs.declared.errors.ReaderError.{ReaderError}
use Rattle.vx_reads.specs.declared.reads.SegmentRead.{SegmentRead}
use Rattle.vx_reads.specs.Computed.{Fails}
use Rattle.vx_reads.specs.Reads.{HaveBytes}
use Rattle.vx_rows.specs.SegmentLeaves.{Bytes}
use Rattle.vx_readers.specs.Unpruned.{prunes_over, told_by}
use Rattle.vx_readers.specs.ZonesOver.{ZoneOver}

-- What is told of each of so many zones is known, and these are those that the predicate prunes: the zone of each number, from
-- the first one on.
pub record ArePruned (bytes : Bytes) (e : Term) (over : ℕ → ZoneOver) (start count : ℕ) (pruned : List Bool) : Type 0 where
  pub told : (place : ℕ) → place < count → IsSome (told_by bytes (over (start + place)))
  pub is : (place : ℕ) → place < count → slice_get pruned place ≡ Some (prunes_over bytes e (over (start + place)))

abbrev pub ArePrunedBy : List SegmentRead → Term → (ℕ → ZoneOver) → ℕ → ℕ → List Bool → Type 0
ArePrunedBy reads e over start count pruned = (bytes : Bytes) → HaveBytes bytes reads → ArePruned bytes e over start count pruned

-- some row of what is told of the zones has the fault
abbrev pub TableFailsBy : List SegmentRead → Tree → ReaderError → Type 0
TableFailsBy reads table fault = Fails reads (derivation table all) 0 (head_of table).rows fault
