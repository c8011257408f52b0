-- The states that a reader begins.
use Rattle.std.specs.Prelude.{◌≡◌, ◌⊎◌, ℕ, Bool, List, []}
use Rattle.vx_expr.specs.Bound.{Bound}
use Rattle.vx_layout.specs.Trees.{subtree, Tree, chunks, zoned}
use Rattle.vx_zones.specs.Prunes.{HasProof}
use Rattle.vx_readers.specs.declared.states.Masking.{Masking}
use Rattle.vx_readers.specs.declared.states.Masking.TheVariants.{Known, Filters, Prunes}
use Rattle.vx_readers.specs.Evaluations.{needed_by, zones_needed_by, Begins, Evaluation}
use Rattle.vx_readers.specs.ReaderData.{ReaderData}
use Rattle.vx_readers.specs.ZonesOver.{zones_over}

-- An evaluation of the reader's node, over the selected rows from a row on.
abbrev pub IsOverRows : ReaderData → ℕ → List Bool → Bound → Evaluation → Type 0
IsOverRows r start mask expression e =
    e ≡ record { nodes = r.nodes; node = r.node; start = start; mask = mask; expression = expression; locations = r.locations; reads = e.reads }

-- It begins, and reads what it needs.
pub record BeginsOver (needs : Evaluation → List ℕ) (r : ReaderData) (start : ℕ) (mask : List Bool) (expression : Bound) (e : Evaluation) : Type 0 where
  pub is : IsOverRows r start mask expression e
  pub begins : Begins needs e

-- the mask is filtered by it
abbrev pub FiltersOver : ReaderData → ℕ → List Bool → Bound → Masking → Type 0
FiltersOver r start mask expression (Known kept) = ⊥
FiltersOver r start mask expression (Filters e) = BeginsOver needed_by r start mask expression e
FiltersOver r start mask expression (Prunes e) = ⊥

-- Zones tell nothing: the expression has no proof by which it prunes any, or no row of the reader's node lies in one.
abbrev pub HasNoZones : ReaderData → Bound → Type 0
HasNoZones r expression = ¬ HasProof expression ⊎ ((row : ℕ) → zones_over (subtree r.nodes r.node) row ≡ [])

-- zones may lie over rows of the tree: over a segment's and a dictionary's there are none
abbrev pub MayHaveZones : Tree → Type 0
MayHaveZones (chunks head forest) = Unit {0}
MayHaveZones (zoned head zones content table) = Unit {0}
MayHaveZones t = ⊥

-- The mask loses the rows of zones that the expression prunes, by reads of zones alone; it is there at once, as it was, where zones
-- tell nothing or none can lie over the rows.
abbrev pub PrunesOver : ReaderData → ℕ → List Bool → Bound → Masking → Type 0
PrunesOver r start mask expression (Known kept) = (kept ≡ mask) × HasNoZones r expression
PrunesOver r start mask expression (Filters e) = ⊥
PrunesOver r start mask expression (Prunes e) = HasProof expression × MayHaveZones (subtree r.nodes r.node) × BeginsOver zones_needed_by r start mask expression e
