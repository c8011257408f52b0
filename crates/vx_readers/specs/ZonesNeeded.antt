-- Which segments a pruning evaluation needs: those of zones alone.
use Rattle.std.specs.Prelude.{◌≡◌, ℕ, ◌+◌, ◌-◌, Bool, true, if◌then◌else◌, List, [], ◌++◌, Some, take, drop, replicate}
use Rattle.std.specs.List.{slice_get}
use Rattle.vx_layout.specs.Kept.{all}
use Rattle.vx_layout.specs.Rows.{derivation}
use Rattle.vx_layout.specs.Trees.{Tree, missing, leaf, chunks, fields, dict, lists, zoned, Forest, no_trees, tree, head_of}
use Rattle.vx_picking.specs.Rows.{selects_some}
use Rattle.vx_rows.specs.Reads.{AnyOf, IsIn}
use Rattle.vx_reads.specs.Computed.{RangeFinds}
use Rattle.vx_reads.specs.Needed.{needed}
use Rattle.vx_readers.specs.ZonesOver.{zones_over, ZoneOver}

-- Data that has zones needs what all rows of these need, and then what zones inside the data do, where some row is selected.
-- A chunk of which no row is selected is skipped.
abbrev mutual
  pub zones_needed : Tree → ℕ → List Bool → List ℕ
  zones_needed (missing head) start bits = []
  zones_needed (leaf head segment coding) start bits = []
  zones_needed (chunks head forest) start bits = zones_needed_in forest start bits
  zones_needed (fields head forest validity) start bits = []
  zones_needed (dict head values codes) start bits = []
  zones_needed (lists head elements offsets validity) start bits = []
  zones_needed (zoned head zones content table) start bits =
      if selects_some bits then needed table 0 (replicate (head_of table).rows true) ++ zones_needed content start bits else []

  -- of trees one after another
  pub zones_needed_in : Forest → ℕ → List Bool → List ℕ
  zones_needed_in no_trees start bits = []
  zones_needed_in (tree first rest) start bits =
      (if selects_some (take ((head_of first).rows - start) bits) then zones_needed first start (take ((head_of first).rows - start) bits) else [])
      ++ zones_needed_in rest (start - (head_of first).rows) (drop ((head_of first).rows - start) bits)

-- of a tree, where some row is selected
abbrev pub zones_needed_of_range : Tree → ℕ → List Bool → List ℕ
zones_needed_of_range t start bits = if selects_some bits then zones_needed t start bits else []

-- ---- the law of what is asked for

-- a row of what is told of the zones reads the segment
abbrev pub IsToldIn : ℕ → ZoneOver → Type 0
IsToldIn segment over = RangeFinds (IsIn segment) (derivation over.table all) 0 (head_of over.table).rows

-- Each segment that a pruning evaluation needs is read by what is told of zones of which one lies over a selected row.
abbrev pub ZonesAreReached : Type 0
ZonesAreReached = (t : Tree) (start : ℕ) (bits : List Bool) (segment place : ℕ)
    → slice_get (zones_needed t start bits) place ≡ Some segment
    → (row : ℕ) × (slice_get bits row ≡ Some true) × AnyOf (IsToldIn segment) (zones_over t (start + row))
