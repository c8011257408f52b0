-- The zones over a row of a tree.
use Rattle.std.specs.Prelude.{ℕ, ◌-◌, ◌/◌, nat_lt, if◌then◌else◌, List, [], ◌∷◌}
use Rattle.vx_layout.specs.Trees.{Tree, missing, leaf, chunks, fields, dict, lists, zoned, Forest, no_trees, tree, head_of}
use Rattle.vx_rows.specs.Heads.{Head}
use Rattle.vx_rows.specs.Zones.{Zones}

-- A zone among those of a node: how its rows are cut and what is told of each zone, how many rows it has, the tree of what is
-- told, a row for each zone, and which of them it is.
pub record ZoneOver : Type 0 where
  pub zones : Zones
  pub rows : ℕ
  pub table : Tree
  pub place : ℕ

abbrev pub zone_at : Head → Zones → Tree → ℕ → ZoneOver
zone_at head zones table place = record { zones = zones; rows = head.rows; table = table; place = place }

-- the zone of a row of the node
abbrev pub zone_over : Head → Zones → Tree → ℕ → ZoneOver
zone_over head zones table row = zone_at head zones table (row / zones.zone_len)

-- The zone of the row in data that has zones, and those over the row inside that data. A row of chunks is one of the chunk
-- that holds it. A leaf has no zones, nor has a dictionary: zones of its values are of other rows, and those of its codes tell
-- of codes.
abbrev mutual
  pub zones_over : Tree → ℕ → List ZoneOver
  zones_over (missing head) row = []
  zones_over (leaf head segment coding) row = []
  zones_over (chunks head forest) row = zones_over_in forest row
  zones_over (fields head forest validity) row = []
  zones_over (dict head values codes) row = []
  zones_over (lists head elements offsets validity) row = []
  zones_over (zoned head zones content table) row = zone_over head zones table row ∷ zones_over content row

  -- over a row of trees one after another
  pub zones_over_in : Forest → ℕ → List ZoneOver
  zones_over_in no_trees row = []
  zones_over_in (tree first rest) row =
      if nat_lt row (head_of first).rows then zones_over first row else zones_over_in rest (row - (head_of first).rows)

-- the zones over each row
abbrev pub ZonesBy : Type 0
ZonesBy = ℕ → List ZoneOver
