-- Scans that were written by hand, on which the definitions of answers and of causes are checked.
use Rattle.std.specs.Prelude.{ℕ, List, [], ◌∷◌}
use Rattle.vx_base.specs.declared.locations.SegmentLocation.{SegmentLocation}
use Rattle.vx_expr.specs.Terms.{root}
use Rattle.vx_layout.specs.declared.nodes.LayoutKind.TheVariants as kinds
use Rattle.vx_layout.specs.Nodes.{Node, parent_node}
use Rattle.vx_layout.specs.Trees.{head_of, subtree}
use Rattle.vx_layout.specs.WorkedRows.{at, flat_node, i32}
use Rattle.vx_rows.specs.ByHand.{i64}
use Rattle.vx_lower.specs.Projected.{Projection}

-- the whole of each row of a layout
abbrev pub whole_of : List Node → Projection
whole_of nodes = record {
  root = subtree nodes 0;
  expression = record { term = root; root = (head_of (subtree nodes 0)).dtype; dtype = (head_of (subtree nodes 0)).dtype };
  offset = 0;
}

-- ---- one leaf of three rows
abbrev pub three_numbers : List Node
three_numbers = flat_node i64 3 0 ∷ []

-- 1, 2 and 300
abbrev pub three_numbers_file : List ℕ
three_numbers_file = 1 ∷ 0 ∷ 0 ∷ 0 ∷ 0 ∷ 0 ∷ 0 ∷ 0 ∷ 2 ∷ 0 ∷ 0 ∷ 0 ∷ 0 ∷ 0 ∷ 0 ∷ 0 ∷ 44 ∷ 1 ∷ 0 ∷ 0 ∷ 0 ∷ 0 ∷ 0 ∷ 0 ∷ []

-- ---- three chunks of three rows
abbrev pub nine_numbers : List Node
nine_numbers = parent_node kinds.Chunked i32 9 (1 ∷ 2 ∷ 3 ∷ []) ∷ flat_node i32 3 0 ∷ flat_node i32 3 1 ∷ flat_node i32 3 2 ∷ []

abbrev pub nine_numbers_at : List SegmentLocation
nine_numbers_at = at 0 12 ∷ at 12 12 ∷ at 24 12 ∷ []

-- 1 to 9
abbrev pub nine_numbers_file : List ℕ
nine_numbers_file =
    1 ∷ 0 ∷ 0 ∷ 0 ∷ 2 ∷ 0 ∷ 0 ∷ 0 ∷ 3 ∷ 0 ∷ 0 ∷ 0 ∷ 4 ∷ 0 ∷ 0 ∷ 0 ∷ 5 ∷ 0 ∷ 0 ∷ 0 ∷ 6 ∷ 0 ∷ 0 ∷ 0 ∷ 7 ∷ 0 ∷ 0 ∷ 0 ∷ 8 ∷ 0 ∷ 0 ∷ 0 ∷ 9 ∷ 0 ∷ 0 ∷ 0 ∷ []
