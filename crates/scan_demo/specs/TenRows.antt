-- The layout of the demo file of ten rows, as it was written out by hand. Each column has one chunk.
use Rattle.std.specs.Prelude.{ℕ, List, [], ◌∷◌}
use Rattle.vx_base.specs.declared.codings.Coding.TheVariants.{Plain}
use Rattle.vx_base.specs.Data.{DataType, bool_type, int_type, utf8_type}
use Rattle.vx_base.specs.declared.dtypes.IntKind.TheVariants.{U8, I64}
use Rattle.vx_base.specs.declared.dtypes.Nullability.TheVariants.{NonNullable, Nullable}
use Rattle.vx_layout.specs.declared.nodes.LayoutKind.TheVariants as kinds
use Rattle.vx_layout.specs.Nodes.{Node, parent_node}
use Rattle.scan_demo.specs.DemoNodes.{row_type}

-- so many values over the segment of that number
abbrev pub values_node : ℕ → DataType → ℕ → Node
values_node segment t rows = record { kind = kinds.Flat segment Plain; dtype = t; rows = rows; children = [] }

-- the root, the ids (1), the names as a dictionary (3) of sixteen values (4) and codes (5), and the flags (7)
abbrev pub nodes_of_ten : List Node
nodes_of_ten =
    parent_node kinds.Struct row_type 10 (1 ∷ 3 ∷ 7 ∷ [])
    ∷ parent_node kinds.Chunked (int_type I64 NonNullable) 10 (2 ∷ [])
    ∷ values_node 0 (int_type I64 NonNullable) 10
    ∷ parent_node kinds.Dict (utf8_type Nullable) 10 (4 ∷ 5 ∷ [])
    ∷ values_node 1 (utf8_type NonNullable) 16
    ∷ parent_node kinds.Chunked (int_type U8 Nullable) 10 (6 ∷ [])
    ∷ values_node 2 (int_type U8 Nullable) 10
    ∷ parent_node kinds.Chunked (bool_type NonNullable) 10 (8 ∷ [])
    ∷ values_node 3 (bool_type NonNullable) 10
    ∷ []
