-- The layout of the demo file: a struct of a chunked column, a dictionary of chunked codes, and a chunked column. Nodes
-- are numbered in preorder, and segments in the order of the flats.
use Rattle.std.specs.Prelude.{ℕ, ◌+◌, ◌*◌, codes, List, [], ◌∷◌, ◌++◌, length, map}
use Rattle.std.specs.List.{range_with_len}
use Rattle.vx_base.specs.declared.codings.Coding.TheVariants.{Plain}
use Rattle.vx_base.specs.Columns.{ColumnData}
use Rattle.vx_base.specs.Data.{DataType, bool_type, int_type, utf8_type, struct_type, Members, no_members, member}
use Rattle.vx_base.specs.declared.dtypes.IntKind.TheVariants.{I64}
use Rattle.vx_base.specs.declared.dtypes.Nullability.TheVariants.{NonNullable, Nullable}
use Rattle.vx_layout.specs.declared.nodes.LayoutKind.TheVariants as kinds
use Rattle.vx_layout.specs.Nodes.{Node, parent_node}
use Rattle.scan_demo.specs.declared.stored_columns.StoredColumn.{StoredColumn}
use Rattle.scan_demo.specs.declared.stored_columns.StoredColumn.TheVariants.{Ids, Codes, Flags}
use Rattle.scan_demo.specs.Flats.{chunk_count, column_type, chunk_flat, name_flat}

-- the fields of a row
abbrev pub row_members : Members
row_members =
    member (codes "id") (int_type I64 NonNullable) (member (codes "name") (utf8_type Nullable) (member (codes "flag") (bool_type NonNullable) no_members))

abbrev pub row_type : DataType
row_type = struct_type row_members NonNullable

-- a flat over the segment of that number
abbrev pub flat_node : ℕ → ColumnData → Node
flat_node segment flat = record { kind = kinds.Flat segment Plain; dtype = flat.dtype; rows = length flat.values; children = [] }

-- the chunks of a column, the first of which has the segment of that number
abbrev pub chunk_nodes : StoredColumn → ℕ → ℕ → List Node
chunk_nodes column number segment = map (λ place. flat_node (segment + place) (chunk_flat column number place)) (range_with_len 0 (chunk_count number))

-- a chunked column: the node, and its chunks, the first of which has the number of a node and of a segment
abbrev pub chunked_nodes : StoredColumn → ℕ → ℕ → ℕ → List Node
chunked_nodes column number first segment =
    parent_node kinds.Chunked (column_type column) number (range_with_len first (chunk_count number)) ∷ chunk_nodes column number segment

-- the root over its fields, each behind the ones before it
abbrev pub root_node : ℕ → ℕ → Node
root_node number chunks = parent_node kinds.Struct row_type number (1 ∷ (chunks + 2) ∷ (2 * chunks + 5) ∷ [])

-- the dictionary over its values and its codes
abbrev pub dict_node : ℕ → ℕ → Node
dict_node number chunks = parent_node kinds.Dict (utf8_type Nullable) number ((chunks + 3) ∷ (chunks + 4) ∷ [])

-- all nodes, where a column has so many chunks
abbrev pub nodes_with : ℕ → ℕ → List Node
nodes_with number chunks =
    root_node number chunks
    ∷ (chunked_nodes Ids number 2 0
    ++ dict_node number chunks ∷ flat_node chunks name_flat
    ∷ (chunked_nodes Codes number (chunks + 5) (chunks + 1)
    ++ chunked_nodes Flags number (2 * chunks + 6) (2 * chunks + 1)))

abbrev pub demo_nodes : ℕ → List Node
demo_nodes number = nodes_with number (chunk_count number)
