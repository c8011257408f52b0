-- The rows of the trees of a layout, by what the nodes say and what the leaves have.
use Rattle.std.proofs.Common.{◌≡◌, ℕ, zero, suc, ◌+◌, ◌<◌, ◌≤◌, List, Some, length, map, refl, sym, ap, ◌∙◌, subst, arith}
use Rattle.std.specs.List.{flat_map, range_with_len, slice_get}
use Rattle.std.proofs.lemmas.Option.{slice_get_within}
use Rattle.vx_base.specs.declared.codings.Coding.TheVariants.{Plain}
use Rattle.vx_base.specs.Columns.{ColumnData}
use Rattle.vx_base.specs.Data.{Datum}
use Rattle.vx_layout.specs.declared.nodes.LayoutKind.TheVariants as kinds
use Rattle.vx_layout.specs.Kept.{all}
use Rattle.vx_layout.specs.Nodes.{Node, parent_node}
use Rattle.vx_layout.specs.Rows.{AreForestValues, AreTreeValues}
use Rattle.vx_layout.specs.Shape.{IsGoodTree}
use Rattle.vx_layout.specs.Sound.{IsSound}
use Rattle.vx_layout.specs.Trees.{Tree, chunks, forest_from, grown, grown_as, head_at, subtree}
use Rattle.vx_layout.proofs.Joined.{chunked_values, forest_values, leaf_values}
use Rattle.vx_layout.proofs.Ruled.{good_sound}
use Rattle.vx_layout.proofs.Unfolding.{good_later, unfolds}
use Rattle.vx_rows.specs.Derivations.{Leaves}
use Rattle.scan_demo.specs.declared.stored_columns.StoredColumn.{StoredColumn}
use Rattle.scan_demo.specs.DemoNodes.{flat_node}
use Rattle.scan_demo.specs.Flats.{chunk_count, chunk_flat, chunk_rows, column_type, stored_value}
use Rattle.scan_demo.proofs.ChunkRows.{chunks_joined}

-- the tree of a node that is there
pub tree_of : (nodes : List Node) → IsGoodTree nodes → (number : ℕ) (node : Node) → slice_get nodes number ≡ Some node
    → subtree nodes number ≡ grown_as (head_at number node) node.kind (map (subtree nodes) node.children)
tree_of nodes good number node at = unfolds nodes (good_later nodes good) number ∙ ap (grown (subtree nodes) number) at

pub sound_at : (nodes : List Node) → IsGoodTree nodes → (number : ℕ) (node : Node) → slice_get nodes number ≡ Some node
    → IsSound (grown_as (head_at number node) node.kind (map (subtree nodes) node.children))
sound_at nodes good number node at = subst IsSound (tree_of nodes good number node at) (good_sound nodes good number (slice_get_within nodes number node at))

-- a flat's rows are its values
pub flat_rows : (nodes : List Node) → IsGoodTree nodes → (leaves : Leaves) (number segment : ℕ) (flat : ColumnData)
    → slice_get nodes number ≡ Some (flat_node segment flat) → leaves flat.dtype Plain (length flat.values) segment ≡ Some flat.values
    → AreTreeValues leaves (subtree nodes number) all flat.values
flat_rows nodes good leaves number segment flat at has =
    subst (λ (t : Tree). AreTreeValues leaves t all flat.values) (sym (tree_of nodes good number (flat_node segment flat) at))
    (leaf_values leaves (head_at number (flat_node segment flat)) segment Plain all flat.values has refl)

-- ---- chunks

-- the chunks of a column are nodes from one on, over segments from one on
abbrev pub AreChunkNodes : List Node → StoredColumn → ℕ → ℕ → ℕ → Type 0
AreChunkNodes nodes column number first segment =
    (place : ℕ) → place < chunk_count number → slice_get nodes (first + place) ≡ Some (flat_node (segment + place) (chunk_flat column number place))

-- and the leaves have their values
abbrev pub HaveChunks : Leaves → StoredColumn → ℕ → ℕ → Type 0
HaveChunks leaves column number segment = (place : ℕ) → place < chunk_count number
    → leaves (column_type column) Plain (length (chunk_flat column number place).values) (segment + place) ≡ Some (chunk_flat column number place).values

abbrev chunk_values : StoredColumn → ℕ → ℕ → List Datum
chunk_values column number place = map (stored_value column number) (chunk_rows number place)

chunks_rows : (nodes : List Node) → IsGoodTree nodes → (leaves : Leaves) (column : StoredColumn) (number first segment : ℕ)
    → AreChunkNodes nodes column number first segment → HaveChunks leaves column number segment
    → (from count node : ℕ) → node ≡ first + from → from + count ≤ chunk_count number
    → AreForestValues leaves (forest_from (map (subtree nodes) (range_with_len node count))) all (flat_map (chunk_values column number) (range_with_len from count))
chunks_rows nodes good leaves column number first segment are have from zero node e inside = refl
chunks_rows nodes good leaves column number first segment are have from (suc count) node e inside =
    let here : slice_get nodes node ≡ Some (flat_node (segment + from) (chunk_flat column number from)) = ap (slice_get nodes) e ∙ are from (omega arith) in
    forest_values leaves (subtree nodes node) (forest_from (map (subtree nodes) (range_with_len (node + 1) count))) all
    (chunk_values column number from) (flat_map (chunk_values column number) (range_with_len (from + 1) count))
    (flat_rows nodes good leaves node (segment + from) (chunk_flat column number from) here (have from (omega arith)))
    (chunks_rows nodes good leaves column number first segment are have (from + 1) count (node + 1) (omega arith) (omega arith))

-- a chunked column's rows are what the column stores
pub chunked_rows : (nodes : List Node) → IsGoodTree nodes → (leaves : Leaves) (column : StoredColumn) (number at first segment : ℕ)
    → slice_get nodes at ≡ Some (parent_node kinds.Chunked (column_type column) number (range_with_len first (chunk_count number)))
    → AreChunkNodes nodes column number first segment → HaveChunks leaves column number segment
    → AreTreeValues leaves (subtree nodes at) all (map (stored_value column number) (range_with_len 0 number))
chunked_rows nodes good leaves column number at first segment here are have =
    let node : Node = parent_node kinds.Chunked (column_type column) number (range_with_len first (chunk_count number)) in
    let forest = forest_from (map (subtree nodes) (range_with_len first (chunk_count number))) in
    let sound : IsSound (chunks (head_at at node) forest) = sound_at nodes good at node here in
    subst (λ (t : Tree). AreTreeValues leaves t all (map (stored_value column number) (range_with_len 0 number))) (sym (tree_of nodes good at node here))
    (chunked_values leaves (head_at at node) forest all (map (stored_value column number) (range_with_len 0 number)) sound.1
    (subst (λ (values : List Datum). AreForestValues leaves forest all values) (chunks_joined column number)
    (chunks_rows nodes good leaves column number first segment are have 0 (chunk_count number) first (omega arith) (omega arith))))
