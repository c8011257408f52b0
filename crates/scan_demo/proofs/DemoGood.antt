-- The layout of the demo file keeps each rule of the shape.
use Rattle.std.proofs.Common.{◌≡◌, ℕ, zero, suc, ◌+◌, ◌*◌, ◌<◌, ◌≤◌, List, [], ◌∷◌, Option, Some, length, refl, sym, ap, ◌∙◌, subst, arith, rules as std_rules}
use Rattle.std.specs.Prelude.{IfSome, IsSomeAnd, sum_by}
use Rattle.std.specs.List.{All, range_with_len, slice_get}
use Rattle.std.specs.Option.{option_map_or}
use Rattle.std.proofs.lemmas.List.{length-map}
use Rattle.std.proofs.lemmas.List.Concat.{length-flat_map}
use Rattle.std.proofs.lemmas.List.Elements.{All-cons, All-nil}
use Rattle.std.proofs.lemmas.List.FromFn.{length-range_with_len}
use Rattle.std.proofs.lemmas.List.Sums.{sum_by-cons}
use Rattle.vx_base.specs.Columns.{ColumnData}
use Rattle.vx_base.specs.Data.{DataType, bool_type, int_type, utf8_type, struct_type, list_type}
use Rattle.vx_base.specs.Leaf.{IsLeaf}
use Rattle.vx_base.specs.Names.{HasDistinctNames}
use Rattle.vx_base.specs.Views.{fields_in}
use Rattle.vx_layout.specs.declared.rules.ShapeRule.{ShapeRule}
use Rattle.vx_layout.specs.declared.rules.ShapeRule.TheVariants as rules
use Rattle.vx_layout.specs.Children.{ChildAt}
use Rattle.vx_layout.specs.Depths.{dtype_depth}
use Rattle.vx_layout.specs.Nodes.{Node}
use Rattle.vx_layout.specs.Shape.{Asks, IsChildOnce, IsGoodTree, IsLater, IsShallow, Keeps, rows_of}
use Rattle.scan_demo.specs.declared.stored_columns.StoredColumn.{StoredColumn}
use Rattle.scan_demo.specs.declared.stored_columns.StoredColumn.TheVariants.{Ids, Codes, Flags}
use Rattle.scan_demo.specs.DemoNodes.{demo_nodes, dict_node, flat_node, root_node, row_members}
use Rattle.scan_demo.specs.Flats.{chunk_count, chunk_flat, chunk_rows, column_type, name_flat, stored_value}
use Rattle.scan_demo.proofs.ChunkRows.{rows_are_joined}
use Rattle.scan_demo.proofs.DemoChildren.{child_once}
use Rattle.scan_demo.proofs.DemoDepths.{low_depth}
use Rattle.scan_demo.proofs.NodePlaces.{NodeAt, at_chunk, at_column, at_dict, at_names, at_root, chunks_there, column_node, column_parent, column_there, dict_there, first_chunk, first_segment, names_there, node_at, node_count}
use Rattle.scan_demo.proofs.SegmentSizes.{rows_small}

abbrev nodes_of : ℕ → List Node
nodes_of number = demo_nodes number

abbrev chunks_of : ℕ → ℕ
chunks_of number = chunk_count number

-- ---- rules on numbers

once : (number n : ℕ) → n < 3 * chunks_of number + 6 → IsChildOnce (nodes_of number) n
once number zero lt = tt
once number (suc n) lt = child_once number n (omega arith)

shallow : (number n : ℕ) (node : Node) → dtype_depth node.dtype ≤ 64 → IsShallow (nodes_of number) n node
shallow number n node low = (omega (arith, low_depth number n), low)

leaf_shallow : (t : DataType) → IsLeaf t → dtype_depth t ≤ 64
leaf_shallow (bool_type n) leaf = omega arith
leaf_shallow (int_type kind n) leaf = omega arith
leaf_shallow (utf8_type n) leaf = omega arith
leaf_shallow (struct_type ms n) leaf = absurd leaf
leaf_shallow (list_type t n) leaf = absurd leaf

leaf_named : (t : DataType) → IsLeaf t → HasDistinctNames t
leaf_named (bool_type n) leaf = tt
leaf_named (int_type kind n) leaf = tt
leaf_named (utf8_type n) leaf = tt
leaf_named (struct_type ms n) leaf = absurd leaf
leaf_named (list_type t n) leaf = absurd leaf

-- what is asked of a node that is there is kept
keeps : (nodes : List Node) (n : ℕ) (node : Node) → slice_get nodes n ≡ Some node → ((rule : ShapeRule) → Asks rule nodes n node) → (rule : ShapeRule) → Keeps rule nodes n
keeps nodes n node at asks rule = subst (λ (found : Option Node). IsSomeAnd found (Asks rule nodes n)) (sym at) (asks rule)

-- ---- flats

flat_asks : (number n segment : ℕ) (flat : ColumnData) → n < 3 * chunks_of number + 6 → IsLeaf flat.dtype → length flat.values ≤ 8192 → (rule : ShapeRule) → Asks rule (nodes_of number) n (flat_node segment flat)
flat_asks number n segment flat lt leaf few rules.Nonempty = tt
flat_asks number n segment flat lt leaf few rules.LaterChildren = All-nil _
flat_asks number n segment flat lt leaf few rules.ChildOnce = once number n lt
flat_asks number n segment flat lt leaf few rules.Shallow = shallow number n (flat_node segment flat) (leaf_shallow flat.dtype leaf)
flat_asks number n segment flat lt leaf few rules.FewRows = omega arith
flat_asks number n segment flat lt leaf few rules.ChildCount = refl
flat_asks number n segment flat lt leaf few rules.DistinctNames = leaf_named flat.dtype leaf
flat_asks number n segment flat lt leaf few rules.FittingTypes = leaf
flat_asks number n segment flat lt leaf few rules.UnsignedCodes = tt
flat_asks number n segment flat lt leaf few rules.RowCounts = tt
flat_asks number n segment flat lt leaf few rules.FittingZones = tt
flat_asks number n segment flat lt leaf few rules.FewCodedRows = tt

column_leaf : (column : StoredColumn) → IsLeaf (column_type column)
column_leaf Ids = tt
column_leaf Codes = tt
column_leaf Flags = tt

-- ---- chunked columns

chunk_there : (column : StoredColumn) (number place : ℕ) → place < chunks_of number
    → slice_get (nodes_of number) (first_chunk column (chunks_of number) + place) ≡ Some (flat_node (first_segment column (chunks_of number) + place) (chunk_flat column number place))
chunk_there column number = chunks_there column number

each_in_range : (P : ℕ → Type 0) (from count : ℕ) → ((place : ℕ) → place < count → P (from + place)) → All P (range_with_len from count)
each_in_range P from zero each = All-nil P
each_in_range P from (suc count) each =
    All-cons P from (range_with_len (from + 1) count)
    (subst P (let e : from + 0 ≡ from = omega arith in e) (each 0 (omega arith)))
    (each_in_range P (from + 1) count (λ place lt. subst P (let e : from + suc place ≡ from + 1 + place = omega arith in e) (each (suc place) (omega arith))))

sum_rows : (column : StoredColumn) (number from count node : ℕ) → node ≡ first_chunk column (chunks_of number) + from → from + count ≤ chunks_of number
    → sum_by (rows_of (nodes_of number)) (range_with_len node count) ≡ sum_by (λ place. length (chunk_rows number place)) (range_with_len from count)
sum_rows column number from zero node e inside = refl
sum_rows column number from (suc count) node e inside =
    let here : rows_of (nodes_of number) node ≡ length (chunk_rows number from) =
    ap (λ (found : Option Node). option_map_or (λ (node : Node). node.rows) found 0) (ap (slice_get (nodes_of number)) e ∙ chunk_there column number from (omega arith))
    ∙ length-map (chunk_rows number from) (stored_value column number) in
    let more = sum_rows column number (from + 1) count (node + 1) (omega arith) (omega arith) in
    let one = sum_by-cons (rows_of (nodes_of number)) node (range_with_len (node + 1) count) in
    let other = sum_by-cons (λ (place : ℕ). length (chunk_rows number place)) from (range_with_len (from + 1) count) in
    omega (arith, here, more, one, other)

column_rows : (column : StoredColumn) (number : ℕ) → sum_by (rows_of (nodes_of number)) (range_with_len (first_chunk column (chunks_of number)) (chunks_of number)) ≡ number
column_rows column number =
    sum_rows column number 0 (chunks_of number) (first_chunk column (chunks_of number)) (omega arith) (omega arith)
    ∙ sym (length-flat_map (chunk_rows number) (range_with_len 0 (chunks_of number)))
    ∙ ap length (rows_are_joined number) ∙ length-range_with_len 0 number

-- a column's chunks come after it, and are nodes
chunks_later : (column : StoredColumn) (number place : ℕ) → place < chunks_of number
    → (column_node column (chunks_of number) < first_chunk column (chunks_of number) + place) × (first_chunk column (chunks_of number) + place < length (nodes_of number))
chunks_later Ids number place lt = (omega arith, omega (arith, node_count number))
chunks_later Codes number place lt = (omega arith, omega (arith, node_count number))
chunks_later Flags number place lt = (omega arith, omega (arith, node_count number))

column_inside : (column : StoredColumn) (number : ℕ) → column_node column (chunks_of number) < 3 * chunks_of number + 6
column_inside Ids number = omega arith
column_inside Codes number = omega arith
column_inside Flags number = omega arith

chunk_inside : (column : StoredColumn) (number place : ℕ) → place < chunks_of number → first_chunk column (chunks_of number) + place < 3 * chunks_of number + 6
chunk_inside Ids number place lt = omega arith
chunk_inside Codes number place lt = omega arith
chunk_inside Flags number place lt = omega arith

column_asks : (column : StoredColumn) (number : ℕ) → number ≤ 1000000 → (rule : ShapeRule) → Asks rule (nodes_of number) (column_node column (chunks_of number)) (column_parent column number)
column_asks column number few rules.Nonempty = tt
column_asks column number few rules.LaterChildren =
    each_in_range (λ child. (column_node column (chunks_of number) < child) × (child < length (nodes_of number))) (first_chunk column (chunks_of number)) (chunks_of number) (chunks_later column number)
column_asks column number few rules.ChildOnce = once number (column_node column (chunks_of number)) (column_inside column number)
column_asks column number few rules.Shallow = shallow number (column_node column (chunks_of number)) (column_parent column number) (leaf_shallow (column_type column) (column_leaf column))
column_asks column number few rules.FewRows = omega arith
column_asks column number few rules.ChildCount = tt
column_asks column number few rules.DistinctNames = leaf_named (column_type column) (column_leaf column)
column_asks column number few rules.FittingTypes =
    each_in_range (λ child. IsSomeAnd (slice_get (nodes_of number) child) (λ node. node.dtype ≡ column_type column)) (first_chunk column (chunks_of number)) (chunks_of number)
    (λ place lt. subst (λ (found : Option Node). IsSomeAnd found (λ node. node.dtype ≡ column_type column)) (sym (chunk_there column number place lt)) refl)
column_asks column number few rules.UnsignedCodes = tt
column_asks column number few rules.RowCounts = column_rows column number
column_asks column number few rules.FittingZones = tt
column_asks column number few rules.FewCodedRows = tt

-- ---- the dictionary

later : (number n child : ℕ) → n < child → child < 3 * chunks_of number + 6 → IsLater (nodes_of number) n child
later number n child above below = (above, omega (arith, node_count number))

dict_asks : (number : ℕ) → number ≤ 1000000 → (rule : ShapeRule) → Asks rule (nodes_of number) (chunks_of number + 2) (dict_node number (chunks_of number))
dict_asks number few rules.Nonempty = tt
dict_asks number few rules.LaterChildren =
    let n : ℕ = chunks_of number + 2 in
    All-cons (IsLater (nodes_of number) n) (chunks_of number + 3) ((chunks_of number + 4) ∷ []) (later number n (chunks_of number + 3) (omega arith) (omega arith))
    (All-cons (IsLater (nodes_of number) n) (chunks_of number + 4) [] (later number n (chunks_of number + 4) (omega arith) (omega arith)) (All-nil (IsLater (nodes_of number) n)))
dict_asks number few rules.ChildOnce = once number (chunks_of number + 2) (omega arith)
dict_asks number few rules.Shallow = shallow number (chunks_of number + 2) (dict_node number (chunks_of number)) (omega arith)
dict_asks number few rules.FewRows = omega arith
dict_asks number few rules.ChildCount = refl
dict_asks number few rules.DistinctNames = tt
dict_asks number few rules.FittingTypes = rw (names_there number, column_there Codes number) refl
dict_asks number few rules.UnsignedCodes = rw (column_there Codes number) tt
dict_asks number few rules.RowCounts = rw (column_there Codes number) refl
dict_asks number few rules.FittingZones = tt
dict_asks number few rules.FewCodedRows = tt

-- ---- the root

root_fields : (number place : ℕ) → IfSome (slice_get (fields_in row_members) place) (λ field. ChildAt (nodes_of number) (root_node number (chunks_of number)) (0 + place) (λ child. child.dtype ≡ field.dtype))
root_fields number zero = refl
root_fields number (suc zero) = rw (dict_there number) refl
root_fields number (suc (suc zero)) = rw (column_there Flags number) refl
root_fields number (suc (suc (suc place))) = tt

-- the child has all rows
abbrev HasRows : ℕ → ℕ → Type 0
HasRows number child = IsSomeAnd (slice_get (nodes_of number) child) (λ node. node.rows ≡ number)

root_asks : (number : ℕ) → number ≤ 1000000 → (rule : ShapeRule) → Asks rule (nodes_of number) 0 (root_node number (chunks_of number))
root_asks number few rules.Nonempty = tt
root_asks number few rules.LaterChildren =
    All-cons (IsLater (nodes_of number) 0) 1 ((chunks_of number + 2) ∷ (2 * chunks_of number + 5) ∷ []) (later number 0 1 (omega arith) (omega arith))
    (All-cons (IsLater (nodes_of number) 0) (chunks_of number + 2) ((2 * chunks_of number + 5) ∷ []) (later number 0 (chunks_of number + 2) (omega arith) (omega arith))
    (All-cons (IsLater (nodes_of number) 0) (2 * chunks_of number + 5) [] (later number 0 (2 * chunks_of number + 5) (omega arith) (omega arith)) (All-nil (IsLater (nodes_of number) 0))))
root_asks number few rules.ChildOnce = tt
root_asks number few rules.Shallow = shallow number 0 (root_node number (chunks_of number)) (omega arith)
root_asks number few rules.FewRows = omega arith
root_asks number few rules.ChildCount = refl
root_asks number few rules.DistinctNames = search std_rules
root_asks number few rules.FittingTypes = (tt, root_fields number)
root_asks number few rules.UnsignedCodes = tt
root_asks number few rules.RowCounts =
    All-cons (HasRows number) 1 ((chunks_of number + 2) ∷ (2 * chunks_of number + 5) ∷ []) refl
    (All-cons (HasRows number) (chunks_of number + 2) ((2 * chunks_of number + 5) ∷ []) (rw (dict_there number) refl)
    (All-cons (HasRows number) (2 * chunks_of number + 5) [] (rw (column_there Flags number) refl) (All-nil (HasRows number))))
root_asks number few rules.FittingZones = tt
root_asks number few rules.FewCodedRows = tt

-- ---- all nodes

kept_at : (number n : ℕ) → number ≤ 1000000 → NodeAt (chunks_of number) n → (rule : ShapeRule) → Keeps rule (nodes_of number) n
kept_at number n few (at_root e) rule =
    subst (Keeps rule (nodes_of number)) (sym e) (keeps (nodes_of number) 0 (root_node number (chunks_of number)) refl (root_asks number few) rule)
kept_at number n few (at_column column e) rule =
    subst (Keeps rule (nodes_of number)) (sym e)
    (keeps (nodes_of number) (column_node column (chunks_of number)) (column_parent column number) (column_there column number) (column_asks column number few) rule)
kept_at number n few (at_chunk column place lt e) rule =
    let at : ℕ = first_chunk column (chunks_of number) + place in
    let segment : ℕ = first_segment column (chunks_of number) + place in
    let flat : ColumnData = chunk_flat column number place in
    subst (Keeps rule (nodes_of number)) (sym e)
    (keeps (nodes_of number) at (flat_node segment flat) (chunk_there column number place lt)
    (flat_asks number at segment flat (chunk_inside column number place lt) (column_leaf column) (rows_small column number place)) rule)
kept_at number n few (at_dict e) rule =
    subst (Keeps rule (nodes_of number)) (sym e) (keeps (nodes_of number) (chunks_of number + 2) (dict_node number (chunks_of number)) (dict_there number) (dict_asks number few) rule)
kept_at number n few (at_names e) rule =
    subst (Keeps rule (nodes_of number)) (sym e)
    (keeps (nodes_of number) (chunks_of number + 3) (flat_node (chunks_of number) name_flat) (names_there number)
    (flat_asks number (chunks_of number + 3) (chunks_of number) name_flat (omega arith) tt (omega arith)) rule)

pub demo_good : (number : ℕ) → number ≤ 1000000 → IsGoodTree (demo_nodes number)
demo_good number few = record {
  nonempty = omega (arith, node_count number);
  kept = λ rule n lt. kept_at number n few (node_at (chunks_of number) n (omega (arith, node_count number))) rule;
}
