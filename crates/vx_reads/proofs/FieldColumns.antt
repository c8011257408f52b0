-- The columns of a struct's fields, and the structs that they make.
use Rattle.std.proofs.Common.{◌≡◌, ℕ, zero, suc, ◌+◌, Bool, List, [], ◌∷◌, ◌++◌, Option, Some, None, length, map, take, refl, sym, ap, ◌∙◌, subst, arith}
use Rattle.std.specs.Prelude.{option_map}
use Rattle.std.specs.List.{slice_get, slice_index_or, range_with_len}
use Rattle.std.proofs.lemmas.List.FromFn.{length-map-range_with_len}
use Rattle.vx_base.specs.ColumnCalls.{packed_at, ArePartsOf}
use Rattle.vx_base.specs.Columns.{ColumnData}
use Rattle.vx_base.specs.Data.{DataType, Datum, null, Members, no_members, member}
use Rattle.vx_base.specs.Masks.{true_count}
use Rattle.vx_expr.specs.Packs.{struct_row}
use Rattle.vx_layout.specs.Kept.{all}
use Rattle.vx_layout.specs.Nodes.{Node}
use Rattle.vx_layout.specs.Rows.{derivation, field_derivations, struct_members}
use Rattle.vx_layout.specs.Sound.{AreFields, IsSound}
use Rattle.vx_layout.specs.Trees.{Tree, fields, Forest, no_trees, tree, always, subtree}
use Rattle.vx_picking.specs.Rows.{rows_of, AreOf}
use Rattle.vx_picking.proofs.SelectedRows.{rows_count}
use Rattle.vx_rows.specs.Derivations.{derived_each}
use Rattle.vx_rows.specs.Heads.{Head}
use Rattle.vx_rows.specs.SegmentLeaves.{Bytes, leaves_of}
use Rattle.vx_reads.specs.declared.reads.SegmentRead.{SegmentRead}
use Rattle.vx_reads.specs.Computed.{row_value, AreRowsBy}
use Rattle.vx_reads.specs.Fielded.{AreColumnsBy, IsColumnBy}
use Rattle.vx_reads.specs.Readable.{trees_of}
use Rattle.vx_reads.specs.Reads.{HaveBytes}

-- ---- one column behind others

taken_one : (ns : List ℕ) (place n : ℕ) → slice_get ns place ≡ Some n → take (place + 1) ns ≡ take place ns ++ n ∷ []
taken_one [] place n at = absurd cc
taken_one (m ∷ ns) zero n at = let same : m ≡ n = cc in ap (λ (k : ℕ). k ∷ []) same
taken_one (m ∷ ns) (suc place) n at =
    let e : suc place + 1 ≡ suc (place + 1) = omega arith in
    ap (λ (k : ℕ). take k (m ∷ ns)) e ∙ ap (λ (rest : List ℕ). m ∷ rest) (taken_one ns place n at)

columns_pushed : (reads : List SegmentRead) (nodes : List Node) (start : ℕ) (bits : List Bool) (ns : List ℕ) (n : ℕ) (columns : List ColumnData) (column : ColumnData) → AreColumnsBy reads (trees_of nodes ns) start bits columns → IsColumnBy reads (subtree nodes n) start bits column → AreColumnsBy reads (trees_of nodes (ns ++ n ∷ [])) start bits (columns ++ column ∷ [])
columns_pushed reads nodes start bits [] n [] column are is = (is, tt)
columns_pushed reads nodes start bits [] n (other ∷ columns) column are is = absurd are
columns_pushed reads nodes start bits (m ∷ ns) n [] column are is = absurd are
columns_pushed reads nodes start bits (m ∷ ns) n (other ∷ columns) column are is = (are.0, columns_pushed reads nodes start bits ns n columns column are.1 is)

pub columns_more : (reads : List SegmentRead) (nodes : List Node) (start : ℕ) (bits : List Bool) (ns : List ℕ) (place n : ℕ) (columns more : List ColumnData) (column : ColumnData) → slice_get ns place ≡ Some n → more ≡ columns ++ column ∷ [] → AreColumnsBy reads (trees_of nodes (take place ns)) start bits columns → IsColumnBy reads (subtree nodes n) start bits column → AreColumnsBy reads (trees_of nodes (take (place + 1) ns)) start bits more
columns_more reads nodes start bits ns place n columns more column at pushed are is =
    subst (AreColumnsBy reads (trees_of nodes (take (place + 1) ns)) start bits) (sym pushed)
    (subst (λ (ms : List ℕ). AreColumnsBy reads (trees_of nodes ms) start bits (columns ++ column ∷ [])) (sym (taken_one ns place n at)) (columns_pushed reads nodes start bits (take place ns) n columns column are is))

-- ---- the parts of a struct

parts_fit : (reads : List SegmentRead) (ms : Members) (rows : ℕ) (forest : Forest) (start : ℕ) (bits : List Bool) (columns : List ColumnData) → AreFields ms rows forest → AreColumnsBy reads forest start bits columns → ArePartsOf ms columns (true_count bits)
parts_fit reads no_members rows no_trees start bits [] sound are = tt
parts_fit reads no_members rows no_trees start bits (column ∷ columns) sound are = absurd are
parts_fit reads no_members rows (tree first rest) start bits columns sound are = absurd sound
parts_fit reads (member name t ms) rows no_trees start bits columns sound are = absurd sound
parts_fit reads (member name t ms) rows (tree first rest) start bits [] sound are = absurd are
parts_fit reads (member name t ms) rows (tree first rest) start bits (column ∷ columns) sound are =
    (are.0.dtype ∙ sound.1.dtype, are.0.rows, parts_fit reads ms rows rest start bits columns sound.2 are.1)

pub struct_parts_fit : (reads : List SegmentRead) (t : DataType) (head : Head) (forest : Forest) (start count : ℕ) (bits : List Bool) (columns : List ColumnData) → t ≡ head.dtype → count ≡ true_count bits → IsSound (fields head forest always) → AreColumnsBy reads forest start bits columns → ArePartsOf (struct_members t) columns count
struct_parts_fit reads t head forest start count bits columns same counted sound are =
    subst (ArePartsOf (struct_members t) columns) (sym counted)
    (subst (λ (t : DataType). ArePartsOf (struct_members t) columns (true_count bits)) (sym same) (parts_fit reads (struct_members head.dtype) head.rows forest start bits columns sound.1 are))

-- ---- rows of structs

value_there : (f : ℕ → Option Datum) (rows : List ℕ) (values : List Datum) → AreOf f rows values → (k r : ℕ) → slice_get rows k ≡ Some r → f r ≡ Some (slice_index_or values k null)
value_there f [] values are k r at = absurd cc
value_there f (row ∷ rows) [] are k r at = absurd cc
value_there f (row ∷ rows) (v ∷ values) are zero r at =
    let same : row ≡ r = cc in
    let first : f row ≡ Some v = cc in
    ap f (sym same) ∙ first
value_there f (row ∷ rows) (v ∷ values) are (suc k) r at =
    let rest : AreOf f rows values = cc in
    value_there f rows values rest k r at

by_places : (f : ℕ → Option Datum) (g : ℕ → Datum) (rows : List ℕ) (from : ℕ) → ((k r : ℕ) → slice_get rows k ≡ Some r → f r ≡ Some (g (from + k))) → map f rows ≡ map Some (map g (range_with_len from (length rows)))
by_places f g [] from same = refl
by_places f g (row ∷ rows) from same =
    let zero_more : from + 0 ≡ from = omega arith in
    let first : f row ≡ Some (g from) = same 0 row refl ∙ ap (λ (k : ℕ). Some (g k)) zero_more in
    let rest : map f rows ≡ map Some (map g (range_with_len (from + 1) (length rows))) = by_places f g rows (from + 1) (λ k r at.
    let more : from + suc k ≡ from + 1 + k = omega arith in
    same (suc k) r at ∙ ap (λ (j : ℕ). Some (g j)) more) in
    cc

-- the columns' values at a place
abbrev values_at_place : List ColumnData → ℕ → List Datum
values_at_place columns k = map (λ column. slice_index_or column.values k null) columns

-- a row of each field is worth what its column has at the place of that row
fields_there : (reads : List SegmentRead) (bytes : Bytes) → HaveBytes bytes reads → (ms : Members) (rows : ℕ) (forest : Forest) (start : ℕ) (bits : List Bool) (columns : List ColumnData) → AreFields ms rows forest → AreColumnsBy reads forest start bits columns → (k r : ℕ) → slice_get (rows_of start bits) k ≡ Some r → derived_each (leaves_of bytes) (field_derivations ms forest all r) ≡ Some (values_at_place columns k)
fields_there reads bytes have no_members rows no_trees start bits [] sound are k r at = refl
fields_there reads bytes have no_members rows no_trees start bits (column ∷ columns) sound are k r at = absurd are
fields_there reads bytes have no_members rows (tree first rest) start bits columns sound are k r at = absurd sound
fields_there reads bytes have (member name t ms) rows no_trees start bits columns sound are k r at = absurd sound
fields_there reads bytes have (member name t ms) rows (tree first rest) start bits [] sound are k r at = absurd are
fields_there reads bytes have (member name t ms) rows (tree first rest) start bits (column ∷ columns) sound are k r at =
    let here : row_value bytes (derivation first all) r ≡ Some (slice_index_or column.values k null) = value_there (row_value bytes (derivation first all)) (rows_of start bits) column.values (are.0.values bytes have) k r at in
    rw (here, fields_there reads bytes have ms rows rest start bits columns sound.2 are.1 k r at) refl

pub struct_values : (reads : List SegmentRead) (t : Tree) (head : Head) (forest : Forest) (start count : ℕ) (bits : List Bool) (columns : List ColumnData) (out : List Datum) → t ≡ fields head forest always → IsSound (fields head forest always) → AreColumnsBy reads forest start bits columns → count ≡ true_count bits → out ≡ map (packed_at None columns) (range_with_len 0 count) → AreRowsBy reads (derivation t all) start bits out
struct_values reads t head forest start count bits columns out is sound are counted made =
    subst (λ (t : Tree). AreRowsBy reads (derivation t all) start bits out) (sym is) rows
  where
    rows : AreRowsBy reads (derivation (fields head forest always) all) start bits out
    rows bytes have =
        by_places (row_value bytes (derivation (fields head forest always) all)) (packed_at None columns) (rows_of start bits) 0 (λ k r at.
        let zero_more : k ≡ 0 + k = omega arith in
        ap (option_map struct_row) (fields_there reads bytes have (struct_members head.dtype) head.rows forest start bits columns sound.1 are k r at) ∙ ap (λ (j : ℕ). Some (packed_at None columns j)) zero_more)
        ∙ ap (λ (n : ℕ). map Some (map (packed_at None columns) (range_with_len 0 n))) (rows_count start bits ∙ sym counted)
        ∙ ap (map Some) (sym made)

pub struct_count : (columns : List ColumnData) (out : List Datum) (count : ℕ) (bits : List Bool) → count ≡ true_count bits → out ≡ map (packed_at None columns) (range_with_len 0 count) → length out ≡ true_count bits
struct_count columns out count bits counted made = ap length made ∙ length-map-range_with_len (packed_at None columns) 0 count ∙ counted
