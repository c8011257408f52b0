-- Rows that are made of values: leaves, and structs field by field.
use Rattle.std.proofs.Common.{◌≡◌, ℕ, zero, suc, ℤ, pos, ◌+◌, ◌<◌, ◌≤◌, Bool, false, List, [], ◌∷◌, ◌++◌, length, map, get_or, drop, replicate, refl, sym, ap, subst, ◌∙◌, arith}
use Rattle.std.specs.List.{AllByRecursion}
use Rattle.std.proofs.lemmas.List.{length-map, drop_more, drop_all, append-nil}
use Rattle.vx_types.specs.declared.dtypes.Field.{Field}
use Rattle.vx_types.specs.declared.dtypes.IntKind.{IntKind}
use Rattle.vx_types.specs.declared.dtypes.Nullability.TheVariants.{NonNullable, Nullable}
use Rattle.vx_types.specs.declared.values.Value.{Value}
use Rattle.vx_types.specs.Columns.{ColumnData}
use Rattle.vx_types.specs.ColumnCalls.{made_nullable}
use Rattle.vx_types.specs.Data.{DataType, bool_type, int_type, utf8_type, struct_type, list_type, Members, no_members, member, Datum, null, truth, number, text, structure, Items, no_items, item}
use Rattle.vx_types.specs.Fits.{Fits, EachFits, IsInside}
use Rattle.vx_types.specs.Slots.{where_valid, is_value, truth_in, number_in, text_in}
use Rattle.vx_types.specs.ValueViews.{datum, items_of}
use Rattle.vx_types.specs.Views.{data_type, members_of}
use Rattle.vx_types.specs.declared.dtypes.Nullability.{Nullability}
use Rattle.vx_types.proofs.BuiltRows.{fits_nullable, null_fits}
use Rattle.vx_types.proofs.Slots.{truths_again, again_where_valid, texts_where_valid, all_inside}
use Rattle.vx_masks.specs.Rows.{NullsHold}
use Rattle.vx_arrays.proofs.NullSlots.{nulls_are_zero, nulls_are_empty, nulls_are_false}
use Rattle.vx_arrays.specs.Fields.{items_behind, first_item, field_at, columns_for}
use Rattle.vx_arrays.specs.ArrayRows.{members_in, beside, rows_of, StructRows, struct_rows, HaveRows}
use Rattle.vx_arrays.specs.Buffers.{bare, bare_members}

-- ---- one row more

pub all_seen_at : {Y : Type 0} (P : Y → Type 0) (f : Datum → Y) (values : List Value) (i : ℕ) (x : Value) → i < length values → x ≡ get_or values i x → AllByRecursion P (map f (map datum values)) → P (f (datum x))
all_seen_at P f [] i x lt e h = absurd (omega arith)
all_seen_at P f (v ∷ values) zero x lt e h = subst (λ (w : Value). P (f (datum w))) (sym e) h.0
all_seen_at P f (v ∷ values) (suc i) x lt e h = all_seen_at P f values i x (omega arith) e h.1

-- ---- leaves
pub none_but_nulls : (t : DataType) (values : List Datum) → AllByRecursion (Fits (list_type t Nullable)) values → values ≡ replicate (length values) null
none_but_nulls t [] h = refl
none_but_nulls t (null ∷ vs) h = ap (λ (ws : List Datum). null ∷ ws) (none_but_nulls t vs h.1)
none_but_nulls t (_ ∷ vs) h = absurd h.0

-- ---- structs, field by field
-- the items of all members, the first of which is at the given place
abbrev pub items_for : ℕ → Members → Datum → Items
items_for place no_members v = no_items
items_for place (member name t ms) v = item (field_at place v) (items_for (suc place) ms v)

one_behind : (place : ℕ) (vs : Items) (v : Datum) (ws : Items) → items_behind place vs ≡ item v ws → items_behind (suc place) vs ≡ ws
one_behind zero vs v ws e = ap (items_behind 1) e
one_behind (suc place) no_items v ws e = absurd cc
one_behind (suc place) (item u us) v ws e = one_behind place us v ws e

items_again : (place : ℕ) (ms : Members) (all rest : Items) → items_behind place all ≡ rest → EachFits ms rest → items_for place ms (structure all) ≡ rest
items_again place no_members all no_items e h = refl
items_again place (member name t ms) all (item v vs) e h = λ i. item (first_item (e i)) (items_again (suc place) ms all vs (one_behind place all v vs e) h.1 i)
items_again place no_members all (item v vs) e h = absurd h
items_again place (member name t ms) all no_items e h = absurd h

pub structs_again : (ms : Members) (values : List Datum) → AllByRecursion (Fits (struct_type ms Nullable)) values → where_valid (map is_value values) (map structure (map (items_for 0 ms) values)) ≡ values
structs_again ms [] h = refl
structs_again ms (null ∷ vs) h = ap (λ (ws : List Datum). null ∷ ws) (structs_again ms vs h.1)
structs_again ms (structure all ∷ vs) h = λ i. structure (items_again 0 ms all all refl h.0 i) ∷ structs_again ms vs h.1 i
structs_again ms (_ ∷ vs) h = absurd h.0

beside_mapped : (f : Datum → Datum) (g : Datum → Items) (values : List Datum) → beside (map f values) (map g values) ≡ map (λ v. item (f v) (g v)) values
beside_mapped f g [] = refl
beside_mapped f g (v ∷ values) = ap (λ (rows : List Items). item (f v) (g v) ∷ rows) (beside_mapped f g values)

none_mapped : (values : List Datum) → replicate (length values) no_items ≡ map (λ v. no_items) values
none_mapped [] = refl
none_mapped (v ∷ values) = ap (λ (rows : List Items). no_items ∷ rows) (none_mapped values)

pub rows_for : (place : ℕ) (ms : Members) (values : List Datum) → rows_of (length values) (columns_for place ms values) ≡ map (items_for place ms) values
rows_for place no_members values = none_mapped values
rows_for place (member name t ms) values = ap (beside (map (field_at place) values)) (rows_for (suc place) ms values) ∙ beside_mapped (field_at place) (items_for (suc place) ms) values

pub members_for : (place : ℕ) (ms : Members) (values : List Datum) → members_in (columns_for place ms values) ≡ bare_members ms
members_for place no_members values = refl
members_for place (member name t ms) values = ap (member [] (bare t)) (members_for (suc place) ms values)

pub have_for : (place : ℕ) (ms : Members) (values : List Datum) (n : ℕ) → n ≡ length values → HaveRows n (columns_for place ms values)
have_for place no_members values n e = tt
have_for place (member name t ms) values n e = (length-map values (field_at place) ∙ sym e, have_for (suc place) ms values n e)

-- ---- the item at a place
pub field_here : (values : List Value) (place : ℕ) (x : Value) → place < length values → x ≡ get_or values place x → field_at place (structure (items_of values)) ≡ datum x
field_here [] place x lt e = absurd (omega arith)
field_here (v ∷ values) zero x lt e = ap datum (sym e)
field_here (v ∷ values) (suc place) x lt e = field_here values place x (omega arith) e

pub field_past : (values : List Value) (place : ℕ) → length values ≤ place → field_at place (structure (items_of values)) ≡ null
field_past [] zero h = refl
field_past [] (suc place) h = refl
field_past (v ∷ values) zero h = absurd (omega arith)
field_past (v ∷ values) (suc place) h = field_past values place (omega arith)

-- ---- what fits a field
fields_left : (place : ℕ) (fields : List Field) (vs : Items) → EachFits (members_of fields) vs → EachFits (members_of (drop place fields)) (items_behind place vs)
fields_left zero fields vs h = h
fields_left (suc place) [] no_items h = tt
fields_left (suc place) (f ∷ fields) (item v vs) h = fields_left place fields vs h.1
fields_left (suc place) [] (item v vs) h = absurd h
fields_left (suc place) (f ∷ fields) no_items h = absurd h

first_fits : (t : DataType) (name : List ℕ) (ms : Members) (vs : Items) → EachFits (member name t ms) vs → Fits (made_nullable t) (first_item vs)
first_fits t name ms (item v vs) h = fits_nullable t v h.0
first_fits t name ms no_items h = absurd h

field_fits : (fields : List Field) (place : ℕ) (field : Field) (v : Datum) → place < length fields → field ≡ get_or fields place field → Fits (struct_type (members_of fields) Nullable) v → Fits (made_nullable (data_type field.dtype)) (field_at place v)
field_fits fields place field null lt e h = null_fits (data_type field.dtype)
field_fits fields place field (structure vs) lt e h =
    let left : EachFits (members_of (field ∷ drop (place + 1) fields)) (items_behind place vs) = subst (λ (fs : List Field). EachFits (members_of fs) (items_behind place vs)) (drop_more fields place field lt ∙ ap (λ (f : Field). f ∷ drop (place + 1) fields) (sym e)) (fields_left place fields vs h) in
    first_fits (data_type field.dtype) field.name (members_of (drop (place + 1) fields)) (items_behind place vs) left
field_fits fields place field (truth b) lt e h = absurd h
field_fits fields place field (number z) lt e h = absurd h
field_fits fields place field (text t) lt e h = absurd h

all_field_fits : (fields : List Field) (place : ℕ) (field : Field) (vs : List Datum) → place < length fields → field ≡ get_or fields place field → AllByRecursion (Fits (struct_type (members_of fields) Nullable)) vs → AllByRecursion (Fits (made_nullable (data_type field.dtype))) (map (field_at place) vs)
all_field_fits fields place field [] lt e h = tt
all_field_fits fields place field (v ∷ vs) lt e h = (field_fits fields place field v lt e h.0, all_field_fits fields place field vs lt e h.1)

pub column_fits : (ms : Members) (fields : List Field) (place : ℕ) (field : Field) (values column : List Value) → members_of fields ≡ ms → place < length fields → field ≡ get_or fields place field → map datum column ≡ map (field_at place) (map datum values)
    → AllByRecursion (Fits (struct_type ms Nullable)) (map datum values) → AllByRecursion (Fits (made_nullable (data_type field.dtype))) (map datum column)
column_fits ms fields place field values column view lt e is h =
    let fit : AllByRecursion (Fits (struct_type (members_of fields) Nullable)) (map datum values) = subst (λ (ns : Members). AllByRecursion (Fits (struct_type ns Nullable)) (map datum values)) (sym view) h in
    subst (λ (vs : List Datum). AllByRecursion (Fits (made_nullable (data_type field.dtype))) vs) (sym is) (all_field_fits fields place field (map datum values) lt e fit)

-- ---- the columns so far

pub columns_all : (ms : Members) (fields : List Field) (place : ℕ) (values : List Datum) (made : List ColumnData) → members_of fields ≡ ms → length fields ≤ place → made ++ columns_for place (members_of (drop place fields)) values ≡ columns_for 0 (members_of fields) values → made ≡ columns_for 0 ms values
columns_all ms fields place values made view past h =
    sym (append-nil made) ∙ ap (λ (fs : List Field). made ++ columns_for place (members_of fs) values) (sym (drop_all place fields past)) ∙ h ∙ ap (λ (ns : Members). columns_for 0 ns values) view

-- ---- what the rows are made of

fit_as : (s t : DataType) (vs : List Datum) → s ≡ t → AllByRecursion (Fits (made_nullable s)) vs → AllByRecursion (Fits (made_nullable t)) vs
fit_as s t vs e h = subst (λ (r : DataType). AllByRecursion (Fits (made_nullable r)) vs) e h

pub truths_null : (s : DataType) (n : Nullability) (vs : List Datum) (mask bits : List Bool) → s ≡ bool_type n → AllByRecursion (Fits (made_nullable s)) vs → mask ≡ map is_value vs → bits ≡ map truth_in vs → NullsHold false mask bits
truths_null s n vs mask bits e h m b = subst (λ (k : List Bool). NullsHold false k bits) (sym m) (subst (λ (k : List Bool). NullsHold false (map is_value vs) k) (sym b) (nulls_are_false Nullable vs (fit_as s (bool_type n) vs e h)))

pub truths_rows : (s : DataType) (n : Nullability) (vs : List Datum) (mask bits : List Bool) → s ≡ bool_type n → AllByRecursion (Fits (made_nullable s)) vs → mask ≡ map is_value vs → bits ≡ map truth_in vs → where_valid mask (map truth bits) ≡ vs
truths_rows s n vs mask bits e h m b = (λ i. where_valid (m i) (map truth (b i))) ∙ truths_again Nullable vs (fit_as s (bool_type n) vs e h)

pub numbers_inside : (s : DataType) (kind : IntKind) (n : Nullability) (vs : List Datum) → s ≡ int_type kind n → AllByRecursion (Fits (made_nullable s)) vs → AllByRecursion (IsInside kind) (map number_in vs)
numbers_inside s kind n vs e h = all_inside kind Nullable vs (fit_as s (int_type kind n) vs e h)

pub numbers_null : (s : DataType) (kind : IntKind) (n : Nullability) (vs : List Datum) (mask : List Bool) (zs : List ℤ) → s ≡ int_type kind n → AllByRecursion (Fits (made_nullable s)) vs → mask ≡ map is_value vs → zs ≡ map number_in vs → NullsHold (pos 0) mask zs
numbers_null s kind n vs mask zs e h m b = subst (λ (k : List Bool). NullsHold (pos 0) k zs) (sym m) (subst (λ (k : List ℤ). NullsHold (pos 0) (map is_value vs) k) (sym b) (nulls_are_zero kind Nullable vs (fit_as s (int_type kind n) vs e h)))

pub numbers_rows : (s : DataType) (kind : IntKind) (n : Nullability) (vs : List Datum) (mask : List Bool) (zs : List ℤ) → s ≡ int_type kind n → AllByRecursion (Fits (made_nullable s)) vs → mask ≡ map is_value vs → zs ≡ map number_in vs → where_valid mask (map number zs) ≡ vs
numbers_rows s kind n vs mask zs e h m b = (λ i. where_valid (m i) (map number (b i))) ∙ again_where_valid kind Nullable vs (fit_as s (int_type kind n) vs e h)

pub texts_null : (s : DataType) (n : Nullability) (vs : List Datum) (mask : List Bool) (ts : List (List ℕ)) → s ≡ utf8_type n → AllByRecursion (Fits (made_nullable s)) vs → mask ≡ map is_value vs → ts ≡ map text_in vs → NullsHold [] mask ts
texts_null s n vs mask ts e h m b = subst (λ (k : List Bool). NullsHold [] k ts) (sym m) (subst (λ (k : List (List ℕ)). NullsHold [] (map is_value vs) k) (sym b) (nulls_are_empty Nullable vs (fit_as s (utf8_type n) vs e h)))

pub texts_rows : (s : DataType) (n : Nullability) (vs : List Datum) (mask : List Bool) (ts : List (List ℕ)) → s ≡ utf8_type n → AllByRecursion (Fits (made_nullable s)) vs → mask ≡ map is_value vs → ts ≡ map text_in vs → where_valid mask (map text ts) ≡ vs
texts_rows s n vs mask ts e h m b = (λ i. where_valid (m i) (map text (b i))) ∙ texts_where_valid Nullable vs (fit_as s (utf8_type n) vs e h)

pub structs_count : (ms : Members) (vs : List Datum) (mask : List Bool) (structs : StructRows) → structs ≡ struct_rows (length vs) (columns_for 0 ms vs) → mask ≡ map is_value vs → length mask ≡ length structs.rows
structs_count ms vs mask structs e m =
    ap length m ∙ length-map vs is_value ∙ sym (ap (λ (s : StructRows). length s.rows) e ∙ ap length (rows_for 0 ms vs) ∙ length-map vs (items_for 0 ms))

pub structs_rows : (s : DataType) (ms : Members) (n : Nullability) (vs : List Datum) (mask : List Bool) (structs : StructRows) → s ≡ struct_type ms n → AllByRecursion (Fits (made_nullable s)) vs → structs ≡ struct_rows (length vs) (columns_for 0 ms vs) → mask ≡ map is_value vs
    → where_valid mask (map structure structs.rows) ≡ vs
structs_rows s ms n vs mask structs e h is m =
    (λ i. where_valid (m i) (map structure ((ap (λ (t : StructRows). t.rows) is ∙ rows_for 0 ms vs) i))) ∙ structs_again ms vs (fit_as s (struct_type ms n) vs e h)

pub structs_type : (s : DataType) (ms : Members) (n : Nullability) (vs : List Datum) (structs : StructRows) → s ≡ struct_type ms n → structs ≡ struct_rows (length vs) (columns_for 0 ms vs) → struct_type structs.members NonNullable ≡ bare s
structs_type s ms n vs structs e is = ap (λ (t : StructRows). struct_type t.members NonNullable) is ∙ ap (λ (ns : Members). struct_type ns NonNullable) (members_for 0 ms vs) ∙ ap bare (sym e)

pub lists_rows : (s t : DataType) (n : Nullability) (vs : List Datum) (rows : ℕ) → s ≡ list_type t n → AllByRecursion (Fits (made_nullable s)) vs → rows ≡ length vs → replicate rows null ≡ vs
lists_rows s t n vs rows e h len = ap (λ (k : ℕ). replicate k null) len ∙ sym (none_but_nulls t vs (fit_as s (list_type t n) vs e h))

-- ---- no rows
pub none_valid : (mask : List Bool) (buffers : List Datum) → mask ≡ [] → where_valid mask buffers ≡ []
none_valid mask buffers e = ap (λ (bits : List Bool). where_valid bits buffers) e

pub none_held : {X : Type 0} (blank : X) (mask : List Bool) (xs : List X) → mask ≡ [] → NullsHold blank mask xs
none_held blank mask xs e = subst (λ (bits : List Bool). NullsHold blank bits xs) (sym e) tt

pub no_structs : (ms : Members) (mask : List Bool) (structs : StructRows) → mask ≡ [] → structs ≡ struct_rows 0 (columns_for 0 ms []) → length mask ≡ length structs.rows
no_structs ms mask structs e is = ap length e ∙ sym (ap (λ (s : StructRows). length s.rows) is ∙ ap length (rows_for 0 ms []))
