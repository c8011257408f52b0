-- Structs of columns, row by row.
use Rattle.std.proofs.Common.{◌≡◌, ℕ, zero, suc, ◌+◌, Bool, true, false, cond, List, [], ◌∷◌, length, map, get_or, drop, replicate, Option, Some, None, refl, sym, ap, subst, ◌∙◌, arith}
use Rattle.std.specs.List.{AllByRecursion, range_with_len}
use Rattle.std.proofs.lemmas.List.{drop_more, drop_all}
use Rattle.vx_types.specs.declared.dtypes.Nullability.TheVariants.{NonNullable}
use Rattle.vx_types.specs.Columns.{ColumnData}
use Rattle.vx_types.specs.Data.{struct_type, Members, no_members, member, Datum, null, structure, Items, no_items}
use Rattle.vx_types.specs.Fits.{Fits}
use Rattle.vx_types.specs.ColumnCalls.{ArePartsOf, nullability_with, is_valid, items_at, packed_at, IsFitting, FitsParts}
use Rattle.vx_types.specs.Slots.{where_valid}
use Rattle.vx_types.proofs.BuiltRows.{parts_have, packed_fit}
use Rattle.vx_arrays.specs.PackedColumns.{IsColumn, bare_column}
use Rattle.vx_arrays.specs.ArrayRows.{members_in, beside, rows_of, StructRows, struct_rows, HaveRows}
use Rattle.vx_arrays.proofs.ArrayRows.{struct_len}
use Rattle.vx_arrays.specs.Buffers.{bare, bare_members}

-- ---- which rows are valid
valid_from : (mask : List Bool) (k n : ℕ) → length mask ≡ k + n → drop k mask ≡ map (is_valid (Some mask)) (range_with_len k n)
valid_from mask k zero e = drop_all k mask (omega arith)
valid_from mask k (suc n) e = drop_more mask k false (omega arith) ∙ ap (λ (bits : List Bool). get_or mask k false ∷ bits) (valid_from mask (k + 1) n (omega arith))

pub mask_valid : (mask : List Bool) (rows : ℕ) → length mask ≡ rows → mask ≡ map (is_valid (Some mask)) (range_with_len 0 rows)
mask_valid mask rows e = valid_from mask 0 rows (omega arith)

all_valid_from : (k n : ℕ) → replicate n true ≡ map (is_valid None) (range_with_len k n)
all_valid_from k zero = refl
all_valid_from k (suc n) = ap (λ (bits : List Bool). true ∷ bits) (all_valid_from (k + 1) n)

pub all_rows_valid : (rows : ℕ) → replicate rows true ≡ map (is_valid None) (range_with_len 0 rows)
all_rows_valid rows = all_valid_from 0 rows

-- ---- what the rows are
alike : (k n : ℕ) → replicate n no_items ≡ map (items_at []) (range_with_len k n)
alike k zero = refl
alike k (suc n) = ap (λ (rows : List Items). no_items ∷ rows) (alike (k + 1) n)

beside_from : (array : ColumnData) (arrays : List ColumnData) (k n : ℕ) → length array.values ≡ k + n → beside (drop k array.values) (map (items_at arrays) (range_with_len k n)) ≡ map (items_at (array ∷ arrays)) (range_with_len k n)
beside_from array arrays k zero e = ap (λ (vs : List Datum). beside vs []) (drop_all k array.values (omega arith))
beside_from array arrays k (suc n) e =
    ap (λ (vs : List Datum). beside vs (map (items_at arrays) (range_with_len k (suc n)))) (drop_more array.values k null (omega arith))
    ∙ ap (λ (rows : List Items). items_at (array ∷ arrays) k ∷ rows) (beside_from array arrays (k + 1) n (omega arith))

rows_are : (rows : ℕ) (arrays : List ColumnData) → HaveRows rows arrays → rows_of rows arrays ≡ map (items_at arrays) (range_with_len 0 rows)
rows_are rows [] h = alike 0 rows
rows_are rows (array ∷ arrays) h = ap (beside array.values) (rows_are rows arrays h.1) ∙ beside_from array arrays 0 rows (omega (arith, h.0))

rows_bare : (rows : ℕ) (arrays : List ColumnData) → rows_of rows (map bare_column arrays) ≡ rows_of rows arrays
rows_bare rows [] = refl
rows_bare rows (array ∷ arrays) = ap (beside array.values) (rows_bare rows arrays)

where_mapped : (valid : ℕ → Bool) (at : ℕ → Items) (ks : List ℕ) → where_valid (map valid ks) (map structure (map at ks)) ≡ map (λ k. cond (valid k) (structure (at k)) null) ks
where_mapped valid at [] = refl
where_mapped valid at (k ∷ ks) = ap (λ (vs : List Datum). cond (valid k) (structure (at k)) null ∷ vs) (where_mapped valid at ks)

pub packed_values : (rows : ℕ) (arrays made : List ColumnData) (validity : Option (List Bool)) (mask : List Bool) → made ≡ map bare_column arrays → HaveRows rows arrays → mask ≡ map (is_valid validity) (range_with_len 0 rows)
    → where_valid mask (map structure (rows_of rows made)) ≡ map (packed_at validity arrays) (range_with_len 0 rows)
packed_values rows arrays made validity mask e h m =
    (λ i. where_valid (m i) (map structure ((ap (rows_of rows) e ∙ rows_bare rows arrays ∙ rows_are rows arrays h) i)))
    ∙ where_mapped (is_valid validity) (items_at arrays) (range_with_len 0 rows)

-- ---- the arrays of a struct
bare_have : (rows : ℕ) (arrays : List ColumnData) → HaveRows rows arrays → HaveRows rows (map bare_column arrays)
bare_have rows [] h = tt
bare_have rows (array ∷ arrays) h = (h.0, bare_have rows arrays h.1)

pub made_have : (ms : Members) (rows : ℕ) (arrays made : List ColumnData) → ArePartsOf ms arrays rows → made ≡ map bare_column arrays → HaveRows rows made
made_have ms rows arrays made h e = subst (λ (ps : List ColumnData). HaveRows rows ps) (sym e) (bare_have rows arrays (parts_have ms arrays rows h))

members_bare : (ms : Members) (rows : ℕ) (arrays : List ColumnData) → ArePartsOf ms arrays rows → bare_members ms ≡ members_in (map bare_column arrays)
members_bare no_members rows [] h = refl
members_bare (member name t ms) rows (array ∷ arrays) h = λ i. member [] (bare (sym h.0 i)) (members_bare ms rows arrays h.2 i)
members_bare no_members rows (array ∷ arrays) h = absurd h
members_bare (member name t ms) rows [] h = absurd h

row_fits_arrays : (arrays : List ColumnData) (validity : Option (List Bool)) (k : ℕ) → AllByRecursion IsFitting arrays → FitsParts arrays (packed_at validity arrays k)
row_fits_arrays arrays validity k h = elim (is_valid validity k) as (λ b. FitsParts arrays (cond b (structure (items_at arrays k)) null)) [ true ↦ h | false ↦ tt ]

rows_fit_arrays : (arrays : List ColumnData) (validity : Option (List Bool)) (ks : List ℕ) → AllByRecursion IsFitting arrays → AllByRecursion (FitsParts arrays) (map (packed_at validity arrays) ks)
rows_fit_arrays arrays validity [] h = tt
rows_fit_arrays arrays validity (k ∷ ks) h = (row_fits_arrays arrays validity k h, rows_fit_arrays arrays validity ks h)

pub packed_column : (ms : Members) (rows : ℕ) (arrays made : List ColumnData) (validity : Option (List Bool)) (mask : List Bool) (column : ColumnData) → ArePartsOf ms arrays rows → AllByRecursion IsFitting arrays → made ≡ map bare_column arrays → mask ≡ map (is_valid validity) (range_with_len 0 rows)
    → column.dtype ≡ struct_type (members_in made) NonNullable → column.values ≡ where_valid mask (map structure (rows_of rows made)) → IsColumn (struct_type ms (nullability_with validity)) column
packed_column ms rows arrays made validity mask column h f e m type is =
    let values = packed_values rows arrays made validity mask e (parts_have ms arrays rows h) m in
    record {
      shape = ap (λ (ns : Members). struct_type ns NonNullable) (members_bare ms rows arrays h ∙ ap members_in (sym e)) ∙ sym type;
      fit = subst (λ (vs : List Datum). AllByRecursion (Fits (struct_type ms (nullability_with validity))) vs) (sym (is ∙ values)) (packed_fit ms arrays validity rows h (rows_fit_arrays arrays validity (range_with_len 0 rows) f));
    }

-- ---- the struct of the arrays
pub validity_len : (rows : ℕ) (arrays made : List ColumnData) (ms : Members) (mask : List Bool) (structs : StructRows) → ArePartsOf ms arrays rows → made ≡ map bare_column arrays → structs ≡ struct_rows rows made → length mask ≡ rows → length mask ≡ length structs.rows
validity_len rows arrays made ms mask structs h e is len = len ∙ sym (ap (λ (s : StructRows). length s.rows) is ∙ struct_len rows made (made_have ms rows arrays made h e))

pub struct_values : (ms : Members) (rows : ℕ) (arrays made : List ColumnData) (validity : Option (List Bool)) (mask : List Bool) (structs : StructRows) (column : ColumnData) → ArePartsOf ms arrays rows → made ≡ map bare_column arrays → mask ≡ map (is_valid validity) (range_with_len 0 rows)
    → structs ≡ struct_rows rows made → column.values ≡ where_valid mask (map structure structs.rows) → column.values ≡ map (packed_at validity arrays) (range_with_len 0 rows)
struct_values ms rows arrays made validity mask structs column h e m is values =
    values ∙ ap (λ (s : StructRows). where_valid mask (map structure s.rows)) is ∙ packed_values rows arrays made validity mask e (parts_have ms arrays rows h) m

pub struct_packed : (ms : Members) (rows : ℕ) (arrays made : List ColumnData) (validity : Option (List Bool)) (mask : List Bool) (structs : StructRows) (column : ColumnData) → ArePartsOf ms arrays rows → AllByRecursion IsFitting arrays → made ≡ map bare_column arrays → mask ≡ map (is_valid validity) (range_with_len 0 rows)
    → structs ≡ struct_rows rows made → column.dtype ≡ struct_type structs.members NonNullable → column.values ≡ where_valid mask (map structure structs.rows) → IsColumn (struct_type ms (nullability_with validity)) column
struct_packed ms rows arrays made validity mask structs column h f e m is type values =
    packed_column ms rows arrays made validity mask column h f e m (type ∙ ap (λ (s : StructRows). struct_type s.members NonNullable) is) (values ∙ ap (λ (s : StructRows). where_valid mask (map structure s.rows)) is)
