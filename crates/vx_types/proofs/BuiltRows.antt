-- Columns that are made of several columns, row by row.
use Rattle.vx_types.specs.declared.dtypes.IntKind.{IntKind}
use Rattle.std.proofs.lemmas.Int.{ints}
use Rattle.std.proofs.Common.{cond, ◌≡◌, ℕ, zero, suc, ◌+◌, ◌<◌, ◌≤◌, pos, negsuc, Bool, true, false, List, [], ◌∷◌, length, map, get_or, Option, Some, None, subst, arith}
use Rattle.std.specs.List.{AllByRecursion, range_with_len}
use Rattle.vx_types.specs.declared.dtypes.IntKind.TheVariants.{U8, U16, U32, U64, I8, I16, I32, I64}
use Rattle.vx_types.specs.declared.dtypes.Nullability.{Nullability}
use Rattle.vx_types.specs.declared.dtypes.Nullability.TheVariants.{NonNullable, Nullable}
use Rattle.vx_types.specs.Data.{DataType, bool_type, int_type, utf8_type, struct_type, list_type, Members, no_members, member, Datum, null, truth, number, text, structure}
use Rattle.vx_types.specs.Columns.{ColumnData}
use Rattle.vx_types.specs.Fits.{Fits, EachFits, nullability_of}
use Rattle.vx_types.specs.ColumnCalls.{made_nullable, nullable_where, IsUnsigned, IsCodeBelow, IsPlaceBelow, value_at, ArePartsOf, nullability_with, items_at, packed_at, IsFitting, FitsParts}

-- ---- codes
code_placed : (t : DataType) (v : Datum) (rows : ℕ) → IsUnsigned t → Fits t v → IsCodeBelow rows v → IsPlaceBelow rows v
code_placed (int_type U8 n) (number z) rows u f b = (f.0, b)
code_placed (int_type U16 n) (number z) rows u f b = (f.0, b)
code_placed (int_type U32 n) (number z) rows u f b = (f.0, b)
code_placed (int_type U64 n) (number z) rows u f b = (f.0, b)
code_placed (int_type I8 n) v rows u f b = absurd u
code_placed (int_type I16 n) v rows u f b = absurd u
code_placed (int_type I32 n) v rows u f b = absurd u
code_placed (int_type I64 n) v rows u f b = absurd u
code_placed (bool_type n) v rows u f b = absurd u
code_placed (utf8_type n) v rows u f b = absurd u
code_placed (struct_type ms n) v rows u f b = absurd u
code_placed (list_type t n) v rows u f b = absurd u
code_placed t null rows u f b = tt
code_placed t (truth x) rows u f b = tt
code_placed t (text bytes) rows u f b = tt
code_placed t (structure vs) rows u f b = tt

pub codes_placed : (t : DataType) (rows : ℕ) (codes : List Datum) → IsUnsigned t → AllByRecursion (Fits t) codes → AllByRecursion (IsCodeBelow rows) codes → AllByRecursion (IsPlaceBelow rows) codes
codes_placed t rows [] u f b = tt
codes_placed t rows (v ∷ codes) u f b = (code_placed t v rows u f.0 b.0, codes_placed t rows codes u f.1 b.1)

pub fits_nullable : (t : DataType) (v : Datum) → Fits t v → Fits (made_nullable t) v
fits_nullable (bool_type n) null h = tt
fits_nullable (int_type kind n) null h = tt
fits_nullable (utf8_type n) null h = tt
fits_nullable (struct_type ms n) null h = tt
fits_nullable (list_type t n) null h = tt
fits_nullable (bool_type n) (truth b) h = h
fits_nullable (int_type kind n) (number z) h = h
fits_nullable (utf8_type n) (text bytes) h = h
fits_nullable (struct_type ms n) (structure vs) h = h
fits_nullable _ _ h = absurd h

pub null_fits : (t : DataType) → Fits (made_nullable t) null
null_fits (bool_type n) = tt
null_fits (int_type kind n) = tt
null_fits (utf8_type n) = tt
null_fits (struct_type ms n) = tt
null_fits (list_type t n) = tt

pub fits_where : (n : Nullability) (t : DataType) (v : Datum) → Fits t v → Fits (nullable_where n t) v
fits_where NonNullable t v h = h
fits_where Nullable t v h = fits_nullable t v h

fits_at : (P : Datum → Type 0) (vs : List Datum) (k : ℕ) (d : Datum) → k < length vs → AllByRecursion P vs → P (get_or vs k d)
fits_at P [] k d lt h = absurd (omega arith)
fits_at P (v ∷ vs) zero d lt h = h.0
fits_at P (v ∷ vs) (suc k) d lt h = fits_at P vs k d (omega arith) h.1

null_where : (n : Nullability) (kind : IntKind) (t : DataType) → Fits (int_type kind n) null → Fits (nullable_where n t) null
null_where NonNullable kind t h = absurd h
null_where Nullable kind t h = null_fits t

found_fits : (s t : DataType) (vs : List Datum) (v : Datum) → IsUnsigned s → AllByRecursion (Fits t) vs → Fits s v → IsPlaceBelow (length vs) v → Fits (nullable_where (nullability_of s) t) (value_at vs v)
found_fits (int_type kind n) t vs (number (pos k)) u fit f b = fits_where n t (get_or vs k null) (fits_at (Fits t) vs k null (omega (arith, ints, b.1)) fit)
found_fits (int_type kind n) t vs (number (negsuc k)) u fit f b = absurd b.0.le
found_fits (int_type kind n) t vs null u fit f b = null_where n kind t f
found_fits (int_type kind n) t vs (truth x) u fit f b = absurd f
found_fits (int_type kind n) t vs (text bytes) u fit f b = absurd f
found_fits (int_type kind n) t vs (structure ws) u fit f b = absurd f
found_fits (bool_type n) t vs v u fit f b = absurd u
found_fits (utf8_type n) t vs v u fit f b = absurd u
found_fits (struct_type ms n) t vs v u fit f b = absurd u
found_fits (list_type r n) t vs v u fit f b = absurd u

pub all_found_fit : (s t : DataType) (vs codes : List Datum) → IsUnsigned s → AllByRecursion (Fits t) vs → AllByRecursion (Fits s) codes → AllByRecursion (IsCodeBelow (length vs)) codes
    → AllByRecursion (Fits (nullable_where (nullability_of s) t)) (map (value_at vs) codes)
all_found_fit s t vs [] u fit f b = tt
all_found_fit s t vs (v ∷ codes) u fit f b = (found_fits s t vs v u fit f.0 (code_placed s v (length vs) u f.0 b.0), all_found_fit s t vs codes u fit f.1 b.1)

-- ---- parts
pub parts_have : (ms : Members) (parts : List ColumnData) (rows : ℕ) → ArePartsOf ms parts rows → AllByRecursion (λ part. length part.values ≡ rows) parts
parts_have no_members [] rows h = tt
parts_have (member name t ms) (part ∷ parts) rows h = (h.1, parts_have ms parts rows h.2)
parts_have no_members (part ∷ parts) rows h = absurd h
parts_have (member name t ms) [] rows h = absurd h

each_part_fits : (ms : Members) (parts : List ColumnData) (row rows : ℕ) → row < rows → ArePartsOf ms parts rows → AllByRecursion IsFitting parts → EachFits ms (items_at parts row)
each_part_fits no_members [] row rows lt h f = tt
each_part_fits (member name t ms) (part ∷ parts) row rows lt h f =
    (subst (λ (s : DataType). Fits s (get_or part.values row null)) h.0 (fits_at (Fits part.dtype) part.values row null (omega (arith, h.1)) f.0), each_part_fits ms parts row rows lt h.2 f.1)
each_part_fits no_members (part ∷ parts) row rows lt h f = absurd h
each_part_fits (member name t ms) [] row rows lt h f = absurd h

-- the packed rows fit the struct
row_fits : (ms : Members) (parts : List ColumnData) (validity : Option (List Bool)) (row rows : ℕ) → row < rows → ArePartsOf ms parts rows → FitsParts parts (packed_at validity parts row) → Fits (struct_type ms (nullability_with validity)) (packed_at validity parts row)
row_fits ms parts None row rows lt h f = each_part_fits ms parts row rows lt h f
row_fits ms parts (Some mask) row rows lt h f =
    elim (get_or mask row false) as (λ b. FitsParts parts (cond b (structure (items_at parts row)) null) → Fits (struct_type ms Nullable) (cond b (structure (items_at parts row)) null)) [ true ↦ λ g. each_part_fits ms parts row rows lt h g | false ↦ λ g. tt ] f

all_rows_fit : (ms : Members) (parts : List ColumnData) (validity : Option (List Bool)) (from count rows : ℕ) → from + count ≤ rows → ArePartsOf ms parts rows → AllByRecursion (FitsParts parts) (map (packed_at validity parts) (range_with_len from count))
    → AllByRecursion (Fits (struct_type ms (nullability_with validity))) (map (packed_at validity parts) (range_with_len from count))
all_rows_fit ms parts validity from zero rows le h f = tt
all_rows_fit ms parts validity from (suc count) rows le h f = (row_fits ms parts validity from rows (omega arith) h f.0, all_rows_fit ms parts validity (from + 1) count rows (omega arith) h f.1)

pub packed_fit : (ms : Members) (parts : List ColumnData) (validity : Option (List Bool)) (rows : ℕ) → ArePartsOf ms parts rows → AllByRecursion (FitsParts parts) (map (packed_at validity parts) (range_with_len 0 rows))
    → AllByRecursion (Fits (struct_type ms (nullability_with validity))) (map (packed_at validity parts) (range_with_len 0 rows))
packed_fit ms parts validity rows h f = all_rows_fit ms parts validity 0 rows rows (omega arith) h f

-- ---- a part of a row
abbrev pub in_row : ℕ → ColumnData → Datum
in_row row part = get_or part.values row null
