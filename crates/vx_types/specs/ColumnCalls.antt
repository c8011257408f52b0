-- What the calls of columns give, row by row.
use Rattle.std.specs.Prelude.{◌≡◌, ℕ, ◌<ℤ◌, ◌≤ℤ◌, pos, Bool, true, false, cond, List, [], ◌∷◌, length, map, slice_index_or, Option, Some, None}
use Rattle.vx_types.specs.declared.dtypes.IntKind.{IntKind}
use Rattle.vx_types.specs.declared.dtypes.IntKind.TheVariants.{U8, U16, U32, U64}
use Rattle.vx_types.specs.declared.dtypes.Nullability.{Nullability}
use Rattle.vx_types.specs.declared.dtypes.Nullability.TheVariants.{NonNullable, Nullable}
use Rattle.vx_types.specs.Data.{DataType, bool_type, int_type, utf8_type, struct_type, list_type, Members, no_members, member, Datum, null, number, structure, Items}
use Rattle.std.specs.List.{AllByRecursion}
use Rattle.vx_types.specs.Columns.{ColumnData}
use Rattle.vx_types.specs.Fits.{Fits}
use Rattle.vx_types.specs.ValueViews.{items_from}

-- a number that is no less than 0 as a value
abbrev pub natural : ℕ → Datum
natural n = number (pos n)

-- ---- truth
abbrev pub IsBool : DataType → Type 0
IsBool (bool_type n) = Unit {0}
IsBool t = ⊥

-- ---- look-ups
-- the same dtype, which takes nulls
abbrev pub made_nullable : DataType → DataType
made_nullable (bool_type n) = bool_type Nullable
made_nullable (int_type kind n) = int_type kind Nullable
made_nullable (utf8_type n) = utf8_type Nullable
made_nullable (struct_type ms n) = struct_type ms Nullable
made_nullable (list_type t n) = list_type t Nullable

-- the same dtype, which takes nulls where told
abbrev pub nullable_where : Nullability → DataType → DataType
nullable_where NonNullable t = t
nullable_where Nullable t = made_nullable t

abbrev pub IsUnsignedKind : IntKind → Type 0
IsUnsignedKind U8 = Unit {0}
IsUnsignedKind U16 = Unit {0}
IsUnsignedKind U32 = Unit {0}
IsUnsignedKind U64 = Unit {0}
IsUnsignedKind kind = ⊥

abbrev pub IsUnsigned : DataType → Type 0
IsUnsigned (int_type kind n) = IsUnsignedKind kind
IsUnsigned t = ⊥

-- a code is below the count, and a null is any
abbrev pub IsCodeBelow : ℕ → Datum → Type 0
IsCodeBelow rows (number z) = z <ℤ pos rows
IsCodeBelow rows v = Unit {0}

-- the same of a code that is no less than 0
abbrev pub IsPlaceBelow : ℕ → Datum → Type 0
IsPlaceBelow rows (number z) = (pos 0 ≤ℤ z) × (z <ℤ pos rows)
IsPlaceBelow rows v = Unit {0}

-- the value at a code, and null at a null
abbrev pub value_at : List Datum → Datum → Datum
value_at values (number (pos place)) = slice_index_or values place null
value_at values code = null

-- ---- structs from parts
-- One part for each field, of its dtype, with that many rows.
abbrev pub ArePartsOf : Members → List ColumnData → ℕ → Type 0
ArePartsOf no_members [] rows = Unit {0}
ArePartsOf (member name t ms) (part ∷ parts) rows = (part.dtype ≡ t) × (length part.values ≡ rows) × ArePartsOf ms parts rows
ArePartsOf ms parts rows = ⊥

-- nullable exactly where a validity is given
abbrev pub nullability_with : Option (List Bool) → Nullability
nullability_with None = NonNullable
nullability_with (Some mask) = Nullable

abbrev pub is_valid : Option (List Bool) → ℕ → Bool
is_valid None row = true
is_valid (Some mask) row = slice_index_or mask row false

-- the parts' values at a row
abbrev pub items_at : List ColumnData → ℕ → Items
items_at parts row = items_from (map (λ part. slice_index_or part.values row null) parts)

-- the struct of the parts' values at a row, and null where the row is not valid
abbrev pub packed_at : Option (List Bool) → List ColumnData → ℕ → Datum
packed_at validity parts row = cond (is_valid validity row) (structure (items_at parts row)) null

-- a column's values fit its dtype
abbrev pub IsFitting : ColumnData → Type 0
IsFitting part = AllByRecursion (Fits part.dtype) part.values

-- where the value is a struct, each part's values fit
abbrev pub FitsParts : List ColumnData → Datum → Type 0
FitsParts parts (structure values) = AllByRecursion IsFitting parts
FitsParts parts v = Unit {0}
