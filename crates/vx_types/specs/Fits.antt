-- Which values a dtype takes.
use Rattle.std.specs.Prelude.{ℤ, pos, negsuc, ◌≤ℤ◌, Bool, true, false}
use Rattle.std.specs.Str.{IsUtf8}
use Rattle.vx_types.specs.declared.dtypes.IntKind.{IntKind}
use Rattle.vx_types.specs.declared.dtypes.IntKind.TheVariants.{U8, U16, U32, U64, I8, I16, I32, I64}
use Rattle.vx_types.specs.declared.dtypes.Nullability.{Nullability}
use Rattle.vx_types.specs.declared.dtypes.Nullability.TheVariants.{NonNullable, Nullable}
use Rattle.vx_types.specs.Data.{DataType, bool_type, int_type, utf8_type, struct_type, list_type, Members, no_members, member, Datum, null, truth, number, text, structure, Items, no_items, item}

-- the least and the greatest number of a kind
abbrev pub least_of : IntKind → ℤ
least_of U8 = pos 0
least_of U16 = pos 0
least_of U32 = pos 0
least_of U64 = pos 0
least_of I8 = negsuc 127
least_of I16 = negsuc 32767
least_of I32 = negsuc 2147483647
least_of I64 = negsuc 9223372036854775807

abbrev pub greatest_of : IntKind → ℤ
greatest_of U8 = pos 255
greatest_of U16 = pos 65535
greatest_of U32 = pos 4294967295
greatest_of U64 = pos 18446744073709551615
greatest_of I8 = pos 127
greatest_of I16 = pos 32767
greatest_of I32 = pos 2147483647
greatest_of I64 = pos 9223372036854775807

abbrev pub IsInside : IntKind → ℤ → Type 0
IsInside kind z = (least_of kind ≤ℤ z) × (z ≤ℤ greatest_of kind)

abbrev pub nullability_of : DataType → Nullability
nullability_of (bool_type n) = n
nullability_of (int_type kind n) = n
nullability_of (utf8_type n) = n
nullability_of (struct_type ms n) = n
nullability_of (list_type t n) = n

abbrev pub takes_null : Nullability → Bool
takes_null NonNullable = false
takes_null Nullable = true

abbrev pub TakesNull : Nullability → Type 0
TakesNull NonNullable = ⊥
TakesNull Nullable = Unit {0}

-- A null fits each nullable dtype, and nothing else fits a list. A number lies inside its kind, a text
-- is well-formed UTF-8, and a struct has one value for each field, which fits the field.
abbrev mutual
  pub Fits : DataType → Datum → Type 0
  Fits (bool_type n) null = TakesNull n
  Fits (bool_type n) (truth b) = Unit {0}
  Fits (int_type kind n) null = TakesNull n
  Fits (int_type kind n) (number z) = IsInside kind z
  Fits (utf8_type n) null = TakesNull n
  Fits (utf8_type n) (text bytes) = IsUtf8 bytes
  Fits (struct_type ms n) null = TakesNull n
  Fits (struct_type ms n) (structure values) = EachFits ms values
  Fits (list_type t n) null = TakesNull n
  Fits t v = ⊥

  pub EachFits : Members → Items → Type 0
  EachFits no_members no_items = Unit {0}
  EachFits (member name t ms) (item v vs) = Fits t v × EachFits ms vs
  EachFits ms vs = ⊥
