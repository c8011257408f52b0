-- Which form a dtype has: that of structs, of lists of elements, or of the offsets of lists.
use Rattle.std.specs.Prelude.{◌≡◌}
use Rattle.vx_base.specs.declared.dtypes.Nullability.TheVariants.{NonNullable}
use Rattle.vx_base.specs.Data.{DataType, int_type, struct_type, list_type}

abbrev pub IsStruct : DataType → Type 0
IsStruct (struct_type ms n) = Unit {0}
IsStruct t = ⊥

abbrev pub IsListOf : DataType → DataType → Type 0
IsListOf (list_type t n) element = element ≡ t
IsListOf s element = ⊥

-- a non-nullable Int
abbrev pub IsOffsets : DataType → Type 0
IsOffsets (int_type kind NonNullable) = Unit {0}
IsOffsets t = ⊥
