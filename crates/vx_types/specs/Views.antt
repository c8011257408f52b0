-- The data that a dtype in memory stands for.
use Rattle.std.specs.Prelude.{ℕ, List, [], ◌∷◌, map}
use Rattle.vx_types.specs.declared.dtypes.DType.{DType}
use Rattle.vx_types.specs.declared.dtypes.DType.TheVariants as variants
use Rattle.vx_types.specs.declared.dtypes.Field.{Field}
use Rattle.vx_types.specs.Data.{DataType, bool_type, int_type, utf8_type, struct_type, list_type, Members, no_members, member}

abbrev pub data_type : DType → DataType
data_type (variants.Bool n) = bool_type n
data_type (variants.Int kind n) = int_type kind n
data_type (variants.Utf8 n) = utf8_type n
data_type (variants.Struct ms n) = struct_type ms n
data_type (variants.List t n) = list_type t n

-- a field of a struct as data
pub record FieldData : Type 0 where
  pub name : List ℕ
  pub dtype : DataType

abbrev pub field_data : Field → FieldData
field_data field = record { name = field.name; dtype = data_type field.dtype }

-- members as a list of fields, and back
abbrev pub fields_in : Members → List FieldData
fields_in no_members = []
fields_in (member n t ms) = record { name = n; dtype = t } ∷ fields_in ms

abbrev pub members_from : List FieldData → Members
members_from [] = no_members
members_from (field ∷ fields) = member field.name field.dtype (members_from fields)

-- the members that these fields are, in order
abbrev pub members_of : List Field → Members
members_of fields = members_from (map field_data fields)
