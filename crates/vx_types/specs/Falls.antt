-- Each part of a dtype is smaller than the dtype.
use Rattle.std.specs.Prelude.{◌≤◌, ◌*◌, List, [], ◌∷◌}
use Rattle.std.proofs.Common.{arith}
use denote.Param.Weighed.{most}
use Rattle.vx_types.specs.declared.dtypes.DType.{DType}
use Rattle.vx_types.specs.declared.dtypes.DType.TheVariants as variants
use Rattle.vx_types.specs.declared.dtypes.Field.{Field}
use Rattle.vx_types.specs.declared.dtypes.FieldList.{FieldList}
use Rattle.vx_types.specs.declared.dtypes.FieldList.TheVariants as lists
use Rattle.vx_types.specs.declared.dtypes.Element.TheDeep.{deep-DType, deep-Field, deep-FieldList}
use Rattle.vx_types.specs.FieldLists.{listed}
use Rattle.vx_types.specs.Sizes.{type_size, members_size, fields_size}
use Rattle.vx_types.specs.Views.{data_type, members_of}

pub deep_le_size : (t : DType) → deep-DType t ≤ 2 * type_size (data_type t)
deep_le_size (variants.Bool n) = omega arith
deep_le_size (variants.Int kind n) = omega arith
deep_le_size (variants.Utf8 n) = omega arith
deep_le_size (variants.Struct ms n) = omega arith
deep_le_size (variants.List t n) = omega arith

pub most_le_size : (fields : List Field) → most deep-Field fields ≤ 2 * members_size (members_of fields)
most_le_size [] = omega arith
most_le_size (field ∷ fields) = omega (arith, most_le_size fields, deep_le_size field.dtype)

pub list_le_size : (list : FieldList) → deep-FieldList list ≤ fields_size (listed list)
list_le_size (lists.Alone fields) = omega arith
list_le_size (lists.Shared fields) = omega arith
