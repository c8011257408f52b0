-- What the members of an object tell of a dtype, as plain data.
use Rattle.std.specs.Prelude.{Option, option_map}
use Rattle.scan_json.specs.Singles.{SingleTold, nothing, one, many}
use Rattle.vx_base.specs.Data.{DataType}
use Rattle.vx_base.specs.Views.{data_type}
use Rattle.scan_request.specs.declared.dtype_forms.Nested.{Nested}
use Rattle.scan_request.specs.declared.dtype_forms.Nested.TheVariants.{Nothing, One, Many}

abbrev pub nested_told : Nested → SingleTold (Option DataType)
nested_told Nothing = nothing
nested_told (One name dtype) = one name.now (option_map data_type dtype)
nested_told Many = many
