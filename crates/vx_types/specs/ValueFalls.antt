-- Each part of a value is smaller than the value.
use Rattle.std.specs.Prelude.{◌≤◌, List, [], ◌∷◌}
use Rattle.std.proofs.Common.{arith}
use denote.Param.Weighed.{most}
use Rattle.vx_types.specs.declared.values.Value.{Value}
use Rattle.vx_types.specs.declared.values.Value.TheVariants as variants
use Rattle.vx_types.specs.declared.values.Values.TheDeep.{deep-Value}
use Rattle.vx_types.specs.Sizes.{datum_size, items_size}
use Rattle.vx_types.specs.ValueViews.{datum, items_of}

deep_value_le_size : (v : Value) → deep-Value v ≤ datum_size (datum v)
deep_value_le_size variants.Null = omega arith
deep_value_le_size (variants.Bool b) = omega arith
deep_value_le_size (variants.Int z) = omega arith
deep_value_le_size (variants.Text bytes) = omega arith
deep_value_le_size (variants.Struct vs) = omega arith

pub most_le_items_size : (values : List Value) → most deep-Value values ≤ items_size (items_of values)
most_le_items_size [] = omega arith
most_le_items_size (value ∷ values) = omega (arith, most_le_items_size values, deep_value_le_size value)
