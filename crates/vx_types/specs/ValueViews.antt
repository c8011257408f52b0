-- The data that a value in memory stands for.
use Rattle.std.specs.Prelude.{List, [], ◌∷◌, map}
use Rattle.vx_types.specs.declared.values.Value.{Value}
use Rattle.vx_types.specs.declared.values.Value.TheVariants as variants
use Rattle.vx_types.specs.Data.{Datum, null, truth, number, text, structure, Items, no_items, item}

abbrev pub datum : Value → Datum
datum variants.Null = null
datum (variants.Bool b) = truth b
datum (variants.Int z) = number z
datum (variants.Text bytes) = text bytes
datum (variants.Struct vs) = structure vs

-- items as a list of values, and back
abbrev pub data_in : Items → List Datum
data_in no_items = []
data_in (item v vs) = v ∷ data_in vs

abbrev pub items_from : List Datum → Items
items_from [] = no_items
items_from (v ∷ vs) = item v (items_from vs)

-- the items that these values are, in order
abbrev pub items_of : List Value → Items
items_of values = items_from (map datum values)
