-- Structs taken apart, field by field.
use Rattle.std.specs.Prelude.{ℕ, zero, suc, List, [], ◌∷◌, map}
use Rattle.vx_types.specs.Columns.{ColumnData}
use Rattle.vx_types.specs.Data.{Members, no_members, member, Datum, null, structure, Items, no_items, item}
use Rattle.vx_arrays.specs.Buffers.{bare}

-- the items from a place on
abbrev pub items_behind : ℕ → Items → Items
items_behind zero vs = vs
items_behind (suc place) no_items = no_items
items_behind (suc place) (item v vs) = items_behind place vs

abbrev pub first_item : Items → Datum
first_item no_items = null
first_item (item v vs) = v

-- a struct's item at a place; what is no struct, or has no such item, has null there
abbrev pub field_at : ℕ → Datum → Datum
field_at place (structure vs) = first_item (items_behind place vs)
field_at place v = null

-- a column for each member
abbrev pub columns_for : ℕ → Members → List Datum → List ColumnData
columns_for place no_members values = []
columns_for place (member name t ms) values = record { dtype = bare t; values = map (field_at place) values } ∷ columns_for (suc place) ms values
