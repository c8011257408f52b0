-- How deep dtypes and values nest, as a number that each part has less of.
use Rattle.std.specs.Prelude.{ℕ, ◌+◌, ◌*◌}
use Rattle.vx_types.specs.Data.{DataType, bool_type, int_type, utf8_type, struct_type, list_type, Members, no_members, member, Datum, null, truth, number, text, structure, Items, no_items, item}

abbrev mutual
  pub type_size : DataType → ℕ
  type_size (bool_type n) = 0
  type_size (int_type kind n) = 0
  type_size (utf8_type n) = 0
  type_size (struct_type ms n) = members_size ms + 1
  type_size (list_type t n) = type_size t + 1

  pub members_size : Members → ℕ
  members_size no_members = 0
  members_size (member name t ms) = type_size t + members_size ms

-- the same where they lie in memory: of fields in memory of their own, of fields whoever has them, and of an element
abbrev pub own_fields_size : Members → ℕ
own_fields_size ms = 2 * members_size ms

abbrev pub fields_size : Members → ℕ
fields_size ms = 2 * members_size ms + 1

abbrev pub element_size : DataType → ℕ
element_size t = 2 * type_size t

abbrev mutual
  pub datum_size : Datum → ℕ
  datum_size null = 0
  datum_size (truth b) = 0
  datum_size (number z) = 0
  datum_size (text bytes) = 0
  datum_size (structure vs) = items_size vs + 1

  pub items_size : Items → ℕ
  items_size no_items = 0
  items_size (item v vs) = datum_size v + items_size vs
