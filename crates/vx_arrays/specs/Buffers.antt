-- What the rows of an array hold, valid or not, as data.
use Rattle.std.specs.Prelude.{◌≡◌, pos, true, false, Bool, List, [], length, map}
use Rattle.vx_types.specs.declared.dtypes.Nullability.{Nullability}
use Rattle.vx_types.specs.Fits.{TakesNull}
use Rattle.vx_types.specs.declared.dtypes.Nullability.TheVariants.{NonNullable}
use Rattle.vx_types.specs.Data.{DataType, bool_type, int_type, utf8_type, struct_type, list_type, Members, no_members, member, Datum, null, truth, number, text, structure, Items, no_items, item}
use Rattle.vx_types.specs.Columns.{ColumnData}
use Rattle.vx_types.specs.Slots.{where_valid}
use Rattle.vx_arrays.specs.declared.arrays.Buffers.{Buffers}
use Rattle.vx_arrays.specs.declared.arrays.Buffers.TheVariants as variants
use Rattle.vx_arrays.specs.Numbers.{kind_in, numbers_in}
use Rattle.vx_masks.specs.Rows.{NullsHold}

-- what buffers tell of a dtype: neither names, nor nulls, nor what a list's elements are
abbrev mutual
  pub bare : DataType → DataType
  bare (bool_type n) = bool_type NonNullable
  bare (int_type kind n) = int_type kind NonNullable
  bare (utf8_type n) = utf8_type NonNullable
  bare (struct_type ms n) = struct_type (bare_members ms) NonNullable
  bare (list_type t n) = list_type (bool_type NonNullable) NonNullable

  pub bare_members : Members → Members
  bare_members no_members = no_members
  bare_members (member name t ms) = member [] (bare t) (bare_members ms)

abbrev pub buffer_type : Buffers → DataType
buffer_type (variants.Truths bits) = bool_type NonNullable
buffer_type (variants.Numbers numbers) = int_type (kind_in numbers) NonNullable
buffer_type (variants.Texts texts) = utf8_type NonNullable
buffer_type (variants.Structs structs) = struct_type structs.members NonNullable
buffer_type (variants.Lists bits) = list_type (bool_type NonNullable) NonNullable

-- a list's buffers hold what no list dtype takes
abbrev pub buffer_values : Buffers → List Datum
buffer_values (variants.Truths bits) = map truth bits
buffer_values (variants.Numbers numbers) = map number (numbers_in numbers)
buffer_values (variants.Texts texts) = map text texts
buffer_values (variants.Structs structs) = map structure structs.rows
buffer_values (variants.Lists bits) = map truth bits

abbrev pub nulls_for : Members → Items
nulls_for no_members = no_items
nulls_for (member name t ms) = item null (nulls_for ms)

-- what stands in a slot that nothing was put in
abbrev pub blank_in : DataType → Datum
blank_in (bool_type n) = truth false
blank_in (int_type kind n) = number (pos 0)
blank_in (utf8_type n) = text []
blank_in (struct_type ms n) = structure (nulls_for ms)
blank_in (list_type t n) = truth false

-- a leaf's row that is not valid holds the blank; the arrays of a struct hold what they may
abbrev pub LeafNullsHold : DataType → List Bool → List Datum → Type 0
LeafNullsHold (struct_type ms n) mask values = Unit {0}
LeafNullsHold t mask values = NullsHold (blank_in t) mask values

-- only a dtype that takes nulls has rows that are not valid
abbrev pub Takes : Nullability → Bool → Type 0
Takes n true = Unit {0}
Takes n false = TakesNull n

-- which rows are valid, and what all rows hold
pub record IsArray (mask : List Bool) (buffers : Buffers) : Type 0 where
  pub rows : length mask ≡ length (buffer_values buffers)
  pub held : LeafNullsHold (buffer_type buffers) mask (buffer_values buffers)

abbrev pub array_column : List Bool → Buffers → ColumnData
array_column mask buffers = record { dtype = buffer_type buffers; values = where_valid mask (buffer_values buffers) }
