-- Arrays as they are looked at.
use Rattle.std.specs.Prelude.{◌≡◌, false, List, length, map}
use Rattle.vx_types.specs.declared.dtypes.Nullability.TheVariants.{NonNullable}
use Rattle.vx_types.specs.Data.{DataType, bool_type, int_type, utf8_type, struct_type, list_type, Datum, truth, number, text, structure}
use Rattle.vx_types.specs.Slots.{where_valid}
use Rattle.vx_masks.specs.Rows.{NullsHold}
use Rattle.vx_arrays.specs.declared.arrays.views.ArrayView.{ArrayView}
use Rattle.vx_arrays.specs.declared.arrays.views.ArrayView.TheVariants as views
use Rattle.vx_arrays.specs.Numbers.{kind_in, numbers_in}

abbrev pub view_type : ArrayView → DataType
view_type (views.Truths valid truths) = bool_type NonNullable
view_type (views.Numbers valid numbers) = int_type (kind_in numbers.now) NonNullable
view_type (views.Texts valid texts) = utf8_type NonNullable
view_type (views.Structs valid structs) = struct_type structs.now.members NonNullable
view_type (views.Lists valid blanks) = list_type (bool_type NonNullable) NonNullable

-- the value of each row
abbrev pub view_values : ArrayView → List Datum
view_values (views.Truths valid truths) = where_valid valid.now (map truth truths.now)
view_values (views.Numbers valid numbers) = where_valid valid.now (map number (numbers_in numbers.now))
view_values (views.Texts valid texts) = where_valid valid.now (map text texts.now)
view_values (views.Structs valid structs) = where_valid valid.now (map structure structs.now.rows)
view_values (views.Lists valid blanks) = where_valid valid.now (map truth blanks.now)

-- each row is valid or not; a truth value that isn't valid is false
abbrev pub IsArrayView : ArrayView → Type 0
IsArrayView (views.Truths valid truths) = (length valid.now ≡ length truths.now) × NullsHold false valid.now truths.now
IsArrayView (views.Numbers valid numbers) = length valid.now ≡ length (numbers_in numbers.now)
IsArrayView (views.Texts valid texts) = length valid.now ≡ length texts.now
IsArrayView (views.Structs valid structs) = length valid.now ≡ length structs.now.rows
IsArrayView (views.Lists valid blanks) = length valid.now ≡ length blanks.now
