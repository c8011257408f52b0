-- What is done with the values of the parts of an expression.
use Rattle.std.specs.Prelude.{ℕ, ◌≤◌, List, [], ◌∷◌, ◌++◌, length, map, take, slice_get, Option, Some, None, option_and_then}
use Rattle.std.specs.List.{AllByRecursion}
use Rattle.std.specs.Prelude.{Vec}
use Rattle.std.specs.Global.{Global}
use Rattle.vx_base.specs.declared.values.Value.{Value}
use Rattle.vx_base.specs.declared.dtypes.IntKind.{IntKind}
use Rattle.vx_base.specs.declared.dtypes.Nullability.TheVariants.{NonNullable}
use Rattle.vx_base.specs.Fits.{Fits}
use Rattle.vx_base.specs.Data.{DataType, int_type, Datum, null, truth, number, text, structure}
use Rattle.vx_base.specs.ValueViews.{datum, data_in, items_of}
use Rattle.vx_expr.specs.declared.row_values.RowValue.{RowValue}
use Rattle.vx_expr.specs.declared.row_values.RowValue.TheVariants as row_values
use Rattle.vx_expr.specs.declared.evaluated.Evaluated.{Evaluated}
use Rattle.vx_expr.specs.declared.evaluated.Evaluated.TheVariants as evaluated
use Rattle.vx_expr.specs.declared.evaluation.Rows.{Rows}
use Rattle.vx_expr.specs.declared.row_values.Seen.{Seen}
use Rattle.vx_expr.specs.declared.row_values.Seen.TheVariants as seen
use Rattle.vx_expr.specs.declared.steps.OneStep.{OneStep}
use Rattle.vx_expr.specs.declared.steps.OneStep.TheVariants.{Field, Not, IsNull, IsNotNull, AtMostBound}
use Rattle.vx_expr.specs.declared.steps.TwoStep.{TwoStep}
use Rattle.vx_expr.specs.declared.steps.TwoStep.TheVariants.{And, Or, Compare, Arith}
use Rattle.vx_expr.specs.Meaning.{meaning, negated, and_of, or_of, comparison_of, arithmetic_of, null_test_of, value_test_of, bound_test_of}
use Rattle.vx_expr.specs.Terms.{Term, get_field, negation, conjunction, disjunction, comparison, null_test, value_test, arithmetic, bound_test}
use Rattle.vx_expr.specs.Types.{on_both, row_number_type}
use Rattle.vx_expr.specs.Rows.{no_bound, number_of_row}
use Rattle.vx_expr.specs.Packs.{rows_along, struct_row}
use Rattle.vx_expr.specs.declared.packing.Packing.{Packing}
use Rattle.vx_expr.specs.declared.packing.Packing.TheVariants as packing
use Rattle.vx_operators.specs.ColumnarValues.{columnar_rows}

-- the value that a row value stands for
abbrev pub row_value_datum : RowValue → Datum
row_value_datum row_values.Null = null
row_value_datum (row_values.Truth b) = truth b
row_value_datum (row_values.Number z) = number z
row_value_datum (row_values.Text characters) = text characters.now
row_value_datum (row_values.Borrowed value) = datum value.now
row_value_datum (row_values.Owned value) = datum value

-- the value of each row
abbrev pub evaluated_rows : Evaluated → List Datum
evaluated_rows (evaluated.Packed columnar) = columnar_rows columnar
evaluated_rows (evaluated.Structs rows columnar_values) = map struct_row (rows_along rows (map columnar_rows columnar_values.items))
evaluated_rows (evaluated.RowValues all_row_values) = map row_value_datum all_row_values.items

-- the root's value of each row that counts, and its number
abbrev pub rows_values : Rows → List Datum
rows_values rows = take rows.count rows.root.now.values

abbrev pub rows_numbers : Rows → List ℕ
rows_numbers rows = map number_of_row (take rows.count rows.numbers.now.values)

-- there are as many rows, and each has a number
pub record AreRows (rows : Rows) : Type 0 where
  pub inside : rows.count ≤ length rows.root.now.values
  pub counted : rows.count ≤ length rows.numbers.now.values
  pub numbered : AllByRecursion (Fits row_number_type) rows.numbers.now.values

-- the same of a row value as it is looked at
abbrev pub seen_datum : Seen → Datum
seen_datum seen.Null = null
seen_datum (seen.Truth b) = truth b
seen_datum (seen.Number z) = number z
seen_datum (seen.Text characters) = text characters.now
seen_datum (seen.Struct values) = structure (items_of values.now)

-- the item at a place of a struct; a null struct has null fields
abbrev pub item_at : Option ℕ → Datum → Option Datum
item_at place null = Some null
item_at (Some place) (structure vs) = slice_get (data_in vs) place
item_at place v = None

-- the dtype of numbers of a kind
abbrev pub number_type : Option IntKind → Option DataType
number_type None = None
number_type (Some kind) = Some (int_type kind NonNullable)

abbrev pub one_step : OneStep → Datum → Option Datum
one_step (Field place) v = item_at place v
one_step Not v = negated v
one_step IsNull v = null_test_of v
one_step IsNotNull v = value_test_of v
one_step AtMostBound v = bound_test_of no_bound v

abbrev pub two_step : TwoStep → Datum → Datum → Option Datum
two_step And v w = and_of v w
two_step Or v w = or_of v w
two_step (Compare op) v w = comparison_of op v w
two_step (Arith op kind) v w = arithmetic_of op (number_type kind) v w

-- the part of an expression of one part, and the two parts of one of two
abbrev pub part_of : Term → Term
part_of (get_field name e) = e
part_of (negation e) = e
part_of (null_test e) = e
part_of (value_test e) = e
part_of (bound_test e) = e
part_of e = e

abbrev pub left_of : Term → Term
left_of (conjunction a b) = a
left_of (disjunction a b) = a
left_of (comparison op a b) = a
left_of (arithmetic op a b) = a
left_of e = e

abbrev pub right_of : Term → Term
right_of (conjunction a b) = b
right_of (disjunction a b) = b
right_of (comparison op a b) = b
right_of (arithmetic op a b) = b
right_of e = e

-- the values of a row, one for each name so far
abbrev pub row_data : Vec Value Global → List Datum
row_data row = map datum row.items

abbrev pub appended : List Datum → Datum → List Datum
appended row v = row ++ v ∷ []

-- the values of each row of what is packed so far
abbrev pub packing_rows : Packing → List (List Datum)
packing_rows (packing.ColumnarValues rows columnar_values) = rows_along rows (map columnar_rows columnar_values.items)
packing_rows (packing.Rows rows) = map row_data rows.items

-- the kind of a dtype's numbers
abbrev pub kind_in : Option DataType → Option IntKind
kind_in (Some (int_type kind n)) = Some kind
kind_in t = None

-- what a step makes of the value of an expression at a row, and of the values of two
abbrev pub one_made : OneStep → DataType → Term → Datum → ℕ → Option Datum
one_made step t e v n = option_and_then (one_step step) (meaning t no_bound e v n)

abbrev pub pair_made : TwoStep → DataType → Term → Term → Datum → ℕ → Option Datum
pair_made step t a b v n = on_both (two_step step) (meaning t no_bound a v n) (meaning t no_bound b v n)
