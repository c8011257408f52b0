-- a scalar of numbers.
use Rattle.std.proofs.Common.{◌≡◌, ℕ, ℤ, pos, true, false, map, replicate, Some, None, refl, ap, ◌∙◌}
use Rattle.vx_types.specs.declared.dtypes.IntKind.{IntKind}
use Rattle.vx_types.specs.declared.dtypes.Nullability.TheVariants.{NonNullable}
use Rattle.vx_types.specs.Data.{int_type, null, number}
use Rattle.vx_types.specs.Slots.{where_valid}
use Rattle.vx_operators.specs.declared.columnar_values.Scalar.{Scalar}
use Rattle.vx_operators.specs.declared.columnar_values.Scalar.TheVariants.{Truth, Number, Text}
use Rattle.vx_operators.specs.Operators.{is_null}
use Rattle.vx_operators.specs.ColumnarValues.{scalar_datum, scalar_type, whole_in}
use Rattle.vx_operators.proofs.SideRows.{numbers_same, nulls_same}

number_there : (s : Scalar) (kind : IntKind) → scalar_type s ≡ int_type kind NonNullable → is_null (scalar_datum s) ≡ false → number (whole_in s) ≡ scalar_datum s
number_there (Truth value) kind e h = absurd cc
number_there (Number k None) kind e h = absurd cc
number_there (Number k (Some z)) kind e h = refl
number_there (Text value) kind e h = absurd cc

null_there : (s : Scalar) → is_null (scalar_datum s) ≡ true → null ≡ scalar_datum s
null_there (Truth None) h = refl
null_there (Truth (Some b)) h = absurd cc
null_there (Number k None) h = refl
null_there (Number k (Some z)) h = absurd cc
null_there (Text None) h = refl
null_there (Text (Some t)) h = absurd cc

-- the same at each of so many rows
pub number_rows : (s : Scalar) (kind : IntKind) (rows : ℕ) (z : ℤ) → z ≡ whole_in s → scalar_type s ≡ int_type kind NonNullable → is_null (scalar_datum s) ≡ false → where_valid (replicate rows true) (map number (replicate rows z)) ≡ replicate rows (scalar_datum s)
number_rows s kind rows z is e h = numbers_same rows z ∙ ap (replicate rows) (ap number is ∙ number_there s kind e h)

pub null_rows : (s : Scalar) (rows : ℕ) → is_null (scalar_datum s) ≡ true → where_valid (replicate rows false) (map number (replicate rows (pos 0))) ≡ replicate rows (scalar_datum s)
null_rows s rows h = nulls_same rows (pos 0) ∙ ap (replicate rows) (null_there s h)
