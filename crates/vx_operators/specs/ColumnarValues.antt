-- What parts of an expression are worth at each row, wherever that is held.
use Rattle.std.specs.Prelude.{◌≡◌, ◌⊎◌, ℤ, pos, List, replicate, Some, None}
use Rattle.vx_types.specs.declared.dtypes.IntKind.{IntKind}
use Rattle.vx_types.specs.declared.dtypes.Nullability.TheVariants.{NonNullable}
use Rattle.vx_types.specs.Data.{DataType, bool_type, int_type, utf8_type, Datum, null, truth, number, text}
use Rattle.vx_types.specs.Fits.{IsInside}
use Rattle.vx_operators.specs.declared.columnar_values.Scalar.{Scalar}
use Rattle.vx_operators.specs.declared.columnar_values.Scalar.TheVariants.{Truth, Number, Text}
use Rattle.vx_operators.specs.declared.columnar_values.ColumnarValue.{ColumnarValue}
use Rattle.vx_operators.specs.declared.columnar_values.ColumnarValue.TheVariants.{Lent, Made, Same}

abbrev pub scalar_datum : Scalar → Datum
scalar_datum (Truth None) = null
scalar_datum (Truth (Some b)) = truth b
scalar_datum (Number kind None) = null
scalar_datum (Number kind (Some z)) = number z
scalar_datum (Text None) = null
scalar_datum (Text (Some t)) = text t.now

-- the number that it is, and 0 where it is none
abbrev pub whole_in : Scalar → ℤ
whole_in (Number kind (Some z)) = z
whole_in scalar = pos 0

-- a dtype that takes no nulls, whether or not the value is one
abbrev pub scalar_type : Scalar → DataType
scalar_type (Truth value) = bool_type NonNullable
scalar_type (Number kind value) = int_type kind NonNullable
scalar_type (Text value) = utf8_type NonNullable

-- a number lies inside its kind
abbrev pub IsScalar : Scalar → Type 0
IsScalar (Number kind (Some z)) = IsInside kind z
IsScalar scalar = Unit {0}

-- what the rows hold, without names and nulls
abbrev pub columnar_type : ColumnarValue → DataType
columnar_type (Lent array) = array.now.dtype
columnar_type (Made array) = array.dtype
columnar_type (Same scalar rows) = scalar_type scalar

-- the value of each row
abbrev pub columnar_rows : ColumnarValue → List Datum
columnar_rows (Lent array) = array.now.values
columnar_rows (Made array) = array.values
columnar_rows (Same scalar rows) = replicate rows (scalar_datum scalar)

abbrev pub IsColumnarValue : ColumnarValue → Type 0
IsColumnarValue (Lent array) = Unit {0}
IsColumnarValue (Made array) = Unit {0}
IsColumnarValue (Same scalar rows) = IsScalar scalar

-- truth values, or none
abbrev pub HoldsTruths : ColumnarValue → Type 0
HoldsTruths columnar = columnar_type columnar ≡ bool_type NonNullable

-- texts, or none
abbrev pub HoldsTexts : ColumnarValue → Type 0
HoldsTexts columnar = columnar_type columnar ≡ utf8_type NonNullable

-- numbers of the kind that lie inside it, or none
abbrev pub HoldsNumbers : IntKind → ColumnarValue → Type 0
HoldsNumbers kind columnar = (columnar_type columnar ≡ int_type kind NonNullable) × IsColumnarValue columnar

-- both hold truth values, or both texts, or both numbers of one kind
abbrev pub AreAlike : ColumnarValue → ColumnarValue → Type 0
AreAlike left right = (HoldsTruths left × HoldsTruths right) ⊎ ((HoldsTexts left × HoldsTexts right) ⊎ ((kind : IntKind) × (HoldsNumbers kind left × HoldsNumbers kind right)))

-- each row has a place of its own in an array, and none is told by one value for all
abbrev pub LiesInRows : ColumnarValue → Type 0
LiesInRows (Lent array) = Unit {0}
LiesInRows (Made array) = Unit {0}
LiesInRows (Same scalar rows) = ⊥
