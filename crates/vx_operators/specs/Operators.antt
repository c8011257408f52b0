-- What each operator makes of values. None is a fault, which is apart from null.
use Rattle.std.specs.Prelude.{ℕ, zero, ℤ, pos, ◌+ℤ◌, ◌-ℤ◌, ◌*ℤ◌, int_le, int_div, Bool, true, false, not, ◌&&◌, ◌||◌, if◌then◌else◌, Option, Some, None, option_and_then}
use Rattle.std.specs.declared.cmp.Ordering.{Ordering}
use Rattle.std.specs.declared.cmp.Ordering.TheVariants.{Less, Equal, Greater}
use Rattle.std.specs.Ordering.{nat_cmp, int_cmp, bool_cmp}
use Rattle.std.specs.Cmp.Lexicographic.{slice_cmp}
use Rattle.vx_types.specs.declared.dtypes.IntKind.{IntKind}
use Rattle.vx_types.specs.Data.{DataType, int_type, Datum, null, truth, number, text, structure}
use Rattle.vx_types.specs.Fits.{least_of, greatest_of}
use Rattle.vx_operators.specs.declared.operators.CompareOp.{CompareOp}
use Rattle.vx_operators.specs.declared.operators.CompareOp.TheVariants.{Eq, Ne, Lt, Le, Gt, Ge}
use Rattle.vx_operators.specs.declared.operators.ArithOp.{ArithOp}
use Rattle.vx_operators.specs.declared.operators.ArithOp.TheVariants.{Add, Sub, Mul, Div}

abbrev pub negated : Datum → Option Datum
negated null = Some null
negated (truth b) = Some (truth (not b))
negated v = None

-- false where one is false, else null where one is null
abbrev pub and_of : Datum → Datum → Option Datum
and_of (truth a) (truth b) = Some (truth (a && b))
and_of (truth false) null = Some (truth false)
and_of (truth true) null = Some null
and_of null (truth false) = Some (truth false)
and_of null (truth true) = Some null
and_of null null = Some null
and_of v w = None

-- true where one is true, else null where one is null
abbrev pub or_of : Datum → Datum → Option Datum
or_of (truth a) (truth b) = Some (truth (a || b))
or_of (truth true) null = Some (truth true)
or_of (truth false) null = Some null
or_of null (truth true) = Some (truth true)
or_of null (truth false) = Some null
or_of null null = Some null
or_of v w = None

-- whether an order is one that the operator asks for
abbrev pub holds : CompareOp → Ordering → Bool
holds Eq Equal = true
holds Ne Less = true
holds Ne Greater = true
holds Lt Less = true
holds Le Less = true
holds Le Equal = true
holds Gt Greater = true
holds Ge Greater = true
holds Ge Equal = true
holds op order = false

-- null where one is null; false stands before true, numbers by their size, texts by their bytes
abbrev pub comparison_of : CompareOp → Datum → Datum → Option Datum
comparison_of op null w = Some null
comparison_of op (truth a) null = Some null
comparison_of op (truth a) (truth b) = Some (truth (holds op (bool_cmp a b)))
comparison_of op (number x) null = Some null
comparison_of op (number x) (number y) = Some (truth (holds op (int_cmp x y)))
comparison_of op (text a) null = Some null
comparison_of op (text a) (text b) = Some (truth (holds op (slice_cmp nat_cmp a b)))
comparison_of op (structure vs) null = Some null
comparison_of op v w = None

abbrev pub is_null : Datum → Bool
is_null null = true
is_null v = false

abbrev pub null_test_of : Datum → Option Datum
null_test_of v = Some (truth (is_null v))

abbrev pub value_test_of : Datum → Option Datum
value_test_of v = Some (truth (not (is_null v)))

-- the exact result, where there is one: division cuts towards zero
abbrev pub quotient : ℤ → ℤ → Option ℤ
quotient x (pos zero) = None
quotient x y = Some (int_div x y)

abbrev pub exact : ArithOp → ℤ → ℤ → Option ℤ
exact Add x y = Some (x +ℤ y)
exact Sub x y = Some (x -ℤ y)
exact Mul x y = Some (x *ℤ y)
exact Div x y = quotient x y

abbrev pub if_inside : IntKind → ℤ → Option Datum
if_inside kind z = if int_le (least_of kind) z && int_le z (greatest_of kind) then Some (number z) else None

-- null where one is null; a result outside the kind is a fault
abbrev pub arithmetic_of : ArithOp → Option DataType → Datum → Datum → Option Datum
arithmetic_of op t null w = Some null
arithmetic_of op t (number x) null = Some null
arithmetic_of op (Some (int_type kind n)) (number x) (number y) = option_and_then (if_inside kind) (exact op x y)
arithmetic_of op t (truth b) null = Some null
arithmetic_of op t (text bytes) null = Some null
arithmetic_of op t (structure vs) null = Some null
arithmetic_of op t v w = None

abbrev pub bound_test_of : ℕ → Datum → Option Datum
bound_test_of bound null = Some null
bound_test_of bound (number z) = Some (truth (int_le z (pos bound)))
bound_test_of bound v = None
