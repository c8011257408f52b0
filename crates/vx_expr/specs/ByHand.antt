-- Expressions and rows that were written by hand, on which the definitions are checked.
use Rattle.std.specs.Prelude.{codes, ℤ, pos, negsuc, false}
use Rattle.vx_base.specs.declared.dtypes.IntKind.TheVariants.{I64}
use Rattle.vx_base.specs.declared.dtypes.Nullability.TheVariants.{NonNullable, Nullable}
use Rattle.vx_base.specs.Data.{DataType, bool_type, int_type, struct_type, no_members, member, Datum, null, truth, number, structure, no_items, item}
use Rattle.vx_operators.specs.declared.operators.CompareOp.TheVariants.{Eq}
use Rattle.vx_operators.specs.declared.operators.ArithOp.TheVariants.{Div}
use Rattle.vx_expr.specs.Bound.{Bound}
use Rattle.vx_expr.specs.Terms.{Term, root, literal, get_field, negation, conjunction, comparison, arithmetic}

-- {a=i64, p=bool?}?
abbrev pub pairs : DataType
pairs = struct_type (member (codes "a") (int_type I64 NonNullable) (member (codes "p") (bool_type Nullable) no_members)) Nullable

-- {z,null}
abbrev pub pair : ℤ → Datum
pair z = structure (item (number z) (item null no_items))

-- z:i64
abbrev pub of_number : ℤ → Term
of_number z = literal (number z) (int_type I64 NonNullable)

-- v:bool?
abbrev pub of_truth : Datum → Term
of_truth v = literal v (bool_type Nullable)

-- $.a
abbrev pub field_a : Term
field_a = get_field (codes "a") root

-- $.p
abbrev pub field_p : Term
field_p = get_field (codes "p") root

-- (10 / $.a)
abbrev pub ten_by_a : Term
ten_by_a = arithmetic Div (of_number (pos 10)) field_a

-- (-7 / 2)
abbrev pub cut : Term
cut = arithmetic Div (of_number (negsuc 6)) (of_number (pos 2))

-- (false and null)
abbrev pub false_and_null : Term
false_and_null = conjunction (of_truth (truth false)) (of_truth null)

-- (false and ((10 / $.a) = 1))
abbrev pub false_and_quotient : Term
false_and_quotient = conjunction (of_truth (truth false)) (comparison Eq ten_by_a (of_number (pos 1)))

-- not(1)
abbrev pub not_one : Term
not_one = negation (of_number (pos 1))

-- ($.A and not(1))
abbrev pub two_unfit : Term
two_unfit = conjunction (get_field (codes "A") root) not_one

-- ($.p and not(1))
abbrev pub right_unfit : Term
right_unfit = conjunction field_p not_one

-- 10 / $.a over the pairs
abbrev pub bound_ten_by_a : Bound
bound_ten_by_a = record { term = ten_by_a; root = pairs; dtype = int_type I64 Nullable }
