-- Strict expressions on a null root.
use Rattle.std.proofs.Common.{◌≡◌, ℕ, Bool, true, false, ◌||◌, Option, Some, None, refl}
use Rattle.std.specs.Prelude.{IsTrue, IfSome, option_and_then}
use Rattle.vx_base.specs.Data.{DataType, Datum, null, truth, number, text, structure}
use Rattle.vx_operators.specs.declared.operators.CompareOp.{CompareOp}
use Rattle.vx_operators.specs.declared.operators.ArithOp.{ArithOp}
use Rattle.vx_expr.specs.Meaning.{meaning, is_strict, field_of, negated, bound_test_of, comparison_of, arithmetic_of}
use Rattle.vx_expr.specs.Terms.{Term, root, literal, get_field, pack, negation, conjunction, disjunction, comparison, null_test, value_test, arithmetic, row_number, bound_test}
use Rattle.vx_expr.specs.Types.{on_both, type_of}
use Rattle.vx_operators.proofs.LiftedRows.{null_beside}

-- null or a fault
abbrev pub IsNullOrFault : Option Datum → Type 0
IsNullOrFault o = IfSome o (λ w. w ≡ null)

-- what makes null of null makes null or a fault of null or a fault
pub stays_null : (f : Datum → Option Datum) (o : Option Datum) → f null ≡ Some null → IsNullOrFault o → IsNullOrFault (option_and_then f o)
stays_null f None e h = tt
stays_null f (Some w) e h = rw (h, e) refl

-- the same of two, where one is null
null_left : (op : CompareOp) (o p : Option Datum) → IsNullOrFault o → IsNullOrFault (on_both (comparison_of op) o p)
null_left op None p h = tt
null_left op (Some w) None h = tt
null_left op (Some w) (Some x) h = rw h refl

null_right : (op : CompareOp) (o p : Option Datum) → IsNullOrFault p → IsNullOrFault (on_both (comparison_of op) o p)
null_right op None p h = tt
null_right op (Some w) None h = tt
null_right op (Some w) (Some x) h = rw (h, null_beside op w) refl

null_first : (op : ArithOp) (s : Option DataType) (o p : Option Datum) → IsNullOrFault o → IsNullOrFault (on_both (arithmetic_of op s) o p)
null_first op s None p h = tt
null_first op s (Some w) None h = tt
null_first op s (Some w) (Some x) h = rw h refl

null_joined : (op : ArithOp) (s : Option DataType) (w : Datum) → arithmetic_of op s w null ≡ Some null
null_joined op s null = refl
null_joined op s (truth b) = refl
null_joined op s (number z) = refl
null_joined op s (text bytes) = refl
null_joined op s (structure vs) = refl

null_second : (op : ArithOp) (s : Option DataType) (o p : Option Datum) → IsNullOrFault p → IsNullOrFault (on_both (arithmetic_of op s) o p)
null_second op s None p h = tt
null_second op s (Some w) None h = tt
null_second op s (Some w) (Some x) h = rw (h, null_joined op s w) refl

-- one of two tests
pub either_true : {P : Type 0} (a b : Bool) → IsTrue (a || b) → (IsTrue a → P) → (IsTrue b → P) → P
either_true true b h f g = f h
either_true false b h f g = g h

pub strict_null : (t : DataType) (e : Term) (bound row : ℕ) → IsTrue (is_strict e) → IsNullOrFault (meaning t bound e null row)
strict_null t root bound row h = refl
strict_null t (literal v s) bound row h = absurd cc
strict_null t (get_field name e) bound row h = stays_null (field_of (type_of t e) name) (meaning t bound e null row) refl (strict_null t e bound row h)
strict_null t (pack es) bound row h = absurd cc
strict_null t (negation e) bound row h = stays_null negated (meaning t bound e null row) refl (strict_null t e bound row h)
strict_null t (conjunction a b) bound row h = absurd cc
strict_null t (disjunction a b) bound row h = absurd cc
strict_null t (comparison op a b) bound row h = either_true (is_strict a) (is_strict b) h (λ p. null_left op (meaning t bound a null row) (meaning t bound b null row) (strict_null t a bound row p)) (λ p. null_right op (meaning t bound a null row) (meaning t bound b null row) (strict_null t b bound row p))
strict_null t (null_test e) bound row h = absurd cc
strict_null t (value_test e) bound row h = absurd cc
strict_null t (arithmetic op a b) bound row h = either_true (is_strict a) (is_strict b) h (λ p. null_first op (type_of t a) (meaning t bound a null row) (meaning t bound b null row) (strict_null t a bound row p)) (λ p. null_second op (type_of t a) (meaning t bound a null row) (meaning t bound b null row) (strict_null t b bound row p))
strict_null t row_number bound row h = absurd cc
strict_null t (bound_test e) bound row h = stays_null (bound_test_of bound) (meaning t bound e null row) refl (strict_null t e bound row h)
