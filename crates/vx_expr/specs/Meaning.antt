-- What an expression is worth at a row: at a root value, a row number and a bound. None is a fault,
-- which is apart from null.
use Rattle.std.specs.Prelude.{ℕ, pos, Bool, true, false, ◌||◌, if◌then◌else◌, List, Option, Some, None, option_and_then}
use Rattle.std.specs.Str.{bytes_eq}
use Rattle.vx_base.specs.Data.{DataType, struct_type, Members, no_members, member, Datum, null, number, structure, Items, no_items, item}
use Rattle.vx_expr.specs.Terms.{Term, root, literal, get_field, pack, negation, conjunction, disjunction, comparison, null_test, value_test, arithmetic, row_number, bound_test, Terms, no_terms, named}
use Rattle.vx_expr.specs.Types.{on_both, type_of}
pub use Rattle.vx_operators.specs.Operators.{negated, and_of, or_of, holds, comparison_of, is_null, null_test_of, value_test_of, quotient, exact, if_inside, arithmetic_of, bound_test_of}

-- ---- the rule of each form

-- the value of the first of the members that has the name
abbrev pub item_in : Members → List ℕ → Items → Option Datum
item_in no_members name vs = None
item_in (member other t ms) name no_items = None
item_in (member other t ms) name (item v vs) = if bytes_eq other name then Some v else item_in ms name vs

-- a null struct has null fields
abbrev pub field_of : Option DataType → List ℕ → Datum → Option Datum
field_of t name null = Some null
field_of (Some (struct_type ms n)) name (structure vs) = item_in ms name vs
field_of t name v = None

-- ---- expressions

abbrev pub one_more_item : Datum → Items → Option Items
one_more_item v vs = Some (item v vs)

abbrev pub struct_of : Items → Option Datum
struct_of vs = Some (structure vs)

abbrev mutual
  pub meaning : DataType → ℕ → Term → Datum → ℕ → Option Datum
  meaning t bound root v row = Some v
  meaning t bound (literal w s) v row = Some w
  meaning t bound (get_field name e) v row = option_and_then (field_of (type_of t e) name) (meaning t bound e v row)
  meaning t bound (pack es) v row = option_and_then struct_of (meanings_in t bound es v row)
  meaning t bound (negation e) v row = option_and_then negated (meaning t bound e v row)
  meaning t bound (conjunction a b) v row = on_both and_of (meaning t bound a v row) (meaning t bound b v row)
  meaning t bound (disjunction a b) v row = on_both or_of (meaning t bound a v row) (meaning t bound b v row)
  meaning t bound (comparison op a b) v row = on_both (comparison_of op) (meaning t bound a v row) (meaning t bound b v row)
  meaning t bound (null_test e) v row = option_and_then null_test_of (meaning t bound e v row)
  meaning t bound (value_test e) v row = option_and_then value_test_of (meaning t bound e v row)
  meaning t bound (arithmetic op a b) v row = on_both (arithmetic_of op (type_of t a)) (meaning t bound a v row) (meaning t bound b v row)
  meaning t bound row_number v row = Some (number (pos row))
  meaning t bound (bound_test e) v row = option_and_then (bound_test_of bound) (meaning t bound e v row)

  pub meanings_in : DataType → ℕ → Terms → Datum → ℕ → Option Items
  meanings_in t bound no_terms v row = Some no_items
  meanings_in t bound (named name e es) v row = on_both one_more_item (meaning t bound e v row) (meanings_in t bound es v row)

-- ---- strictness

-- on a null root a strict expression is null or a fault
abbrev pub is_strict : Term → Bool
is_strict root = true
is_strict (get_field name e) = is_strict e
is_strict (negation e) = is_strict e
is_strict (comparison op a b) = is_strict a || is_strict b
is_strict (arithmetic op a b) = is_strict a || is_strict b
is_strict (bound_test e) = is_strict e
is_strict e = false
