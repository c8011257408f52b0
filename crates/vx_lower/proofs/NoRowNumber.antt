-- An expression in which the row's number is replaced doesn't use it.
use Rattle.std.proofs.Common.{◌≡◌, Bool, false, refl}
use Rattle.std.specs.Prelude.{◌||◌}
use Rattle.vx_expr.specs.Bound.{Bound}
use Rattle.vx_expr.specs.Mentions.{uses_row_number}
use Rattle.vx_expr.specs.Rewritten.{row_number_as_root, over_row_number}
use Rattle.vx_expr.specs.Terms.{Term, root, literal, get_field, pack, negation, conjunction, disjunction, comparison, null_test, value_test, arithmetic, row_number, bound_test, Terms, no_terms, named}
use Rattle.vx_expr.specs.Types.{row_number_type}

abbrev bound_as : Term → Bound
bound_as e = record { term = e; root = row_number_type; dtype = row_number_type }

abbrev pub as_root : Term → Term
as_root e = (row_number_as_root (bound_as e)).term

abbrev pub over_both : Term → Term
over_both e = (over_row_number (bound_as e)).term

neither : (a b : Bool) → a ≡ false → b ≡ false → (a || b) ≡ false
neither a b p q = rw (p, q) refl

mutual
  pub none_as_root : (e : Term) → uses_row_number (as_root e) ≡ false
  none_as_root root = refl
  none_as_root (literal v t) = refl
  none_as_root (get_field name e) = none_as_root e
  none_as_root (pack es) = none_in_as_root es
  none_as_root (negation e) = none_as_root e
  none_as_root (conjunction a b) = neither _ _ (none_as_root a) (none_as_root b)
  none_as_root (disjunction a b) = neither _ _ (none_as_root a) (none_as_root b)
  none_as_root (comparison op a b) = neither _ _ (none_as_root a) (none_as_root b)
  none_as_root (null_test e) = none_as_root e
  none_as_root (value_test e) = none_as_root e
  none_as_root (arithmetic op a b) = neither _ _ (none_as_root a) (none_as_root b)
  none_as_root row_number = refl
  none_as_root (bound_test e) = none_as_root e

  none_in_as_root : (es : Terms) → uses_row_number (as_root (pack es)) ≡ false
  none_in_as_root no_terms = refl
  none_in_as_root (named name e es) = neither _ _ (none_as_root e) (none_in_as_root es)

mutual
  pub none_over_both : (e : Term) → uses_row_number (over_both e) ≡ false
  none_over_both root = refl
  none_over_both (literal v t) = refl
  none_over_both (get_field name e) = none_over_both e
  none_over_both (pack es) = none_in_over_both es
  none_over_both (negation e) = none_over_both e
  none_over_both (conjunction a b) = neither _ _ (none_over_both a) (none_over_both b)
  none_over_both (disjunction a b) = neither _ _ (none_over_both a) (none_over_both b)
  none_over_both (comparison op a b) = neither _ _ (none_over_both a) (none_over_both b)
  none_over_both (null_test e) = none_over_both e
  none_over_both (value_test e) = none_over_both e
  none_over_both (arithmetic op a b) = neither _ _ (none_over_both a) (none_over_both b)
  none_over_both row_number = refl
  none_over_both (bound_test e) = none_over_both e

  none_in_over_both : (es : Terms) → uses_row_number (over_both (pack es)) ≡ false
  none_in_over_both no_terms = refl
  none_in_over_both (named name e es) = neither _ _ (none_over_both e) (none_in_over_both es)
