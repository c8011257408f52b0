-- An expression built anew with the same leaves is the same.
use Rattle.std.proofs.Common.{◌≡◌, refl, ap}
use Rattle.vx_expr.specs.declared.rewriting.Leaves.TheVariants.{Same}
use Rattle.vx_expr.specs.Rewritten.{rewritten, rewritten_in}
use Rattle.vx_expr.specs.Terms.{Term, root, literal, get_field, pack, negation, conjunction, disjunction, comparison, null_test, value_test, arithmetic, row_number, bound_test, Terms, no_terms, named}

mutual
  pub rewritten_same : (e : Term) → rewritten Same e ≡ e
  rewritten_same root = refl
  rewritten_same (literal v t) = refl
  rewritten_same (get_field name e) = ap (get_field name) (rewritten_same e)
  rewritten_same (pack es) = ap pack (rewritten_in_same es)
  rewritten_same (negation e) = ap negation (rewritten_same e)
  rewritten_same (conjunction a b) = λ i. conjunction (rewritten_same a i) (rewritten_same b i)
  rewritten_same (disjunction a b) = λ i. disjunction (rewritten_same a i) (rewritten_same b i)
  rewritten_same (comparison op a b) = λ i. comparison op (rewritten_same a i) (rewritten_same b i)
  rewritten_same (null_test e) = ap null_test (rewritten_same e)
  rewritten_same (value_test e) = ap value_test (rewritten_same e)
  rewritten_same (arithmetic op a b) = λ i. arithmetic op (rewritten_same a i) (rewritten_same b i)
  rewritten_same row_number = refl
  rewritten_same (bound_test e) = ap bound_test (rewritten_same e)

  pub rewritten_in_same : (es : Terms) → rewritten_in Same es ≡ es
  rewritten_in_same no_terms = refl
  rewritten_in_same (named name e es) = λ i. named name (rewritten_same e i) (rewritten_in_same es i)
