-- The dtype of an expression that was built anew.
use Rattle.std.proofs.Common.{◌≡◌, Bool, true, false, ◌||◌, ◌∷◌, refl, ap}
use Rattle.vx_base.specs.Data.{DataType}
use Rattle.vx_expr.specs.declared.rewriting.Leaves.{Leaves}
use Rattle.vx_expr.specs.declared.rewriting.Leaves.TheVariants.{RowIdxAsRoot, OverRowIdx}
use Rattle.vx_expr.specs.Mentions.{mentions, mentions_in, uses_root}
use Rattle.vx_expr.specs.declared.mentions.Input.TheVariants.{Root}
use Rattle.vx_expr.specs.Rewritten.{rewritten, rewritten_in, with_row_number}
use Rattle.vx_expr.specs.Terms.{Term, root, literal, get_field, pack, negation, conjunction, disjunction, comparison, null_test, value_test, arithmetic, row_number, bound_test, Terms, no_terms, named}
use Rattle.vx_expr.specs.Types.{type_of, types_in, names_in, row_number_type}

-- neither of two
pub or_left : (a b : Bool) → (a || b) ≡ false → a ≡ false
or_left false b e = refl
or_left true b e = e

pub or_right : (a b : Bool) → (a || b) ≡ false → b ≡ false
or_right false b e = e
or_right true b e = absurd cc

pub names_rewritten : (leaves : Leaves) (es : Terms) → names_in (rewritten_in leaves es) ≡ names_in es
names_rewritten leaves no_terms = refl
names_rewritten leaves (named name e es) = ap (λ ns. name ∷ ns) (names_rewritten leaves es)

mutual
  pub type_as_root : (t : DataType) (e : Term) → uses_root e ≡ false → type_of row_number_type (rewritten RowIdxAsRoot e) ≡ type_of t e
  type_as_root t root h = absurd cc
  type_as_root t (literal v s) h = refl
  type_as_root t (get_field name e) h = rw (type_as_root t e h) refl
  type_as_root t (pack es) h = rw (types_as_root t es h, names_rewritten RowIdxAsRoot es) refl
  type_as_root t (negation e) h = rw (type_as_root t e h) refl
  type_as_root t (conjunction a b) h = rw (type_as_root t a (or_left _ _ h), type_as_root t b (or_right (mentions Root a) _ h)) refl
  type_as_root t (disjunction a b) h = rw (type_as_root t a (or_left _ _ h), type_as_root t b (or_right (mentions Root a) _ h)) refl
  type_as_root t (comparison op a b) h = rw (type_as_root t a (or_left _ _ h), type_as_root t b (or_right (mentions Root a) _ h)) refl
  type_as_root t (null_test e) h = rw (type_as_root t e h) refl
  type_as_root t (value_test e) h = rw (type_as_root t e h) refl
  type_as_root t (arithmetic op a b) h = rw (type_as_root t a (or_left _ _ h), type_as_root t b (or_right (mentions Root a) _ h)) refl
  type_as_root t row_number h = refl
  type_as_root t (bound_test e) h = rw (type_as_root t e h) refl

  pub types_as_root : (t : DataType) (es : Terms) → mentions_in Root es ≡ false → types_in row_number_type (rewritten_in RowIdxAsRoot es) ≡ types_in t es
  types_as_root t no_terms h = refl
  types_as_root t (named name e es) h = rw (type_as_root t e (or_left _ _ h), types_as_root t es (or_right (mentions Root e) _ h)) refl

mutual
  pub type_over_row : (t : DataType) (e : Term) → type_of (with_row_number t) (rewritten OverRowIdx e) ≡ type_of t e
  type_over_row t root = refl
  type_over_row t (literal v s) = refl
  type_over_row t (get_field name e) = rw (type_over_row t e) refl
  type_over_row t (pack es) = rw (types_over_row t es, names_rewritten OverRowIdx es) refl
  type_over_row t (negation e) = rw (type_over_row t e) refl
  type_over_row t (conjunction a b) = rw (type_over_row t a, type_over_row t b) refl
  type_over_row t (disjunction a b) = rw (type_over_row t a, type_over_row t b) refl
  type_over_row t (comparison op a b) = rw (type_over_row t a, type_over_row t b) refl
  type_over_row t (null_test e) = rw (type_over_row t e) refl
  type_over_row t (value_test e) = rw (type_over_row t e) refl
  type_over_row t (arithmetic op a b) = rw (type_over_row t a, type_over_row t b) refl
  type_over_row t row_number = refl
  type_over_row t (bound_test e) = rw (type_over_row t e) refl

  pub types_over_row : (t : DataType) (es : Terms) → types_in (with_row_number t) (rewritten_in OverRowIdx es) ≡ types_in t es
  types_over_row t no_terms = refl
  types_over_row t (named name e es) = rw (type_over_row t e, types_over_row t es) refl
