-- What an expression that was built anew is worth.
use Rattle.std.proofs.Common.{◌≡◌, ℕ, pos, false, refl}
use Rattle.vx_base.specs.Data.{DataType, Datum, number, structure, no_items, item}
use Rattle.vx_expr.specs.declared.rewriting.Leaves.TheVariants.{RowIdxAsRoot, OverRowIdx}
use Rattle.vx_expr.specs.declared.mentions.Input.TheVariants.{Root}
use Rattle.vx_expr.specs.Meaning.{meaning, meanings_in}
use Rattle.vx_expr.specs.Mentions.{mentions, mentions_in, uses_root}
use Rattle.vx_expr.specs.Rewritten.{rewritten, rewritten_in, with_row_number}
use Rattle.vx_expr.specs.Terms.{Term, root, literal, get_field, pack, negation, conjunction, disjunction, comparison, null_test, value_test, arithmetic, row_number, bound_test, Terms, no_terms, named}
use Rattle.vx_expr.specs.Types.{row_number_type}
use Rattle.vx_expr.proofs.RewrittenTypes.{or_left, or_right, type_as_root, type_over_row}

mutual
  pub worth_as_root : (t : DataType) (e : Term) (bound : ℕ) (v : Datum) (row other : ℕ) → uses_root e ≡ false → meaning row_number_type bound (rewritten RowIdxAsRoot e) (number (pos row)) other ≡ meaning t bound e v row
  worth_as_root t root bound v row other h = absurd cc
  worth_as_root t (literal w s) bound v row other h = refl
  worth_as_root t (get_field name e) bound v row other h = rw (worth_as_root t e bound v row other h, type_as_root t e h) refl
  worth_as_root t (pack es) bound v row other h = rw (worth_in_as_root t es bound v row other h) refl
  worth_as_root t (negation e) bound v row other h = rw (worth_as_root t e bound v row other h) refl
  worth_as_root t (conjunction a b) bound v row other h = rw (worth_as_root t a bound v row other (or_left _ _ h), worth_as_root t b bound v row other (or_right (mentions Root a) _ h)) refl
  worth_as_root t (disjunction a b) bound v row other h = rw (worth_as_root t a bound v row other (or_left _ _ h), worth_as_root t b bound v row other (or_right (mentions Root a) _ h)) refl
  worth_as_root t (comparison op a b) bound v row other h = rw (worth_as_root t a bound v row other (or_left _ _ h), worth_as_root t b bound v row other (or_right (mentions Root a) _ h)) refl
  worth_as_root t (null_test e) bound v row other h = rw (worth_as_root t e bound v row other h) refl
  worth_as_root t (value_test e) bound v row other h = rw (worth_as_root t e bound v row other h) refl
  worth_as_root t (arithmetic op a b) bound v row other h = rw (worth_as_root t a bound v row other (or_left _ _ h), worth_as_root t b bound v row other (or_right (mentions Root a) _ h), type_as_root t a (or_left _ _ h)) refl
  worth_as_root t row_number bound v row other h = refl
  worth_as_root t (bound_test e) bound v row other h = rw (worth_as_root t e bound v row other h) refl

  pub worth_in_as_root : (t : DataType) (es : Terms) (bound : ℕ) (v : Datum) (row other : ℕ) → mentions_in Root es ≡ false → meanings_in row_number_type bound (rewritten_in RowIdxAsRoot es) (number (pos row)) other ≡ meanings_in t bound es v row
  worth_in_as_root t no_terms bound v row other h = refl
  worth_in_as_root t (named name e es) bound v row other h = rw (worth_as_root t e bound v row other (or_left _ _ h), worth_in_as_root t es bound v row other (or_right (mentions Root e) _ h)) refl

-- the struct of a row's number and its root value
abbrev pub with_number : ℕ → Datum → Datum
with_number row v = structure (item (number (pos row)) (item v no_items))

mutual
  pub worth_over_row : (t : DataType) (e : Term) (bound : ℕ) (v : Datum) (row other : ℕ) → meaning (with_row_number t) bound (rewritten OverRowIdx e) (with_number row v) other ≡ meaning t bound e v row
  worth_over_row t root bound v row other = refl
  worth_over_row t (literal w s) bound v row other = refl
  worth_over_row t (get_field name e) bound v row other = rw (worth_over_row t e bound v row other, type_over_row t e) refl
  worth_over_row t (pack es) bound v row other = rw (worth_in_over_row t es bound v row other) refl
  worth_over_row t (negation e) bound v row other = rw (worth_over_row t e bound v row other) refl
  worth_over_row t (conjunction a b) bound v row other = rw (worth_over_row t a bound v row other, worth_over_row t b bound v row other) refl
  worth_over_row t (disjunction a b) bound v row other = rw (worth_over_row t a bound v row other, worth_over_row t b bound v row other) refl
  worth_over_row t (comparison op a b) bound v row other = rw (worth_over_row t a bound v row other, worth_over_row t b bound v row other) refl
  worth_over_row t (null_test e) bound v row other = rw (worth_over_row t e bound v row other) refl
  worth_over_row t (value_test e) bound v row other = rw (worth_over_row t e bound v row other) refl
  worth_over_row t (arithmetic op a b) bound v row other = rw (worth_over_row t a bound v row other, worth_over_row t b bound v row other, type_over_row t a) refl
  worth_over_row t row_number bound v row other = refl
  worth_over_row t (bound_test e) bound v row other = rw (worth_over_row t e bound v row other) refl

  pub worth_in_over_row : (t : DataType) (es : Terms) (bound : ℕ) (v : Datum) (row other : ℕ) → meanings_in (with_row_number t) bound (rewritten_in OverRowIdx es) (with_number row v) other ≡ meanings_in t bound es v row
  worth_in_over_row t no_terms bound v row other = refl
  worth_in_over_row t (named name e es) bound v row other = rw (worth_over_row t e bound v row other, worth_in_over_row t es bound v row other) refl
