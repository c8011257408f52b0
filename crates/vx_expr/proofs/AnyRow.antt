-- An expression that doesn't use the row's number is worth the same at each row.
use Rattle.std.proofs.Common.{◌≡◌, ℕ, suc, false, List, [], ◌∷◌, length, map, Option, refl, ap₂, ◌∙◌, arith}
use Rattle.std.proofs.lemmas.List.{length-map}
use Rattle.vx_base.specs.Data.{DataType, Datum}
use Rattle.vx_expr.specs.Bound.{Bound}
use Rattle.vx_expr.specs.Meaning.{meaning, meanings_in}
use Rattle.vx_expr.specs.Mentions.{uses_row_number}
use Rattle.vx_expr.specs.Rows.{no_bound, number_of_row, at_rows, worth, worth_of_each}
use Rattle.vx_expr.specs.Terms.{Term, root, literal, get_field, pack, negation, conjunction, disjunction, comparison, null_test, value_test, arithmetic, row_number, bound_test, Terms, no_terms, named}
use Rattle.vx_expr.proofs.RewrittenTypes.{or_left, or_right}

mutual
  pub worth_at_any_row : (t : DataType) (e : Term) (bound : ℕ) (v : Datum) (row other : ℕ) → uses_row_number e ≡ false → meaning t bound e v row ≡ meaning t bound e v other
  worth_at_any_row t root bound v row other h = refl
  worth_at_any_row t (literal w s) bound v row other h = refl
  worth_at_any_row t (get_field name e) bound v row other h = rw (worth_at_any_row t e bound v row other h) refl
  worth_at_any_row t (pack es) bound v row other h = rw (worth_in_any_row t es bound v row other h) refl
  worth_at_any_row t (negation e) bound v row other h = rw (worth_at_any_row t e bound v row other h) refl
  worth_at_any_row t (conjunction a b) bound v row other h = rw (worth_at_any_row t a bound v row other (or_left _ _ h), worth_at_any_row t b bound v row other (or_right (uses_row_number a) _ h)) refl
  worth_at_any_row t (disjunction a b) bound v row other h = rw (worth_at_any_row t a bound v row other (or_left _ _ h), worth_at_any_row t b bound v row other (or_right (uses_row_number a) _ h)) refl
  worth_at_any_row t (comparison op a b) bound v row other h = rw (worth_at_any_row t a bound v row other (or_left _ _ h), worth_at_any_row t b bound v row other (or_right (uses_row_number a) _ h)) refl
  worth_at_any_row t (null_test e) bound v row other h = rw (worth_at_any_row t e bound v row other h) refl
  worth_at_any_row t (value_test e) bound v row other h = rw (worth_at_any_row t e bound v row other h) refl
  worth_at_any_row t (arithmetic op a b) bound v row other h = rw (worth_at_any_row t a bound v row other (or_left _ _ h), worth_at_any_row t b bound v row other (or_right (uses_row_number a) _ h)) refl
  worth_at_any_row t row_number bound v row other h = absurd cc
  worth_at_any_row t (bound_test e) bound v row other h = rw (worth_at_any_row t e bound v row other h) refl

  worth_in_any_row : (t : DataType) (es : Terms) (bound : ℕ) (v : Datum) (row other : ℕ) → uses_row_number (pack es) ≡ false → meanings_in t bound es v row ≡ meanings_in t bound es v other
  worth_in_any_row t no_terms bound v row other h = refl
  worth_in_any_row t (named name e es) bound v row other h = rw (worth_at_any_row t e bound v row other (or_left _ _ h), worth_in_any_row t es bound v row other (or_right (uses_row_number e) _ h)) refl

at_any_rows : (a : Bound) (vs : List Datum) (ns : List ℕ) → uses_row_number a.term ≡ false → length ns ≡ length vs → at_rows a.root a.term vs ns ≡ worth_of_each a vs
at_any_rows a [] ns h len = refl
at_any_rows a (v ∷ vs) [] h len = absurd (omega arith)
at_any_rows a (v ∷ vs) (n ∷ ns) h len = ap₂ (λ (m : Option Datum) (ms : List (Option Datum)). m ∷ ms) (worth_at_any_row a.root a.term no_bound v n 0 h) (at_any_rows a vs ns h (omega arith))

-- so it is over any rows
pub worth_at_any_rows : (a : Bound) (vs ns : List Datum) → uses_row_number a.term ≡ false → length ns ≡ length vs → worth a vs ns ≡ worth_of_each a vs
worth_at_any_rows a vs ns h len = at_any_rows a vs (map number_of_row ns) h (omega (arith, length-map ns number_of_row))
