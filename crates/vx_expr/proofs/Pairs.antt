-- Lists of named expressions, walked from left to right.
use Rattle.std.proofs.Common.{◌≡◌, ℕ, zero, suc, ◌+◌, ◌<◌, ◌≤◌, List, [], ◌∷◌, length, get_or, drop, refl, ap, arith}
use Rattle.std.proofs.lemmas.List.{drop_all, drop_more}
use Rattle.vx_expr.specs.declared.expressions.Expr.{Expr}
use Rattle.vx_expr.specs.Terms.{no_terms, named}
use Rattle.vx_expr.specs.Counts.{node_count, nodes_in}
use Rattle.vx_expr.specs.TermViews.{term, terms_of}

-- an expression is no larger than all of them together
pub nodes_at : (pairs : List (List ℕ × Expr)) (i : ℕ) (pair : List ℕ × Expr) → i < length pairs → pair ≡ get_or pairs i pair → node_count (term pair.1) ≤ nodes_in (terms_of pairs)
nodes_at [] i pair lt e = absurd (omega arith)
nodes_at (one ∷ pairs) zero pair lt e = omega (arith, ap (λ (p : List ℕ × Expr). node_count (term p.1)) e)
nodes_at (one ∷ pairs) (suc i) pair lt e = omega (arith, nodes_at pairs i pair (omega arith) e)

-- what is left from a place on, one step further
pub left_next : (pairs : List (List ℕ × Expr)) (i : ℕ) (pair : List ℕ × Expr) → i < length pairs → pair ≡ get_or pairs i pair → terms_of (drop i pairs) ≡ named pair.0 (term pair.1) (terms_of (drop (i + 1) pairs))
left_next pairs i pair lt e = rw (drop_more pairs i pair lt, ← e) refl

-- nothing is left at the end
pub left_none : (pairs : List (List ℕ × Expr)) (i : ℕ) → length pairs ≤ i → terms_of (drop i pairs) ≡ no_terms
left_none pairs i past = ap terms_of (drop_all i pairs past)
