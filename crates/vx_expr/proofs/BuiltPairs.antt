-- Lists of named expressions, built from left to right.
use Rattle.std.proofs.Common.{◌≡◌, ℕ, ◌+◌, ◌<◌, List, [], ◌∷◌, ◌++◌, length, get_or, take, refl, ap}
use Rattle.std.proofs.lemmas.List.{take_more}
use Rattle.vx_expr.specs.declared.expressions.Expr.{Expr}
use Rattle.vx_expr.specs.declared.rewriting.Leaves.{Leaves}
use Rattle.vx_expr.specs.Rewritten.{rewritten, rewritten_in}
use Rattle.vx_expr.specs.Terms.{Term, Terms, no_terms, named}
use Rattle.vx_expr.specs.TermViews.{term, terms_of}

-- one more at the end
abbrev one_more : Terms → List ℕ → Term → Terms
one_more no_terms name e = named name e no_terms
one_more (named first d es) name e = named first d (one_more es name e)

-- a pair added at the end is one more expression at the end
terms_of-one_more : (pairs : List (List ℕ × Expr)) (pair : List ℕ × Expr) → terms_of (pairs ++ pair ∷ []) ≡ one_more (terms_of pairs) pair.0 (term pair.1)
terms_of-one_more [] pair = refl
terms_of-one_more (first ∷ pairs) pair = ap (named first.0 (term first.1)) (terms_of-one_more pairs pair)

-- the last is built anew like the others
rewritten_in-one_more : (leaves : Leaves) (es : Terms) (name : List ℕ) (e : Term) → rewritten_in leaves (one_more es name e) ≡ one_more (rewritten_in leaves es) name (rewritten leaves e)
rewritten_in-one_more leaves no_terms name e = refl
rewritten_in-one_more leaves (named first d es) name e = ap (named first (rewritten leaves d)) (rewritten_in-one_more leaves es name e)

-- the named expressions built so far, and the next
pub rewritten_more : (leaves : Leaves) (built pairs : List (List ℕ × Expr)) (i : ℕ) (pair : List ℕ × Expr) (name : List ℕ) (expr : Expr) → i < length pairs → pair ≡ get_or pairs i pair → name ≡ pair.0 → term expr ≡ rewritten leaves (term pair.1)
    → terms_of built ≡ rewritten_in leaves (terms_of (take i pairs)) → terms_of (built ++ (name, expr) ∷ []) ≡ rewritten_in leaves (terms_of (take (i + 1) pairs))
rewritten_more leaves built pairs i pair name expr lt e names exprs so_far =
    let more = take_more pairs i pair lt in
    rw (more, ← e, terms_of-one_more built (name, expr), terms_of-one_more (take i pairs) pair, rewritten_in-one_more leaves (terms_of (take i pairs)) pair.0 (term pair.1), so_far, names, exprs) refl
