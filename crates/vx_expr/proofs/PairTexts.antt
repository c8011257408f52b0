-- The text of named expressions, part by part.
use Rattle.std.proofs.Common.{◌≡◌, ℕ, zero, suc, ◌+◌, ◌<◌, ◌≤◌, List, [], ◌∷◌, ◌++◌, length, get_or, drop, refl, sym, ap, ◌∙◌, add-one}
use Rattle.std.proofs.lemmas.List.{append-nil, drop_all, drop_more}
use Rattle.vx_base.specs.TypeText.{separator}
use Rattle.vx_base.proofs.FieldTexts.{joined}
use Rattle.vx_expr.specs.declared.expressions.Expr.{Expr}
use Rattle.vx_expr.specs.Terms.{Terms}
use Rattle.vx_expr.specs.TermText.{term_text, terms_text, more_terms}
use Rattle.vx_expr.specs.TermViews.{term, terms_of}

-- what is left to write after that many parts
abbrev pub left_text : ℕ → List (List ℕ × Expr) → List ℕ
left_text zero pairs = terms_text (terms_of pairs)
left_text (suc n) pairs = more_terms (terms_of pairs)

left_cons : (place : ℕ) (pair : List ℕ × Expr) (pairs : List (List ℕ × Expr)) → left_text place (pair ∷ pairs) ≡ separator place ++ (pair.0 ++ ((58 ∷ 32 ∷ []) ++ (term_text (term pair.1) ++ more_terms (terms_of pairs))))
left_cons zero pair pairs = refl
left_cons (suc n) pair pairs = refl

left_next : (place : ℕ) (pairs : List (List ℕ × Expr)) → left_text (place + 1) pairs ≡ more_terms (terms_of pairs)
left_next place pairs = rw add-one refl

-- one more part is written
pub text_more : (pairs : List (List ℕ × Expr)) (place : ℕ) (pair : List ℕ × Expr) (before after whole : List ℕ) → place < length pairs → pair ≡ get_or pairs place pair → after ≡ (((before ++ separator place) ++ pair.0) ++ 58 ∷ 32 ∷ []) ++ term_text (term pair.1)
    → before ++ left_text place (drop place pairs) ≡ whole → after ++ left_text (place + 1) (drop (place + 1) pairs) ≡ whole
text_more pairs place pair before after whole lt e written so_far =
    let rest = drop (place + 1) pairs in
    let one = drop_more pairs place pair lt in
    let more = rw (one, ← e) at so_far in
    ap (λ (out : List ℕ). out ++ left_text (place + 1) rest) written ∙ ap (λ (m : List ℕ). ((((before ++ separator place) ++ pair.0) ++ 58 ∷ 32 ∷ []) ++ term_text (term pair.1)) ++ m) (left_next place rest)
    ∙ joined before (separator place) pair.0 (58 ∷ 32 ∷ []) (term_text (term pair.1)) (more_terms (terms_of rest)) ∙ ap (λ (m : List ℕ). before ++ m) (sym (left_cons place pair rest)) ∙ more

left_none : (place : ℕ) → left_text place [] ≡ []
left_none zero = refl
left_none (suc n) = refl

-- all parts are written
pub text_done : (pairs : List (List ℕ × Expr)) (place : ℕ) (es : Terms) (out start : List ℕ) → terms_of pairs ≡ es → length pairs ≤ place → out ++ left_text place (drop place pairs) ≡ start ++ terms_text (terms_of pairs) → out ≡ start ++ terms_text es
text_done pairs place es out start e past so_far =
    let none : left_text place (drop place pairs) ≡ [] = ap (left_text place) (drop_all place pairs past) ∙ left_none place in
    sym (append-nil out) ∙ ap (λ (m : List ℕ). out ++ m) (sym none) ∙ so_far ∙ ap (λ (m : Terms). start ++ terms_text m) e
