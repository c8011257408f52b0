-- The names of pairs: distinct, gone through one by one beside those seen before.
use Rattle.std.proofs.Common.{◌≡◌, ℕ, ◌+◌, ◌<◌, Bool, true, false, not, List, [], ◌∷◌, length, get_or, drop, sym, ap, ◌∙◌, Bor}
use Rattle.std.specs.List.{list_any}
use Rattle.std.specs.BTreeSet.{insert_key}
use Rattle.std.specs.BTreeMap.{is_at}
use Rattle.std.proofs.lemmas.List.{drop_more}
use Rattle.vx_types.specs.Names.{are_distinct}
use Rattle.vx_types.proofs.SeenNames.{are_fresh, distinct_is, fresh_more, fresh_no_more, text_cmp, texts}
use Rattle.vx_expr.specs.declared.expressions.Expr.{Expr}
use Rattle.vx_expr.specs.TermViews.{terms_of}
use Rattle.vx_expr.specs.Types.{names_in}

-- ---- the names of pairs that are gone through
abbrev names_from : List (List ℕ × Expr) → ℕ → List (List ℕ)
names_from items i = names_in (terms_of (drop i items))

names_next : (items : List (List ℕ × Expr)) (i : ℕ) (item : List ℕ × Expr) → i < length items → item ≡ get_or items i item → names_from items i ≡ item.0 ∷ names_from items (i + 1)
names_next items i item lt is =
    ap (λ (us : List (List ℕ × Expr)). names_in (terms_of us)) (drop_more items i item lt)
    ∙ ap (λ (u : List ℕ × Expr). u.0 ∷ names_from items (i + 1)) (sym is)

pub names_more : (items : List (List ℕ × Expr)) (i : ℕ) (item : List ℕ × Expr) (key : Bor (List ℕ)) (keys after : List (Bor (List ℕ))) (added distinct : Bool) → i < length items → item ≡ get_or items i item → key.now ≡ item.0
    → added ≡ not (list_any (is_at (text_cmp key)) keys) → added ≡ true → after ≡ insert_key text_cmp keys key
    → distinct ≡ are_fresh (texts keys) (names_from items i) → distinct ≡ are_fresh (texts after) (names_from items (i + 1))
names_more items i item key keys after added distinct lt is name test new put so_far =
    so_far ∙ ap (are_fresh (texts keys)) (names_next items i item lt is)
    ∙ ap (λ (n : List ℕ). are_fresh (texts keys) (n ∷ names_from items (i + 1))) (sym name)
    ∙ fresh_more keys after key (names_from items (i + 1)) added test new put

pub names_end : (items : List (List ℕ × Expr)) (i : ℕ) (item : List ℕ × Expr) (key : Bor (List ℕ)) (keys : List (Bor (List ℕ))) (added distinct : Bool) → i < length items → item ≡ get_or items i item → key.now ≡ item.0
    → added ≡ not (list_any (is_at (text_cmp key)) keys) → added ≡ false
    → distinct ≡ are_fresh (texts keys) (names_from items i) → distinct ≡ false
names_end items i item key keys added distinct lt is name test old so_far =
    so_far ∙ ap (are_fresh (texts keys)) (names_next items i item lt is)
    ∙ ap (λ (n : List ℕ). are_fresh (texts keys) (n ∷ names_from items (i + 1))) (sym name)
    ∙ fresh_no_more keys key (names_from items (i + 1)) added test old

pub names_start : (items : List (List ℕ × Expr)) (keys : List (Bor (List ℕ))) → keys ≡ [] → are_distinct (names_in (terms_of items)) ≡ are_fresh (texts keys) (names_from items 0)
names_start items keys none = distinct_is (names_in (terms_of items)) ∙ ap (λ (ks : List (Bor (List ℕ))). are_fresh (texts ks) (names_in (terms_of items))) (sym none)
