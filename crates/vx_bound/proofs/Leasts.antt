-- The least of the offers of all views.
use Rattle.std.proofs.Common.{◌≡◌, ℕ, zero, suc, ◌≤◌, List, [], ◌∷◌, ◌++◌, set, refl, sym, ap, ◌∙◌, arith}
use Rattle.std.specs.Prelude.{min, flat_map}
use Rattle.std.specs.List.{All, sum_by}
use Rattle.std.proofs.lemmas.List.Elements.{All-nil, All-cons, All-head, All-tail}
use Rattle.std.proofs.lemmas.List.Sums.{sum_by-cons}
use Rattle.std.proofs.lemmas.List.Concat.{flat_map-cons}
use Rattle.std.proofs.lemmas.Grind.{flat_map-append}
use mathlib.Core.Option.{some, some-injective, some-ne-none}
use lib.ListN.{get_elem?}
use Rattle.vx_bound.specs.declared.views.View.{View}
use Rattle.vx_bound.specs.Offers.{bound_after}
use Rattle.vx_bound.proofs.Seats.{at_most_sum}

-- ---- one list

pub at_most_first : (key : ℕ) (xs : List ℕ) → bound_after key xs ≤ key
at_most_first key [] = omega arith
at_most_first key (x ∷ xs) = let rest = at_most_first key xs in omega (arith, rest)

pub after_both : (key : ℕ) (xs ys : List ℕ) → bound_after key (xs ++ ys) ≡ min (bound_after key xs) (bound_after key ys)
after_both key [] ys = let most = at_most_first key ys in omega (arith, most)
after_both key (x ∷ xs) ys = let rest = after_both key xs ys in omega (arith, rest)

pub at_most_each : (n key : ℕ) (xs : List ℕ) → n ≤ bound_after key xs → All (λ x. n ≤ x) xs
at_most_each n key [] least = All-nil (λ (x : ℕ). n ≤ x)
at_most_each n key (x ∷ xs) least = All-cons (λ (y : ℕ). n ≤ y) x xs (omega (arith, least)) (at_most_each n key xs (omega (arith, least)))

-- ---- all views

abbrev pub own : ℕ → View → ℕ
own key view = bound_after key view.offers

abbrev pub total : ℕ → List View → ℕ
total key views = bound_after key (flat_map (λ view. view.offers) views)

pub total_cons : (key : ℕ) (v : View) (views : List View) → total key (v ∷ views) ≡ min (own key v) (total key views)
total_cons key v views = ap (bound_after key) (flat_map-cons (λ (view : View). view.offers) v views) ∙ after_both key v.offers (flat_map (λ (view : View). view.offers) views)

pub total_push : (key : ℕ) (views : List View) (v : View) → total key (views ++ v ∷ []) ≡ min (total key views) (own key v)
total_push key views v =
    let parts = ap (bound_after key) (flat_map-append (λ (view : View). view.offers) views (v ∷ [])) in
    let apart = after_both key (flat_map (λ (view : View). view.offers) views) (flat_map (λ (view : View). view.offers) (v ∷ [])) in
    let last = total_cons key v [] in
    let most = at_most_first key v.offers in
    omega (arith, parts, apart, last, most)

pub total_at_most : (key : ℕ) (views : List View) (i : ℕ) (v : View) → get_elem? views i ≡ some v → total key views ≤ own key v
total_at_most key [] i v at = absurd (some-ne-none v (sym at))
total_at_most key (x ∷ xs) zero v at =
    let same : own key x ≡ own key v = ap (own key) (some-injective x v at) in
    let cons = total_cons key x xs in
    omega (arith, same, cons)
total_at_most key (x ∷ xs) (suc i) v at =
    let rest = total_at_most key xs i v at in
    let cons = total_cons key x xs in
    omega (arith, rest, cons)

-- a view in another's place: both totals are the same once they look at both views
pub total_set : (key : ℕ) (views : List View) (i : ℕ) (v w : View) → get_elem? views i ≡ some v → min (total key (set views i w)) (own key v) ≡ min (total key views) (own key w)
total_set key [] i v w at = absurd (some-ne-none v (sym at))
total_set key (x ∷ xs) zero v w at =
    let same : own key x ≡ own key v = ap (own key) (some-injective x v at) in
    let before = total_cons key x xs in
    let after = total_cons key w xs in
    omega (arith, same, before, after)
total_set key (x ∷ xs) (suc i) v w at =
    let rest = total_set key xs i v w at in
    let before = total_cons key x xs in
    let after = total_cons key x (set xs i w) in
    omega (arith, rest, before, after)

-- ---- where one view has all parts

none_offered : (key : ℕ) (views : List View) → All (λ view. view.parts ≡ 0 → view.offers ≡ []) views → sum_by (λ (view : View). view.parts) views ≡ 0 → total key views ≡ key
none_offered key [] all none = refl
none_offered key (v ∷ views) all none =
    let sum = sum_by-cons (λ (view : View). view.parts) v views in
    let here : own key v ≡ key = ap (bound_after key) (All-head (λ (view : View). view.parts ≡ 0 → view.offers ≡ []) v views all (omega (arith, sum, none))) in
    let rest = none_offered key views (All-tail (λ (view : View). view.parts ≡ 0 → view.offers ≡ []) v views all) (omega (arith, sum, none)) in
    let cons = total_cons key v views in
    omega (arith, here, rest, cons)

pub alone : (key : ℕ) (views : List View) (i : ℕ) (v : View) → All (λ view. view.parts ≡ 0 → view.offers ≡ []) views → get_elem? views i ≡ some v
    → sum_by (λ (view : View). view.parts) views ≡ v.parts → total key views ≡ own key v
alone key [] i v all at whole = absurd (some-ne-none v (sym at))
alone key (x ∷ xs) zero v all at whole =
    let is : x ≡ v = some-injective x v at in
    let same : own key x ≡ own key v = ap (own key) is in
    let parts : x.parts ≡ v.parts = ap (λ (view : View). view.parts) is in
    let sum = sum_by-cons (λ (view : View). view.parts) x xs in
    let rest = none_offered key xs (All-tail (λ (view : View). view.parts ≡ 0 → view.offers ≡ []) x xs all) (omega (arith, parts, sum, whole)) in
    let cons = total_cons key x xs in
    let most = at_most_first key v.offers in
    omega (arith, same, rest, cons, most)
alone key (x ∷ xs) (suc i) v all at whole =
    let sum = sum_by-cons (λ (view : View). view.parts) x xs in
    let least = at_most_sum (λ (view : View). view.parts) xs i v at in
    let none : x.parts ≡ 0 = omega (arith, sum, least, whole) in
    let here : own key x ≡ key = ap (bound_after key) (All-head (λ (view : View). view.parts ≡ 0 → view.offers ≡ []) x xs all none) in
    let rest = alone key xs i v (All-tail (λ (view : View). view.parts ≡ 0 → view.offers ≡ []) x xs all) at (omega (arith, sum, least, whole)) in
    let cons = total_cons key x xs in
    let most = at_most_first key v.offers in
    omega (arith, here, rest, cons, most)
