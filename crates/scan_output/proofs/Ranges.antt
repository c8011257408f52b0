-- Ranges of a list, one element at a time.
use Rattle.std.proofs.Common.{◌≡◌, ℕ, ◌+◌, ◌-◌, ◌<◌, ◌≤◌, List, [], ◌∷◌, ◌++◌, length, get_or, take, drop, sym, ap, ◌∙◌, arith}
use Rattle.std.specs.List.{slice_range}
use Rattle.std.proofs.lemmas.List.{take_more, take_all, get_or-drop, length-drop}

pub range_more : {X : Type 0} (xs : List X) (from at : ℕ) (x : X) → from ≤ at → at < length xs → x ≡ get_or xs at x → slice_range xs from (at + 1) ≡ slice_range xs from at ++ x ∷ []
range_more {X} xs from at x low lt here =
    let place : from + (at - from) ≡ at = omega arith in
    let next : (at + 1) - from ≡ (at - from) + 1 = omega arith in
    let found : get_or (drop from xs) (at - from) x ≡ x = get_or-drop from xs (at - from) x ∙ ap (λ (k : ℕ). get_or xs k x) place ∙ sym here in
    let one = take_more (drop from xs) (at - from) x (omega (arith, length-drop from xs)) in
    ap (λ (n : ℕ). take n (drop from xs)) next ∙ one ∙ ap (λ (y : X). take (at - from) (drop from xs) ++ y ∷ []) found

pub range_none : {X : Type 0} (xs : List X) (from : ℕ) → slice_range xs from from ≡ []
range_none xs from = let none : from - from ≡ 0 = omega arith in ap (λ (n : ℕ). take n (drop from xs)) none

-- up to the end or past it
pub range_rest : {X : Type 0} (xs : List X) (from to : ℕ) → length xs ≤ to → slice_range xs from to ≡ drop from xs
range_rest xs from to past = take_all (to - from) (drop from xs) (omega (arith, length-drop from xs))
