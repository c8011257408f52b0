-- Ranges of lists.
use Rattle.std.proofs.Common.{◌≡◌, ℕ, zero, suc, ◌+◌, ◌-◌, ◌<◌, ◌≤◌, Bool, List, [], ◌∷◌, length, take, drop, refl, ap, ◌∙◌, arith}
use Rattle.std.specs.Prelude.{slice_range}
use Rattle.std.proofs.lemmas.List.{length-drop}

taken_same : (xs : List Bool) (k e : ℕ) → e ≤ length xs → e ≤ k → (e < length xs → e ≡ k) → take k xs ≡ take e xs
taken_same [] zero zero inside most whole = refl
taken_same [] zero (suc e) inside most whole = absurd (omega arith)
taken_same [] (suc k) zero inside most whole = refl
taken_same [] (suc k) (suc e) inside most whole = absurd (omega arith)
taken_same (x ∷ xs) zero zero inside most whole = refl
taken_same (x ∷ xs) zero (suc e) inside most whole = absurd (omega arith)
taken_same (x ∷ xs) (suc k) zero inside most whole = absurd (let h : 0 ≡ suc k = whole (omega arith) in omega arith)
taken_same (x ∷ xs) (suc k) (suc e) inside most whole = ap (λ (rest : List Bool). x ∷ rest) (taken_same xs k e (omega arith) (omega arith) (λ lt. (let h : suc e ≡ suc k = whole (omega arith) in omega arith)))

dropped_same : (xs : List Bool) (k e : ℕ) → e ≤ length xs → e ≤ k → (e < length xs → e ≡ k) → drop k xs ≡ drop e xs
dropped_same [] zero zero inside most whole = refl
dropped_same [] zero (suc e) inside most whole = absurd (omega arith)
dropped_same [] (suc k) zero inside most whole = refl
dropped_same [] (suc k) (suc e) inside most whole = absurd (omega arith)
dropped_same (x ∷ xs) zero zero inside most whole = refl
dropped_same (x ∷ xs) zero (suc e) inside most whole = absurd (omega arith)
dropped_same (x ∷ xs) (suc k) zero inside most whole = absurd (let h : 0 ≡ suc k = whole (omega arith) in omega arith)
dropped_same (x ∷ xs) (suc k) (suc e) inside most whole = dropped_same xs k e (omega arith) (omega arith) (λ lt. (let h : suc e ≡ suc k = whole (omega arith) in omega arith))

pub drop_then : {X : Type 0} (xs : List X) (a b c : ℕ) → c ≡ a + b → drop b (drop a xs) ≡ drop c xs
drop_then xs zero b c e = ap (λ (k : ℕ). drop k xs) (omega arith)
drop_then [] (suc a) zero zero e = refl
drop_then [] (suc a) zero (suc c) e = refl
drop_then [] (suc a) (suc b) zero e = refl
drop_then [] (suc a) (suc b) (suc c) e = refl
drop_then (x ∷ xs) (suc a) b zero e = absurd (omega arith)
drop_then (x ∷ xs) (suc a) b (suc c) e = drop_then xs a b c (omega arith)

-- the range is what a chunk of so many more rows has of the rows that are left
pub record IsHere (mask : List Bool) (done end more : ℕ) : Type 0 where
  pub forwards : done ≤ end
  pub inside : end ≤ length mask
  pub most : end ≤ done + more
  pub whole : end < length mask → end ≡ done + more

pub range_taken : (mask : List Bool) (done end more : ℕ) → IsHere mask done end more → take more (drop done mask) ≡ slice_range mask done end
range_taken mask done end more here =
    let long : length (drop done mask) ≡ length mask - done = length-drop done mask in
    taken_same (drop done mask) more (end - done) (let h = here.inside in omega arith) (let h = here.most in omega arith) (λ lt. (let f = here.forwards in let i = here.inside in let h : end ≡ done + more = here.whole (omega arith) in omega arith))

pub range_left : (mask : List Bool) (done end more : ℕ) → IsHere mask done end more → drop more (drop done mask) ≡ drop end mask
range_left mask done end more here =
    let long : length (drop done mask) ≡ length mask - done = length-drop done mask in
    dropped_same (drop done mask) more (end - done) (let h = here.inside in omega arith) (let h = here.most in omega arith) (λ lt. (let f = here.forwards in let i = here.inside in let h : end ≡ done + more = here.whole (omega arith) in omega arith))
    ∙ drop_then mask done (end - done) end (let f = here.forwards in omega arith)
