-- Whether one of the rows of a mask from a row on is selected.
use Rattle.std.proofs.Common.{◌≡◌, ℕ, zero, suc, ◌+◌, ◌-◌, ◌<◌, ◌≤◌, Bool, true, false, List, [], ◌∷◌, Some, take, drop, refl, ap, ◌∙◌, arith}
use Rattle.std.specs.List.{slice_get}
use Rattle.vx_plan.specs.Reaches.{any_row}

-- none of the rows in front, nor the row itself
front_more : (bits : List Bool) (i : ℕ) → any_row (take i bits) ≡ false → slice_get bits i ≡ Some false → any_row (take (suc i) bits) ≡ false
front_more [] i none at = absurd cc
front_more (bit ∷ bits) zero none at = let e : bit ≡ false = cc in ap (λ (b : Bool). any_row (b ∷ take 0 bits)) e
front_more (true ∷ bits) (suc i) none at = absurd cc
front_more (false ∷ bits) (suc i) none at = front_more bits i none at

front_some : (bits : List Bool) (i n : ℕ) → i < n → slice_get bits i ≡ Some true → any_row (take n bits) ≡ true
front_some bits i zero lt at = absurd (omega arith)
front_some [] i (suc n) lt at = absurd cc
front_some (bit ∷ bits) zero (suc n) lt at = let e : bit ≡ true = cc in ap (λ (b : Bool). any_row (b ∷ take n bits)) e
front_some (true ∷ bits) (suc i) (suc n) lt at = refl
front_some (false ∷ bits) (suc i) (suc n) lt at = front_some bits i n (omega arith) at

behind : (bits : List Bool) (skip i : ℕ) → slice_get (drop skip bits) i ≡ slice_get bits (skip + i)
behind bits zero i = let e : i ≡ 0 + i = omega arith in ap (slice_get bits) e
behind [] (suc skip) i = refl
behind (bit ∷ bits) (suc skip) i = behind bits skip i ∙ (let e : suc (skip + i) ≡ suc skip + i = omega arith in ap (slice_get (bit ∷ bits)) e)

pub none_more : (bits : List Bool) (skip row : ℕ) → skip ≤ row → any_row (take (row - skip) (drop skip bits)) ≡ false → slice_get bits row ≡ Some false → any_row (take (row + 1 - skip) (drop skip bits)) ≡ false
none_more bits skip row le none at =
    let e : skip + (row - skip) ≡ row = omega arith in
    let f : row + 1 - skip ≡ suc (row - skip) = omega arith in
    ap (λ (n : ℕ). any_row (take n (drop skip bits))) f ∙ front_more (drop skip bits) (row - skip) none (behind bits skip (row - skip) ∙ ap (slice_get bits) e ∙ at)

pub some_found : (bits : List Bool) (skip row count : ℕ) → skip ≤ row → row < skip + count → slice_get bits row ≡ Some true → any_row (take count (drop skip bits)) ≡ true
some_found bits skip row count le lt at =
    let e : skip + (row - skip) ≡ row = omega arith in
    front_some (drop skip bits) (row - skip) count (omega arith) (behind bits skip (row - skip) ∙ ap (slice_get bits) e ∙ at)
