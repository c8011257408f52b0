-- A list in order, in which each number of a stretch stands once, is that stretch.
use Rattle.std.proofs.Common.{◌≡◌, ℕ, zero, suc, ◌+◌, ◌<◌, ◌≤◌, ◌⊎◌, inl, inr, List, [], ◌∷◌, length, refl, sym, ap, ◌∙◌, subst, arith}
use Rattle.std.specs.Prelude.{slice_index_or}
use Rattle.std.specs.List.{All}
use Rattle.std.proofs.lemmas.Bool.{cases_lt}
use Rattle.std.proofs.lemmas.List.Elements.{All-head, All-tail}
use Rattle.vx_claims.specs.Apart.{times, once_below}
use Rattle.vx_claims.proofs.Numbers.{times_itself, times_other, once_yes, once_no}
use Rattle.vx_execute.specs.Executes.{stretch}

-- in order, by pairs
abbrev InOrder : List ℕ → Type 0
InOrder ns = (i j : ℕ) (d : ℕ) → i ≤ j → j < length ns → slice_index_or ns i d ≤ slice_index_or ns j d

-- each of the stretch stands once, and no other number
record Once (low size : ℕ) (ns : List ℕ) : Type 0 where
  within : (x : ℕ) → low ≤ x → x < low + size → times x ns ≡ 1
  below : (x : ℕ) → x < low → times x ns ≡ 0
  above : (x : ℕ) → low + size ≤ x → times x ns ≡ 0

absent : (x : ℕ) (ns : List ℕ) → All (λ n. x < n) ns → times x ns ≡ 0
absent x [] all = refl
absent x (n ∷ ns) all =
    let here = All-head (λ (m : ℕ). x < m) n ns all in
    let rest = absent x ns (All-tail (λ (m : ℕ). x < m) n ns all) in
    let other = times_other x n ns (λ same. absurd (omega (arith, here, same))) in
    omega (arith, rest, other)

no_numbers : (low : ℕ) (ns : List ℕ) → Once low 0 ns → ns ≡ []
no_numbers low [] once = refl
no_numbers low (n ∷ ns) once = by_order (cases_lt n low)
  where
    by_order : (n < low) ⊎ (low ≤ n) → n ∷ ns ≡ []
    by_order (inl less) = let none = once.below n less in let one = times_itself n ns in absurd (omega (arith, none, one))
    by_order (inr least) = let none = once.above n (omega (arith, least)) in let one = times_itself n ns in absurd (omega (arith, none, one))

-- the first is the lowest
first_is : (low size n : ℕ) (ns : List ℕ) → InOrder (n ∷ ns) → Once low (suc size) (n ∷ ns) → n ≡ low
first_is low size n ns order once = by_order (cases_lt n low) (cases_lt low n)
  where
    by_order : (n < low) ⊎ (low ≤ n) → (low < n) ⊎ (n ≤ low) → n ≡ low
    by_order (inl less) other = let none = once.below n less in let one = times_itself n ns in absurd (omega (arith, none, one))
    by_order (inr least) (inr most) = omega (arith, least, most)
    by_order (inr least) (inl more) =
        let behind : All (λ m. low < m) (n ∷ ns) = (λ k d within. let p = order 0 k d (omega arith) within in omega (arith, more, p)) in
        let none = absent low (n ∷ ns) behind in
        let one = once.within low (omega arith) (omega arith) in
        absurd (omega (arith, none, one))

once_behind : (low size : ℕ) (ns : List ℕ) → Once low (suc size) (low ∷ ns) → Once (suc low) size ns
once_behind low size ns once = record {
  within = λ x least less. let here = once.within x (omega (arith, least)) (omega (arith, less)) in let other = times_other x low ns (λ same. absurd (omega (arith, least, same))) in omega (arith, here, other);
  below = λ x less. by_order x less (cases_lt x low);
  above = λ x least. let here = once.above x (omega (arith, least)) in let other = times_other x low ns (λ same. absurd (omega (arith, least, same))) in omega (arith, here, other);
}
  where
    by_order : (x : ℕ) → x < suc low → (x < low) ⊎ (low ≤ x) → times x ns ≡ 0
    by_order x less (inl below) = let here = once.below x below in let other = times_other x low ns (λ same. absurd (omega (arith, below, same))) in omega (arith, here, other)
    by_order x less (inr least) =
        let same : low ≡ x = omega (arith, less, least) in
        let here = once.within low (omega arith) (omega arith) in
        let itself = times_itself low ns in
        let none : times low ns ≡ 0 = omega (arith, here, itself) in
        ap (λ (y : ℕ). times y ns) (sym same) ∙ none

is_stretch : (low size : ℕ) (ns : List ℕ) → InOrder ns → Once low size ns → ns ≡ stretch low size
is_stretch low zero ns order once = no_numbers low ns once
is_stretch low (suc size) [] order once = let one = once.within low (omega arith) (omega arith) in absurd (omega (arith, one))
is_stretch low (suc size) (n ∷ ns) order once =
    let first = first_is low size n ns order once in
    let moved : Once low (suc size) (low ∷ ns) = subst (λ (m : ℕ). Once low (suc size) (m ∷ ns)) first once in
    let rest = is_stretch (suc low) size ns (λ i j d le lt. order (suc i) (suc j) d (omega (arith, le)) (omega (arith, lt))) (once_behind low size ns moved) in
    (λ k. first k ∷ rest k)

pub in_order_once : (n : ℕ) (ns : List ℕ) → InOrder ns → ((x : ℕ) → times x ns ≡ once_below n x) → ns ≡ stretch 0 n
in_order_once n ns order once = is_stretch 0 n ns order record {
  within = λ x least less. once x ∙ once_yes n x (omega (arith, less));
  below = λ x less. absurd (omega (arith, less));
  above = λ x least. once x ∙ once_no n x (omega (arith, least));
}
