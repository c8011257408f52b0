-- The places of true rows by their ranks.
use Rattle.std.proofs.Common.{◌≡◌, ℕ, zero, suc, ◌+◌, ◌-◌, ◌/◌, ◌^◌, ◌<◌, Bool, true, false, cond, List, [], ◌∷◌, ◌++◌, length, take, replicate, Some, refl, sym, ap, ◌∙◌, arith, bit_and}
use Rattle.std.specs.Prelude.{slice_get}
use lib.Count.{count_trailing_zeros}
use Rattle.std.proofs.lemmas.List.Sums.{sum_by-cons}
use Rattle.vx_masks.specs.Masks.{true_count, place_of_rank}
use Rattle.vx_masks.specs.Words.{low_bits}
use Rattle.vx_masks.proofs.LowBits.{lowest_one, cleared_bits, low_bits-nothing}

pub true_count-cons : (b : Bool) (bs : List Bool) → true_count (b ∷ bs) ≡ cond b 1 0 + true_count bs
true_count-cons b bs = sum_by-cons (λ (c : Bool). cond c 1 0) b bs

pub false_first : (bs : List Bool) → true_count (false ∷ bs) ≡ true_count bs
false_first bs = omega (arith, true_count-cons false bs)

pub count_none : (k : ℕ) (bs : List Bool) → true_count (replicate k false ++ bs) ≡ true_count bs
count_none zero bs = refl
count_none (suc k) bs = true_count-cons false (replicate k false ++ bs) ∙ omega (arith, count_none k bs)

pub rank_here : (p : ℕ) (bs : List Bool) → place_of_rank (replicate p false ++ true ∷ bs) 0 ≡ p
rank_here zero bs = refl
rank_here (suc p) bs = ap suc (rank_here p bs)

rank_later : (p rank : ℕ) (bs : List Bool) → place_of_rank (replicate p false ++ true ∷ bs) (suc rank) ≡ place_of_rank (replicate (suc p) false ++ bs) rank
rank_later zero rank bs = refl
rank_later (suc p) rank bs = ap suc (rank_later p rank bs)

pub rank_found : (bs : List Bool) (rank : ℕ) → rank < true_count bs → slice_get bs (place_of_rank bs rank) ≡ Some true
rank_found [] rank h = absurd (omega arith)
rank_found (false ∷ bs) rank h = rank_found bs rank (omega (arith, true_count-cons false bs))
rank_found (true ∷ bs) zero h = refl
rank_found (true ∷ bs) (suc rank) h = rank_found bs rank (omega (arith, true_count-cons true bs))

pub rank_counted : (bs : List Bool) (rank : ℕ) → rank < true_count bs → true_count (take (place_of_rank bs rank) bs) ≡ rank
rank_counted [] rank h = absurd (omega arith)
rank_counted (false ∷ bs) rank h = omega (arith, true_count-cons false (take (place_of_rank bs rank) bs), rank_counted bs rank (omega (arith, true_count-cons false bs)))
rank_counted (true ∷ bs) zero h = refl
rank_counted (true ∷ bs) (suc rank) h = true_count-cons true (take (place_of_rank bs rank) bs) ∙ omega (arith, rank_counted bs rank (omega (arith, true_count-cons true bs)))

pub rank_inside : (bs : List Bool) (rank : ℕ) → rank < true_count bs → place_of_rank bs rank < length bs
rank_inside [] rank h = absurd (omega arith)
rank_inside (false ∷ bs) rank h = omega (arith, rank_inside bs rank (omega (arith, true_count-cons false bs)))
rank_inside (true ∷ bs) zero h = omega arith
rank_inside (true ∷ bs) (suc rank) h = omega (arith, rank_inside bs rank (omega (arith, true_count-cons true bs)))

count_nothing : (k : ℕ) → true_count (replicate k false) ≡ 0
count_nothing zero = refl
count_nothing (suc k) = omega (arith, true_count-cons false (replicate k false), count_nothing k)

-- a number with a bit set is not 0
pub some_bit_set : (k n : ℕ) → 0 < true_count (low_bits k n) → 0 < n
some_bit_set k zero h =
    let none : true_count (low_bits k 0) ≡ 0 = ap true_count (low_bits-nothing k) ∙ count_nothing k in
    absurd (omega arith)
some_bit_set k (suc n) h = omega arith

-- ---- the rank is looked up in what is left after the lowest bits were cleared
pub record Passed (word rank rest left : ℕ) : Type 0 where
  pub more : left < true_count (low_bits 64 rest)
  pub place : place_of_rank (low_bits 64 rest) left ≡ place_of_rank (low_bits 64 word) rank

pub passed_none : (word rank : ℕ) → rank < true_count (low_bits 64 word) → Passed word rank word rank
passed_none word rank h = record { more = h; place = refl }

pub passed_more : (word rank rest left : ℕ) → rest < 2 ^ 64 → Passed word rank rest (suc left) → Passed word rank (bit_and rest (rest - 1)) left
passed_more word rank rest left small h =
    let lowest = lowest_one 64 rest (some_bit_set 64 rest (omega (arith, h.more))) small in
    let p = count_trailing_zeros 64 rest in
    let here = lowest.1 in
    let above = low_bits lowest.0 (rest / 2 ^ suc p) in
    let cleared = cleared_bits 64 rest p lowest.0 here in
    let count : true_count (low_bits 64 rest) ≡ 1 + true_count above = ap true_count here.split ∙ count_none p (true ∷ above) ∙ true_count-cons true above in
    let count_left : true_count (low_bits 64 (bit_and rest (rest - 1))) ≡ true_count above = ap true_count cleared ∙ count_none (suc p) above in
    record {
      more = omega (arith, count, count_left, h.more);
      place = ap (λ (bs : List Bool). place_of_rank bs left) cleared ∙ sym (rank_later p left above) ∙ ap (λ (bs : List Bool). place_of_rank bs (suc left)) (sym here.split) ∙ h.place;
    }

pub passed_all : (word rank rest : ℕ) → rest < 2 ^ 64 → Passed word rank rest 0 → count_trailing_zeros 64 rest ≡ place_of_rank (low_bits 64 word) rank
passed_all word rank rest small h =
    let lowest = lowest_one 64 rest (some_bit_set 64 rest h.more) small in
    let p = count_trailing_zeros 64 rest in
    sym (rank_here p (low_bits lowest.0 (rest / 2 ^ suc p))) ∙ ap (λ (bs : List Bool). place_of_rank bs 0) (sym lowest.1.split) ∙ h.place
