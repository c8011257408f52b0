-- What a word chooses of a list.
use Rattle.std.proofs.Common.{inl, inr, ◌≡◌, ℕ, zero, suc, ◌+◌, ◌-◌, ◌*◌, ◌/◌, ◌^◌, ◌<◌, ◌≤◌, min, Bool, true, false, List, [], ◌∷◌, ◌++◌, length, take, drop, get_or, replicate, refl, sym, ap, subst, ◌∙◌, arith, zero-add}
use lib.Count.{count_trailing_zeros}
use Rattle.std.proofs.lemmas.Bool.{cases_lt}
use Rattle.std.proofs.lemmas.List.{append-nil, append_assoc, length-drop, drop_all, drop_at, drop-drop, get_or-drop}
use Rattle.std.proofs.lemmas.Nat.{shr-shr, shr_below}
use Rattle.std.proofs.Math.Nat.{mod-le}
use lib.Pow.{pow_mono}
use Rattle.vx_masks.specs.Masks.{chosen}
use Rattle.vx_masks.specs.Words.{low_bits, number_of, Small}
use Rattle.vx_masks.proofs.LowBits.{lowest_one, length-low_bits, drop-low_bits, low_bits-add, low_bits-above, low_bits-nothing, low_bits-ones}
use Rattle.vx_masks.proofs.Numbers.{power_split, number_l-drop, number_l-split}

pub rejoined : (n m : ℕ) → m ≤ n → n ≡ (n - m) + m
rejoined n m h = omega arith

-- the rows of one word of a mask
pub record WordRows (mask : List Bool) (i c w : ℕ) : Type 0 where
  pub count : c ≡ min 64 (length mask - 64 * i)
  pub small : w < 2 ^ c
  pub split : drop (64 * i) mask ≡ low_bits c w ++ drop (64 * (i + 1)) mask

pub word_rows : (mask : List Bool) (ws : List ℕ) (i : ℕ) → mask ≡ low_bits (length mask) (number_of ws) → number_of ws < 2 ^ length mask → Small 64 ws → 64 * i < length mask
    → WordRows mask i (min 64 (length mask - 64 * i)) (get_or ws i 0)
word_rows mask ws i view small each more =
    let len = length mask in
    let n = number_of ws in
    let w = get_or ws i 0 in
    let c = min 64 (len - 64 * i) in
    let later = number_of (drop (suc i) ws) in
    let from_here : n / 2 ^ (64 * i) ≡ w + 2 ^ 64 * later = sym (number_l-drop 64 i ws each) ∙ number_l-split 64 i ws in
    let left : n / 2 ^ (64 * i) < 2 ^ (len - 64 * i) = shr_below n (len - 64 * i) (64 * i) (subst (λ (k : ℕ). n < 2 ^ k) (rejoined len (64 * i) (omega arith)) small) in
    let cut : 64 * (i + 1) ≡ 64 * i + 64 = omega arith in
    let whole : len ≡ 64 * i + (len - 64 * i) = omega arith in
    let rest : drop (64 * i) mask ≡ low_bits (len - 64 * i) (w + 2 ^ 64 * later) =
    ap (drop (64 * i)) view ∙ ap (λ (k : ℕ). drop (64 * i) (low_bits k n)) whole ∙ drop-low_bits (64 * i) (len - 64 * i) n ∙ ap (low_bits (len - 64 * i)) from_here in
    elim (cases_lt (len - 64 * i) 64) [
      | inl short ↦
          let part : c ≡ len - 64 * i = omega arith in
          let alone : w + 2 ^ 64 * later < 2 ^ (len - 64 * i) = subst (λ (x : ℕ). x < 2 ^ (len - 64 * i)) from_here left in
          let low : w < 2 ^ (len - 64 * i) = omega arith in
          let none : drop (64 * (i + 1)) mask ≡ [] = drop_all (64 * (i + 1)) mask (omega arith) in
          let wide : 2 ^ 64 * later ≡ 2 ^ (len - 64 * i) * (2 ^ (64 - (len - 64 * i)) * later) = power_split 64 (len - 64 * i) (64 - (len - 64 * i)) later (omega arith) in
          record {
            count = refl;
            small = subst (λ (k : ℕ). w < 2 ^ k) (sym part) low;
            split = rest ∙ ap (λ (x : ℕ). low_bits (len - 64 * i) (w + x)) wide ∙ low_bits-above (len - 64 * i) w (2 ^ (64 - (len - 64 * i)) * later)
                ∙ ap (λ (k : ℕ). low_bits k w) (sym part) ∙ sym (append-nil (low_bits c w)) ∙ ap (λ (bs : List Bool). low_bits c w ++ bs) (sym none);
          }
      | inr wide ↦
          let all : c ≡ 64 = omega arith in
          let more_rows : len - 64 * i ≡ 64 + (len - 64 * i - 64) = omega arith in
          let two : drop (64 * i) mask ≡ low_bits 64 w ++ low_bits (len - 64 * i - 64) ((w + 2 ^ 64 * later) / 2 ^ 64) =
          rest ∙ ap (λ (k : ℕ). low_bits k (w + 2 ^ 64 * later)) more_rows ∙ low_bits-add 64 (len - 64 * i - 64) (w + 2 ^ 64 * later)
          ∙ ap (λ (bs : List Bool). bs ++ low_bits (len - 64 * i - 64) ((w + 2 ^ 64 * later) / 2 ^ 64)) (low_bits-above 64 w later) in
          let tail : low_bits (len - 64 * i - 64) ((w + 2 ^ 64 * later) / 2 ^ 64) ≡ drop (64 * (i + 1)) mask =
          sym (drop_at (low_bits 64 w) (low_bits (len - 64 * i - 64) ((w + 2 ^ 64 * later) / 2 ^ 64)) 64 (length-low_bits 64 w)) ∙ ap (drop 64) (sym two) ∙ drop-drop 64 (64 * i) mask ∙ ap (λ (k : ℕ). drop k mask) (sym cut) in
          record {
            count = refl;
            small = subst (λ (k : ℕ). w < 2 ^ k) (sym all) (each.small i);
            split = two ∙ (λ j. low_bits (sym all j) w ++ tail j);
          }
    ]

pub pick_inside : (n rest : ℕ) → 0 < rest → rest < 2 ^ 64 → rest < 2 ^ n → count_trailing_zeros 64 rest < n
pick_inside n rest some small inside =
    let lowest = lowest_one 64 rest some small in
    let p = count_trailing_zeros 64 rest in
    elim (cases_lt p n) [ inl lt ↦ lt | inr past ↦ absurd (omega (arith, lowest.1.low, mod-le rest (2 ^ suc p), pow_mono past)) ]

module _ (X : Type 0) where
  pub chosen_of_none : (mask : List Bool) → chosen mask (let none : List X = [] in none) ≡ []
  chosen_of_none [] = refl
  chosen_of_none (true ∷ mask) = refl
  chosen_of_none (false ∷ mask) = refl

  pub chosen_skip : (p : ℕ) (mask : List Bool) (xs : List X) → chosen (replicate p false ++ mask) xs ≡ chosen mask (drop p xs)
  chosen_skip zero mask xs = refl
  chosen_skip (suc p) mask [] = sym (chosen_of_none mask)
  chosen_skip (suc p) mask (x ∷ xs) = chosen_skip p mask xs

  pub chosen_nothing : (k : ℕ) (xs : List X) → chosen (replicate k false) xs ≡ []
  chosen_nothing zero xs = refl
  chosen_nothing (suc k) [] = refl
  chosen_nothing (suc k) (x ∷ xs) = chosen_nothing k xs

  pub chosen-append : (one two : List Bool) (xs : List X) → chosen (one ++ two) xs ≡ chosen one xs ++ chosen two (drop (length one) xs)
  chosen-append [] two xs = refl
  chosen-append (true ∷ one) two [] = sym (chosen_of_none two)
  chosen-append (false ∷ one) two [] = sym (chosen_of_none two)
  chosen-append (true ∷ one) two (x ∷ xs) = ap (λ (ys : List X). x ∷ ys) (chosen-append one two xs)
  chosen-append (false ∷ one) two (x ∷ xs) = chosen-append one two xs

  -- what stands behind the last bit is not chosen
  pub chosen_front : (mask : List Bool) (xs ys : List X) → length mask ≤ length xs → chosen mask (xs ++ ys) ≡ chosen mask xs
  chosen_front [] xs ys h = refl
  chosen_front (bit ∷ mask) [] ys h = absurd (omega arith)
  chosen_front (true ∷ mask) (x ∷ xs) ys h = ap (λ (zs : List X). x ∷ zs) (chosen_front mask xs ys (omega arith))
  chosen_front (false ∷ mask) (x ∷ xs) ys h = chosen_front mask xs ys (omega arith)

  pub chosen_whole : (k : ℕ) (xs : List X) → k ≤ length xs → chosen (replicate k true) xs ≡ take k xs
  chosen_whole zero xs h = refl
  chosen_whole (suc k) [] h = absurd (omega arith)
  chosen_whole (suc k) (x ∷ xs) h = ap (λ (ys : List X). x ∷ ys) (chosen_whole k xs (omega arith))

  chosen_here : (d : X) (p : ℕ) (mask : List Bool) (xs : List X) → p < length xs → chosen (true ∷ mask) (drop p xs) ≡ get_or xs p d ∷ chosen mask (drop (suc p) xs)
  chosen_here d p mask [] h = absurd (omega arith)
  chosen_here d zero mask (x ∷ xs) h = refl
  chosen_here d (suc p) mask (x ∷ xs) h = chosen_here d p mask xs (omega arith)

  -- more bits than the number has choose no more
  pub chosen_wide : (j k n : ℕ) (xs : List X) → n < 2 ^ j → chosen (low_bits (j + k) n) xs ≡ chosen (low_bits j n) xs
  chosen_wide j k n xs h =
      let none : n / 2 ^ j ≡ 0 = omega (arith, shr_below n 0 j (subst (λ (i : ℕ). n < 2 ^ i) (sym (zero-add j)) h)) in
      ap (λ (bs : List Bool). chosen bs xs) (low_bits-add j k n ∙ ap (λ (m : ℕ). low_bits j n ++ low_bits k m) none ∙ ap (λ (bs : List Bool). low_bits j n ++ bs) (low_bits-nothing k))
      ∙ chosen-append (low_bits j n) (replicate k false) xs
      ∙ ap (λ (ys : List X). chosen (low_bits j n) xs ++ ys) (chosen_nothing k (drop (length (low_bits j n)) xs))
      ∙ append-nil (chosen (low_bits j n) xs)

  -- ---- the values that a word chooses, one by one
  pub record Picked (all kept : List X) (word rest : ℕ) (values left : List X) : Type 0 where
    pub same : kept ++ chosen (low_bits 64 rest) left ≡ all ++ chosen (low_bits 64 word) values
    pub inside : rest < 2 ^ length left

  pub picked_all : (all kept : List X) (word rest : ℕ) (values left : List X) → rest ≡ 0 → Picked all kept word rest values left → kept ≡ all ++ chosen (low_bits 64 word) values
  picked_all all kept word rest values left e h =
      sym (append-nil kept)
      ∙ ap (λ (ys : List X). kept ++ ys) (sym (ap (λ (n : ℕ). chosen (low_bits 64 n) left) e ∙ ap (λ (bs : List Bool). chosen bs left) (low_bits-nothing 64) ∙ chosen_nothing 64 left))
      ∙ h.same

  pub picked_more : (d : X) (all kept : List X) (word rest : ℕ) (values left : List X) → 0 < rest → rest < 2 ^ 64 → Picked all kept word rest values left
      → Picked all (kept ++ get_or left (count_trailing_zeros 64 rest) d ∷ []) word (rest / 2 ^ suc (count_trailing_zeros 64 rest)) values (drop (suc (count_trailing_zeros 64 rest)) left)
  picked_more d all kept word rest values left some small h =
      let lowest = lowest_one 64 rest some small in
      let p = count_trailing_zeros 64 rest in
      let above = lowest.0 in
      let after = rest / 2 ^ suc p in
      let one = get_or left p d in
      let lt = pick_inside (length left) rest some small h.inside in
      let wide : 64 ≡ above + suc p = omega (arith, lowest.1.count) in
      let less : after < 2 ^ above = shr_below rest above (suc p) (subst (λ (k : ℕ). rest < 2 ^ k) wide small) in
      let same : chosen (low_bits 64 after) (drop (suc p) left) ≡ chosen (low_bits above after) (drop (suc p) left) =
      ap (λ (k : ℕ). chosen (low_bits k after) (drop (suc p) left)) wide ∙ chosen_wide above (suc p) after (drop (suc p) left) less in
      let split : chosen (low_bits 64 rest) left ≡ one ∷ chosen (low_bits 64 after) (drop (suc p) left) =
      ap (λ (bs : List Bool). chosen bs left) lowest.1.split ∙ chosen_skip p (true ∷ low_bits above after) left ∙ chosen_here d p (low_bits above after) left lt
      ∙ ap (λ (ys : List X). one ∷ ys) (sym same) in
      record {
        same = append_assoc kept (one ∷ []) (chosen (low_bits 64 after) (drop (suc p) left)) ∙ ap (λ (ys : List X). kept ++ ys) (sym split) ∙ h.same;
        inside = subst (λ (k : ℕ). after < 2 ^ k) (sym (length-drop (suc p) left)) (shr_below rest (length left - suc p) (suc p) (subst (λ (k : ℕ). rest < 2 ^ k) (rejoined (length left) (suc p) lt) h.inside));
      }

  pub picked_on : (d : X) (all kept : List X) (word rest place : ℕ) (values from_start : List X) → 0 < rest → rest < 2 ^ 64 → Picked all kept word rest from_start (drop place values)
      → Picked all (kept ++ get_or values (place + count_trailing_zeros 64 rest) d ∷ []) word (rest / 2 ^ count_trailing_zeros 64 rest / 2 ^ 1) from_start (drop (place + count_trailing_zeros 64 rest + 1) values)
  picked_on d all kept word rest place values from_start some small h =
      let p = count_trailing_zeros 64 rest in
      let next : p + 1 ≡ suc p = omega arith in
      let end : place + suc p ≡ place + p + 1 = omega arith in
      let number : rest / 2 ^ suc p ≡ rest / 2 ^ p / 2 ^ 1 = ap (λ (k : ℕ). rest / 2 ^ k) (sym next) ∙ sym (shr-shr rest p 1) in
      let after : drop (suc p) (drop place values) ≡ drop (place + p + 1) values = drop-drop (suc p) place values ∙ ap (λ (k : ℕ). drop k values) end in
      let more = picked_more d all kept word rest from_start (drop place values) some small h in
      subst (λ (n : ℕ). Picked all (kept ++ get_or values (place + p) d ∷ []) word n from_start (drop (place + p + 1) values)) number
      (subst (λ (l : List X). Picked all (kept ++ get_or values (place + p) d ∷ []) word (rest / 2 ^ suc p) from_start l) after
      (subst (λ (x : X). Picked all (kept ++ x ∷ []) word (rest / 2 ^ suc p) from_start (drop (suc p) (drop place values))) (get_or-drop place values p d) more))

  pub pick_at : (rest place : ℕ) (values : List X) → 0 < rest → rest < 2 ^ 64 → rest < 2 ^ length (drop place values) → place + count_trailing_zeros 64 rest < length values
  pick_at rest place values some small inside =
      omega (arith, pick_inside (length values - place) rest some small (subst (λ (k : ℕ). rest < 2 ^ k) (length-drop place values) inside))

  -- ---- the values that the words so far choose
  pub record Filtered (mask : List Bool) (values kept : List X) (i : ℕ) : Type 0 where
    pub same : kept ++ chosen (drop (64 * i) mask) (drop (64 * i) values) ≡ chosen mask values

  pub filtered_none : (mask : List Bool) (values : List X) → Filtered mask values [] 0
  filtered_none mask values = record { same = refl }

  rows_after : (mask : List Bool) (left : List X) (i c : ℕ) → c ≡ min 64 (length mask - 64 * i) → chosen (drop (64 * (i + 1)) mask) (drop c left) ≡ chosen (drop (64 * (i + 1)) mask) (drop 64 left)
  rows_after mask left i c count =
      elim (cases_lt (length mask - 64 * i) 64) [
        | inl short ↦ (let none = drop_all (64 * (i + 1)) mask (omega arith) in ap (λ (bs : List Bool). chosen bs (drop c left)) none ∙ sym (ap (λ (bs : List Bool). chosen bs (drop 64 left)) none))
        | inr wide ↦ (let e : c ≡ 64 = omega arith in ap (λ (k : ℕ). chosen (drop (64 * (i + 1)) mask) (drop k left)) e)
      ]

  pub filtered_more : (mask : List Bool) (values kept : List X) (i c w : ℕ) → WordRows mask i c w → Filtered mask values kept i → Filtered mask values (kept ++ chosen (low_bits 64 w) (drop (64 * i) values)) (i + 1)
  filtered_more mask values kept i c w word h =
      let left = drop (64 * i) values in
      let next : 64 * i + 64 ≡ 64 * (i + 1) = omega arith in
      let wide : 64 ≡ c + (64 - c) = omega (arith, word.count) in
      let here : chosen (low_bits 64 w) left ≡ chosen (low_bits c w) left = ap (λ (k : ℕ). chosen (low_bits k w) left) wide ∙ chosen_wide c (64 - c) w left word.small in
      let later = chosen (drop (64 * (i + 1)) mask) (drop (64 * (i + 1)) values) in
      let split : chosen (drop (64 * i) mask) left ≡ chosen (low_bits 64 w) left ++ later =
      ap (λ (bs : List Bool). chosen bs left) word.split ∙ chosen-append (low_bits c w) (drop (64 * (i + 1)) mask) left
      ∙ (λ j. sym here j ++ (ap (λ (k : ℕ). chosen (drop (64 * (i + 1)) mask) (drop k left)) (length-low_bits c w) ∙ rows_after mask left i c word.count ∙ ap (chosen (drop (64 * (i + 1)) mask)) (drop-drop 64 (64 * i) values ∙ ap (λ (k : ℕ). drop k values) next)) j) in
      record { same = append_assoc kept (chosen (low_bits 64 w) left) later ∙ ap (λ (ys : List X). kept ++ ys) (sym split) ∙ h.same }

  pub chosen_full : (w : ℕ) (left : List X) → w ≡ 2 ^ 64 - 1 → 64 ≤ length left → chosen (low_bits 64 w) left ≡ take 64 left
  chosen_full w left full long = ap (λ (n : ℕ). chosen (low_bits 64 n) left) full ∙ ap (λ (bs : List Bool). chosen bs left) (low_bits-ones 64) ∙ chosen_whole 64 left long

-- a word of 64 ones has 64 rows
pub full_rows : (w n : ℕ) → w ≡ 2 ^ 64 - 1 → w < 2 ^ n → 64 ≤ n
full_rows w n full inside = elim (cases_lt n 64) [ inl few ↦ (let least : n ≤ 63 = omega arith in absurd (omega (arith, pow_mono least))) | inr wide ↦ wide ]
