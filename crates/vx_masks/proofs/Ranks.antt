-- What a mask chooses by rank of the rows that another chooses, word by word.
use Rattle.std.proofs.Common.{◌≡◌, ℕ, zero, suc, ◌+◌, ◌-◌, ◌*◌, ◌/◌, ◌%◌, ◌^◌, ◌<◌, ◌≤◌, min, Bool, true, false, cond, List, [], ◌∷◌, ◌++◌, length, take, drop, replicate, refl, sym, ap, subst, ◌∙◌, arith, zero-add}
use lib.Count.{ones, count_trailing_zeros}
use lib.Pow.{pow_mono}
use lib.Bits.{bit_and}
use Rattle.std.proofs.lemmas.List.{append_assoc, length-take-le, take-append-drop, take_at, drop_at}
use Rattle.std.proofs.lemmas.List.Sums.{sum_by-append, sum_by-take-drop}
use Rattle.std.proofs.lemmas.Nat.{pow_pos, pow-add, shr_below, shr-shr, one_shl, and_mask, mod_below}
use Rattle.vx_masks.specs.Masks.{true_count, chosen_of_chosen, place_of_rank}
use Rattle.vx_masks.specs.Words.{low_bits}
use Rattle.vx_masks.proofs.LowBits.{lowest_one, length-low_bits, low_bits-add, low_bits-above, low_bits-mod, low_bits-nothing, drop-low_bits, take-low_bits, true_count-low_bits}
use Rattle.vx_masks.proofs.Numbers.{rest_of}
use Rattle.vx_masks.proofs.Places.{true_count-cons, rank_inside}
use Rattle.vx_masks.proofs.Chosen.{WordRows, pick_inside}
use Rattle.vx_masks.proofs.Built.{Built, NextWord, built_more, part_of_bits}

-- ---- choosing by rank, on lists
none_ranked : (xs : List Bool) → chosen_of_chosen xs [] ≡ replicate (length xs) false
none_ranked [] = refl
none_ranked (true ∷ xs) = ap (λ (bs : List Bool). false ∷ bs) (none_ranked xs)
none_ranked (false ∷ xs) = ap (λ (bs : List Bool). false ∷ bs) (none_ranked xs)

nothing_ranked : (xs : List Bool) (k : ℕ) → chosen_of_chosen xs (replicate k false) ≡ replicate (length xs) false
nothing_ranked [] k = refl
nothing_ranked (false ∷ xs) k = ap (λ (bs : List Bool). false ∷ bs) (nothing_ranked xs k)
nothing_ranked (true ∷ xs) zero = ap (λ (bs : List Bool). false ∷ bs) (none_ranked xs)
nothing_ranked (true ∷ xs) (suc k) = ap (λ (bs : List Bool). false ∷ bs) (nothing_ranked xs k)

pub length-ranked : (xs ys : List Bool) → length (chosen_of_chosen xs ys) ≡ length xs
length-ranked [] ys = refl
length-ranked (false ∷ xs) ys = ap suc (length-ranked xs ys)
length-ranked (true ∷ xs) [] = ap suc (length-ranked xs [])
length-ranked (true ∷ xs) (y ∷ ys) = ap suc (length-ranked xs ys)

drop_none : (k : ℕ) → drop k (let none : List Bool = [] in none) ≡ []
drop_none zero = refl
drop_none (suc k) = refl

one_more : (xs ys : List Bool) (y : Bool) → drop (true_count xs) ys ≡ drop (true_count (true ∷ xs)) (y ∷ ys)
one_more xs ys y = let e : suc (true_count xs) ≡ true_count (true ∷ xs) = omega (arith, true_count-cons true xs) in ap (λ (k : ℕ). drop k (y ∷ ys)) e

no_more : (xs ys : List Bool) → drop (true_count xs) ys ≡ drop (true_count (false ∷ xs)) ys
no_more xs ys = let e : true_count xs ≡ true_count (false ∷ xs) = omega (arith, true_count-cons false xs) in ap (λ (k : ℕ). drop k ys) e

pub ranked-append : (xs zs ys : List Bool) → chosen_of_chosen (xs ++ zs) ys ≡ chosen_of_chosen xs ys ++ chosen_of_chosen zs (drop (true_count xs) ys)
ranked-append [] zs ys = refl
ranked-append (false ∷ xs) zs ys = ap (λ (bs : List Bool). false ∷ bs) (ranked-append xs zs ys ∙ ap (λ (l : List Bool). chosen_of_chosen xs ys ++ chosen_of_chosen zs l) (no_more xs ys))
ranked-append (true ∷ xs) zs [] =
    ap (λ (bs : List Bool). false ∷ bs) (ranked-append xs zs [] ∙ ap (λ (l : List Bool). chosen_of_chosen xs [] ++ chosen_of_chosen zs l) (drop_none (true_count xs) ∙ sym (drop_none (true_count (true ∷ xs)))))
ranked-append (true ∷ xs) zs (y ∷ ys) = ap (λ (bs : List Bool). y ∷ bs) (ranked-append xs zs ys ∙ ap (λ (l : List Bool). chosen_of_chosen xs ys ++ chosen_of_chosen zs l) (one_more xs ys y))

pub ranked_by_few : (xs ys : List Bool) (k : ℕ) → k ≡ true_count xs → chosen_of_chosen xs (take k ys) ≡ chosen_of_chosen xs ys
ranked_by_few [] ys k e = refl
ranked_by_few (false ∷ xs) ys k e = ap (λ (bs : List Bool). false ∷ bs) (ranked_by_few xs ys k (omega (arith, true_count-cons false xs)))
ranked_by_few (true ∷ xs) ys zero e = absurd (omega (arith, true_count-cons true xs))
ranked_by_few (true ∷ xs) [] (suc k) e = refl
ranked_by_few (true ∷ xs) (y ∷ ys) (suc k) e = ap (λ (bs : List Bool). y ∷ bs) (ranked_by_few xs ys k (omega (arith, true_count-cons true xs)))

-- the first rank that is chosen
pub rank_split : (xs ls : List Bool) (rank : ℕ) → rank < true_count xs
    → chosen_of_chosen xs (replicate rank false ++ true ∷ ls) ≡ replicate (place_of_rank xs rank) false ++ true ∷ chosen_of_chosen (drop (suc (place_of_rank xs rank)) xs) ls
rank_split [] ls rank h = absurd (omega arith)
rank_split (false ∷ xs) ls rank h = ap (λ (bs : List Bool). false ∷ bs) (rank_split xs ls rank (omega (arith, true_count-cons false xs)))
rank_split (true ∷ xs) ls zero h = refl
rank_split (true ∷ xs) ls (suc rank) h = ap (λ (bs : List Bool). false ∷ bs) (rank_split xs ls rank (omega (arith, true_count-cons true xs)))

pub rank_rest : (xs : List Bool) (rank : ℕ) → rank < true_count xs → true_count (drop (suc (place_of_rank xs rank)) xs) + suc rank ≡ true_count xs
rank_rest [] rank h = absurd (omega arith)
rank_rest (false ∷ xs) rank h = omega (arith, true_count-cons false xs, rank_rest xs rank (omega (arith, true_count-cons false xs)))
rank_rest (true ∷ xs) zero h = omega (arith, true_count-cons true xs)
rank_rest (true ∷ xs) (suc rank) h = omega (arith, true_count-cons true xs, rank_rest xs rank (omega (arith, true_count-cons true xs)))

pub place-append : (xs ys : List Bool) (rank : ℕ) → rank < true_count xs → place_of_rank (xs ++ ys) rank ≡ place_of_rank xs rank
place-append [] ys rank h = absurd (omega arith)
place-append (false ∷ xs) ys rank h = ap suc (place-append xs ys rank (omega (arith, true_count-cons false xs)))
place-append (true ∷ xs) ys zero h = refl
place-append (true ∷ xs) ys (suc rank) h = ap suc (place-append xs ys rank (omega (arith, true_count-cons true xs)))

-- ---- bits
pub low_bits-few : (n : ℕ) → low_bits 0 n ≡ []
unfolding low_bits
low_bits-few n = refl

low_bits-one : low_bits 1 1 ≡ true ∷ []
unfolding low_bits
low_bits-one = refl

low_bits-power : (p : ℕ) → low_bits (p + 1) (2 ^ p) ≡ replicate p false ++ true ∷ []
low_bits-power p =
    let alone : 2 ^ p ≡ 0 + 2 ^ p * 1 = omega arith in
    let up : (0 + 2 ^ p * 1) / 2 ^ p ≡ 1 = rest_of p 0 1 (pow_pos p) in
    ap (low_bits (p + 1)) alone ∙ low_bits-add p 1 (0 + 2 ^ p * 1)
    ∙ (λ j. (low_bits-above p 0 1 ∙ low_bits-nothing p) j ++ (ap (low_bits 1) up ∙ low_bits-one) j)

pub low_bits-wide : (j k n : ℕ) → n < 2 ^ j → low_bits (j + k) n ≡ low_bits j n ++ replicate k false
low_bits-wide j k n h =
    let none : n / 2 ^ j ≡ 0 = omega (arith, shr_below n 0 j (subst (λ (i : ℕ). n < 2 ^ i) (sym (zero-add j)) h)) in
    low_bits-add j k n ∙ ap (λ (m : ℕ). low_bits j n ++ low_bits k m) none ∙ ap (λ (bs : List Bool). low_bits j n ++ bs) (low_bits-nothing k)

-- the lowest one, at another width
pub lowest_at : (k n p : ℕ) → n % 2 ^ suc p ≡ 2 ^ p → p < k → low_bits k n ≡ replicate p false ++ true ∷ low_bits (k - suc p) (n / 2 ^ suc p)
lowest_at k n p low h =
    let e : k ≡ suc p + (k - suc p) = omega arith in
    let next : suc p ≡ p + 1 = omega arith in
    ap (λ (j : ℕ). low_bits j n) e ∙ low_bits-add (suc p) (k - suc p) n
    ∙ ap (λ (bs : List Bool). bs ++ low_bits (k - suc p) (n / 2 ^ suc p)) (sym (low_bits-mod (suc p) n) ∙ ap (low_bits (suc p)) low ∙ ap (λ (j : ℕ). low_bits j (2 ^ p)) next ∙ low_bits-power p)
    ∙ append_assoc (replicate p false) (true ∷ []) (low_bits (k - suc p) (n / 2 ^ suc p))

-- ---- one word
pub record Deposited (word ranks result done rest left : ℕ) : Type 0 where
  pub few : done ≤ 64
  pub small : result < 2 ^ done
  pub rest_small : rest < 2 ^ (64 - done)
  pub left_small : left < 2 ^ ones rest
  pub same : low_bits done result ++ chosen_of_chosen (low_bits (64 - done) rest) (low_bits (ones rest) left) ≡ chosen_of_chosen (low_bits 64 word) (low_bits (ones word) ranks)

pub deposited_none : (word ranks : ℕ) → word < 2 ^ 64 → ranks < 2 ^ ones word → Deposited word ranks 0 0 word ranks
deposited_none word ranks h l = record {
  few = omega arith;
  small = omega arith;
  rest_small = h;
  left_small = l;
  same = ap (λ (bs : List Bool). bs ++ chosen_of_chosen (low_bits 64 word) (low_bits (ones word) ranks)) (low_bits-few 0);
}

pub deposited_all : (word ranks result done rest left : ℕ) → left ≡ 0 → Deposited word ranks result done rest left → low_bits 64 result ≡ chosen_of_chosen (low_bits 64 word) (low_bits (ones word) ranks)
deposited_all word ranks result done rest left e h =
    let wide : 64 ≡ done + (64 - done) = omega (arith, h.few) in
    let xs = low_bits (64 - done) rest in
    let none : chosen_of_chosen xs (low_bits (ones rest) left) ≡ replicate (64 - done) false =
    ap (λ (n : ℕ). chosen_of_chosen xs (low_bits (ones rest) n)) e ∙ ap (chosen_of_chosen xs) (low_bits-nothing (ones rest)) ∙ nothing_ranked xs (ones rest)
    ∙ ap (λ (k : ℕ). replicate k false) (length-low_bits (64 - done) rest) in
    ap (λ (k : ℕ). low_bits k result) wide ∙ low_bits-wide done (64 - done) result h.small ∙ ap (λ (bs : List Bool). low_bits done result ++ bs) (sym none) ∙ h.same

-- the place of the next row
pub place_known : (done rest rank : ℕ) → done ≤ 64 → rest < 2 ^ (64 - done) → rank < ones rest → place_of_rank (low_bits 64 rest) rank ≡ place_of_rank (low_bits (64 - done) rest) rank
place_known done rest rank few small h =
    let xs = low_bits (64 - done) rest in
    let wide : 64 ≡ (64 - done) + done = omega arith in
    ap (λ (k : ℕ). place_of_rank (low_bits k rest) rank) wide ∙ ap (λ (bs : List Bool). place_of_rank bs rank) (low_bits-wide (64 - done) done rest small)
    ∙ place-append xs (replicate done false) rank (omega (arith, true_count-low_bits (64 - done) rest small))

pub place_fits : (done rest rank : ℕ) → done ≤ 64 → rest < 2 ^ (64 - done) → rank < ones rest → done + place_of_rank (low_bits 64 rest) rank < 64
place_fits done rest rank few small h =
    let xs = low_bits (64 - done) rest in
    omega (arith, place_known done rest rank few small h, rank_inside xs rank (omega (arith, true_count-low_bits (64 - done) rest small)), length-low_bits (64 - done) rest)

pub deposited_more : (word ranks result done rest left p : ℕ) → 0 < left → left < 2 ^ 64 → p ≡ place_of_rank (low_bits 64 rest) (count_trailing_zeros 64 left) → Deposited word ranks result done rest left
    → Deposited word ranks (result + 2 ^ (done + p)) (done + suc p) (rest / 2 ^ suc p) (left / 2 ^ suc (count_trailing_zeros 64 left))
deposited_more word ranks result done rest left p some small at h =
    let rank = count_trailing_zeros 64 left in
    let lowest = lowest_one 64 left some small in
    let r = 64 - done in
    let xs = low_bits r rest in
    let k = ones rest in
    let counted : true_count xs ≡ k = true_count-low_bits r rest h.rest_small in
    let known : rank < k = pick_inside k left some small h.left_small in
    let inside : rank < true_count xs = omega arith in
    let place : p ≡ place_of_rank xs rank = at ∙ place_known done rest rank h.few h.rest_small known in
    let lt : p < r = omega (arith, place, rank_inside xs rank inside, length-low_bits r rest) in
    let rest_after = rest / 2 ^ suc p in
    let left_after = left / 2 ^ suc rank in
    let r_after = r - suc p in
    let cut : r ≡ suc p + r_after = omega arith in
    let cut_back : r ≡ r_after + suc p = omega arith in
    let dropped : drop (suc p) xs ≡ low_bits r_after rest_after = ap (λ (j : ℕ). drop (suc p) (low_bits j rest)) cut ∙ drop-low_bits (suc p) r_after rest in
    let rest_less : rest_after < 2 ^ r_after = shr_below rest r_after (suc p) (subst (λ (j : ℕ). rest < 2 ^ j) cut_back h.rest_small) in
    let fewer : ones rest_after + suc rank ≡ k =
    ap (λ (j : ℕ). j + suc rank) (sym (true_count-low_bits r_after rest_after rest_less) ∙ ap true_count (sym dropped) ∙ ap (λ (j : ℕ). true_count (drop (suc j) xs)) place) ∙ rank_rest xs rank inside ∙ counted in
    let k_after : k - suc rank ≡ ones rest_after = omega arith in
    let k_cut : k ≡ ones rest_after + suc rank = sym fewer in
    let ls = low_bits (ones rest_after) left_after in
    let ranked : low_bits k left ≡ replicate rank false ++ true ∷ ls = lowest_at k left rank lowest.1.low known ∙ ap (λ (j : ℕ). replicate rank false ++ true ∷ low_bits j left_after) k_after in
    let later = chosen_of_chosen (low_bits r_after rest_after) ls in
    let split : chosen_of_chosen xs (low_bits k left) ≡ replicate p false ++ true ∷ later =
    ap (chosen_of_chosen xs) ranked ∙ rank_split xs ls rank inside
    ∙ ap (λ (j : ℕ). replicate j false ++ true ∷ chosen_of_chosen (drop (suc j) xs) ls) (sym place)
    ∙ ap (λ (bs : List Bool). replicate p false ++ true ∷ chosen_of_chosen bs ls) dropped in
    let next : suc p ≡ p + 1 = omega arith in
    let more : result + 2 ^ (done + p) ≡ result + 2 ^ done * 2 ^ p = ap (λ (x : ℕ). result + x) (pow-add 2 done p) in
    let front : low_bits (done + suc p) (result + 2 ^ (done + p)) ≡ low_bits done result ++ (replicate p false ++ true ∷ []) =
    ap (low_bits (done + suc p)) more ∙ low_bits-add done (suc p) (result + 2 ^ done * 2 ^ p)
    ∙ (λ j. low_bits-above done result (2 ^ p) j ++ (ap (low_bits (suc p)) (rest_of done result (2 ^ p) h.small) ∙ ap (λ (i : ℕ). low_bits i (2 ^ p)) next ∙ low_bits-power p) j) in
    let grown : result + 2 ^ (done + p) < 2 ^ (done + suc p) =
    (let e : done + suc p ≡ suc (done + p) = omega arith in let wide : done ≤ done + p = omega arith in omega (arith, h.small, pow_mono wide, ap (λ (j : ℕ). 2 ^ j) e)) in
    let r_same : 64 - (done + suc p) ≡ r_after = omega arith in
    record {
      few = omega arith;
      small = grown;
      rest_small = subst (λ (j : ℕ). rest_after < 2 ^ j) (sym r_same) rest_less;
      left_small = shr_below left (ones rest_after) (suc rank) (subst (λ (j : ℕ). left < 2 ^ j) k_cut h.left_small);
      same = (λ j. front j ++ chosen_of_chosen (low_bits (r_same j) rest_after) ls)
          ∙ append_assoc (low_bits done result) (replicate p false ++ true ∷ []) later
          ∙ ap (λ (bs : List Bool). low_bits done result ++ bs) (append_assoc (replicate p false) (true ∷ []) later ∙ sym split)
          ∙ h.same;
    }

shifted_once : (n p : ℕ) → n / 2 ^ p / 2 ^ 1 ≡ n / 2 ^ suc p
shifted_once n p = let next : p + 1 ≡ suc p = omega arith in shr-shr n p 1 ∙ ap (λ (k : ℕ). n / 2 ^ k) next

pub deposited_on : (word ranks result done rest left p : ℕ) → 0 < left → left < 2 ^ 64 → p ≡ place_of_rank (low_bits 64 rest) (count_trailing_zeros 64 left) → done + p < 64 → Deposited word ranks result done rest left
    → Deposited word ranks (result + 1 * 2 ^ (done + p) % 2 ^ 64) (done + (p + 1)) (rest / 2 ^ p / 2 ^ 1) (left / 2 ^ count_trailing_zeros 64 left / 2 ^ 1)
deposited_on word ranks result done rest left p some small at fits h =
    let rank = count_trailing_zeros 64 left in
    let next : done + suc p ≡ done + (p + 1) = omega arith in
    subst (λ (x : ℕ). Deposited word ranks (result + x) (done + (p + 1)) (rest / 2 ^ p / 2 ^ 1) (left / 2 ^ rank / 2 ^ 1)) (sym (one_shl (done + p) 64 fits))
    (subst (λ (x : ℕ). Deposited word ranks (result + 2 ^ (done + p)) x (rest / 2 ^ p / 2 ^ 1) (left / 2 ^ rank / 2 ^ 1)) next
    (subst (λ (x : ℕ). Deposited word ranks (result + 2 ^ (done + p)) (done + suc p) x (left / 2 ^ rank / 2 ^ 1)) (sym (shifted_once rest p))
    (subst (λ (x : ℕ). Deposited word ranks (result + 2 ^ (done + p)) (done + suc p) (rest / 2 ^ suc p) x) (sym (shifted_once left rank))
    (deposited_more word ranks result done rest left p some small at h))))

pub deposit_fits : (word ranks result done rest left p : ℕ) → done + p < 64 → Deposited word ranks result done rest left → result + 1 * 2 ^ (done + p) % 2 ^ 64 < 2 ^ 64
deposit_fits word ranks result done rest left p fits h =
    let wide : done ≤ done + p = omega arith in
    let most : done + p ≤ 63 = omega arith in
    omega (arith, one_shl (done + p) 64 fits, h.small, pow_mono wide, pow_mono most)

-- ---- the words so far
pub record RankedWords (mask ranks : List Bool) (i rank : ℕ) (ws : List ℕ) : Type 0 where
  pub built : Built (chosen_of_chosen mask ranks) i ws
  pub passed : rank ≡ true_count (take (64 * i) mask)

counted_word : (mask : List Bool) (i c word : ℕ) → WordRows mask i c word → true_count (drop (64 * i) mask) ≡ ones word + true_count (drop (64 * (i + 1)) mask)
counted_word mask i c word rows =
    ap true_count rows.split ∙ sum_by-append (λ (b : Bool). cond b 1 0) (low_bits c word) (drop (64 * (i + 1)) mask)
    ∙ ap (λ (k : ℕ). k + true_count (drop (64 * (i + 1)) mask)) (true_count-low_bits c word rows.small)

pub ranks_inside : (mask : List Bool) (i c word rank : ℕ) → WordRows mask i c word → rank ≡ true_count (take (64 * i) mask) → rank + ones word ≤ true_count mask
ranks_inside mask i c word rank rows e = omega (arith, counted_word mask i c word rows, sum_by-take-drop (λ (b : Bool). cond b 1 0) mask (64 * i))

pub passed_more : (mask : List Bool) (i c word rank : ℕ) → WordRows mask i c word → rank ≡ true_count (take (64 * i) mask) → rank + ones word ≡ true_count (take (64 * (i + 1)) mask)
passed_more mask i c word rank rows e =
    omega (arith, counted_word mask i c word rows, sum_by-take-drop (λ (b : Bool). cond b 1 0) mask (64 * i), sum_by-take-drop (λ (b : Bool). cond b 1 0) mask (64 * (i + 1)))

next_of_ranks : (mask ranks : List Bool) (n i c word rank d w : ℕ) → ranks ≡ low_bits (length ranks) n → length ranks ≡ true_count mask → rank ≡ true_count (take (64 * i) mask) → WordRows mask i c word → 64 * i < length mask
    → low_bits 64 d ≡ chosen_of_chosen (low_bits 64 word) (low_bits (ones word) (n / 2 ^ rank % 2 ^ ones word)) → w ≡ bit_and d (2 ^ c - 1) → NextWord (chosen_of_chosen mask ranks) i w
next_of_ranks mask ranks n i c word rank d w view len passed rows more is cut =
    let bits = chosen_of_chosen mask ranks in
    let front = take (64 * i) mask in
    let here = low_bits c word in
    let tail = drop (64 * (i + 1)) mask in
    let left = drop rank ranks in
    let same : min 64 (length bits - 64 * i) ≡ c = ap (λ (k : ℕ). min 64 (k - 64 * i)) (length-ranked mask ranks) ∙ sym rows.count in
    let number : w ≡ d % 2 ^ c = cut ∙ and_mask d c in
    let wide : 64 ≡ c + (64 - c) = omega (arith, rows.count) in
    let k = ones word in
    let few : low_bits k (n / 2 ^ rank % 2 ^ k) ≡ take k left =
    low_bits-mod k (n / 2 ^ rank) ∙ sym (part_of_bits rank k (length ranks) n (omega (arith, ranks_inside mask i c word rank rows passed))) ∙ ap (λ (bs : List Bool). take k (drop rank bs)) (sym view) in
    let counted : k ≡ true_count here = sym (true_count-low_bits c word rows.small) in
    let here_ranked = chosen_of_chosen here left in
    let long : length here_ranked ≡ c = length-ranked here left ∙ length-low_bits c word in
    let from_word : take c (low_bits 64 d) ≡ here_ranked =
    ap (take c) (is ∙ ap (λ (bs : List Bool). chosen_of_chosen bs (low_bits k (n / 2 ^ rank % 2 ^ k))) (ap (λ (j : ℕ). low_bits j word) wide ∙ low_bits-wide c (64 - c) word rows.small)
    ∙ ranked-append here (replicate (64 - c) false) (low_bits k (n / 2 ^ rank % 2 ^ k)))
    ∙ take_at (chosen_of_chosen here (low_bits k (n / 2 ^ rank % 2 ^ k))) (chosen_of_chosen (replicate (64 - c) false) (drop (true_count here) (low_bits k (n / 2 ^ rank % 2 ^ k)))) c (length-ranked here (low_bits k (n / 2 ^ rank % 2 ^ k)) ∙ length-low_bits c word)
    ∙ ap (chosen_of_chosen here) few ∙ ranked_by_few here left k counted in
    let all : mask ≡ front ++ (here ++ tail) = sym (take-append-drop (64 * i) mask) ∙ ap (λ (bs : List Bool). front ++ bs) rows.split in
    let front_long : length front ≡ 64 * i = length-take-le (64 * i) mask (omega arith) in
    let rest : drop (64 * i) bits ≡ here_ranked ++ chosen_of_chosen tail (drop (true_count here) left) =
    ap (λ (bs : List Bool). drop (64 * i) (chosen_of_chosen bs ranks)) all ∙ ap (drop (64 * i)) (ranked-append front (here ++ tail) ranks)
    ∙ drop_at (chosen_of_chosen front ranks) (chosen_of_chosen (here ++ tail) (drop (true_count front) ranks)) (64 * i) (length-ranked front ranks ∙ front_long)
    ∙ ap (λ (j : ℕ). chosen_of_chosen (here ++ tail) (drop j ranks)) (sym passed) ∙ ranked-append here tail left in
    let part : take c (drop (64 * i) bits) ≡ here_ranked = ap (take c) rest ∙ take_at here_ranked (chosen_of_chosen tail (drop (true_count here) left)) c long in
    let all_bits : low_bits c w ≡ take c (drop (64 * i) bits) =
    ap (low_bits c) number ∙ low_bits-mod c d ∙ sym (take-low_bits c (64 - c) d) ∙ ap (λ (j : ℕ). take c (low_bits j d)) (sym wide) ∙ from_word ∙ sym part in
    record {
      small = subst (λ (j : ℕ). w < 2 ^ j) (sym same) (omega (arith, number, mod_below d (2 ^ c) (pow_pos c)));
      rows = subst (λ (j : ℕ). low_bits j w ≡ take j (drop (64 * i) bits)) (sym same) all_bits;
    }

pub ranked_more : (mask ranks : List Bool) (n i c word rank d w : ℕ) (ws : List ℕ) → ranks ≡ low_bits (length ranks) n → length ranks ≡ true_count mask → WordRows mask i c word → 64 * i < length mask
    → low_bits 64 d ≡ chosen_of_chosen (low_bits 64 word) (low_bits (ones word) (n / 2 ^ rank % 2 ^ ones word)) → w ≡ bit_and d (2 ^ c - 1) → RankedWords mask ranks i rank ws
    → RankedWords mask ranks (i + 1) (rank + ones word) (ws ++ w ∷ [])
ranked_more mask ranks n i c word rank d w ws view len rows more is cut h = record {
  built = built_more (chosen_of_chosen mask ranks) i w ws (omega (arith, length-ranked mask ranks)) (next_of_ranks mask ranks n i c word rank d w view len h.passed rows more is cut) h.built;
  passed = passed_more mask i c word rank rows h.passed;
}
