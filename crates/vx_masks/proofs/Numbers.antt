-- The number that words spell, at any width.
use Rattle.std.proofs.Common.{set, ◌&&◌, ap₂, cond, ◌≡◌, ℕ, zero, suc, ◌+◌, ◌-◌, ◌*◌, ◌/◌, ◌%◌, ◌^◌, ◌<◌, ◌≤◌, Bool, List, [], ◌∷◌, ◌++◌, length, take, drop, get_or, refl, sym, ap, subst, ◌∙◌, arith}
use Rattle.std.specs.List.{flat_map, sum_by}
use Rattle.std.specs.Int.{bit_at}
use lib.Bits.{bit_and, bit_or}
use lib.Count.{ones}
use lib.Lanes.{number_l, zip2, put_chunk}
use Rattle.std.proofs.lemmas.List.{drop_more, set_split, append-nil, append_assoc, take_all, drop_all, take_at, drop_at, drop-drop, length-take-le, take_rest, length-drop, get_or-drop}
use Rattle.std.proofs.lemmas.Simd.{length-zip2, put_chunk_is}
use Rattle.std.proofs.lemmas.List.Sums.{sum_by-cons, sum_by-append, sum_by-take-drop, sum_by_more}
use Rattle.std.proofs.lemmas.Nat.{pow_pos, mul-add-lt, and_block, pow-add, shr-shr, shl-shr, and_mask, or_shifted, shr_below, mod-pow-add, shr_high, mod_low}
use Rattle.std.proofs.Math.Pow.{mod-mod-pow}
use Rattle.std.proofs.Math.Seq.{take-add}
use Rattle.std.proofs.Math.Nat.{mul_assoc, mul_comm, mul-mod_left, mul-add, zero-div, add-mul-div_left, add-mul-mod_self_left}
use Rattle.vx_masks.specs.Masks.{true_count, both}
use Rattle.vx_masks.specs.Words.{low_bits, Small}
use Rattle.vx_masks.proofs.LowBits.{half_power, low_bits-and, true_count-low_bits, low_bits-add, low_bits-above, length-low_bits}

pub small_tail : (w x : ℕ) (ws : List ℕ) → Small w (x ∷ ws) → Small w ws
small_tail w x ws h = record { small = λ i. h.small (suc i) }

-- the first word and the rest
pub rest_of : (w x n : ℕ) → x < 2 ^ w → (x + 2 ^ w * n) / 2 ^ w ≡ n
rest_of w x n h = let e : x + 2 ^ w * n ≡ n * 2 ^ w + x = omega (arith, mul_comm (2 ^ w) n) in ap (λ (m : ℕ). m / 2 ^ w) e ∙ shr_high n w x h

pub first_of : (w x n : ℕ) → x < 2 ^ w → (x + 2 ^ w * n) % 2 ^ w ≡ x
first_of w x n h = let e : x + 2 ^ w * n ≡ n * 2 ^ w + x = omega (arith, mul_comm (2 ^ w) n) in ap (λ (m : ℕ). m % 2 ^ w) e ∙ mod_low n w x h

-- as truth values
pub low_bits-words : (w : ℕ) (ws : List ℕ) → Small w ws → low_bits (w * length ws) (number_l (2 ^ w) ws) ≡ flat_map (low_bits w) ws
unfolding low_bits
low_bits-words w [] h = let e : w * 0 ≡ 0 = omega arith in ap (λ (k : ℕ). low_bits k 0) e
low_bits-words w (x ∷ ws) h =
    let n = number_l (2 ^ w) ws in
    let e : w * suc (length ws) ≡ w + w * length ws = omega arith in
    ap (λ (k : ℕ). low_bits k (x + 2 ^ w * n)) e
    ∙ low_bits-add w (w * length ws) (x + 2 ^ w * n)
    ∙ (λ i. low_bits-above w x n i ++ (ap (low_bits (w * length ws)) (rest_of w x n (h.small 0)) ∙ low_bits-words w ws (small_tail w x ws h)) i)

pub number_l-lt : (w : ℕ) (ws : List ℕ) → Small w ws → number_l (2 ^ w) ws < 2 ^ (w * length ws)
number_l-lt w [] h = omega (arith, pow_pos (w * 0))
number_l-lt w (x ∷ ws) h =
    let n = number_l (2 ^ w) ws in
    let e : w + w * length ws ≡ w * suc (length ws) = omega arith in
    subst (λ (k : ℕ). x + 2 ^ w * n < 2 ^ k) e
    (omega (arith, mul_comm (2 ^ w) n, mul_comm (2 ^ w) (2 ^ (w * length ws)), pow-add 2 w (w * length ws), mul-add-lt n (2 ^ w) x (2 ^ (w * length ws)) (number_l-lt w ws (small_tail w x ws h)) (h.small 0)))

pub number_l-append : (w : ℕ) (xs ys : List ℕ) → number_l (2 ^ w) (xs ++ ys) ≡ number_l (2 ^ w) xs + 2 ^ (w * length xs) * number_l (2 ^ w) ys
number_l-append w [] ys = let e : w * 0 ≡ 0 = omega arith in omega (arith, ap (λ (k : ℕ). 2 ^ k * number_l (2 ^ w) ys) e)
number_l-append w (x ∷ xs) ys =
    let n = number_l (2 ^ w) ys in
    let e : w * suc (length xs) ≡ w + w * length xs = omega arith in
    let power : 2 ^ (w * suc (length xs)) * n ≡ 2 ^ w * (2 ^ (w * length xs) * n) = ap (λ (k : ℕ). 2 ^ k * n) e ∙ ap (λ (p : ℕ). p * n) (pow-add 2 w (w * length xs)) ∙ mul_assoc (2 ^ w) (2 ^ (w * length xs)) n in
    omega (arith, ap (λ (m : ℕ). 2 ^ w * m) (number_l-append w xs ys), mul-add (2 ^ w) (number_l (2 ^ w) xs) (2 ^ (w * length xs) * n), power)

-- ---- from one word on
pub number_l-drop : (w i : ℕ) (ws : List ℕ) → Small w ws → number_l (2 ^ w) (drop i ws) ≡ number_l (2 ^ w) ws / 2 ^ (w * i)
number_l-drop w zero ws h = let e : 0 ≡ w * 0 = omega arith in let one : number_l (2 ^ w) ws ≡ number_l (2 ^ w) ws / 1 = omega arith in one ∙ ap (λ (k : ℕ). number_l (2 ^ w) ws / 2 ^ k) e
number_l-drop w (suc i) [] h = sym (zero-div (2 ^ (w * suc i)))
number_l-drop w (suc i) (x ∷ ws) h =
    let n = number_l (2 ^ w) ws in
    let e : w + w * i ≡ w * suc i = omega arith in
    number_l-drop w i ws (small_tail w x ws h)
    ∙ ap (λ (m : ℕ). m / 2 ^ (w * i)) (sym (rest_of w x n (h.small 0)))
    ∙ shr-shr (x + 2 ^ w * n) w (w * i)
    ∙ ap (λ (k : ℕ). (x + 2 ^ w * n) / 2 ^ k) e

pub number_l-split : (w i : ℕ) (ws : List ℕ) → number_l (2 ^ w) (drop i ws) ≡ get_or ws i 0 + 2 ^ w * number_l (2 ^ w) (drop (suc i) ws)
number_l-split w zero [] = omega arith
number_l-split w zero (x ∷ ws) = refl
number_l-split w (suc i) [] = omega arith
number_l-split w (suc i) (x ∷ ws) = number_l-split w i ws

pub power_split : (w s t n : ℕ) → w ≡ s + t → 2 ^ w * n ≡ 2 ^ s * (2 ^ t * n)
power_split w s t n e = ap (λ (k : ℕ). 2 ^ k * n) e ∙ ap (λ (p : ℕ). p * n) (pow-add 2 s t) ∙ mul_assoc (2 ^ s) (2 ^ t) n

-- ---- from one place on
pub number_at : (w s t q : ℕ) (ws : List ℕ) → Small w ws → w ≡ s + t → number_l (2 ^ w) ws / 2 ^ (w * q + s) ≡ get_or ws q 0 / 2 ^ s + 2 ^ t * number_l (2 ^ w) (drop (suc q) ws)
number_at w s t q ws h wide =
    let low = get_or ws q 0 in
    let all = number_l (2 ^ w) ws in
    let later = number_l (2 ^ w) (drop (suc q) ws) in
    let here : all / 2 ^ (w * q) ≡ low + 2 ^ s * (2 ^ t * later) = sym (number_l-drop w q ws h) ∙ number_l-split w q ws ∙ ap (λ (x : ℕ). low + x) (power_split w s t later wide) in
    sym (shr-shr all (w * q) s) ∙ ap (λ (x : ℕ). x / 2 ^ s) here ∙ add-mul-div_left low (2 ^ t * later) (pow_pos s)

-- the word at a place between two words
pub word_at : (w s t q : ℕ) (ws : List ℕ) → Small w ws → t + s ≡ w
    → number_l (2 ^ w) ws / 2 ^ (w * q + s) % 2 ^ w ≡ (get_or ws (suc q) 0 % 2 ^ s) * 2 ^ t + get_or ws q 0 / 2 ^ s
word_at w s t q ws h e =
    let low = get_or ws q 0 in
    let high = get_or ws (suc q) 0 in
    let later = number_l (2 ^ w) (drop (suc q) ws) in
    let last = number_l (2 ^ w) (drop (suc (suc q)) ws) in
    let wide : w ≡ s + t = omega arith in
    let shifted = number_at w s t q ws h wide in
    let small : low / 2 ^ s < 2 ^ t = shr_below low t s (subst (λ (k : ℕ). low < 2 ^ k) (sym e) (h.small q)) in
    let above : later % 2 ^ s ≡ high % 2 ^ s =
    ap (λ (x : ℕ). x % 2 ^ s) (number_l-split w (suc q) ws ∙ ap (λ (x : ℕ). high + x) (power_split w s t last wide)) ∙ add-mul-mod_self_left high (2 ^ s) (2 ^ t * last) in
    ap (λ (x : ℕ). x % 2 ^ w) shifted
    ∙ ap (λ (k : ℕ). (low / 2 ^ s + 2 ^ t * later) % 2 ^ k) wide
    ∙ mod-pow-add (low / 2 ^ s + 2 ^ t * later) s t
    ∙ (λ i. ((ap (λ (x : ℕ). x % 2 ^ s) (rest_of t (low / 2 ^ s) later small) ∙ above) i) * 2 ^ t + first_of t (low / 2 ^ s) later small i)

pub word_whole : (w q s : ℕ) (ws : List ℕ) → Small w ws → s ≡ 0 → number_l (2 ^ w) ws / 2 ^ (w * q + s) % 2 ^ w ≡ get_or ws q 0 / 2 ^ s
word_whole w q s ws h none =
    let zero_shift : get_or ws (suc q) 0 % 2 ^ s ≡ 0 = ap (λ (k : ℕ). get_or ws (suc q) 0 % 2 ^ k) none ∙ omega arith in
    word_at w s w q ws h (omega arith) ∙ ap (λ (x : ℕ). x * 2 ^ w + get_or ws q 0 / 2 ^ s) zero_shift ∙ omega arith

pub shl_cut : (a s t : ℕ) → a * 2 ^ t % 2 ^ (s + t) ≡ (a % 2 ^ s) * 2 ^ t
shl_cut a s t = mod-pow-add (a * 2 ^ t) s t ∙ (λ i. (shl-shr a t i % 2 ^ s) * 2 ^ t + mul-mod_left a (2 ^ t) i) ∙ omega arith

pub word_joined : (w s t q : ℕ) (ws : List ℕ) → Small w ws → t + s ≡ w
    → bit_or (get_or ws (suc q) 0 * 2 ^ t % 2 ^ w) (get_or ws q 0 / 2 ^ s) ≡ number_l (2 ^ w) ws / 2 ^ (w * q + s) % 2 ^ w
word_joined w s t q ws h e =
    let low = get_or ws q 0 in
    let high = get_or ws (suc q) 0 in
    let wide : w ≡ s + t = omega arith in
    ap (λ (x : ℕ). bit_or x (low / 2 ^ s)) (ap (λ (k : ℕ). high * 2 ^ t % 2 ^ k) wide ∙ shl_cut high s t)
    ∙ or_shifted (high % 2 ^ s) t (low / 2 ^ s) (shr_below low t s (subst (λ (k : ℕ). low < 2 ^ k) (sym e) (h.small q)))
    ∙ sym (word_at w s t q ws h e)

pub part_cut : (n k w : ℕ) → k ≤ w → bit_and (n % 2 ^ w) (2 ^ k - 1) ≡ n % 2 ^ k
part_cut n k w h =
    let e : w ≡ (w - k) + k = omega arith in
    and_mask (n % 2 ^ w) k ∙ ap (λ (j : ℕ). n % 2 ^ j % 2 ^ k) e ∙ mod-mod-pow n (w - k) k

-- ---- two lists of words
pub number_l-and : (w : ℕ) (xs ys : List ℕ) → Small w xs → Small w ys → length xs ≡ length ys → number_l (2 ^ w) (zip2 bit_and xs ys) ≡ bit_and (number_l (2 ^ w) xs) (number_l (2 ^ w) ys)
number_l-and w [] [] h l e = refl
number_l-and w [] (y ∷ ys) h l e = absurd (omega arith)
number_l-and w (x ∷ xs) [] h l e = absurd (omega arith)
number_l-and w (x ∷ xs) (y ∷ ys) h l e =
    let m = number_l (2 ^ w) xs in
    let n = number_l (2 ^ w) ys in
    let one : x + 2 ^ w * m ≡ m * 2 ^ w + x = omega (arith, mul_comm (2 ^ w) m) in
    let two : y + 2 ^ w * n ≡ n * 2 ^ w + y = omega (arith, mul_comm (2 ^ w) n) in
    ap (λ (k : ℕ). bit_and x y + 2 ^ w * k) (number_l-and w xs ys (small_tail w x xs h) (small_tail w y ys l) (omega arith))
    ∙ omega (arith, mul_comm (2 ^ w) (bit_and m n))
    ∙ sym (ap₂ bit_and one two ∙ and_block w m n x y (h.small 0) (l.small 0))

-- ---- how many bits are set
pub ones_of_words : (w : ℕ) (ws : List ℕ) → Small w ws → true_count (flat_map (low_bits w) ws) ≡ sum_by ones ws
ones_of_words w [] h = refl
ones_of_words w (x ∷ ws) h =
    sum_by-append (λ (b : Bool). cond b 1 0) (low_bits w x) (flat_map (low_bits w) ws)
    ∙ omega (arith, true_count-low_bits w x (h.small 0), ones_of_words w ws (small_tail w x ws h))
    ∙ sym (sum_by-cons ones x ws)

pub ones_of_number : (w : ℕ) (ws : List ℕ) → Small w ws → true_count (flat_map (low_bits w) ws) ≡ ones (number_l (2 ^ w) ws)
ones_of_number w ws h = ap true_count (sym (low_bits-words w ws h)) ∙ true_count-low_bits (w * length ws) (number_l (2 ^ w) ws) (number_l-lt w ws h)

-- as many as in those so far and in those that are left
pub ones_so_far : (w i : ℕ) (ws : List ℕ) → Small w ws → sum_by ones (take i ws) + sum_by ones (drop i ws) ≡ true_count (flat_map (low_bits w) ws)
ones_so_far w i ws h = sum_by-take-drop ones ws i ∙ sym (ones_of_words w ws h)

pub ones_eight_more : (i : ℕ) (ws : List ℕ) → sum_by ones (take (i + 8) ws) ≡ sum_by ones (take i ws) + sum_by ones (take 8 (drop i ws))
ones_eight_more i ws = ap (sum_by ones) (take-add i 8 ws) ∙ sum_by-append ones (take i ws) (take 8 (drop i ws))

pub ones_one_more : (p i : ℕ) (ws : List ℕ) → p ≤ length ws → i < length (take (length ws - p) (drop p ws)) → sum_by ones (take (p + (i + 1)) ws) ≡ sum_by ones (take (p + i) ws) + ones (get_or (take (length ws - p) (drop p ws)) i 0)
ones_one_more p i ws inside h =
    let rest : take (length ws - p) (drop p ws) ≡ drop p ws = take_rest ws p in
    let lt : p + i < length ws = omega (arith, ap length rest, length-drop p ws) in
    let e : p + (i + 1) ≡ (p + i) + 1 = omega arith in
    ap (λ (k : ℕ). sum_by ones (take k ws)) e ∙ sum_by_more ones ws (p + i) 0 lt
    ∙ ap (λ (x : ℕ). sum_by ones (take (p + i) ws) + ones x) (sym (ap (λ (l : List ℕ). get_or l i 0) rest ∙ get_or-drop p ws i 0))

-- ---- a list of words changed from the left
and-append : (xs ys us vs : List ℕ) → length xs ≡ length ys → zip2 bit_and (xs ++ us) (ys ++ vs) ≡ zip2 bit_and xs ys ++ zip2 bit_and us vs
and-append [] [] us vs e = refl
and-append [] (y ∷ ys) us vs e = absurd (omega arith)
and-append (x ∷ xs) [] us vs e = absurd (omega arith)
and-append (x ∷ xs) (y ∷ ys) us vs e = ap (λ (l : List ℕ). bit_and x y ∷ l) (and-append xs ys us vs (omega arith))

-- the first words are those of both, and the others are as before
abbrev pub anded : List ℕ → List ℕ → ℕ → List ℕ
anded xs ys i = zip2 bit_and (take i xs) (take i ys) ++ drop i xs

pub anded_more : (n i : ℕ) (xs ys zs : List ℕ) → i + n ≤ length xs → length ys ≡ length xs → zs ≡ anded xs ys i
    → take i zs ++ zip2 bit_and (take n (drop i zs)) (take n (drop i ys)) ++ drop (i + n) zs ≡ anded xs ys (i + n)
anded_more n i xs ys zs h len e =
    let front = zip2 bit_and (take i xs) (take i ys) in
    let long : length front ≡ i = length-zip2 bit_and (take i xs) (take i ys) (length-take-le i xs (omega arith) ∙ sym (length-take-le i ys (omega arith))) ∙ length-take-le i xs (omega arith) in
    let one : take i zs ≡ front = ap (take i) e ∙ take_at front (drop i xs) i long in
    let two : drop i zs ≡ drop i xs = ap (drop i) e ∙ drop_at front (drop i xs) i long in
    let three : drop (i + n) zs ≡ drop (i + n) xs = sym (drop-drop n i zs) ∙ ap (drop n) two ∙ drop-drop n i xs in
    let both : zip2 bit_and (take (i + n) xs) (take (i + n) ys) ≡ front ++ zip2 bit_and (take n (drop i xs)) (take n (drop i ys)) =
    ap₂ (zip2 bit_and) (take-add i n xs) (take-add i n ys) ∙ and-append (take i xs) (take i ys) (take n (drop i xs)) (take n (drop i ys)) (length-take-le i xs (omega arith) ∙ sym (length-take-le i ys (omega arith))) in
    (λ j. one j ++ zip2 bit_and (take n (two j)) (take n (drop i ys)) ++ three j)
    ∙ (λ j. sym both j ++ drop (i + n) xs)

pub anded_all : (xs ys : List ℕ) (i : ℕ) → length ys ≡ length xs → length xs ≤ i → anded xs ys i ≡ zip2 bit_and xs ys
anded_all xs ys i len h = (λ j. zip2 bit_and (take_all i xs h j) (take_all i ys (omega arith) j) ++ drop_all i xs h j) ∙ append-nil (zip2 bit_and xs ys)

pub stored_and : (i : ℕ) (xs ys : List ℕ) → i + 8 ≤ length xs → i + 8 ≤ length ys
    → put_chunk i xs (zip2 bit_and (take 8 (drop i xs)) (take 8 (drop i ys))) ≡ take i xs ++ zip2 bit_and (take 8 (drop i xs)) (take 8 (drop i ys)) ++ drop (i + 8) xs
stored_and i xs ys h l =
    let new = zip2 bit_and (take 8 (drop i xs)) (take 8 (drop i ys)) in
    let one : length (take 8 (drop i xs)) ≡ 8 = length-take-le 8 (drop i xs) (omega (arith, length-drop i xs)) in
    let two : length (take 8 (drop i ys)) ≡ 8 = length-take-le 8 (drop i ys) (omega (arith, length-drop i ys)) in
    let long : length new ≡ 8 = length-zip2 bit_and (take 8 (drop i xs)) (take 8 (drop i ys)) (one ∙ sym two) ∙ one in
    put_chunk_is i xs new (omega arith)
    ∙ ap (λ (l : List ℕ). take i xs ++ (new ++ l)) (ap (λ (k : ℕ). drop k (drop i xs)) long ∙ drop-drop 8 i xs)
    ∙ sym (append_assoc (take i xs) new (drop (i + 8) xs))

pub anded_one_more : (i : ℕ) (xs ys zs : List ℕ) → i < length xs → length ys ≡ length xs → zs ≡ anded xs ys i → length zs ≡ length xs
    → set zs i (bit_and (get_or zs i 0) (get_or ys i 0)) ≡ anded xs ys (i + 1)
anded_one_more i xs ys zs h len e same =
    let one = drop_more zs i 0 (omega arith) in
    let two = drop_more ys i 0 (omega arith) in
    let next : suc i ≡ i + 1 = omega arith in
    set_split zs i (bit_and (get_or zs i 0) (get_or ys i 0)) (omega arith)
    ∙ ap (λ (k : ℕ). take i zs ++ bit_and (get_or zs i 0) (get_or ys i 0) ∷ drop k zs) next
    ∙ sym (append_assoc (take i zs) (bit_and (get_or zs i 0) (get_or ys i 0) ∷ []) (drop (i + 1) zs))
    ∙ (λ j. take i zs ++ zip2 bit_and (take 1 (sym one j)) (take 1 (sym two j)) ++ drop (i + 1) zs)
    ∙ anded_more 1 i xs ys zs (omega arith) len e

pub both-append : (us vs xs ys : List Bool) → length us ≡ length xs → both (us ++ vs) (xs ++ ys) ≡ both us xs ++ both vs ys
both-append [] vs [] ys e = refl
both-append [] vs (x ∷ xs) ys e = absurd (omega arith)
both-append (u ∷ us) vs [] ys e = absurd (omega arith)
both-append (u ∷ us) vs (x ∷ xs) ys e = ap (λ (l : List Bool). (u && x) ∷ l) (both-append us vs xs ys (omega arith))

pub bits_of_and : (w : ℕ) (xs ys : List ℕ) → length xs ≡ length ys → flat_map (low_bits w) (zip2 bit_and xs ys) ≡ both (flat_map (low_bits w) xs) (flat_map (low_bits w) ys)
bits_of_and w [] [] e = refl
bits_of_and w [] (y ∷ ys) e = absurd (omega arith)
bits_of_and w (x ∷ xs) [] e = absurd (omega arith)
bits_of_and w (x ∷ xs) (y ∷ ys) e =
    (λ i. low_bits-and w x y i ++ bits_of_and w xs ys (omega arith) i)
    ∙ sym (both-append (low_bits w x) (flat_map (low_bits w) xs) (low_bits w y) (flat_map (low_bits w) ys) (length-low_bits w x ∙ sym (length-low_bits w y)))

pub ones_all : (w p i : ℕ) (ws : List ℕ) → Small w ws → p ≤ length ws → length (take (length ws - p) (drop p ws)) ≤ i → sum_by ones (take (p + i) ws) ≡ true_count (flat_map (low_bits w) ws)
ones_all w p i ws small h past =
    ap (sum_by ones) (take_all (p + i) ws (omega (arith, ap length (take_rest ws p), length-drop p ws))) ∙ sym (ones_of_words w ws small)

-- ---- one bit
even_more : (n t m : ℕ) → (n + 2 ^ suc t * m) % 2 ≡ n % 2
even_more n t m = ap (λ (x : ℕ). (n + x) % 2) (half_power t m) ∙ omega arith

pub bit_of_word : (w s t q : ℕ) (ws : List ℕ) → Small w ws → w ≡ s + suc t → bit_at (number_l (2 ^ w) ws) (w * q + s) ≡ bit_at (get_or ws q 0) s
bit_of_word w s t q ws h e = ap (λ (x : ℕ). x % 2) (number_at w s (suc t) q ws h e) ∙ even_more (get_or ws q 0 / 2 ^ s) t (number_l (2 ^ w) (drop (suc q) ws))
