-- One mask behind another: the number of all rows, with what is still carried into the next word.
use Rattle.std.proofs.Common.{◌≡◌, ℕ, zero, suc, ◌+◌, ◌*◌, ◌/◌, ◌%◌, ◌^◌, ◌<◌, ◌≤◌, List, [], ◌∷◌, ◌++◌, length, take, drop, get_or, sym, ap, subst, ◌∙◌, arith}
use lib.Pow.{pow_mono}
use Rattle.std.proofs.lemmas.List.{length-append, take_more, length-take-le, take-append-drop, drop_all}
use Rattle.std.proofs.lemmas.Nat.{pow_pos, pow-add, shr_split, mod_below, mul-add-lt, shr_below}
use Rattle.std.proofs.Math.Nat.{mul_assoc, mul_comm, mul-add, mul-suc}
use Rattle.vx_masks.specs.Words.{low_bits, number_of, words_for, IsMask, Small, IsShiftedBehind}
use Rattle.vx_masks.proofs.LowBits.{low_bits-add, low_bits-above}
use Rattle.vx_masks.proofs.Numbers.{number_l-append, number_l-drop, number_l-split, shl_cut, rest_of}
use Rattle.vx_masks.proofs.Built.{one_more}

-- so many words stand, and the carry follows them
pub record Carried (total words carry count shift : ℕ) : Type 0 where
  pub whole : words + 2 ^ (64 * count) * carry ≡ total
  pub small : carry < 2 ^ shift

-- a word shifted left is the part that stays and the part that is carried
shifted_word : (w s t : ℕ) → s + t ≡ 64 → w * 2 ^ s ≡ w * 2 ^ s % 2 ^ 64 + 2 ^ 64 * (w / 2 ^ t)
shifted_word w s t e =
    let cut : w * 2 ^ s % 2 ^ 64 ≡ (w % 2 ^ t) * 2 ^ s = (let wide : 64 ≡ t + s = omega arith in ap (λ (k : ℕ). w * 2 ^ s % 2 ^ k) wide ∙ shl_cut w t s) in
    let power : 2 ^ s * 2 ^ t ≡ 2 ^ 64 = sym (pow-add 2 s t) ∙ ap (λ (k : ℕ). 2 ^ k) e in
    let high : 2 ^ s * (2 ^ t * (w / 2 ^ t)) ≡ 2 ^ 64 * (w / 2 ^ t) = sym (mul_assoc (2 ^ s) (2 ^ t) (w / 2 ^ t)) ∙ ap (λ (p : ℕ). p * (w / 2 ^ t)) power in
    let split : w ≡ w % 2 ^ t + 2 ^ t * (w / 2 ^ t) = omega (arith, shr_split w t, mul_comm (2 ^ t) (w / 2 ^ t)) in
    mul_comm w (2 ^ s) ∙ ap (λ (x : ℕ). 2 ^ s * x) split ∙ mul-add (2 ^ s) (w % 2 ^ t) (2 ^ t * (w / 2 ^ t))
    ∙ (λ j. (mul_comm (2 ^ s) (w % 2 ^ t) ∙ sym cut) j + high j)

-- the next word of the second mask
pub carried_more : (before words carry count s t w : ℕ) → s + t ≡ 64 → w < 2 ^ 64 → Carried before words carry count s
    → Carried (before + 2 ^ (64 * count + s) * w) (words + 2 ^ (64 * count) * (carry + w * 2 ^ s % 2 ^ 64)) (w / 2 ^ t) (count + 1) s
carried_more before words carry count s t w e fits h =
    let p = 2 ^ (64 * count) in
    let low = w * 2 ^ s % 2 ^ 64 in
    let up = w / 2 ^ t in
    let next : 2 ^ (64 * (count + 1)) * up ≡ p * (2 ^ 64 * up) =
    (let k : 64 * (count + 1) ≡ 64 * count + 64 = omega arith in ap (λ (j : ℕ). 2 ^ j * up) k ∙ ap (λ (x : ℕ). x * up) (pow-add 2 (64 * count) 64) ∙ mul_assoc p (2 ^ 64) up) in
    let one : p * (carry + low) ≡ p * carry + p * low = mul-add p carry low in
    let two : p * (w * 2 ^ s) ≡ p * low + p * (2 ^ 64 * up) = ap (λ (x : ℕ). p * x) (shifted_word w s t e) ∙ mul-add p low (2 ^ 64 * up) in
    let three : 2 ^ (64 * count + s) * w ≡ p * (w * 2 ^ s) = ap (λ (x : ℕ). x * w) (pow-add 2 (64 * count) s) ∙ mul_assoc p (2 ^ s) w ∙ ap (λ (x : ℕ). p * x) (mul_comm (2 ^ s) w) in
    record { whole = omega (arith, next, one, two, three, h.whole); small = shr_below w s t (subst (λ (k : ℕ). w < 2 ^ k) (sym e) fits) }

pub carried_fits : (w s t carry : ℕ) → s + t ≡ 64 → carry < 2 ^ s → carry + w * 2 ^ s % 2 ^ 64 < 2 ^ 64
carried_fits w s t carry e h =
    let cut : w * 2 ^ s % 2 ^ 64 ≡ (w % 2 ^ t) * 2 ^ s = (let wide : 64 ≡ t + s = omega arith in ap (λ (k : ℕ). w * 2 ^ s % 2 ^ k) wide ∙ shl_cut w t s) in
    let power : 2 ^ s * 2 ^ t ≡ 2 ^ 64 = sym (pow-add 2 s t) ∙ ap (λ (k : ℕ). 2 ^ k) e in
    omega (arith, cut, power, mul-add-lt (w % 2 ^ t) (2 ^ s) carry (2 ^ t) (mod_below w (2 ^ t) (pow_pos t)) h)

-- ---- the loop over the words of the second mask
pub record Appended (first carry shift : ℕ) (from : ℕ) (others : List ℕ) (words : List ℕ) (rest : ℕ) : Type 0 where
  pub count : length words ≡ from + length others
  pub carried : Carried (first + 2 ^ (64 * from) * carry + 2 ^ (64 * from + shift) * number_of others) (number_of words) rest (from + length others) shift

pub appended_more : (first carry shift t from rest i : ℕ) (others words : List ℕ) → shift + t ≡ 64 → Small 64 others → i < length others → Appended first carry shift from (take i others) words rest
    → Appended first carry shift from (take (i + 1) others) (words ++ (rest + get_or others i 0 * 2 ^ shift % 2 ^ 64) ∷ []) (get_or others i 0 / 2 ^ t)
appended_more first carry shift t from rest i others words e small lt h =
    let word = get_or others i 0 in
    let front = take i others in
    let last = rest + word * 2 ^ shift % 2 ^ 64 in
    let base = first + 2 ^ (64 * from) * carry in
    let so_far : length front ≡ i = length-take-le i others (omega arith) in
    let after : length (take (i + 1) others) ≡ i + 1 = length-take-le (i + 1) others (omega arith) in
    let number : number_of (take (i + 1) others) ≡ number_of front + 2 ^ (64 * i) * word = ap number_of (take_more others i 0 lt) ∙ one_more i word front so_far in
    let more : number_of (words ++ last ∷ []) ≡ number_of words + 2 ^ (64 * (from + length front)) * last = one_more (from + length front) last words h.count in
    let before = base + 2 ^ (64 * from + shift) * number_of front in
    let next = carried_more before (number_of words) rest (from + length front) shift t word e (small.small i) h.carried in
    let count : from + length front + 1 ≡ from + length (take (i + 1) others) = omega arith in
    let place : (64 * from + shift) + 64 * i ≡ 64 * (from + length front) + shift = omega arith in
    let power : 2 ^ (64 * from + shift) * (2 ^ (64 * i) * word) ≡ 2 ^ (64 * (from + length front) + shift) * word =
    sym (mul_assoc (2 ^ (64 * from + shift)) (2 ^ (64 * i)) word) ∙ ap (λ (p : ℕ). p * word) (sym (pow-add 2 (64 * from + shift) (64 * i)) ∙ ap (λ (k : ℕ). 2 ^ k) place) in
    let total : before + 2 ^ (64 * (from + length front) + shift) * word ≡ base + 2 ^ (64 * from + shift) * number_of (take (i + 1) others) =
    omega (arith, power, ap (λ (x : ℕ). 2 ^ (64 * from + shift) * x) number, mul-add (2 ^ (64 * from + shift)) (number_of front) (2 ^ (64 * i) * word)) in
    record {
      count = omega (arith, length-append words (last ∷ []), h.count);
      carried = record {
        whole = (λ j. more j + 2 ^ (64 * sym count j) * (word / 2 ^ t)) ∙ next.whole ∙ total;
        small = next.small;
      };
    }

-- ---- both masks
pub joined_rows : (len more first second : ℕ) → first < 2 ^ len → low_bits (len + more) (first + 2 ^ len * second) ≡ low_bits len first ++ low_bits more second
joined_rows len more first second h =
    low_bits-add len more (first + 2 ^ len * second) ∙ (λ j. low_bits-above len first second j ++ low_bits more (rest_of len first second h j))

pub joined_small : (len more first second : ℕ) → first < 2 ^ len → second < 2 ^ more → first + 2 ^ len * second < 2 ^ (len + more)
joined_small len more first second h l = omega (arith, mul_comm (2 ^ len) second, pow-add 2 len more, mul-add-lt second (2 ^ len) first (2 ^ more) l h)

-- the whole words of the first, and its last rows
pub front_and_last : (q : ℕ) (ws : List ℕ) → length ws ≤ q + 1 → q ≤ length ws → number_of (take q ws) + 2 ^ (64 * q) * get_or ws q 0 ≡ number_of ws
front_and_last q ws few enough =
    let none : number_of (drop (suc q) ws) ≡ 0 = ap number_of (drop_all (suc q) ws (omega arith)) in
    let last : number_of (drop q ws) ≡ get_or ws q 0 = number_l-split 64 q ws ∙ omega (arith, ap (λ (n : ℕ). 2 ^ 64 * n) none) in
    sym (ap number_of (sym (take-append-drop q ws)) ∙ number_l-append 64 (take q ws) (drop q ws)
    ∙ (λ j. number_of (take q ws) + 2 ^ (64 * length-take-le q ws enough j) * last j))

-- nothing is carried past the last row
pub nothing_left : (total words carry count rows : ℕ) → words + 2 ^ (64 * count) * carry ≡ total → total < 2 ^ rows → rows ≤ 64 * count → words ≡ total
nothing_left total words zero count rows e h wide = omega arith
nothing_left total words (suc carry) count rows e h wide =
    absurd (omega (arith, mul-suc (2 ^ (64 * count)) carry, pow_mono wide))

pub last_is : (q : ℕ) (ws : List ℕ) → Small 64 ws → length ws ≤ q + 1 → get_or ws q 0 ≡ number_of ws / 2 ^ (64 * q)
last_is q ws small few =
    let none : number_of (drop (suc q) ws) ≡ 0 = ap number_of (drop_all (suc q) ws (omega arith)) in
    omega (arith, number_l-split 64 q ws, ap (λ (n : ℕ). 2 ^ 64 * n) none, number_l-drop 64 q ws small)

pub last_small : (len : ℕ) (ws : List ℕ) → Small 64 ws → IsMask len ws → get_or ws (len / 64) 0 < 2 ^ (len % 64)
last_small len ws small h =
    let q = len / 64 in
    let place : len ≡ len % 64 + 64 * q = omega arith in
    omega (arith, last_is q ws small (omega (arith, h.count)), shr_below (number_of ws) (len % 64) (64 * q) (subst (λ (k : ℕ). number_of ws < 2 ^ k) place h.small))

pub behind_is : (len : ℕ) (ws others front words : List ℕ) (carry rest : ℕ) → Small 64 ws → IsMask len ws → front ≡ take (len / 64) ws → carry ≡ get_or ws (len / 64) 0 → IsShiftedBehind front carry (len % 64) others words rest
    → number_of words + 2 ^ (64 * length words) * rest ≡ number_of ws + 2 ^ len * number_of others
behind_is len ws others front words carry rest small mask is last h =
    let q = len / 64 in
    let few : length ws ≤ q + 1 = omega (arith, mask.count) in
    let enough : q ≤ length ws = omega (arith, mask.count) in
    let long : length front ≡ q = ap length is ∙ length-take-le q ws enough in
    let place : 64 * length front + len % 64 ≡ len = omega arith in
    let first : number_of front + 2 ^ (64 * length front) * carry ≡ number_of ws = (λ j. number_of (is j) + 2 ^ (64 * long j) * last j) ∙ front_and_last q ws few enough in
    h.whole ∙ (λ j. first j + 2 ^ place j * number_of others)

pub behind_known : (before len : ℕ) (ws others front words : List ℕ) (carry rest : ℕ) → before ≡ len → Small 64 ws → length ws ≡ words_for len → number_of ws < 2 ^ len → front ≡ take (before / 64) ws → carry ≡ get_or ws (before / 64) 0
    → IsShiftedBehind front carry (before % 64) others words rest → number_of words + 2 ^ (64 * length words) * rest ≡ number_of ws + 2 ^ len * number_of others
behind_known before len ws others front words carry rest same small count below is last h =
    behind_is len ws others front words carry rest small (record { count = count; small = below }) (is ∙ ap (λ (k : ℕ). take (k / 64) ws) same) (last ∙ ap (λ (k : ℕ). get_or ws (k / 64) 0) same)
    (subst (λ (k : ℕ). IsShiftedBehind front carry (k % 64) others words rest) same h)
