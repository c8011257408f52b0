-- The words of a mask: those that it keeps, or words that masks share.
use Rattle.std.proofs.Common.{◌≡◌, ℕ, zero, suc, ◌+◌, ◌-◌, ◌*◌, ◌/◌, ◌%◌, ◌^◌, ◌<◌, ◌≤◌, min, Bool, true, false, eqb, List, [], ◌∷◌, ◌++◌, length, take, replicate, refl, sym, ap, subst, ◌∙◌, arith}
use Rattle.std.proofs.lemmas.Bool.Decides.{nat_tests}
use Rattle.std.proofs.lemmas.List.{length-replicate, take-replicate, take_all}
use Rattle.vx_masks.specs.Words.{low_bits, number_of, held, IsMask, AreWordsOf}
use Rattle.vx_masks.proofs.Built.{Built, built_none, built_more, built_all, built_rows, next_of_ones}

abbrev ones : ℕ → List ℕ
ones k = replicate k (2 ^ 64 - 1)

-- ---- words of its own
pub held_own : (len : ℕ) (words : List ℕ) → IsMask len words → held len words ≡ words
held_own len [] h =
    let none : len / 64 ≡ 0 = omega (arith, h.count) in
    ap ones none
held_own len (word ∷ words) h = refl

pub own_words : (len : ℕ) (words : List ℕ) → IsMask len words → AreWordsOf len words
own_words len words h = record {
  mask = subst (IsMask len) (sym (held_own len words h)) h;
  shared = λ e. omega (arith, h.count, ap length e);
}

pub own_rows : (len : ℕ) (words : List ℕ) → IsMask len words → low_bits len (number_of (held len words)) ≡ low_bits len (number_of words)
own_rows len words h = ap (λ (ws : List ℕ). low_bits len (number_of ws)) (held_own len words h)

-- ---- words in which each row is chosen
one_behind : (k : ℕ) → ones (k + 1) ≡ ones k ++ (2 ^ 64 - 1) ∷ []
one_behind zero = refl
one_behind (suc k) =
    let e : suc k + 1 ≡ suc (k + 1) = omega arith in
    ap ones e ∙ ap (λ (ws : List ℕ). (2 ^ 64 - 1) ∷ ws) (one_behind k)

all_built : (len k : ℕ) → 64 * k ≤ len → Built (replicate len true) k (ones k)
all_built len zero h = built_none (replicate len true)
all_built len (suc k) h =
    let bits = replicate len true in
    let long = length-replicate len true in
    let whole : min 64 (len - 64 * k) ≡ 64 = omega arith in
    let word : 2 ^ 64 - 1 ≡ 2 ^ min 64 (len - 64 * k) - 1 = ap (λ (n : ℕ). 2 ^ n - 1) (sym whole) in
    let next : suc k ≡ k + 1 = omega arith in
    let more = built_more bits k (2 ^ 64 - 1) (ones k) (omega arith) (next_of_ones len k (2 ^ 64 - 1) (omega arith) word) (all_built len k (omega arith)) in
    subst (λ (n : ℕ). Built bits n (ones n)) (sym next) (subst (Built bits (k + 1)) (sym (one_behind k)) more)

pub all_words : (len : ℕ) (kept : List ℕ) → kept ≡ [] → len ≤ 65536 → len % 64 ≡ 0 → AreWordsOf len kept
all_words len kept none few even =
    let bits = replicate len true in
    let h : IsMask len (ones (len / 64)) = built_all bits len (len / 64) (ones (len / 64)) (sym (length-replicate len true)) (omega arith) (all_built len (len / 64) (omega arith)) in
    record {
      mask = subst (λ (ws : List ℕ). IsMask len (held len ws)) (sym none) h;
      shared = λ e. few;
    }

pub all_rows : (len : ℕ) (kept : List ℕ) → kept ≡ [] → len % 64 ≡ 0 → low_bits len (number_of (held len kept)) ≡ replicate len true
all_rows len kept none even =
    let bits = replicate len true in
    ap (λ (ws : List ℕ). low_bits len (number_of (held len ws))) none
    ∙ built_rows bits len (len / 64) (ones (len / 64)) (sym (length-replicate len true)) (omega arith) (all_built len (len / 64) (omega arith))

-- ---- the words that masks share
empty : (kept : List ℕ) (count : ℕ) (told : Bool) → count ≡ length kept → told ≡ eqb count 0 → told ≡ true → length kept ≡ 0
empty kept count told same is e =
    let test : eqb count 0 ≡ true = sym is ∙ e in
    let z : count ≡ 0 = grind (arith, nat_tests) in
    sym same ∙ z

full : (kept : List ℕ) (count : ℕ) (told : Bool) → count ≡ length kept → told ≡ eqb count 0 → told ≡ false → 0 < length kept
full kept count told same is e =
    let test : eqb count 0 ≡ false = sym is ∙ e in
    let z : 0 < count = grind (arith, nat_tests) in
    omega (arith, same)

all_shared : (len : ℕ) (kept : List ℕ) → length kept ≡ 0 → (kept ≡ [] → len ≤ 65536) → take (len / 64) (replicate 1024 (2 ^ 64 - 1)) ≡ held len kept
all_shared len [] none few =
    let least = few refl in
    take-replicate (len / 64) 1024 (2 ^ 64 - 1) (omega arith)
all_shared len (word ∷ words) none few = absurd (omega (arith, none))

pub shared_words : (len : ℕ) (kept : List ℕ) (told : Bool) → told ≡ eqb (length kept) 0 → told ≡ true → (kept ≡ [] → len ≤ 65536) → take (len / 64) (replicate 1024 (2 ^ 64 - 1)) ≡ held len kept
shared_words len kept told is e few = all_shared len kept (empty kept (length kept) told refl is e) few

all_resized : (len count : ℕ) (kept words : List ℕ) → count ≡ length kept → length kept ≡ 0 → words ≡ take (len / 64) kept ++ replicate (len / 64 - count) (2 ^ 64 - 1) → words ≡ held len kept
all_resized len count [] words same none e =
    let all : len / 64 - count ≡ len / 64 = omega (arith, same) in
    e ∙ (λ i. take_all {A = ℕ} (len / 64) [] (omega arith) i ++ ones (all i))
all_resized len count (word ∷ kept) words same none e = absurd (omega (arith, none))

pub resized : (len count : ℕ) (kept words : List ℕ) (told : Bool) → count ≡ length kept → told ≡ eqb count 0 → told ≡ true → words ≡ take (len / 64) kept ++ replicate (len / 64 - count) (2 ^ 64 - 1) → words ≡ held len kept
resized len count kept words told same is none e = all_resized len count kept words same (empty kept count told same is none) e

own_kept : (len : ℕ) (kept : List ℕ) → 0 < length kept → kept ≡ held len kept
own_kept len [] some = absurd (omega (arith, some))
own_kept len (word ∷ kept) some = refl

pub kept_words : (len count : ℕ) (kept : List ℕ) (told : Bool) → count ≡ length kept → told ≡ eqb count 0 → told ≡ false → kept ≡ held len kept
kept_words len count kept told same is e = own_kept len kept (full kept count told same is e)
