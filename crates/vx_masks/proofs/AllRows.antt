-- Masks that choose each of their rows, without words.
use Rattle.std.proofs.Common.{◌≡◌, ◌↔◌, ℕ, zero, suc, ◌+◌, ◌-◌, ◌<◌, ◌≤◌, Bool, true, false, IsTrue, List, [], ◌∷◌, ◌++◌, length, take, get_or, replicate, slice_range, Some, refl, sym, ap, subst, ◌∙◌, arith}
use mathlib.Core.Bool.{beq}
use Rattle.std.specs.Prelude.{not, slice_get}
use Rattle.std.specs.List.{All}
use Rattle.std.proofs.lemmas.List.{length-replicate, take-replicate, drop-replicate, take_all, take_more}
use Rattle.std.proofs.lemmas.Option.{slice_get-get_or, slice_get_within}
use Rattle.vx_masks.specs.Masks.{chosen, chosen_of_chosen, both, either, without, true_count, NoneTrue, IsFirstTrue, IsLastTrue}
use Rattle.vx_masks.proofs.Places.{true_count-cons}

-- ---- how many rows there are, and how many are chosen
pub all_length : (n : ℕ) (bits : List Bool) → bits ≡ replicate n true → n ≡ length bits
all_length n bits e = sym (length-replicate n true) ∙ ap length (sym e)

count_all : (n : ℕ) → true_count (replicate n true) ≡ n
count_all zero = refl
count_all (suc n) = true_count-cons true (replicate n true) ∙ omega (arith, count_all n)

pub all_counted : (n : ℕ) (bits : List Bool) → bits ≡ replicate n true → n ≡ true_count bits
all_counted n bits e = sym (count_all n) ∙ ap true_count (sym e)

-- ---- row by row
get_all : (n row : ℕ) → row < n → slice_get (replicate n true) row ≡ Some true
get_all zero row lt = absurd (omega (arith, lt))
get_all (suc n) zero lt = refl
get_all (suc n) (suc row) lt = get_all n row (omega (arith, lt))

pub row_of_all : (n row : ℕ) (bits : List Bool) → bits ≡ replicate n true → row < length bits → slice_get bits row ≡ Some true
row_of_all n row bits e lt = ap (λ (bs : List Bool). slice_get bs row) e ∙ get_all n row (omega (arith, lt, all_length n bits e))

pub none_of_all : (n : ℕ) (bits : List Bool) → bits ≡ replicate n true → n ≡ 0 → NoneTrue bits 0 (length bits)
none_of_all n bits e none row low high = absurd (omega (arith, all_length n bits e, none, high))

pub first_of_all : (n : ℕ) (bits : List Bool) → bits ≡ replicate n true → 0 < n → IsFirstTrue bits 0
first_of_all n bits e some = record {
  here = row_of_all n 0 bits e (omega (arith, all_length n bits e, some));
  before = λ row low high. absurd (omega (arith, high));
}

pub last_of_all : (n : ℕ) (bits : List Bool) → bits ≡ replicate n true → 0 < n → IsLastTrue bits (n - 1)
last_of_all n bits e some = record {
  here = row_of_all n (n - 1) bits e (omega (arith, all_length n bits e, some));
  after = λ row low high. absurd (omega (arith, all_length n bits e, some, low, high));
}

pub all_sliced : (n from to : ℕ) (bits : List Bool) → bits ≡ replicate n true → from ≤ to → to ≤ length bits → replicate (to - from) true ≡ slice_range bits from to
all_sliced n from to bits e forwards inside = sym (
    ap (λ (bs : List Bool). slice_range bs from to) e
    ∙ ap (take (to - from)) (drop-replicate from n true)
    ∙ take-replicate (to - from) (n - from) true (omega (arith, all_length n bits e, forwards, inside))
    )

-- ---- the same rows
all_alike : (bits : List Bool) → All (λ b. b ≡ true) bits → bits ≡ replicate (length bits) true
all_alike [] h = refl
all_alike (true ∷ bits) h = ap (λ (bs : List Bool). true ∷ bs) (all_alike bits (λ k d lt. h (suc k) d (omega (arith, lt))))
all_alike (false ∷ bits) h = let e : false ≡ true = h 0 false (omega arith) in absurd cc

are_true : (n : ℕ) → All (λ b. b ≡ true) (replicate n true)
are_true zero k d lt = absurd (omega (arith, lt))
are_true (suc n) zero d lt = refl
are_true (suc n) (suc k) d lt = are_true n k d (omega (arith, lt))

pub are_all : (n : ℕ) (bits : List Bool) (told : Bool) → length bits ≡ n → (IsTrue told ↔ All (λ b. b ≡ true) bits) → (IsTrue told ↔ (bits ≡ replicate n true))
are_all n bits told len h = (
  λ t. all_alike bits (h.0 t) ∙ ap (λ (k : ℕ). replicate k true) len,
  λ e. h.1 (subst (All (λ b. b ≡ true)) (sym e) (are_true n)),
)

pub are_others : (n len : ℕ) (bits : List Bool) → len ≡ length bits → (len ≡ n → ⊥) → (IsTrue false ↔ (bits ≡ replicate n true))
are_others n len bits is other = (λ t. absurd cc, λ e. absurd (other (is ∙ sym (all_length n bits e))))

-- ---- two masks
ones_both : (n : ℕ) (ys : List Bool) → length ys ≡ n → both (replicate n true) ys ≡ ys
ones_both zero [] e = refl
ones_both zero (y ∷ ys) e = absurd (omega (arith, e))
ones_both (suc n) [] e = absurd (omega (arith, e))
ones_both (suc n) (y ∷ ys) e = ap (λ (bs : List Bool). y ∷ bs) (ones_both n ys (omega (arith, e)))

both_ones : (n : ℕ) (xs : List Bool) → length xs ≡ n → both xs (replicate n true) ≡ xs
both_ones n [] e = refl
both_ones zero (x ∷ xs) e = absurd (omega (arith, e))
both_ones (suc n) (true ∷ xs) e = ap (λ (bs : List Bool). true ∷ bs) (both_ones n xs (omega (arith, e)))
both_ones (suc n) (false ∷ xs) e = ap (λ (bs : List Bool). false ∷ bs) (both_ones n xs (omega (arith, e)))

pub both_left : (n : ℕ) (bits others : List Bool) → bits ≡ replicate n true → length others ≡ length bits → others ≡ both bits others
both_left n bits others e len = sym (ap (λ (bs : List Bool). both bs others) e ∙ ones_both n others (omega (arith, len, all_length n bits e)))

pub both_right : (n : ℕ) (bits others : List Bool) → others ≡ replicate n true → length others ≡ length bits → bits ≡ both bits others
both_right n bits others e len = sym (ap (both bits) e ∙ both_ones n bits (omega (arith, len, all_length n others e)))

ones_either : (n : ℕ) (ys : List Bool) → length ys ≡ n → either (replicate n true) ys ≡ replicate n true
ones_either zero ys e = refl
ones_either (suc n) [] e = absurd (omega (arith, e))
ones_either (suc n) (y ∷ ys) e = ap (λ (bs : List Bool). true ∷ bs) (ones_either n ys (omega (arith, e)))

either_ones : (n : ℕ) (xs : List Bool) → length xs ≡ n → either xs (replicate n true) ≡ replicate n true
either_ones zero [] e = refl
either_ones zero (x ∷ xs) e = absurd (omega (arith, e))
either_ones (suc n) [] e = absurd (omega (arith, e))
either_ones (suc n) (true ∷ xs) e = ap (λ (bs : List Bool). true ∷ bs) (either_ones n xs (omega (arith, e)))
either_ones (suc n) (false ∷ xs) e = ap (λ (bs : List Bool). true ∷ bs) (either_ones n xs (omega (arith, e)))

pub either_left : (n : ℕ) (bits others : List Bool) → bits ≡ replicate n true → length others ≡ length bits → bits ≡ either bits others
either_left n bits others e len = e ∙ sym (ap (λ (bs : List Bool). either bs others) e ∙ ones_either n others (omega (arith, len, all_length n bits e)))

pub either_right : (n : ℕ) (bits others : List Bool) → others ≡ replicate n true → length others ≡ length bits → others ≡ either bits others
either_right n bits others e len = e ∙ sym (ap (either bits) e ∙ either_ones n bits (omega (arith, len, all_length n others e)))

without_ones : (n : ℕ) (xs : List Bool) → length xs ≡ n → without xs (replicate n true) ≡ replicate n false
without_ones zero [] e = refl
without_ones zero (x ∷ xs) e = absurd (omega (arith, e))
without_ones (suc n) [] e = absurd (omega (arith, e))
without_ones (suc n) (true ∷ xs) e = ap (λ (bs : List Bool). false ∷ bs) (without_ones n xs (omega (arith, e)))
without_ones (suc n) (false ∷ xs) e = ap (λ (bs : List Bool). false ∷ bs) (without_ones n xs (omega (arith, e)))

pub without_all : (n len : ℕ) (bits others : List Bool) → others ≡ replicate n true → length others ≡ length bits → len ≡ length bits → replicate len false ≡ without bits others
without_all n len bits others e same is =
    let rows : len ≡ n = omega (arith, same, is, all_length n others e) in
    ap (λ (k : ℕ). replicate k false) rows ∙ sym (ap (without bits) e ∙ without_ones n bits (omega (arith, is, rows)))

-- ---- what is chosen of the chosen
ones_by_rank : (n : ℕ) (ranks : List Bool) → length ranks ≡ n → chosen_of_chosen (replicate n true) ranks ≡ ranks
ones_by_rank zero [] e = refl
ones_by_rank zero (bit ∷ ranks) e = absurd (omega (arith, e))
ones_by_rank (suc n) [] e = absurd (omega (arith, e))
ones_by_rank (suc n) (bit ∷ ranks) e = ap (λ (bs : List Bool). bit ∷ bs) (ones_by_rank n ranks (omega (arith, e)))

pub all_by_rank : (n : ℕ) (bits ranks : List Bool) → bits ≡ replicate n true → length ranks ≡ true_count bits → ranks ≡ chosen_of_chosen bits ranks
all_by_rank n bits ranks e len = sym (ap (λ (bs : List Bool). chosen_of_chosen bs ranks) e ∙ ones_by_rank n ranks (omega (arith, len, all_counted n bits e)))

by_ones : (n : ℕ) (bits : List Bool) → n ≡ true_count bits → chosen_of_chosen bits (replicate n true) ≡ bits
by_ones n [] e = refl
by_ones n (false ∷ bits) e = ap (λ (bs : List Bool). false ∷ bs) (by_ones n bits (omega (arith, e, true_count-cons false bits)))
by_ones zero (true ∷ bits) e = absurd (omega (arith, e, true_count-cons true bits))
by_ones (suc n) (true ∷ bits) e = ap (λ (bs : List Bool). true ∷ bs) (by_ones n bits (omega (arith, e, true_count-cons true bits)))

pub all_ranks : (n : ℕ) (bits ranks : List Bool) → ranks ≡ replicate n true → length ranks ≡ true_count bits → bits ≡ chosen_of_chosen bits ranks
all_ranks n bits ranks e len = sym (ap (chosen_of_chosen bits) e ∙ by_ones n bits (omega (arith, len, all_length n ranks e)))

-- ---- what a mask chooses
ones_filtered : (n : ℕ) (mask : List Bool) → length mask ≡ n → chosen mask (replicate n true) ≡ replicate (true_count mask) true
ones_filtered n [] e = refl
ones_filtered zero (bit ∷ mask) e = absurd (omega (arith, e))
ones_filtered (suc n) (true ∷ mask) e =
    let more : suc (true_count mask) ≡ true_count (true ∷ mask) = omega (arith, true_count-cons true mask) in
    ap (λ (bs : List Bool). true ∷ bs) (ones_filtered n mask (omega (arith, e))) ∙ ap (λ (k : ℕ). replicate k true) more
ones_filtered (suc n) (false ∷ mask) e =
    let same : true_count mask ≡ true_count (false ∷ mask) = omega (arith, true_count-cons false mask) in
    ones_filtered n mask (omega (arith, e)) ∙ ap (λ (k : ℕ). replicate k true) same

pub all_filtered : (n count : ℕ) (mask values : List Bool) → values ≡ replicate n true → length mask ≡ length values → count ≡ true_count mask → replicate count true ≡ chosen mask values
all_filtered n count mask values e len is =
    ap (λ (k : ℕ). replicate k true) is ∙ sym (ap (chosen mask) e ∙ ones_filtered n mask (omega (arith, len, all_length n values e)))

ones_chosen : {X : Type 0} (n : ℕ) (xs : List X) → length xs ≡ n → chosen (replicate n true) xs ≡ xs
ones_chosen zero [] e = refl
ones_chosen zero (x ∷ xs) e = absurd (omega (arith, e))
ones_chosen (suc n) [] e = absurd (omega (arith, e))
ones_chosen {X} (suc n) (x ∷ xs) e = ap (λ (ys : List X). x ∷ ys) (ones_chosen n xs (omega (arith, e)))

pub all_chosen : {X : Type 0} (n : ℕ) (mask : List Bool) (xs : List X) → mask ≡ replicate n true → length xs ≡ length mask → xs ≡ chosen mask xs
all_chosen n mask xs e len = sym (ap (λ (bs : List Bool). chosen bs xs) e ∙ ones_chosen n xs (omega (arith, len, all_length n mask e)))

-- ---- row by row, whatever is kept
pub rows_differ : (ones others : List Bool) (row : ℕ) (one other : Bool) → slice_get ones row ≡ Some one → slice_get others row ≡ Some other → (one ≡ other → ⊥) → IsTrue false ↔ (ones ≡ others)
rows_differ ones others row one other here there differ = (
  λ t. absurd cc,
  λ e. absurd (differ (
      let same : Some one ≡ Some other = sym here ∙ ap (λ (bs : List Bool). slice_get bs row) e ∙ there in
      cc
      )),
)

pub rows_agree : (ones others : List Bool) (row : ℕ) → length ones ≤ row → length others ≡ length ones → take row ones ≡ take row others → IsTrue true ↔ (ones ≡ others)
rows_agree ones others row past len so_far = (λ t. sym (take_all row ones past) ∙ so_far ∙ take_all row others (omega (arith, past, len)), λ e. refl)

-- a test of two truth values for being other failed
pub same_bits : (one other : Bool) → not (beq one other) ≡ false → one ≡ other
same_bits true true e = refl
same_bits true false e = let h : true ≡ false = e in absurd cc
same_bits false true e = let h : true ≡ false = e in absurd cc
same_bits false false e = refl

pub agree_next : (ones others : List Bool) (row : ℕ) (one other : Bool) → slice_get ones row ≡ Some one → slice_get others row ≡ Some other → one ≡ other → take row ones ≡ take row others → take (row + 1) ones ≡ take (row + 1) others
agree_next ones others row one other here there same so_far =
    let first = slice_get_within ones row one here in
    let second = slice_get_within others row other there in
    let a : Some (get_or ones row false) ≡ Some one = sym (slice_get-get_or ones row false first) ∙ here in
    let b : Some (get_or others row false) ≡ Some other = sym (slice_get-get_or others row false second) ∙ there in
    let value : get_or ones row false ≡ get_or others row false = cc in
    take_more ones row false first ∙ (λ i. so_far i ++ value i ∷ []) ∙ sym (take_more others row false second)
