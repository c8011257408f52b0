-- Masks that are the same, and their words.
use Rattle.std.proofs.Common.{◌≡◌, ℕ, ◌^◌, ◌<◌, Bool, List, length, sym, ap, ap₂, ◌∙◌}
use lib.Lanes.{mask_l}
use Rattle.std.proofs.Math.Nat.{mod-eq_of_lt}
use Rattle.vx_masks.specs.Words.{low_bits, number_of, words_for, Small}
use Rattle.vx_masks.proofs.LowBits.{mask_l-low_bits}
use Rattle.vx_masks.proofs.Bytes.{same_digits}

pub masks_same : (a b : List Bool) (xs ys : List ℕ) → a ≡ low_bits (length a) (number_of xs) → b ≡ low_bits (length b) (number_of ys) → length a ≡ length b → xs ≡ ys → a ≡ b
masks_same a b xs ys view other len e = view ∙ ap₂ low_bits len (ap number_of e) ∙ sym other

number_again : (len n : ℕ) → n < 2 ^ len → mask_l (low_bits len n) ≡ n
number_again len n h = mask_l-low_bits len n ∙ mod-eq_of_lt h

pub words_same : (a b : List Bool) (xs ys : List ℕ) → a ≡ low_bits (length a) (number_of xs) → b ≡ low_bits (length b) (number_of ys) → number_of xs < 2 ^ length a → number_of ys < 2 ^ length b → length xs ≡ words_for (length a) → length ys ≡ words_for (length b)
    → Small 64 xs → Small 64 ys → a ≡ b → xs ≡ ys
words_same a b xs ys view other small less many more h l e =
    let number : number_of xs ≡ number_of ys =
    sym (number_again (length a) (number_of xs) small) ∙ ap mask_l (sym view ∙ e ∙ other) ∙ number_again (length b) (number_of ys) less in
    same_digits 64 xs ys h l (many ∙ ap (λ (bs : List Bool). words_for (length bs)) e ∙ sym more) number
