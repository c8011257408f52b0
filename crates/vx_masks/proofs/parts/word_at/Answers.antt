use Rattle.std.proofs.Common.{◌≡◌, ℕ, ◌+◌, ◌-◌, ◌*◌, ◌/◌, ◌%◌, ◌^◌, suc, get_or, sym, ap, ◌∙◌, arith, bit_or}
use Rattle.vx_masks.specs.Words.{number_of}
use Rattle.vx_masks.proofs.Numbers.{word_whole, word_joined}
use Rattle.vx_masks.proofs.parts.word_at.Goals as goal

pub returns-then-shift-eq0 : goal.returns-then-shift-eq0
returns-then-shift-eq0 c =
    let words = c.args.words.now in
    let place = c.args.place in
    let cut : 64 * (place / 64) + place % 64 ≡ place = omega arith in
    ap (λ (w : ℕ). w / 2 ^ (place % 64)) c.word_or_zero.ensures
    ∙ sym (word_whole 64 (place / 64) (place % 64) words (record { small = λ i. (c.type_inv.words i).fits }) c.if-shift-eq0.true)
    ∙ ap (λ (k : ℕ). number_of words / 2 ^ k % 2 ^ 64) cut

pub returns-else-shift-eq0 : goal.returns-else-shift-eq0
returns-else-shift-eq0 c =
    let words = c.args.words.now in
    let place = c.args.place in
    let shift = place % 64 in
    let cut : 64 * (place / 64) + shift ≡ place = omega arith in
    let next : place / 64 + 1 ≡ suc (place / 64) = omega arith in
    (λ j. bit_or ((c.word_or_zero-else-shift-eq0.ensures ∙ ap (λ (k : ℕ). get_or words k 0) next) j * 2 ^ (64 - shift) % 2 ^ 64) (c.word_or_zero.ensures j / 2 ^ shift))
    ∙ word_joined 64 shift (64 - shift) (place / 64) words (record { small = λ i. (c.type_inv.words i).fits }) (omega arith)
    ∙ ap (λ (k : ℕ). number_of words / 2 ^ k % 2 ^ 64) cut
