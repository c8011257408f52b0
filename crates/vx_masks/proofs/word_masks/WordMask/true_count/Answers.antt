use Rattle.std.proofs.Common.{◌≡◌, ◌<◌, ◌^◌, length, sym, ap, ◌∙◌, arith}
use Rattle.vx_masks.specs.Masks.{true_count}
use Rattle.vx_masks.specs.Words.{bits_of, number_of}
use Rattle.vx_masks.proofs.LowBits.{true_count-low_bits}
use Rattle.vx_masks.proofs.Built.{count_fits}
use Rattle.vx_masks.proofs.Numbers.{ones_of_number}
use Rattle.vx_masks.proofs.word_masks.WordMask.true_count.Goals as goal

pub returns : goal.returns
returns c =
    let words = c.words.result.now in
    let all = ones_of_number 64 words c.words.ensures.fit in
    let fits : true_count (bits_of words) < 2 ^ 64 = count_fits (length c.args.self.now) words c.words.ensures.fit (record { count = c.words.ensures.count; small = c.words.ensures.small }) c.words.ensures.bound in
    let counted : c.count_ones.result ≡ true_count (bits_of words) = omega (arith, fits, c.count_ones.ensures.rows) in
    counted ∙ all ∙ sym (true_count-low_bits (length c.args.self.now) (number_of words) c.words.ensures.small) ∙ ap true_count (sym c.words.ensures.number)
