use Rattle.std.proofs.Common.{◌≡◌, ◌+◌, ◌-◌, ◌*◌, ◌<◌, ℕ, min, length, take, drop, subst, sym, ap, ◌∙◌, arith}
use lib.Lanes.{mask_l}
use Rattle.vx_masks.proofs.Built.{Built, built_more, next_of_bits}
use Rattle.vx_masks.proofs.word_masks.WordMask.of.Goals as goal

pub loop-index-preserved : goal.loop-index-preserved
loop-index-preserved c =
    let bits = c.as_slice-rows.result.now in
    let i = c.loop-index.index in
    let more : 64 * i < length bits = omega arith in
    let part : 64 * i + c.part_len.result - 64 * i ≡ min 64 (length bits - 64 * i) = omega arith in
    let word : c.packed_word.result ≡ mask_l (take (min 64 (length bits - 64 * i)) (drop (64 * i) bits)) = c.packed_word.ensures ∙ ap (λ (k : ℕ). mask_l (take k (drop (64 * i) bits))) part in
    subst (Built bits (i + 1)) (sym c.in_ok-push.ensures.items) (built_more bits i c.packed_word.result c.loop-index.words.items more (next_of_bits bits i c.packed_word.result more word) c.loop-index.invariant)
