use Rattle.std.proofs.Common.{◌≡◌, ◌+◌, ◌-◌, ◌*◌, ◌<◌, ℕ, false, min, length, take, drop, get_or, subst, sym, ap, ◌∙◌, arith}
use lib.Lanes.{mask_l}
use Rattle.std.proofs.lemmas.List.{length-map}
use Rattle.vx_masks.specs.Rows.{taken}
use Rattle.vx_masks.proofs.Built.{Built, built_more, next_of_bits}
use Rattle.vx_masks.proofs.Taken.{taken_part}
use Rattle.vx_masks.proofs.masks.Mask.take.Goals as goal

pub loop-index-preserved : goal.loop-index-preserved
loop-index-preserved c =
    let mask = c.args.self.now in
    let places = c.args.places.now in
    let bits = taken false mask places in
    let i = c.loop-index.index in
    let w = c.taken_word.result in
    let long : length bits ≡ length places = length-map places (λ (place : ℕ). get_or mask place false) in
    let more : 64 * i < length bits = omega arith in
    let part : 64 * i + c.part_len.result - 64 * i ≡ min 64 (length bits - 64 * i) = omega arith in
    let word : w ≡ mask_l (take (min 64 (length bits - 64 * i)) (drop (64 * i) bits)) =
    c.taken_word.ensures ∙ ap mask_l (ap (λ (k : ℕ). taken false mask (take k (drop (64 * i) places))) part ∙ taken_part mask places (min 64 (length bits - 64 * i)) (64 * i)) in
    subst (Built bits (i + 1)) (sym c.in_ok-push.ensures.items) (built_more bits i w c.loop-index.words.items more (next_of_bits bits i w more word) c.loop-index.invariant)
