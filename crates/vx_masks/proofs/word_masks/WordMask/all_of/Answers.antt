use Rattle.std.proofs.Common.{◌≡◌, ◌+◌, ◌-◌, ◌*◌, ◌^◌, ◌<◌, ℕ, true, min, length, replicate, subst, sym, ap, ◌∙◌, arith}
use Rattle.std.proofs.lemmas.List.{length-replicate}
use Rattle.vx_masks.proofs.Built.{Built, built_more, next_of_ones}
use Rattle.vx_masks.proofs.word_masks.WordMask.all_of.Goals as goal

pub loop-index-preserved : goal.loop-index-preserved
loop-index-preserved c =
    let bits = replicate c.args.len true in
    let i = c.loop-index.index in
    let more : 64 * i < c.args.len = omega arith in
    let long = length-replicate c.args.len true in
    let inside : 64 * i < length bits = omega arith in
    let word : c.low_ones.result ≡ 2 ^ min 64 (c.args.len - 64 * i) - 1 = c.low_ones.ensures ∙ ap (λ (k : ℕ). 2 ^ k - 1) c.part_len.ensures in
    subst (Built bits (i + 1)) (sym c.in_ok-push.ensures.items) (built_more bits i c.low_ones.result c.loop-index.words.items inside (next_of_ones c.args.len i c.low_ones.result more word) c.loop-index.invariant)
