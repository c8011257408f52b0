use Rattle.std.proofs.Common.{◌≡◌, ◌+◌, ◌-◌, ◌*◌, ◌/◌, ◌%◌, ◌^◌, ◌<◌, ℕ, Bool, List, min, length, drop, slice_range, subst, sym, ap, ◌∙◌, arith}
use Rattle.std.proofs.lemmas.List.{length-take-le, length-drop}
use Rattle.vx_masks.specs.Words.{number_of}
use Rattle.vx_masks.proofs.Built.{Built, NextWord, built_more, next_of_slice}
use Rattle.vx_masks.proofs.word_masks.WordMask.slice.Goals as goal

pub loop-index-preserved : goal.loop-index-preserved
loop-index-preserved c =
    let start = c.args.range.start in
    let end = c.args.range.end in
    let all = c.args.self.now in
    let bits = slice_range all start end in
    let n = number_of c.words-all.result.now in
    let i = c.loop-index.index in
    let w = c.part_of.result in
    let more : 64 * i < end - start = omega arith in
    let long : length bits ≡ end - start = length-take-le (end - start) (drop start all) (omega (arith, length-drop start all)) in
    let inside : 64 * i < length bits = omega arith in
    let word : w ≡ n / 2 ^ (start + 64 * i) % 2 ^ min 64 (end - start - 64 * i) = c.part_of.ensures ∙ ap (λ (k : ℕ). n / 2 ^ (start + 64 * i) % 2 ^ k) c.part_len.ensures in
    let next : NextWord bits i w = subst (λ (bs : List Bool). NextWord (slice_range bs start end) i w) (sym c.words-all.ensures.number) (next_of_slice (length all) n start end i w c.requires.forwards c.requires.inside more word) in
    subst (Built bits (i + 1)) (sym c.in_ok-push.ensures.items) (built_more bits i w c.loop-index.words.items inside next c.loop-index.invariant)
