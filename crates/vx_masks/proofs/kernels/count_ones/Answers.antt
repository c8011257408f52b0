use Rattle.std.proofs.Common.{◌-◌, ◌^◌, min, ap, ◌∙◌, arith}
use Rattle.vx_masks.specs.Words.{Small}
use Rattle.vx_masks.proofs.Numbers.{ones_eight_more, ones_one_more, ones_all, ones_of_number}
use Rattle.vx_masks.proofs.kernels.count_ones.Goals as goal

pub loop-place-preserved : goal.loop-place-preserved
loop-place-preserved c = record {
  inside = omega arith;
  counted = omega (arith, ones_eight_more c.loop-place.place c.args.words.now);
}

pub loop-word-preserved : goal.loop-word-preserved
loop-word-preserved c = record {
  inside = c.loop-word.invariant.inside;
  counted = omega (arith, ones_one_more c.loop-place.place c.loop-word.word-index c.args.words.now c.loop-place.invariant.inside c.loop-word-test.true);
}

pub returns-clause-rows : goal.returns-clause-rows
returns-clause-rows c =
    let small : Small 64 c.args.words.now = record { small = λ i. (c.type_inv.words i).fits } in
    c.loop-word.invariant.counted ∙ ap (λ count. min count (2 ^ 64 - 1)) (ones_all 64 c.loop-place.place c.loop-word.word-index c.args.words.now small c.loop-place.invariant.inside c.loop-word-test.false)

pub returns-clause-number : goal.returns-clause-number
returns-clause-number c = returns-clause-rows c ∙ ap (λ count. min count (2 ^ 64 - 1)) (ones_of_number 64 c.args.words.now (record { small = λ i. (c.type_inv.words i).fits }))
