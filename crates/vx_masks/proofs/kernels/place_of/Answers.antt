use Rattle.std.proofs.Common.{◌≡◌, ◌-◌, ◌+◌, ◌<◌, suc, take, subst, ap, ◌∙◌, arith}
use Rattle.std.specs.Prelude.{slice_get}
use Rattle.vx_masks.specs.Masks.{true_count}
use Rattle.vx_masks.specs.Words.{low_bits}
use Rattle.vx_masks.proofs.LowBits.{true_count-low_bits}
use Rattle.vx_masks.proofs.Places.{Passed, passed_none, passed_more, passed_all, some_bit_set, rank_found, rank_counted}
use Rattle.vx_masks.proofs.kernels.place_of.Goals as goal

known : (c : goal.Start) → c.args.rank < true_count (low_bits 64 c.args.word)
known c = omega (arith, true_count-low_bits 64 c.args.word c.ranges.word.fits, c.requires)

pub loop-passed-init : goal.loop-passed-init
loop-passed-init c =
    let all : c.args.rank ≡ c.args.rank - 0 = omega arith in
    subst (Passed c.args.word c.args.rank c.args.word) all (passed_none c.args.word c.args.rank (known c))

pub overflow_sub-rest : goal.overflow_sub-rest
overflow_sub-rest c = some_bit_set 64 c.loop-passed.rest (omega (arith, c.loop-passed.invariant.more))

pub loop-passed-preserved : goal.loop-passed-preserved
loop-passed-preserved c =
    let rest = c.loop-passed.rest in
    let left = c.args.rank - (c.loop-passed._passed + 1) in
    let e : c.args.rank - c.loop-passed._passed ≡ suc left = omega arith in
    passed_more c.args.word c.args.rank rest left c.loop-passed.auto.rest-fits.fits (subst (Passed c.args.word c.args.rank rest) e c.loop-passed.invariant)

pub returns-clause-place : goal.returns-clause-place
returns-clause-place c =
    let rest = c.loop-passed.rest in
    let e : c.args.rank - c.loop-passed._passed ≡ 0 = omega arith in
    passed_all c.args.word c.args.rank rest c.loop-passed.auto.rest-fits.fits (subst (Passed c.args.word c.args.rank rest) e c.loop-passed.invariant)

pub returns-clause-here : goal.returns-clause-here
returns-clause-here c = ap (slice_get (low_bits 64 c.args.word)) (returns-clause-place c) ∙ rank_found (low_bits 64 c.args.word) c.args.rank (omega (arith, true_count-low_bits 64 c.args.word c.ranges.word.fits, c.requires))

pub returns-clause-below : goal.returns-clause-below
returns-clause-below c = ap (λ k. true_count (take k (low_bits 64 c.args.word))) (returns-clause-place c) ∙ rank_counted (low_bits 64 c.args.word) c.args.rank (omega (arith, true_count-low_bits 64 c.args.word c.ranges.word.fits, c.requires))
