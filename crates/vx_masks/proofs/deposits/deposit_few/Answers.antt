use Rattle.std.proofs.Common.{◌+◌, ◌<◌, arith}
use lib.Count.{ones, count_trailing_zeros}
use Rattle.vx_masks.proofs.Chosen.{pick_inside}
use Rattle.vx_masks.proofs.Ranks.{deposited_none, deposited_on, deposited_all, deposit_fits, place_fits}
use Rattle.vx_masks.proofs.deposits.deposit_few.Goals as goal

pub loop-left-init : goal.loop-left-init
loop-left-init c = deposited_none c.args.word c.args.ranks c.ranges.word.fits c.requires

pub place_of-place-requires : goal.place_of-place-requires
place_of-place-requires c = pick_inside (ones c.loop-left.rest) c.loop-left.left (omega arith) c.loop-left.auto.left-fits.fits c.loop-left.invariant.left_small

inside : (c : goal.After-place_of-place) → c.loop-left.done + c.place_of-place.result < 64
inside c =
    let left = c.loop-left.left in
    let known : count_trailing_zeros 64 left < ones c.loop-left.rest = pick_inside (ones c.loop-left.rest) left (omega arith) c.loop-left.auto.left-fits.fits c.loop-left.invariant.left_small in
    omega (arith, c.place_of-place.ensures.place, place_fits c.loop-left.done c.loop-left.rest (count_trailing_zeros 64 left) c.loop-left.invariant.few c.loop-left.invariant.rest_small known)

pub overflow_add-result : goal.overflow_add-result
overflow_add-result c = record { fits = omega (arith, inside c) }

pub overflow_shl-result : goal.overflow_shl-result
overflow_shl-result c = inside c

pub overflow_add-result-in-loop-left : goal.overflow_add-result-in-loop-left
overflow_add-result-in-loop-left c = record { fits = deposit_fits c.args.word c.args.ranks c.loop-left.result c.loop-left.done c.loop-left.rest c.loop-left.left c.place_of-place.result (inside c) c.loop-left.invariant }

pub overflow_add-done : goal.overflow_add-done
overflow_add-done c = record { fits = omega (arith, inside c) }

pub overflow_add-done-in-loop-left : goal.overflow_add-done-in-loop-left
overflow_add-done-in-loop-left c = record { fits = omega (arith, inside c) }

pub overflow_shr-rest : goal.overflow_shr-rest
overflow_shr-rest c = omega (arith, inside c)

pub loop-left-preserved : goal.loop-left-preserved
loop-left-preserved c =
    deposited_on c.args.word c.args.ranks c.loop-left.result c.loop-left.done c.loop-left.rest c.loop-left.left c.place_of-place.result (omega arith) c.loop-left.auto.left-fits.fits c.place_of-place.ensures.place (inside c) c.loop-left.invariant

pub returns : goal.returns
returns c = deposited_all c.args.word c.args.ranks c.loop-left.result c.loop-left.done c.loop-left.rest c.loop-left.left (omega arith) c.loop-left.invariant
