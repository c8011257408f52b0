use Rattle.std.proofs.Common.{◌+◌, ◌-◌, ◌*◌, ◌/◌, ◌%◌, arith, bit_and}
use Rattle.vx_masks.proofs.Walked.{walked_none, walked_some, walked_more, walked_all, walked_fits}
use Rattle.vx_masks.proofs.deposits.deposit_many.Goals as goal

pub loop-left-init : goal.loop-left-init
loop-left-init c = walked_none c.args.word c.args.ranks c.ranges.word.fits c.requires

pub loop-left-preserved : goal.loop-left-preserved
loop-left-preserved c = walked_more c.args.word c.args.ranks c.loop-left.result c.loop-left.rest c.loop-left.left (omega arith) c.loop-left.invariant

pub returns : goal.returns
returns c = walked_all c.args.word c.args.ranks c.loop-left.result c.loop-left.rest c.loop-left.left (omega arith) c.loop-left.invariant

pub overflow_sub-cleared : goal.overflow_sub-cleared
overflow_sub-cleared c = walked_some c.args.word c.args.ranks c.loop-left.result c.loop-left.rest c.loop-left.left (omega arith) c.loop-left.invariant

pub overflow_add-result : goal.overflow_add-result
overflow_add-result c =
    let rest = c.loop-left.rest in
    let left = c.loop-left.left in
    record {
      fits = walked_fits c.args.word c.args.ranks (c.loop-left.result + (rest - bit_and rest (rest - 1)) * (left % 2)) (bit_and rest (rest - 1)) (left / 2)
          (walked_more c.args.word c.args.ranks c.loop-left.result rest left (omega arith) c.loop-left.invariant);
    }
