use Rattle.vx_base.specs.Slots.{IsShort}
use Rattle.vx_base.proofs.AllFit.{all_more}
use Rattle.vx_base_cases.proofs.big.are_short.Goals as goal

pub loop-row-preserved : goal.loop-row-preserved
loop-row-preserved c = all_more IsShort c.args.values.now c.loop-row.row c.index-values-row.result c.loop-row-test.true c.index-values-row.is (c.is_short.ensures cc) c.loop-row.invariant
