use Rattle.std.proofs.Common.{Some, sym, ap, ◌∙◌, arith}
use Rattle.vx_plan.proofs.AnyRow.{none_more, some_found}
use Rattle.vx_plan.proofs.segments.is_any_of.Goals as goal

pub returns-then-value : goal.returns-then-value
returns-then-value c = sym (some_found c.args.mask.now c.args.skip c.loop-row.row c.args.count (omega arith) (omega arith) (c.value.ensures ∙ ap Some c.if-value.true))

pub loop-row-preserved : goal.loop-row-preserved
loop-row-preserved c = none_more c.args.mask.now c.args.skip c.loop-row.row (omega arith) c.loop-row.invariant (c.value.ensures ∙ ap Some c.if-value.false)
