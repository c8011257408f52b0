use Rattle.vx_lower.proofs.PlanLines.{indent_next}
use Rattle.vx_lower.proofs.plan_texts.write_indent.Goals as goal

pub loop-level-preserved : goal.loop-level-preserved
loop-level-preserved c = indent_next c.args.depth c.loop-level._level c.loop-level-test.true _ c.loop-level.out.items c.extend_from_slice.new.self.items c.loop-level.invariant c.in_ok-extend_from_slice.ensures.items
