use Rattle.std.proofs.Common.{◌≡◌, ◌++◌}
use Rattle.vx_lower.specs.PlanText.{lines_text}
use Rattle.vx_plan.specs.Refs.{number_of}
use Rattle.vx_lower.proofs.PlanLines.{lines_left}
use Rattle.vx_lower.proofs.plan_texts.+write_lines.Given as goal

abbrev pub decreases-write_lines : goal.decreases-write_lines
decreases-write_lines g l = (number_of l.plan)

abbrev pub invariant-loop-place : goal.invariant-loop-place
invariant-loop-place g l =
    l.out.items ++ lines_left (g.H.PlanTreeExtractor.header l.headers) l.table l.depth (number_of l.plan) l.place
    ≡ l.fn.out.items ++ lines_text (g.H.PlanTreeExtractor.header l.headers) l.table l.depth l.name (number_of l.plan)
