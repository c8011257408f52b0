use Rattle.std.proofs.Common.{rules}
use Rattle.vx_plan.specs.Refs.{number_of}
use Rattle.vx_lower.proofs.PlanLines.{lines_next, lines_start}
use Rattle.vx_lower.proofs.plan_texts.+write_lines.Goals as goal

pub loop-place-init : goal.loop-place-init
loop-place-init g t c =
    lines_start (g.H.PlanTreeExtractor.header c.args.headers.now) c.args.table.now (search rules) (number_of c.args.plan) (search rules) c.args.depth c.args.name.now c.args.out.now.items c.write_line.new.out.items c.in_ok-write_line.ensures

pub loop-place-preserved : goal.loop-place-preserved
loop-place-preserved g t c =
    lines_next (g.H.PlanTreeExtractor.header c.args.headers.now) c.args.table.now c.args.depth (number_of c.args.plan) c.loop-place.place (number_of c.child_required-child.result) c.as_str.result.now c.child_required-child.ensures.at (search rules) _ c.loop-place.out.items c.write_lines.new.out.items c.loop-place.invariant c.in_ok-write_lines.ensures
