use Rattle.std.proofs.Common.{arith}
use Rattle.vx_splits.proofs.SpanCuts.{part_fits, part_pushed}
use Rattle.vx_splits.proofs.spans.push_parts.Goals as goal

pub overflow_mul-part : goal.overflow_mul-part
overflow_mul-part c =
    let fits = part_fits c.args.max_span c.args.start c.args.end c.div_ceil-parts.result c.div_ceil-step.result c.loop-part.part c.requires.some c.requires.forwards c.div_ceil-parts.ensures c.div_ceil-step.ensures c.loop-part-test.true in
    omega (arith, fits)

pub overflow_add-start : goal.overflow_add-start
overflow_add-start c =
    let fits = part_fits c.args.max_span c.args.start c.args.end c.div_ceil-parts.result c.div_ceil-step.result c.loop-part.part c.requires.some c.requires.forwards c.div_ceil-parts.ensures c.div_ceil-step.ensures c.loop-part-test.true in
    omega (arith, fits)

pub loop-part-preserved : goal.loop-part-preserved
loop-part-preserved c = part_pushed c.args.start c.div_ceil-step.result c.loop-part.part c.args.cuts.now.items c.loop-part.cuts.items c.push.new.self.items (omega arith) c.in_ok-push.ensures.items c.loop-part.invariant
