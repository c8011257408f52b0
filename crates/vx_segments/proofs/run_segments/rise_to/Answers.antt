use Rattle.std.proofs.Common.{arith, get_or, refl, sym, ◌∙◌}
use Rattle.std.proofs.lemmas.Bool.{eqb-true, eq-eqb}
use Rattle.vx_segments.proofs.CodedSegments.{risen_more, risen_all, not_risen}
use Rattle.vx_segments.proofs.run_segments.rise_to.Goals as goal

pub returns-then-end-before : goal.returns-then-end-before
returns-then-end-before c =
    let ends = c.args.ends.now in
    let run = c.loop-end.end-index in
    (λ yes. absurd cc, λ both. absurd (not_risen ends c.loop-end.before run (get_or ends run 0) c.loop-end-test.true refl (omega (arith, c.if-end-before.true)) c.loop-end.invariant both.0))

pub loop-end-preserved : goal.loop-end-preserved
loop-end-preserved c =
    let ends = c.args.ends.now in
    let run = c.loop-end.end-index in
    risen_more ends c.loop-end.before run (get_or ends run 0) c.loop-end-test.true refl (omega (arith, c.if-end-before.false)) c.loop-end.invariant

pub returns : goal.returns
returns c =
    let all = risen_all c.args.ends.now c.loop-end.before c.loop-end.end-index (omega (arith, c.loop-end-test.false)) (omega arith) c.loop-end.invariant in
    (λ yes. (all.0, all.1 ∙ eqb-true c.loop-end.before c.args.last yes), λ both. eq-eqb c.loop-end.before c.args.last (sym all.1 ∙ both.1))
