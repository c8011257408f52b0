use Rattle.std.proofs.Common.{arith, subst}
use Rattle.vx_readers.specs.Evaluations.{needed_by, Evaluation, HasAll}
use Rattle.vx_readers.proofs.Turning.{has_all}
use Rattle.vx_readers.proofs.evaluations.Evaluating.turn.Goals as goal

pub returns-then-waiting-eq0 : goal.returns-then-waiting-eq0
returns-then-waiting-eq0 g c =
    let state = g.S.SegmentSource.state in
    let before = state c.args.source.now in
    let after = state c.poll_reads.new.source in
    let new = c.poll_reads.new.reads.items in
    let P : Evaluation → Type 0 = λ e. HasAll needed_by e (record { nodes = c.self.inside.tree.now; node = c.self.inside.node; start = c.self.inside.start; mask = c.self.inside.mask; expression = c.self.inside.expression.now; locations = c.self.inside.locations.now; reads = c.poll_reads.new.reads.items }) (g.S.SegmentSource.state c.args.source.now) (g.S.SegmentSource.state c.poll_reads.new.source) in
    subst P c.self.view_is (has_all (record { nodes = c.self.inside.tree.now; node = c.self.inside.node; start = c.self.inside.start; mask = c.self.inside.mask; expression = c.self.inside.expression.now; locations = c.self.inside.locations.now; reads = c.self.inside.reads.items }) new c.in-Ok.waiting before after c.self.invariant c.in-Ok.ensures (omega (arith, c.if-waiting-eq0.true)))
