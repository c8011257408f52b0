use Rattle.std.proofs.Common.{ap, ◌∙◌}
use Rattle.vx_base.specs.Masks.{true_count}
use Rattle.vx_readers.specs.Evaluations.{needed_by, Evaluation, HasAll}
use Rattle.vx_readers.proofs.Answering.{projection_ready, projection_refused}
use Rattle.vx_readers.proofs.states.ColumnState.poll_pieces.Goals as goal

pub returns-in-Ok-Came : goal.returns-in-Ok-Came
returns-in-Ok-Came g c =
    let state = g.S.SegmentSource.state in
    projection_refused c.args.self.evaluation c.in-Ok-Came.evaluation c.in-Err-pieces.error (state c.args.source.now) (state c.turn.new.source) (rw c.in-Ok-Came.field-0-is at c.in-Ok-Came.ensures) c.in-Err-pieces.ensures.own c.in-Err-pieces.ensures.cause

pub returns-in-Ok : goal.returns-in-Ok
returns-in-Ok g c =
    let state = g.S.SegmentSource.state in
    let all : HasAll needed_by c.args.self.evaluation c.in-Ok-Came.evaluation (g.S.SegmentSource.state c.args.source.now) (g.S.SegmentSource.state c.turn.new.source) = rw c.in-Ok-Came.field-0-is at c.in-Ok-Came.ensures in (
      projection_ready c.args.self.evaluation c.in-Ok-Came.evaluation c.in-Ok.pieces.values (state c.args.source.now) (state c.turn.new.source) all c.in-Ok.ensures.values,
      c.in-Ok.ensures.dtype ∙ ap (λ (e : Evaluation). e.expression.dtype) all.same,
      c.in-Ok.ensures.rows ∙ ap (λ (e : Evaluation). true_count e.mask) all.same,
    )
