use Rattle.vx_readers.specs.Evaluations.{zones_needed_by, HasAll}
use Rattle.vx_readers.proofs.PruningAnswers.{pruning_ready, pruning_refused, pruning_rows}
use Rattle.vx_readers.proofs.prunings.Pruning.poll.Goals as goal

pub returns-in-Ok-Came : goal.returns-in-Ok-Came
returns-in-Ok-Came g c =
    let state = g.S.SegmentSource.state in
    (pruning_refused c.args.self c.in-Ok-Came.pruning c.in-Err-mask.error (state c.args.source.now) (state c.turn.new.source) (rw c.in-Ok-Came.field-0-is at c.in-Ok-Came.ensures) c.in-Err-mask.ensures.own c.in-Err-mask.ensures.cause, c.in-Err-mask.ensures.no_expression)

pub returns-in-Ok : goal.returns-in-Ok
returns-in-Ok g c =
    let state = g.S.SegmentSource.state in
    let all : HasAll zones_needed_by c.args.self c.in-Ok-Came.pruning (g.S.SegmentSource.state c.args.source.now) (g.S.SegmentSource.state c.turn.new.source) = rw c.in-Ok-Came.field-0-is at c.in-Ok-Came.ensures in (
      (
        pruning_ready c.args.self c.in-Ok-Came.pruning c.in-Ok.kept (state c.args.source.now) (state c.turn.new.source) all c.in-Ok.ensures.kept,
        pruning_rows c.args.self c.in-Ok-Came.pruning c.in-Ok.kept (state c.args.source.now) (state c.turn.new.source) all c.in-Ok.ensures.rows,
      ),
      tt,
    )
