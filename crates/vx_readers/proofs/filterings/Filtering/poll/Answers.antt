use Rattle.std.proofs.Common.{◌≡◌, length, subst}
use Rattle.vx_readers.specs.Evaluations.{needed_by, Evaluation, HasAll, IsReady, IsRefused}
use Rattle.vx_readers.specs.States.{FilterFault, IsKept}
use Rattle.vx_readers.proofs.KeptAnswers.{filter_ready, filter_refused, filter_rows}
use Rattle.vx_readers.proofs.filterings.Filtering.poll.Goals as goal

pub returns-in-Ok-Came : goal.returns-in-Ok-Came
returns-in-Ok-Came g c =
    let state = g.S.SegmentSource.state in
    let P : Evaluation → Type 0 = λ e. IsRefused e c.in-Err-mask.error (g.S.SegmentSource.state c.args.source.now) (g.S.SegmentSource.state c.turn.new.source) (FilterFault e c.in-Err-mask.error) in
    subst P c.self.view_is (filter_refused c.self.inside.evaluation c.in-Ok-Came.evaluation c.in-Err-mask.error (state c.args.source.now) (state c.turn.new.source) (rw c.in-Ok-Came.field-0-is at c.in-Ok-Came.ensures) c.in-Err-mask.ensures.own c.in-Err-mask.ensures.cause)

pub returns-in-Ok : goal.returns-in-Ok
returns-in-Ok g c =
    let state = g.S.SegmentSource.state in
    let all : HasAll needed_by c.self.inside.evaluation c.in-Ok-Came.evaluation (g.S.SegmentSource.state c.args.source.now) (g.S.SegmentSource.state c.turn.new.source) = rw c.in-Ok-Came.field-0-is at c.in-Ok-Came.ensures in
    let P : Evaluation → Type 0 = λ e. IsReady e (g.S.SegmentSource.state c.args.source.now) (g.S.SegmentSource.state c.turn.new.source) (IsKept e c.in-Ok.kept) × (length c.in-Ok.kept ≡ length e.mask) in
    subst P c.self.view_is (
      filter_ready c.self.inside.evaluation c.in-Ok-Came.evaluation c.in-Ok.kept (state c.args.source.now) (state c.turn.new.source) all c.in-Ok.ensures.kept,
      filter_rows c.self.inside.evaluation c.in-Ok-Came.evaluation c.in-Ok.kept (state c.args.source.now) (state c.turn.new.source) all c.in-Ok.ensures.rows,
    )
