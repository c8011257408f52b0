use Rattle.std.specs.Prelude.{Ok}
use Rattle.vx_readers.specs.declared.progress.Progress.TheVariants.{Ready}
use Rattle.vx_readers.specs.States.{ColumnPollGives}
use Rattle.vx_readers.proofs.ReadingOn.{ends_by, err_ends, leaves_by, ready_ends, run_touches, runs_then}
use Rattle.vx_readers.proofs.reading.read_pieces.Goals as goal

pub returns-in-Err : goal.returns-in-Err
returns-in-Err g c =
    let state = g.S.SegmentSource.state in
    let first = c.args.state.evaluation in
    let now = c.loop-turn.state.evaluation in
    record {
      leaves = leaves_by first (state c.args.source.now) (state c.poll_pieces.new.source) (state c.clear-in-Err.new.self) (run_touches first now c.loop-turn.turn (state c.args.source.now) (state c.loop-turn.source) (state c.poll_pieces.new.source) c.loop-turn.invariant c.in-Err.ensures.touches) c.clear-in-Err.ensures;
      ends = rw c.read_error.ensures (ends_by c.in-Err.error c.args.idle_limit first (state c.args.source.now) (state c.clear-in-Err.new.self) (err_ends first now c.in-Err.error c.loop-turn.turn (state c.args.source.now) (state c.loop-turn.source) (state c.poll_pieces.new.source) (state c.clear-in-Err.new.self) c.loop-turn.invariant c.in-Err.ensures c.clear-in-Err.ensures));
    }

pub loop-turn-preserved : goal.loop-turn-preserved
loop-turn-preserved g c =
    let state = g.S.SegmentSource.state in
    runs_then c.args.state.evaluation c.loop-turn.state.evaluation c.in-Ok-Pending.next.evaluation c.loop-turn.turn (state c.args.source.now) (state c.loop-turn.source) (state c.poll_pieces.new.source) c.loop-turn.invariant (rw c.in-Ok-Pending.field-0-is at c.in-Ok-Pending.ensures)

pub returns-in-Ok-Ready : goal.returns-in-Ok-Ready
returns-in-Ok-Ready g c =
    let state = g.S.SegmentSource.state in
    let first = c.args.state.evaluation in
    let now = c.loop-turn.state.evaluation in
    let gives : ColumnPollGives (Ok (Ready c.in-Ok-Ready.pieces)) c.loop-turn.state.evaluation (g.S.SegmentSource.state c.loop-turn.source) (g.S.SegmentSource.state c.poll_pieces.new.source) = rw c.in-Ok-Ready.field-0-is at c.in-Ok-Ready.ensures in
    record {
      leaves = leaves_by first (state c.args.source.now) (state c.poll_pieces.new.source) (state c.clear.new.self) (run_touches first now c.loop-turn.turn (state c.args.source.now) (state c.loop-turn.source) (state c.poll_pieces.new.source) c.loop-turn.invariant gives.0.touches) c.clear.ensures;
      ends = ready_ends first now c.in-Ok-Ready.pieces c.loop-turn.turn c.args.idle_limit (state c.args.source.now) (state c.loop-turn.source) (state c.poll_pieces.new.source) (state c.clear.new.self) c.loop-turn.invariant gives c.clear.ensures;
    }
