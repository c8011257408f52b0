use Rattle.vx_readers.proofs.ReadingOn.{RunsOn}
use Rattle.vx_readers.proofs.reading.read_pieces.Given as goal

abbrev pub invariant-loop-turn : goal.invariant-loop-turn
invariant-loop-turn g l = RunsOn l.fn.state.evaluation l.state.evaluation l.turn (g.S.SegmentSource.state l.fn.source) (g.S.SegmentSource.state l.source)
