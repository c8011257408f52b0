use Rattle.scan_input.proofs.Pieces.{ReadsSoFar}
use Rattle.scan_input.proofs.reading.read_request.Given as goal

abbrev pub invariant-loop-turn : goal.invariant-loop-turn
invariant-loop-turn g l = ReadsSoFar l._turn l.bytes.items (g.Q.Source.state l.fn.request) (g.Q.Source.state l.request)
