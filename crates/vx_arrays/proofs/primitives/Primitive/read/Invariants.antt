use Rattle.vx_arrays.proofs.SpelledNumbers.{ReadSoFar}
use Rattle.vx_arrays.proofs.primitives.Primitive.read.Given as goal

abbrev pub invariant-loop-row : goal.invariant-loop-row
invariant-loop-row g l = ReadSoFar g.T.Kind.kind g.T.Kind.number l.rows l._row l.bytes l.numbers.items l.rest
