use Rattle.vx_readers.proofs.Cutting.{CutsTo}
use Rattle.vx_readers.proofs.whole_reads.cut.Given as goal

abbrev pub invariant-loop-place : goal.invariant-loop-place
invariant-loop-place l = CutsTo l.fn.whole l.rest l.splits l.place l.columns.items
