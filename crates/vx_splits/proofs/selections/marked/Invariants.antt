use Rattle.std.proofs.Common.{take, ◌-◌}
use Rattle.vx_splits.proofs.Marks.{Marked}
use Rattle.vx_splits.proofs.selections.marked.Given as goal

abbrev pub invariant-loop-index : goal.invariant-loop-index
invariant-loop-index l = Marked l.bits.items (l.rows.end - l.rows.start) l.rows.start l.mark (take l.index-index l.indices)
