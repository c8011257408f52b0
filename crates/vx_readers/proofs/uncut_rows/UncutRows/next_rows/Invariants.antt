use Rattle.vx_readers.proofs.Uncut.{CutsOff}
use Rattle.vx_readers.proofs.uncut_rows.UncutRows.next_rows.Given as goal

abbrev pub invariant-pieces : goal.invariant-pieces
invariant-pieces l = CutsOff l.fn.self l.self l.pieces.items l.count l.left

abbrev pub decreases-pieces : goal.decreases-pieces
decreases-pieces l = l.left
