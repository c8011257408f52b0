use Rattle.std.proofs.Common.{[], take}
use Rattle.vx_masks.specs.Rows.{NullsHold}
use Rattle.vx_arrays.proofs.texts.Texts.hold_none.Given as goal

abbrev pub invariant-loop-row : goal.invariant-loop-row
invariant-loop-row l = NullsHold [] (take l.row l.valid) (take l.row l.self)
