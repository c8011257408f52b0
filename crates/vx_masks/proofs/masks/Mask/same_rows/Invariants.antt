use Rattle.std.proofs.Common.{◌≡◌, take}
use Rattle.vx_masks.proofs.masks.Mask.same_rows.Given as goal

abbrev pub invariant-loop-row : goal.invariant-loop-row
invariant-loop-row l = take l.row l.self ≡ take l.row l.other
