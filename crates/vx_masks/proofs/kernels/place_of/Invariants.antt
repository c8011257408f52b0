use Rattle.std.proofs.Common.{◌-◌}
use Rattle.vx_masks.proofs.Places.{Passed}
use Rattle.vx_masks.proofs.kernels.place_of.Given as goal

abbrev pub invariant-loop-passed : goal.invariant-loop-passed
invariant-loop-passed l = Passed l.word l.rank l.rest (l.rank - l._passed)
