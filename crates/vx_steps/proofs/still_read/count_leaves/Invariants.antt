use Rattle.std.proofs.Common.{map, take}
use Rattle.vx_steps.specs.Pieces.{read_of}
use Rattle.vx_steps.specs.StillRead.{CountsLeaves}
use Rattle.vx_steps.proofs.still_read.count_leaves.Given as goal

abbrev pub invariant-loop-place : goal.invariant-loop-place
invariant-loop-place l = CountsLeaves (map read_of (take l.place l.needs)) l.fn.leaves l.leaves
