use Rattle.std.proofs.Common.{take}
use Rattle.std.specs.List.{All}
use Rattle.vx_io.specs.Submits.{IsKnown}
use Rattle.vx_io.proofs.sessions.first_unknown.Given as goal

abbrev pub invariant-loop-place : goal.invariant-loop-place
invariant-loop-place l = All (IsKnown l.ranges) (take l.place l.batch)
