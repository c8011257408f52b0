use Rattle.std.proofs.Common.{◌≡◌}
use Rattle.vx_arrays.specs.Fronts.{spelled}
use Rattle.vx_arrays.proofs.first_bytes.front_of.Given as goal

abbrev pub invariant-loop-place : goal.invariant-loop-place
invariant-loop-place l = l.number ≡ spelled l.place l.bytes
