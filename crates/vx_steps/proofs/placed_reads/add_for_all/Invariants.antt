use Rattle.std.proofs.Common.{◌≡◌, ◌++◌, map, take}
use Rattle.vx_steps.specs.Placed.{up_to}
use Rattle.vx_steps.proofs.placed_reads.add_for_all.Given as goal

abbrev pub invariant-loop-place : goal.invariant-loop-place
invariant-loop-place l = l.needs.items ≡ l.fn.needs.items ++ map (up_to l.last) (take l.place l.found)
