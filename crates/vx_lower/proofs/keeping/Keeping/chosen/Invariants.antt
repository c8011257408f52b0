use Rattle.std.proofs.Common.{◌≡◌, ◌++◌, drop}
use Rattle.vx_lower.specs.Keeping.{chosen}
use Rattle.vx_lower.proofs.keeping.Keeping.chosen.Given as goal

abbrev pub invariant-loop-place : goal.invariant-loop-place
invariant-loop-place l = l.kept.items ++ chosen (drop l.place l.flags) (drop l.place l.children) ≡ chosen l.flags l.children
