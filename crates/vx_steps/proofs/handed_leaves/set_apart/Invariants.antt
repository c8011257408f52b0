use Rattle.std.proofs.Common.{◌≡◌, Some, take}
use Rattle.vx_steps.specs.declared.placed_reads.PlacedRead.{PlacedRead}
use Rattle.vx_steps.specs.Needs.{Among}
use Rattle.vx_steps.specs.Places.{place_in}
use Rattle.vx_steps.proofs.handed_leaves.set_apart.Given as goal

abbrev pub invariant-loop-place : goal.invariant-loop-place
invariant-loop-place l = record {
  same : l.needed ≡ record l.fn.needed { apart = l.needed.apart };
  found : l.needed.apart.found ≡ l.fn.needed.apart.found;
  put : (need : PlacedRead) → Among need (take l.place l.needs) → place_in l.needed.apart.places need.leaf ≡ Some 0;
}
