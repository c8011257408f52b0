use Rattle.std.proofs.Common.{◌≡◌, ℕ, ◌<◌, Some, map}
use Rattle.std.specs.List.{slice_get}
use Rattle.vx_steps.specs.Kept.{kept_data}
use Rattle.vx_steps.specs.KeptData.{Kept}
use Rattle.vx_steps.specs.Places.{place_in}
use Rattle.vx_steps.proofs.handed_leaves.set_apart_handed.Given as goal

abbrev pub invariant-loop-place : goal.invariant-loop-place
invariant-loop-place l = record {
  same : l.needed ≡ record l.fn.needed { apart = l.needed.apart };
  found : l.needed.apart.found ≡ l.fn.needed.apart.found;
  put : (place : ℕ) (k : Kept) → place < l.place → slice_get (map kept_data l.columns) place ≡ Some k → place_in l.needed.apart.places k.node ≡ Some 0;
}
