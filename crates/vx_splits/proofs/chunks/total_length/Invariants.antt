use Rattle.std.proofs.Common.{◌≡◌, ◌*◌, ◌≤◌, take}
use Rattle.std.specs.List.{sum_by}
use Rattle.vx_splits.proofs.chunks.total_length.Given as goal

abbrev pub invariant-loop-location : goal.invariant-loop-location
invariant-loop-location l = record {
  total : l.total ≡ sum_by (λ at. at.length) (take l.location-index l.locations);
  small : l.total ≤ l.location-index * 4294967295;
}
