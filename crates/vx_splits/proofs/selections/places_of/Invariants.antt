use Rattle.std.proofs.Common.{◌≡◌, ◌-◌, map, take}
use Rattle.vx_splits.proofs.selections.places_of.Given as goal

abbrev pub invariant-loop-index : goal.invariant-loop-index
invariant-loop-index l = l.places.items ≡ map (λ index. index - l.start) (take l.index-index l.indices)
