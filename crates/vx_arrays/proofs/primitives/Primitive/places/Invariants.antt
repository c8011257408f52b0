use Rattle.std.proofs.Common.{◌≡◌, map, take}
use Rattle.vx_arrays.specs.Places.{places_in}
use Rattle.vx_arrays.proofs.primitives.Primitive.places.Given as goal

abbrev pub invariant-loop-row : goal.invariant-loop-row
invariant-loop-row g l = l.places.items ≡ places_in l.past (take l.row l.valid) (map g.T.Kind.number (take l.row l.numbers))
