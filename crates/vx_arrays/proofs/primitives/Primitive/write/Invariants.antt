use Rattle.std.proofs.Common.{◌≡◌, ◌++◌, map, take}
use Rattle.std.specs.List.{flat_map}
use Rattle.vx_types.specs.Slots.{number_bytes}
use Rattle.vx_arrays.proofs.primitives.Primitive.write.Given as goal

abbrev pub invariant-loop-number : goal.invariant-loop-number
invariant-loop-number g l = l.bytes.items ≡ l.fn.bytes.items ++ flat_map (number_bytes g.T.Kind.kind) (map g.T.Kind.number (take l.number-index l.numbers))
