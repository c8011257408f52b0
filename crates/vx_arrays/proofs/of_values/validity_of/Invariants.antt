use Rattle.std.proofs.Common.{◌≡◌, map, take}
use Rattle.vx_types.specs.ValueViews.{datum}
use Rattle.vx_types.specs.Slots.{is_value}
use Rattle.vx_arrays.proofs.of_values.validity_of.Given as goal

abbrev pub invariant-loop-value : goal.invariant-loop-value
invariant-loop-value l = l.bits.items ≡ map is_value (map datum (take l.value-index l.values))
