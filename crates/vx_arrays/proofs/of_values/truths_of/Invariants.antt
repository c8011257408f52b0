use Rattle.std.proofs.Common.{◌≡◌, map, take}
use Rattle.vx_types.specs.ValueViews.{datum}
use Rattle.vx_types.specs.Slots.{truth_in}
use Rattle.vx_arrays.proofs.of_values.truths_of.Given as goal

abbrev pub invariant-loop-value : goal.invariant-loop-value
invariant-loop-value l = l.bits.items ≡ map truth_in (map datum (take l.value-index l.values))
