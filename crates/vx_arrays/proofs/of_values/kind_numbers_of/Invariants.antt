use Rattle.std.proofs.Common.{◌≡◌, map, take}
use Rattle.vx_types.specs.ValueViews.{datum}
use Rattle.vx_types.specs.Slots.{number_in}
use Rattle.vx_arrays.proofs.of_values.kind_numbers_of.Given as goal

abbrev pub invariant-loop-value : goal.invariant-loop-value
invariant-loop-value g l = map g.T.Kind.number l.numbers.items ≡ map number_in (map datum (take l.value-index l.values))
