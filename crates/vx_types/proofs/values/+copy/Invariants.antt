use Rattle.std.proofs.Common.{◌≡◌, ◌+◌, ◌*◌, map, take}
use Rattle.vx_types.specs.Sizes.{datum_size, items_size}
use Rattle.vx_types.specs.ValueViews.{datum}
use Rattle.vx_types.proofs.values.+copy.Given as goal

abbrev pub decreases-Value::copy : goal.decreases-Value::copy
decreases-Value::copy l = 2 * datum_size (datum l.self.now)

abbrev pub decreases-Values::copy : goal.decreases-Values::copy
decreases-Values::copy l = 2 * items_size l.self.now + 1

abbrev pub invariant-Values::copy-loop-value : goal.invariant-Values::copy-loop-value
invariant-Values::copy-loop-value l = map datum l.values.items ≡ map datum (take l.value-index l.items)
