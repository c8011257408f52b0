use Rattle.std.proofs.Common.{◌≡◌, ◌+◌, ◌*◌, map, take}
use Rattle.vx_types.specs.Sizes.{datum_size, items_size}
use Rattle.vx_types.specs.ValueViews.{datum}
use Rattle.vx_types.proofs.values.+same.Given as goal

abbrev pub decreases-Value::same : goal.decreases-Value::same
decreases-Value::same l = 2 * datum_size (datum l.self.now)

abbrev pub decreases-Values::same : goal.decreases-Values::same
decreases-Values::same l = 2 * items_size l.self.now + 1

abbrev pub invariant-Values::same-loop-place : goal.invariant-Values::same-loop-place
invariant-Values::same-loop-place l = map datum (take l.place l.ones) ≡ map datum (take l.place l.others)
