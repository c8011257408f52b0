use Rattle.std.proofs.Common.{ap, arith}
use Rattle.vx_types.specs.Sizes.{items_size}
use Rattle.vx_types.proofs.Items.{datum_size_at}
use Rattle.vx_types.proofs.values.+copy.Goals as goal

pub Values::copy-copy-requires : goal.Values::copy-copy-requires
Values::copy-copy-requires t c = (omega (arith, datum_size_at c.items-items.result.now c.loop-value.value-index c.value-item.result c.loop-value-test.true c.value-item.is, ap items_size c.items-items.ensures), tt)
