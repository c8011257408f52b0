use Rattle.std.proofs.Common.{ap, arith}
use Rattle.vx_types.specs.Sizes.{members_size}
use Rattle.vx_types.proofs.Members.{size_at}
use Rattle.vx_types.proofs.dtypes.+copy.Goals as goal

pub OwnFields::copy-copy-requires-in-loop-field : goal.OwnFields::copy-copy-requires-in-loop-field
OwnFields::copy-copy-requires-in-loop-field t c = (omega (arith, size_at c.items-items.result.now c.loop-field.field-index c.field-item.result c.loop-field-test.true c.field-item.is, ap members_size c.items-items.ensures), tt)
