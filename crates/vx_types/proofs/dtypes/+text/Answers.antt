use Rattle.std.proofs.Common.{ap, arith}
use Rattle.vx_types.specs.Sizes.{members_size}
use Rattle.vx_types.proofs.Members.{size_at}
use Rattle.vx_types.proofs.dtypes.+text.Goals as goal

pub Fields::write_text-write_text-requires : goal.Fields::write_text-write_text-requires
Fields::write_text-write_text-requires t c = (omega (arith, size_at c.items-items.result.now c.loop-place.place c.index-items-place.result c.loop-place-test.true c.index-items-place.is, ap members_size c.items-items.ensures), tt)
