use Rattle.std.proofs.Common.{ap, arith}
use Rattle.scan_output.proofs.row_texts.+texts.Goals as goal
use Rattle.vx_base.specs.Sizes.{members_size}
use Rattle.vx_base.proofs.Members.{size_at}

pub append_fields-append_item-requires : goal.append_fields-append_item-requires
append_fields-append_item-requires t c = (omega (arith, size_at c.items-members.result.now c.loop-place.place c.index-members-place.result c.loop-place-test.true c.index-members-place.is, ap members_size c.items-members.ensures), tt)
