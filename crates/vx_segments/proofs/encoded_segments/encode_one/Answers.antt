use Rattle.std.proofs.Common.{length, subst}
use Rattle.vx_types.specs.Data.{DataType}
use Rattle.vx_segments.specs.Segment.{Spells}
use Rattle.vx_segments.proofs.EncodedSegments.{one_spells}
use Rattle.vx_segments.proofs.encoded_segments.encode_one.Goals as goal

pub returns-in-Ok : goal.returns-in-Ok
returns-in-Ok c =
    let one = c.in_ok-one.one.values in
    let bytes = c.in-Ok.bytes.items in
    one_spells c.args.column.now.dtype c.args.column.now.values one bytes c.requires.some c.requires.alike c.in_ok-one.ensures.values (subst (λ (t : DataType). Spells t (length one) bytes one) c.in_ok-one.ensures.dtype c.in-Ok.ensures)
