use Rattle.std.proofs.Common.{◌≡◌, length, arith}
use Rattle.vx_masks.specs.Bytes.{packed, SpellNoRows}
use Rattle.vx_segments.proofs.ReadBits.{read_is, always_read}
use Rattle.vx_segments.proofs.validity.mask_of_bits.Goals as goal

pub returns : goal.returns
returns c =
    let read : (length c.in-Some.mask ≡ c.args.rows) × (packed c.in-Some.mask ≡ c.args.bytes.now) = rw c.in-Some.is at c.in_ok-read.ensures in
    read_is c.args.rows c.args.bytes.now c.in-Some.mask read

pub unreachable-requires : goal.unreachable-requires
unreachable-requires c =
    let none : SpellNoRows c.args.rows c.args.bytes.now = rw c.in-None.is at c.in_ok-read.ensures in
    always_read c.args.rows c.args.bytes.now c.requires (λ i. omega (arith, c.type_inv.bytes i)) none
