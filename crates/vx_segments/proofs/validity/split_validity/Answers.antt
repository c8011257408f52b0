use Rattle.std.proofs.Common.{arith}
use Rattle.vx_segments.proofs.ValidityBits.{bits_room, bits_front}
use Rattle.vx_segments.proofs.validity.split_validity.Goals as goal

pub returns-then-bytes-len-clause-none : goal.returns-then-bytes-len-clause-none
returns-then-bytes-len-clause-none c = λ none values rest count e.
    let room = bits_room values rest c.args.bytes.now c.args.rows count (rw c.in-Nullable.is at e) in
    omega (arith, room, c.div_ceil-len.ensures, c.if-bytes-len.true)

pub returns-else-are_bits-clause-none : goal.returns-else-are_bits-clause-none
returns-else-are_bits-clause-none c = λ none values rest count e.
    let bits = bits_front values rest c.args.bytes.now c.split_at-2.result.0.now c.args.rows c.div_ceil-len.result count (rw c.in-Nullable.is at e) (omega (arith, c.div_ceil-len.ensures)) c.split_at-2.ensures.front in
    let yes = c.are_bits.ensures.1 bits in
    absurd cc
