use Rattle.std.proofs.Common.{arith, refl}
use Rattle.vx_segments.proofs.ZeroSlots.{zeros_more, zeros_all, no_zero}
use Rattle.vx_segments.proofs.number_rows.are_zero.Goals as goal

pub returns-then-byte-ne0 : goal.returns-then-byte-ne0
returns-then-byte-ne0 c = (λ yes. absurd cc, λ all. absurd (no_zero c.args.bytes.now c.loop-byte.byte-index c.loop-byte-test.true (λ e. omega (arith, e, c.if-byte-ne0.true)) all))

pub loop-byte-preserved : goal.loop-byte-preserved
loop-byte-preserved c = zeros_more c.args.bytes.now c.loop-byte.byte-index c.loop-byte-test.true (omega (arith, c.if-byte-ne0.false)) c.loop-byte.invariant

pub returns : goal.returns
returns c = (λ yes. zeros_all c.args.bytes.now c.loop-byte.byte-index (omega (arith, c.loop-byte-test.false)) (omega arith) c.loop-byte.invariant, λ all. refl)
