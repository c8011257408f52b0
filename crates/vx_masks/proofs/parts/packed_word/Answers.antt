use Rattle.std.proofs.Common.{◌≡◌, ◌+◌, ◌*◌, ◌^◌, ◌%◌, ◌<◌, ℕ, Bool, true, false, cond, false, get_or, subst, sym, ap, refl, ◌∙◌}
use mir.Val.{bool_byte}
use Rattle.vx_masks.proofs.Built.{packed_more, packed_fits}
use Rattle.vx_masks.proofs.parts.packed_word.Goals as goal

byte : (b : Bool) → cond b 1 0 ≡ bool_byte b
byte true = refl
byte false = refl

pub overflow_add-word : goal.overflow_add-word
overflow_add-word c =
    let i = c.loop-place.place in
    record { fits = subst (λ (x : ℕ). c.loop-place.word + x * 2 ^ i % 2 ^ 64 < 2 ^ 64) (byte (get_or c.args.bits.now i false)) (packed_fits c.args.bits.now i c.loop-place.word c.loop-place-test.true c.requires c.loop-place.invariant) }

pub loop-place-preserved : goal.loop-place-preserved
loop-place-preserved c =
    let i = c.loop-place.place in
    ap (λ (x : ℕ). c.loop-place.word + x * 2 ^ i % 2 ^ 64) (sym (byte (get_or c.args.bits.now i false))) ∙ packed_more c.args.bits.now i c.loop-place.word c.loop-place-test.true c.requires c.loop-place.invariant
