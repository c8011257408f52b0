use Rattle.std.proofs.Common.{◌≡◌, ◌+◌, ◌*◌, ◌^◌, ◌%◌, ◌<◌, ℕ, Bool, true, false, cond, length, get_or, subst, sym, ap, refl, ◌∙◌, arith}
use mir.Val.{bool_byte}
use Rattle.std.proofs.lemmas.List.{length-map}
use Rattle.vx_masks.specs.Rows.{taken}
use Rattle.vx_masks.proofs.Built.{packed_more, packed_fits}
use Rattle.vx_masks.proofs.Taken.{taken_at}
use Rattle.vx_masks.proofs.pairs.taken_word.Goals as goal

byte : (b : Bool) → cond b 1 0 ≡ bool_byte b
byte true = refl
byte false = refl

long : (c : goal.After-bit_or_false) → length (taken false c.args.mask.now c.args.places.now) ≡ length c.args.places.now
long c = length-map c.args.places.now (λ (place : ℕ). get_or c.args.mask.now place false)

here : (c : goal.After-bit_or_false) → cond (get_or (taken false c.args.mask.now c.args.places.now) c.loop-index.index false) 1 0 ≡ bool_byte c.bit_or_false.result
here c = ap (λ (b : Bool). cond b 1 0) (taken_at c.args.mask.now c.args.places.now c.loop-index.index (omega arith) ∙ sym c.bit_or_false.ensures) ∙ byte c.bit_or_false.result

pub overflow_add-word : goal.overflow_add-word
overflow_add-word c =
    let i = c.loop-index.index in
    let bits = taken false c.args.mask.now c.args.places.now in
    record { fits = subst (λ (x : ℕ). c.loop-index.word + x * 2 ^ i % 2 ^ 64 < 2 ^ 64) (here c) (packed_fits bits i c.loop-index.word (omega (arith, long c)) (omega (arith, long c)) c.loop-index.invariant) }

pub loop-index-preserved : goal.loop-index-preserved
loop-index-preserved c =
    let i = c.loop-index.index in
    let bits = taken false c.args.mask.now c.args.places.now in
    ap (λ (x : ℕ). c.loop-index.word + x * 2 ^ i % 2 ^ 64) (sym (here c)) ∙ packed_more bits i c.loop-index.word (omega (arith, long c)) (omega (arith, long c)) c.loop-index.invariant
