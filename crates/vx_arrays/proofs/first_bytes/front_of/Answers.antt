use Rattle.std.proofs.Common.{◌≡◌, ℕ, ap, ◌∙◌, arith}
use Rattle.vx_arrays.specs.Fronts.{spelled}
use Rattle.vx_arrays.proofs.Fronts.{spelled_fits, spelled_next, front_spelled}
use Rattle.vx_arrays.proofs.first_bytes.front_of.Goals as goal

pub overflow_mul-high : goal.overflow_mul-high
overflow_mul-high c =
    let small = spelled_fits c.loop-place.place c.args.bytes.now (λ k. (c.type_inv.bytes k).fits) (omega arith) in
    omega (arith, small, c.loop-place.invariant)

pub overflow_add-number : goal.overflow_add-number
overflow_add-number c =
    let small = spelled_fits c.loop-place.place c.args.bytes.now (λ k. (c.type_inv.bytes k).fits) (omega arith) in
    omega (arith, small, c.byte_or_zero.ensures, c.loop-place.invariant)

pub loop-place-preserved : goal.loop-place-preserved
loop-place-preserved c = spelled_next c.loop-place.place c.args.bytes.now c.loop-place.number c.byte_or_zero.result c.loop-place.invariant c.byte_or_zero.ensures

pub returns : goal.returns
returns c =
    let whole : c.loop-place.place ≡ 16 = omega arith in
    c.loop-place.invariant ∙ ap (λ (n : ℕ). spelled n c.args.bytes.now) whole ∙ front_spelled c.args.bytes.now
