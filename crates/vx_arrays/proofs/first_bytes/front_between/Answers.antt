use Rattle.std.proofs.Common.{◌≡◌, ℕ, ◌+◌, ◌-◌, ◌*◌, ◌/◌, ◌^◌, ◌<◌, ◌≤◌, length, take, drop, sym, ap, subst, ◌∙◌, arith}
use Rattle.std.proofs.lemmas.List.{get_or-drop, length-drop, take_all}
use Rattle.vx_arrays.specs.Fronts.{front_number}
use Rattle.vx_arrays.proofs.Fronts.{front_cut}
use Rattle.vx_arrays.proofs.first_bytes.front_between.Goals as goal

pub long_front-requires : goal.long_front-requires
long_front-requires c = omega (arith, length-drop c.args.from c.args.bytes.now)

pub returns-else-left-lt16 : goal.returns-else-left-lt16
returns-else-left-lt16 c =
    let rest = drop c.args.from c.args.bytes.now in
    let len = c.args.to - c.args.from in
    let left = length c.args.bytes.now - c.args.from in
    let long : 16 ≤ length rest = omega (arith, length-drop c.args.from c.args.bytes.now) in
    let whole : take left rest ≡ rest = take_all left rest (omega (arith, length-drop c.args.from c.args.bytes.now)) in
    c.first_of.ensures ∙ ap (λ (n : ℕ). n / 2 ^ (8 * (16 - len)) * 2 ^ (8 * (16 - len))) (c.long_front.ensures ∙ ap front_number whole)
    ∙ front_cut len rest long (λ k. subst (λ (n : ℕ). n < 256) (sym (get_or-drop c.args.from c.args.bytes.now k 0)) (c.type_inv.bytes (c.args.from + k)).fits)
