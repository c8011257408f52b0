use Rattle.std.proofs.Common.{◌≡◌, Some, None, arith}
use Rattle.std.proofs.lemmas.Grind.{common_steps}
use Rattle.vx_steps.specs.Kept.{kept_at}
use Rattle.vx_steps.proofs.WholeMaking.{one_kept, one_only, uses_one}
use Rattle.vx_steps.proofs.wholes.use_given.Goals as goal

pub returns-in_ok-keep-in-Some-clause-uses : goal.returns-in_ok-keep-in-Some-clause-uses
returns-in_ok-keep-in-Some-clause-uses c =
    let there : kept_at c.args.given.now c.args.number ≡ Some c.in_ok-copy-in-Some.field-0 = grind (arith, common_steps) in
    let none : kept_at c.args.used.now c.args.number ≡ None = grind (arith, common_steps) in
    uses_one c.args.given.now c.args.used.now c.keep.new.self c.args.number c.in_ok-copy-in-Some.field-0 there none (c.in_ok-keep-in-Some.ensures.kept)

pub returns-in_ok-keep-in-Some-clause-one : goal.returns-in_ok-keep-in-Some-clause-one
returns-in_ok-keep-in-Some-clause-one c = one_only c.args.used.now c.keep.new.self c.args.number c.in_ok-copy-in-Some.field-0 c.in_ok-keep-in-Some.ensures.kept

pub returns-in_ok-keep-in-Some-clause-there : goal.returns-in_ok-keep-in-Some-clause-there
returns-in_ok-keep-in-Some-clause-there c =
    let none : kept_at c.args.used.now c.args.number ≡ None = grind (arith, common_steps) in
    let there : kept_at c.args.given.now c.args.number ≡ Some c.in_ok-copy-in-Some.field-0 = grind (arith, common_steps) in
    ((c.in_ok-copy-in-Some.field-0, there), one_kept c.args.used.now c.keep.new.self c.args.number c.in_ok-copy-in-Some.field-0 none (c.in_ok-keep-in-Some.ensures.kept))
