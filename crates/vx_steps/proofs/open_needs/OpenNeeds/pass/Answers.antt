use Rattle.std.proofs.Common.{◌<◌, ◌≤◌, length, refl, arith}
use Rattle.vx_steps.proofs.Passing.{ends_behind}
use Rattle.vx_steps.proofs.open_needs.OpenNeeds.pass.Goals as goal

pub returns-then-need-place : goal.returns-then-need-place
returns-then-need-place c =
    let less : c.self.inside.passed < length c.self.inside.needs.items = omega arith in
    let late : c.args.place ≤ c.index-need.result.now.last = omega arith in
    rw (← c.self.view_is) (ends_behind c.self.inside.needs.items c.self.inside.passed c.args.place c.index-need.result.now c.self.invariant less c.index-need.ensures late, refl)
