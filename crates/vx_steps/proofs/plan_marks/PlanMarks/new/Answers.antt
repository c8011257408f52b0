use Rattle.std.proofs.Common.{ℕ, ◌==◌, ap}
use Rattle.vx_steps.specs.PlanMarks.{is_marked}
use Rattle.vx_steps.proofs.plan_marks.PlanMarks.new.Goals as goal

pub returns : goal.returns
unfolding is_marked
returns c = λ n. ap (λ (k : ℕ). k == 1) (c.new.ensures n)
