use Rattle.vx_steps.proofs.TableMarks.{keeps_marks}
use Rattle.vx_steps.proofs.plan_marks.PlanMarks.reach.Goals as goal

pub returns-clause-kept : goal.returns-clause-kept
returns-clause-kept c = keeps_marks c.args.self.now (record { numbers = c.reach.new.self }) c.reach.ensures.kept c.reach.ensures.reached
