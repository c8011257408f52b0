use Rattle.vx_steps.proofs.TableMarks.{marks_plan}
use Rattle.vx_steps.proofs.plan_marks.PlanMarks.mark.Goals as goal

pub returns : goal.returns
returns c = marks_plan c.args.plan c.args.self.now (record { numbers = c.put.new.self }) c.put.ensures.number c.put.ensures.reached
