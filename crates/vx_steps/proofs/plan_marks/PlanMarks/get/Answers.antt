use Rattle.vx_steps.proofs.TableMarks.{marked_by}
use Rattle.vx_steps.proofs.plan_marks.PlanMarks.get.Goals as goal

pub returns : goal.returns
returns c = marked_by c.args.self.now c.args.plan c.get.result c.get.ensures.value
