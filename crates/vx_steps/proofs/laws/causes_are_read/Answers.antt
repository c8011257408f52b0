use Rattle.vx_steps.proofs.VisitedParts.{cause_read, term_worked}
use Rattle.vx_steps.proofs.laws.causes_are_read.Goals as goal

pub returns : goal.returns
returns c = record { terms = term_worked; causes = cause_read }
