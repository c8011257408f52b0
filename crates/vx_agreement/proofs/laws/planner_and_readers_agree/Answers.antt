use Rattle.vx_agreement.proofs.ReadAnswers.{both_are_one}
use Rattle.vx_agreement.proofs.laws.planner_and_readers_agree.Goals as goal

pub returns : goal.returns
returns c = both_are_one c.pieces_are_the_answer.ensures.answer
