use Rattle.vx_scan.proofs.Answered.{pieces_join, pieces_answer}
use Rattle.vx_scan.proofs.laws.pieces_are_the_answer.Goals as goal

pub returns-clause-rows : goal.returns-clause-rows
returns-clause-rows c = pieces_join

pub returns-clause-answer : goal.returns-clause-answer
returns-clause-answer c = pieces_answer
