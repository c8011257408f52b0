use Rattle.vx_layout.proofs.FaultLaws.{good_has_none, one_node, one_number}
use Rattle.vx_layout.proofs.laws.faults_are_one.Goals as goal

pub returns-clause-good : goal.returns-clause-good
returns-clause-good c = good_has_none

pub returns-clause-one : goal.returns-clause-one
returns-clause-one c = λ nodes node other rule other_rule first second. (one_node nodes node other rule other_rule first second, one_number nodes node other rule other_rule first second)
