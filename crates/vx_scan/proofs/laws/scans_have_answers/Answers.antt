use Rattle.vx_scan.proofs.Answered.{valid_answered, answer_one, faulty_unanswered, fault_unanswered}
use Rattle.vx_scan.proofs.ScanValid.{valid_begins}
use Rattle.vx_scan.proofs.laws.scans_have_answers.Goals as goal

pub returns-clause-valid : goal.returns-clause-valid
returns-clause-valid c = valid_answered

pub returns-clause-begins : goal.returns-clause-begins
returns-clause-begins c = valid_begins

pub returns-clause-one : goal.returns-clause-one
returns-clause-one c = answer_one

pub returns-clause-faulty : goal.returns-clause-faulty
returns-clause-faulty c = faulty_unanswered

pub returns-clause-fault : goal.returns-clause-fault
returns-clause-fault c = fault_unanswered
