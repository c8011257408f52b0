use Rattle.vx_expr.proofs.RewrittenMeaning.{worth_as_root, worth_over_row}
use Rattle.vx_expr.proofs.laws.rewriting_keeps.Goals as goal

pub returns-clause-as_root : goal.returns-clause-as_root
returns-clause-as_root c = worth_as_root

pub returns-clause-over_row : goal.returns-clause-over_row
returns-clause-over_row c = worth_over_row
