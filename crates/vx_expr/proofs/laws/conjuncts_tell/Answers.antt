use Rattle.vx_expr.proofs.ConjunctTruth.{conjuncts_from, conjuncts_to}
use Rattle.vx_expr.proofs.laws.conjuncts_tell.Goals as goal

pub returns : goal.returns
returns c = λ t e bound v row. (conjuncts_from t e bound v row, conjuncts_to t e bound v row)
