use Rattle.vx_expr.specs.TermViews.{term}
use Rattle.vx_expr.proofs.SameTerms.{rewritten_same}
use Rattle.vx_expr.proofs.expressions.Expr.copy.Goals as goal

pub returns : goal.returns
returns c = rw (rewritten_same (term c.args.self.now)) at c.rewritten.ensures
