use Rattle.std.proofs.lemmas.Result.{IfOk-weaker}
use Rattle.vx_expr.proofs.ReportCounts.{counted_none}
use Rattle.vx_expr.proofs.filters.no_counts.Goals as goal

pub returns-clause-none : goal.returns-clause-none
returns-clause-none c = IfOk-weaker c.vec.result _ _ (λ v same. rw (same (λ y e. e)) (counted_none c.args.count 0)) c.vec.ensures.items_if_clones_equal
