use Rattle.vx_expr.specs.Counts.{node_count}
use Rattle.vx_expr.specs.TermViews.{term}
use Rattle.vx_expr.proofs.filters.+split.Given as goal

abbrev pub decreases-split : goal.decreases-split
decreases-split l = node_count (term l.expr.now)
