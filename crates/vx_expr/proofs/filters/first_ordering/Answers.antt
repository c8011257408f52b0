use Rattle.vx_expr.proofs.Conjuncts.{range_next}
use Rattle.vx_expr.proofs.filters.first_ordering.Goals as goal

pub loop-conjunct-preserved : goal.loop-conjunct-preserved
loop-conjunct-preserved c = rw (c.in_ok-push.ensures.items, c.loop-conjunct.invariant) (range_next c.loop-conjunct.conjunct)
