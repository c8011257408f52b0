use Rattle.std.proofs.Common.{◌≡◌, drop, find, slice_index_or, false}
use Rattle.vx_expr.proofs.filters.FilterExpr.next_conjunct.Given as goal

abbrev pub invariant-loop-conjunct : goal.invariant-loop-conjunct
invariant-loop-conjunct l = find (λ conjunct. slice_index_or l.remaining conjunct false) (drop l.conjunct-index l.conjunct-items) ≡ find (λ conjunct. slice_index_or l.remaining conjunct false) l.conjunct-items
