use Rattle.std.proofs.Common.{◌∙◌}
use Rattle.vx_reads.specs.Truths.{column_meaning}
use Rattle.vx_reads.proofs.Filtering.{sparse_truths}
use Rattle.vx_reads.proofs.Knowing.{sparse_worth}
use Rattle.vx_reads.proofs.filters.sparse_filter.Goals as goal

pub returns-in_ok-intersect_by_rank-in-Ok-clause-kept : goal.returns-in_ok-intersect_by_rank-in-Ok-clause-kept
returns-in_ok-intersect_by_rank-in-Ok-clause-kept c = c.in_ok-intersect_by_rank-in-Ok.ensures ∙ sparse_truths (column_meaning c.args.column.now c.args.expression.now.term) c.args.start c.args.mask.now c.in-Ok.truths c.in-Ok.ensures.truths

pub returns-in_ok-intersect_by_rank-in-Ok-clause-worth : goal.returns-in_ok-intersect_by_rank-in-Ok-clause-worth
returns-in_ok-intersect_by_rank-in-Ok-clause-worth c = sparse_worth (column_meaning c.args.column.now c.args.expression.now.term) c.args.start c.args.mask.now c.in-Ok.ensures.truths.0 c.in-Ok.ensures.truths.1
