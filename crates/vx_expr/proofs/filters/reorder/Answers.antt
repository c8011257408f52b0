use Rattle.std.proofs.Common.{rules}
use Rattle.vx_expr.specs.Filters.{quantile_of}
use Rattle.vx_expr.proofs.Reports.{stably_sorted}
use Rattle.vx_expr.proofs.filters.reorder.Goals as goal

pub returns-clause-sorted : goal.returns-clause-sorted
returns-clause-sorted c = stably_sorted (quantile_of c.args.reports.now) c.sort_by_key.result c.args.ordering.now.items c.sort_by_key.new.self.items c.sort_by_key.ensures.permutation c.sort_by_key.ensures.sorted c.sort_by_key.ensures.stable (λ a r f' k. search rules)
