use Rattle.std.proofs.Common.{ap, arith}
use Rattle.vx_base.specs.Views.{data_type}
use Rattle.vx_expr.specs.Counts.{node_count}
use Rattle.vx_expr.specs.TermViews.{term}
use Rattle.vx_expr.specs.Types.{type_of}
use Rattle.vx_expr.proofs.Conjuncts.{part_truths}
use Rattle.vx_expr.proofs.filters.+split.Goals as goal

pub split-requires-in-And : goal.split-requires-in-And
split-requires-in-And t c =
    let parts = part_truths (type_of (data_type c.args.root.now) c.in-And.left) (type_of (data_type c.args.root.now) c.in-And.right) (rw c.in-And.is at c.requires) in
    (omega (arith, ap (λ e. node_count (term e)) c.in-And.is, ap node_count c.expr-in-And.ensures), rw c.expr-in-And.ensures parts.1)
