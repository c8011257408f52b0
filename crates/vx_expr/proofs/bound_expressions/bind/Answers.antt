use Rattle.std.proofs.Common.{rules}
use Rattle.vx_base.specs.Views.{data_type}
use Rattle.vx_expr.specs.TermViews.{term}
use Rattle.vx_expr.proofs.FirstMismatches.{bind_refuses_alike}
use Rattle.vx_expr.proofs.bound_expressions.bind.Goals as goal

pub returns-in-Err : goal.returns-in-Err
returns-in-Err c = bind_refuses_alike _ (data_type c.args.dtype.now) (term c.args.expr.now) c.in-Err.error c.in_ok-root.ensures (search rules) c.in-Err.ensures
