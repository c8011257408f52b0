use Rattle.vx_base.specs.Views.{data_type}
use Rattle.vx_expr.specs.TermViews.{term}
use Rattle.vx_lower.proofs.KeptTypes.{bound_is, refused_for_memory}
use Rattle.vx_lower.proofs.keeping.bound.Goals as goal

pub returns-in-Ok : goal.returns-in-Ok
returns-in-Ok c = bound_is c.args.names.now (data_type c.args.dtype.now) (term c.args.expr.now) c.in-Ok.pack c.requires.may c.requires.distinct c.requires.pack c.in-Ok.ensures

pub memory_only-requires : goal.memory_only-requires
memory_only-requires c = refused_for_memory c.args.names.now (data_type c.args.dtype.now) (term c.args.expr.now) c.in-Err.error c.requires.may c.requires.distinct c.requires.pack c.in-Err.ensures
