use Rattle.vx_expr.proofs.StrictNull.{strict_null}
use Rattle.vx_expr.proofs.laws.strict_is_null.Goals as goal

pub returns : goal.returns
returns c = strict_null
