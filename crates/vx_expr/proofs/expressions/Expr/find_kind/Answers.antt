use Rattle.std.proofs.Common.{refl}
use Rattle.vx_expr.specs.Finds.{own_found}
use Rattle.vx_expr.specs.TermViews.{term}
use Rattle.vx_expr.proofs.PartFinds.{put_none, no_kind}
use Rattle.vx_expr.proofs.expressions.Expr.find_kind.Goals as goal

pub returns-in_default : goal.returns-in_default
returns-in_default c = λ t e. put_none c.args.found.now.items c.args.found.now.items (own_found t (term c.args.self.now)) refl (no_kind t c.args.self.now c.requires c.in_default.not-Arith)
