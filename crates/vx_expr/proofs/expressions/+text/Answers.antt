use Rattle.std.proofs.Common.{ap, arith}
use Rattle.vx_expr.specs.Counts.{nodes_in}
use Rattle.vx_expr.proofs.Pairs.{nodes_at}
use Rattle.vx_expr.proofs.expressions.+text.Goals as goal

pub NamedExprs::write_text-write_text-requires : goal.NamedExprs::write_text-write_text-requires
NamedExprs::write_text-write_text-requires t c = (omega (arith, nodes_at c.items-items.result.now c.loop-place.place c.index-items-place.result c.loop-place-test.true c.index-items-place.is, ap nodes_in c.items-items.ensures), tt)
