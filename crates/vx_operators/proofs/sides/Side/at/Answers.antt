use Rattle.std.proofs.Common.{pos}
use Rattle.vx_operators.proofs.SideRows.{get_same}
use Rattle.vx_operators.proofs.sides.Side.at.Goals as goal

pub returns-in-One : goal.returns-in-One
returns-in-One g c = rw c.in-One.is (get_same c.in-One.field-1 (g.T.Kind.number c.in-One.number) c.args.row (rw c.in-One.is at c.requires))

pub returns-in-Null : goal.returns-in-Null
returns-in-Null g c = rw (c.in-Null.is, c.zero.ensures) (get_same c.in-Null.field-0 (pos 0) c.args.row (rw c.in-Null.is at c.requires))
