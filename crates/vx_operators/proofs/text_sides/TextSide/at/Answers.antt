use Rattle.std.proofs.Common.{[]}
use Rattle.vx_operators.proofs.SideRows.{get_same}
use Rattle.vx_operators.proofs.text_sides.TextSide.at.Goals as goal

pub returns-in-One : goal.returns-in-One
returns-in-One c = rw c.in-One.is (get_same c.in-One.field-1 c.in-One.text.now c.args.row (rw c.in-One.is at c.requires))

pub returns-in-Null : goal.returns-in-Null
returns-in-Null c = rw c.in-Null.is (get_same c.in-Null.field-0 [] c.args.row (rw c.in-Null.is at c.requires))
