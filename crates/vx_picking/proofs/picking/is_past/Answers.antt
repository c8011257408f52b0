use Rattle.vx_picking.proofs.PickedValues.{struct_below}
use Rattle.vx_picking.proofs.picking.is_past.Goals as goal

pub returns-in-Struct : goal.returns-in-Struct
returns-in-Struct c = rw c.in-Struct.is (struct_below c.args.count _ c.in-Struct.field-1)
