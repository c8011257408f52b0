use Rattle.vx_picking.proofs.PickedValues.{zeros_made}
use Rattle.std.specs.Vec.{vec_len}
use Rattle.vx_picking.proofs.picking.zeros.Goals as goal

pub returns-clause-values : goal.returns-clause-values
returns-clause-values c = rw (← zeros_made c.args.rows (vec_len c.new-numbers.result) c.new-numbers.result.items c.resize.new.self.items c.new-numbers.ensures.items c.new-numbers.ensures.len c.in_ok-resize.ensures.items) c.from_numbers.ensures.values
