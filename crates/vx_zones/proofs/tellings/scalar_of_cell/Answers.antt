use Rattle.std.proofs.Common.{sym}
use Rattle.vx_zones.proofs.ToldRows.{struct_at_tells_nothing}
use Rattle.vx_zones.proofs.tellings.scalar_of_cell.Goals as goal

pub returns-in-Struct : goal.returns-in-Struct
returns-in-Struct c = rw c.in-Struct.is (λ op v. sym (struct_at_tells_nothing op c.in-Struct._arrays.now.rows c.in-Struct._row v))
