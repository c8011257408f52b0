use Rattle.std.proofs.Common.{◌-◌, refl}
use Rattle.std.specs.Vec.{with_item}
use Rattle.vx_steps.proofs.Tables.{put_number}
use Rattle.vx_steps.proofs.number_table.NumberTable.put.Goals as goal

pub returns-clause-number : goal.returns-clause-number
returns-clause-number c = put_number c.args.self.now (record { first = c.args.self.now.first; numbers = with_item c.args.self.now.numbers (c.args.plan - c.args.self.now.first) c.args.number }) c.args.plan c.args.number c.requires refl refl
