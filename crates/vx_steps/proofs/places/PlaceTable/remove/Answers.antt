use Rattle.std.proofs.Common.{None, arith, refl}
use Rattle.vx_steps.proofs.TablePlaces.{has_none, sets_place}
use Rattle.vx_steps.proofs.places.PlaceTable.remove.Goals as goal

pub returns-then-get-gt0 : goal.returns-then-get-gt0
returns-then-get-gt0 c = sets_place c.args.self.now (record { numbers = c.put.new.self }) c.args.plan 0 None refl c.put.ensures.number

pub returns-else-get-gt0 : goal.returns-else-get-gt0
returns-else-get-gt0 c = has_none c.args.self.now c.args.plan c.get.result c.get.ensures.value (omega arith)
