use Rattle.std.proofs.Common.{ap, map, ◌∙◌}
use Rattle.vx_base.specs.ColumnCalls.{natural}
use Rattle.vx_base.specs.Data.{Datum}
use Rattle.vx_operators.specs.declared.operators.CompareOp.TheVariants.{Gt}
use Rattle.vx_zones.specs.Prunes.{tells, all_null}
use Rattle.vx_zones.specs.Tables.{Zone, zones_in}
use Rattle.vx_zones.proofs.AlongZones.{either_answered}
use Rattle.vx_zones.proofs.tables.ZoneTable.above.Goals as goal

pub returns : goal.returns
returns c =
    let zones = zones_in c.args.self.now in
    either_answered (λ zone. tells Gt zone.least (natural c.args.bound)) all_null zones c.in_ok-above.above c.all_null.result.now c.either.result c.either.ensures
    (c.in_ok-above.ensures ∙ ap (λ (d : Datum). map (λ (zone : Zone). tells Gt zone.least d) zones) c.natural_of-key.ensures) c.all_null.ensures
