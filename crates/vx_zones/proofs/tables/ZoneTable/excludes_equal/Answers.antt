use Rattle.vx_operators.specs.declared.operators.CompareOp.TheVariants.{Lt, Gt}
use Rattle.vx_operators.specs.ColumnarValues.{scalar_datum}
use Rattle.vx_zones.specs.Prunes.{tells}
use Rattle.vx_zones.specs.Tables.{zones_in}
use Rattle.vx_zones.proofs.AlongZones.{either_answered}
use Rattle.vx_zones.proofs.tables.ZoneTable.excludes_equal.Goals as goal

pub returns : goal.returns
returns c =
    let d = scalar_datum c.args.value in
    either_answered (λ zone. tells Gt zone.least d) (λ zone. tells Lt zone.greatest d) (zones_in c.args.self.now) c.in_ok-above.above c.in_ok-below.below c.either.result c.either.ensures c.in_ok-above.ensures c.in_ok-below.ensures
