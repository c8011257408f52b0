use Rattle.vx_operators.specs.declared.operators.CompareOp.TheVariants.{Eq}
use Rattle.vx_operators.specs.ColumnarValues.{scalar_datum}
use Rattle.vx_zones.specs.Prunes.{tells}
use Rattle.vx_zones.specs.Tables.{zones_in}
use Rattle.vx_zones.proofs.AlongZones.{both_answered}
use Rattle.vx_zones.proofs.tables.ZoneTable.excludes_other.Goals as goal

pub returns : goal.returns
returns c =
    let d = scalar_datum c.args.value in
    both_answered (λ zone. tells Eq zone.least d) (λ zone. tells Eq zone.greatest d) (zones_in c.args.self.now) c.in_ok-least.least c.in_ok-greatest.greatest c.and.result c.and.ensures c.in_ok-least.ensures c.in_ok-greatest.ensures
