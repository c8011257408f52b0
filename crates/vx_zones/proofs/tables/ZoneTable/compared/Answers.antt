use Rattle.vx_operators.specs.ColumnarValues.{scalar_datum}
use Rattle.vx_zones.specs.Prunes.{excludes, all_null}
use Rattle.vx_zones.specs.Tables.{zones_in}
use Rattle.vx_zones.proofs.AlongZones.{either_answered}
use Rattle.vx_zones.proofs.tables.ZoneTable.compared.Goals as goal

pub returns : goal.returns
returns c =
    either_answered (excludes c.args.op (scalar_datum c.args.value)) all_null (zones_in c.args.self.now) c.in_ok-excluded.excluded c.all_null.result.now c.either.result c.either.ensures c.in_ok-excluded.ensures c.all_null.ensures
