use Rattle.std.proofs.lemmas.Result.{IfOk-weaker}
use Rattle.vx_base.specs.Views.{data_type}
use Rattle.vx_operators.specs.ColumnarValues.{scalar_datum}
use Rattle.vx_zones.specs.Tellings.{told_values}
use Rattle.vx_zones.proofs.ToldRows.{told_by}
use Rattle.vx_zones.proofs.tables.ZoneTable.tells.Goals as goal

pub returns : goal.returns
returns c =
    let own = c.self.inside in
    IfOk-weaker c.tells.result _ _
    (λ mask is. told_by c.args.op (scalar_datum c.args.value) c.args.self.now c.args.stat (data_type own.dtype) own.stats c.items.result.now own.zones.values own.zone_len own.row_count c.place_of-place.result (told_values c.in_ok-told.told) mask
    c.self.view_is c.items.ensures c.place_of-place.ensures c.in_ok-told.ensures is) c.tells.ensures
