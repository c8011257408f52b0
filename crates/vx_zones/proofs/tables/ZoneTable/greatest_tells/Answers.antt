use Rattle.std.proofs.Common.{◌∙◌}
use Rattle.std.proofs.lemmas.Result.{IfOk-weaker}
use Rattle.vx_base.specs.Data.{Datum}
use Rattle.vx_operators.specs.ColumnarValues.{scalar_datum}
use Rattle.vx_zones.specs.Prunes.{tells}
use Rattle.vx_zones.proofs.AlongZones.{along_greatest}
use Rattle.vx_zones.proofs.tables.ZoneTable.greatest_tells.Goals as goal

pub returns : goal.returns
returns c =
    let t = c.args.self.now in
    IfOk-weaker c.tells.result _ _ (λ mask is. is ∙ along_greatest (λ (d : Datum). tells c.args.op d (scalar_datum c.args.value)) t.stats t.zone_len t.row_count t.told) c.tells.ensures
