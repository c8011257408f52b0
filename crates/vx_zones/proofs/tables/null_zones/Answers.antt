use Rattle.std.proofs.Common.{map, ap, ◌∙◌}
use Rattle.vx_base.specs.Data.{Datum}
use Rattle.vx_operators.specs.declared.operators.CompareOp.TheVariants.{Eq}
use Rattle.vx_operators.specs.ColumnarValues.{scalar_datum}
use Rattle.vx_zones.specs.Prunes.{tells}
use Rattle.vx_zones.specs.Tables.{told_at}
use Rattle.vx_zones.specs.Tellings.{told_values}
use Rattle.vx_zones.proofs.ToldRows.{tells_at}
use Rattle.vx_zones.proofs.tables.null_zones.Goals as goal

pub returns-clause-none : goal.returns-clause-none
returns-clause-none c =
    let told = c.args.zones.now.values in
    tells_at Eq (scalar_datum c.natural_of-none.result) c.args.place told (told_values c.in_ok-nulls.nulls) c.in_ok-none_null.none_null c.in_ok-nulls.ensures c.in_ok-none_null.ensures
    ∙ ap (λ (d : Datum). map (λ (v : Datum). tells Eq (told_at c.args.place v) d) told) c.natural_of-none.ensures
