use Rattle.std.proofs.Common.{◌≡◌, ◌+◌, ◌-◌, ◌*◌, refl, ap, arith}
use Rattle.vx_base.specs.ColumnCalls.{natural}
use Rattle.vx_operators.specs.ColumnarValues.{scalar_datum}
use Rattle.vx_zones.specs.Tellings.{told_values}
use Rattle.vx_zones.proofs.FullZones.{full_rows}
use Rattle.vx_zones.proofs.told.Told.tells_rows.Goals as goal

pub returns : goal.returns
returns c =
    let zones = c.len-zones.result in
    let last = zones - 1 in
    let left = c.args.row_count - last * c.args.zone_len in
    let last_is : zones ≡ last + 1 = omega (arith, c.if-zones-eq0.false) in
    full_rows c.args.zone_len c.args.row_count (told_values c.args.self.now) zones last left (scalar_datum c.natural_of-rows.result) (natural c.min.result) c.in_ok-whole.whole c.in_ok-before.before c.in_ok-end.end c.in_ok-mask.mask
    c.requires.some_rows c.requires.count c.len-zones.ensures last_is refl c.natural_of-rows.ensures (ap natural c.min.ensures) c.in_ok-whole.ensures c.in_ok-before.ensures c.in_ok-end.ensures c.in_ok-mask.ensures
