use Rattle.std.proofs.Common.{◌∙◌}
use Rattle.vx_zones.proofs.ToldRows.{field_found}
use Rattle.vx_zones.proofs.told.field_array.Goals as goal

pub returns-then-all_true : goal.returns-then-all_true
returns-then-all_true c =
    let b = c.in-Structs in
    field_found c.args.place b.validity.now b.structs.now.rows c.args.zones.now.values c.array.result (b.ensures.values ∙ c.in-Packed.ensures.values) b.ensures.array_view (c.all_true.ensures.0 c.if-all_true.true) c.array.ensures.found
