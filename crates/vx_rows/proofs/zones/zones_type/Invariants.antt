use Rattle.std.proofs.Common.{◌≡◌, map, take}
use Rattle.vx_base.specs.Views.{data_type, field_data}
use Rattle.vx_rows.specs.Zones.{statistic_field}
use Rattle.vx_rows.proofs.zones.zones_type.Given as goal

abbrev pub invariant-loop-stat : goal.invariant-loop-stat
invariant-loop-stat l = map field_data l.fields.items ≡ map (statistic_field (data_type l.dtype)) (take l.stat-index l.stats)
