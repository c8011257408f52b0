use Rattle.std.proofs.Common.{take}
use Rattle.std.specs.List.{All}
use Rattle.vx_base.specs.Views.{data_type}
use Rattle.vx_rows.specs.Zones.{StandsOver}
use Rattle.vx_rows.proofs.zones.stand_over.Given as goal

abbrev pub invariant-loop-stat : goal.invariant-loop-stat
invariant-loop-stat l = All (StandsOver (data_type l.dtype)) (take l.stat-index l.stats)
