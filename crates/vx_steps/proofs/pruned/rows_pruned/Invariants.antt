use Rattle.std.proofs.Common.{◌≡◌, ◌+◌, ◌++◌, drop}
use Rattle.vx_steps.specs.Pruned.{rows_pruned}
use Rattle.vx_steps.proofs.pruned.rows_pruned.Given as goal

abbrev pub invariant-loop-row : goal.invariant-loop-row
invariant-loop-row l = l.rows.items ++ rows_pruned l.pruned l.zone_len (l.start + l.row) (drop l.row l.mask) ≡ rows_pruned l.pruned l.zone_len l.start l.mask
