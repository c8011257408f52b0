use Rattle.std.proofs.Common.{◌≡◌, take}
use Rattle.vx_columns.specs.RunRows.{cut_ends}
use Rattle.vx_columns.proofs.run_rows.cut_ends.Given as goal

abbrev pub invariant-loop-end : goal.invariant-loop-end
invariant-loop-end l = l.cut.items ≡ cut_ends l.rows.start l.rows.end (take l.end-index l.ends)
