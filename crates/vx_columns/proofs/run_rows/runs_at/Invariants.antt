use Rattle.std.proofs.Common.{take}
use Rattle.vx_columns.specs.RunRows.{AreRunsAt}
use Rattle.vx_columns.proofs.run_rows.runs_at.Given as goal

abbrev pub invariant-loop-row : goal.invariant-loop-row
invariant-loop-row l = AreRunsAt l.ends (take l.row-index l.rows) l.places.items
