use Rattle.std.proofs.Common.{◌≡◌, ◌++◌, ◌-◌, map}
use Rattle.std.specs.List.{slice_range}
use Rattle.scan_output.specs.RowText.{lines}
use Rattle.scan_output.proofs.RunLines.{RunAt}
use Rattle.scan_output.proofs.run_lines.append_kind_runs.Given as goal
use Rattle.vx_base.specs.Data.{DataType, number}
use Rattle.vx_base.specs.Runs.{spread}
use Rattle.vx_base.specs.Slots.{where_valid}

abbrev pub invariant-loop-row : goal.invariant-loop-row
invariant-loop-row g l = record {
  at : RunAt l.ends l.fn.rows.start l.fn.rows.end l.row l.run;
  written : (t : DataType) → l.out.items ≡ l.fn.out.items ++ lines t (slice_range (spread 0 (where_valid l.valid (map number (map g.T.Kind.number l.numbers))) l.ends) l.fn.rows.start l.row);
}

abbrev pub decreases-loop-row : goal.decreases-loop-row
decreases-loop-row g l = l.fn.rows.end - l.row
