use Rattle.std.proofs.Common.{◌≡◌, ◌++◌, ◌-◌}
use Rattle.std.specs.List.{slice_range}
use Rattle.scan_output.specs.RowText.{lines}
use Rattle.scan_output.proofs.RunLines.{RunAt}
use Rattle.scan_output.proofs.run_lines.append_cell_runs.Given as goal
use Rattle.vx_base.specs.Runs.{spread}
use Rattle.vx_base.specs.Views.{data_type}

abbrev pub invariant-loop-row : goal.invariant-loop-row
invariant-loop-row l = record {
  at : RunAt l.ends l.fn.rows.start l.fn.rows.end l.row l.run;
  written : l.out.items ≡ l.fn.out.items ++ lines (data_type l.dtype) (slice_range (spread 0 l.values.values l.ends) l.fn.rows.start l.row);
}

abbrev pub decreases-loop-row : goal.decreases-loop-row
decreases-loop-row l = l.fn.rows.end - l.row
