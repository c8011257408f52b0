use Rattle.std.proofs.Common.{◌≡◌, ◌++◌}
use Rattle.std.specs.List.{slice_range}
use Rattle.scan_output.specs.RowText.{lines}
use Rattle.scan_output.proofs.column_lines.append_cells.Given as goal

abbrev pub invariant-loop-row : goal.invariant-loop-row
invariant-loop-row l = l.out.items ≡ l.fn.out.items ++ lines l.column.dtype (slice_range l.column.values l.fn.rows.start l.row)
