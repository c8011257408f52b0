use Rattle.std.proofs.Common.{◌≡◌, ◌++◌, map}
use Rattle.std.specs.List.{slice_range}
use Rattle.scan_output.specs.RowText.{lines}
use Rattle.scan_output.proofs.column_lines.append_kind.Given as goal
use Rattle.vx_base.specs.Data.{DataType, number}
use Rattle.vx_base.specs.Slots.{where_valid}

abbrev pub invariant-loop-row : goal.invariant-loop-row
invariant-loop-row g l = (t : DataType) → l.out.items ≡ l.fn.out.items ++ lines t (slice_range (where_valid l.valid (map number (map g.T.Kind.number l.numbers))) l.fn.rows.start l.row)
