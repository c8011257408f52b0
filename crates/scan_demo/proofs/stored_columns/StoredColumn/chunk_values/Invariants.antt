use Rattle.std.proofs.Common.{◌≡◌, ◌-◌, map}
use Rattle.std.specs.List.{range_with_len}
use Rattle.vx_base.specs.ValueViews.{datum}
use Rattle.scan_demo.specs.Flats.{stored_value}
use Rattle.scan_demo.proofs.stored_columns.StoredColumn.chunk_values.Given as goal

abbrev pub invariant-loop-row : goal.invariant-loop-row
invariant-loop-row l = map datum l.values.items ≡ map (stored_value l.self l.number) (range_with_len l.start (l.row - l.start))
