use Rattle.std.proofs.Common.{◌≡◌, map}
use Rattle.std.specs.List.{range_with_len}
use Rattle.vx_base.specs.ValueViews.{datum}
use Rattle.scan_demo.specs.DemoRows.{name_at}
use Rattle.scan_demo.proofs.stored_columns.names.Given as goal

abbrev pub invariant-loop-code : goal.invariant-loop-code
invariant-loop-code l = map datum l.values.items ≡ map name_at (range_with_len 0 l.code)
