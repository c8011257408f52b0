use Rattle.std.proofs.Common.{◌≡◌, map, take}
use Rattle.vx_types.specs.ValueViews.{datum}
use Rattle.vx_columns.proofs.columns.Column.to_values.Given as goal

abbrev pub invariant-loop-row : goal.invariant-loop-row
invariant-loop-row l = map datum l.values.items ≡ take l.row l.self.values
