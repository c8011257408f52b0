use Rattle.std.proofs.Common.{map, take}
use Rattle.std.specs.List.{AllByRecursion}
use Rattle.vx_types.specs.Fits.{Fits}
use Rattle.vx_types.specs.Views.{data_type}
use Rattle.vx_types.specs.ValueViews.{datum}
use Rattle.vx_columns.proofs.columns.first_unfit.Given as goal

abbrev pub invariant-loop-row : goal.invariant-loop-row
invariant-loop-row l = AllByRecursion (Fits (data_type l.dtype)) (map datum (take l.row l.values))
