use Rattle.std.proofs.Common.{drop}
use Rattle.std.specs.List.{AllByRecursion}
use Rattle.vx_base.specs.ColumnCalls.{IsCodeBelow}
use Rattle.vx_picking.proofs.picking.first_past.Given as goal

abbrev pub invariant-loop-place : goal.invariant-loop-place
invariant-loop-place l = AllByRecursion (IsCodeBelow l.count) (drop l.place l.codes.values) → AllByRecursion (IsCodeBelow l.count) l.codes.values
