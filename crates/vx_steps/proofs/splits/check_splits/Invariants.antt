use Rattle.std.proofs.Common.{drop}
use Rattle.std.specs.List.{AllByRecursion}
use Rattle.vx_steps.specs.Splits.{IsInside}
use Rattle.vx_steps.proofs.splits.check_splits.Given as goal

abbrev pub invariant-loop-split : goal.invariant-loop-split
invariant-loop-split l = record {
  before : AllByRecursion (IsInside l.rows) (drop l.split-index l.splits) → AllByRecursion (IsInside l.rows) l.splits;
  rest : AllByRecursion (IsInside l.rows) l.splits → AllByRecursion (IsInside l.rows) (drop l.split-index l.splits);
}
