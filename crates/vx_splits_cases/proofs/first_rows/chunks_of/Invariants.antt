use Rattle.std.specs.List.{AllByRecursion}
use Rattle.vx_splits.specs.FirstRows.{IsTight}
use Rattle.vx_splits_cases.proofs.first_rows.chunks_of.Given as goal

abbrev pub invariant-loop-rows : goal.invariant-loop-rows
invariant-loop-rows l = AllByRecursion IsTight l.chunks.items
