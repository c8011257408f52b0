use Rattle.std.proofs.Common.{◌≡◌, ◌++◌, map}
use Rattle.std.specs.List.{AllByRecursion}
use Rattle.std.specs.Vec.Iter.{into_iter_items}
use Rattle.vx_types.specs.ColumnCalls.{IsFitting}
use Rattle.vx_arrays.specs.PackedColumns.{bare_column}
use Rattle.vx_columns.proofs.built_columns.all_shared_rows.Given as goal

abbrev pub invariant-loop-part : goal.invariant-loop-part
invariant-loop-part l = record {
  moved : l.rows.items ++ map bare_column (into_iter_items l.part-iterator) ≡ map bare_column l.fn.parts.items;
  fit : AllByRecursion IsFitting (into_iter_items l.part-iterator) → AllByRecursion IsFitting l.fn.parts.items;
}
