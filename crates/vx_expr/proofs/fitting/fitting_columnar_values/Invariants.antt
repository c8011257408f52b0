use Rattle.std.proofs.Common.{◌≡◌, ◌++◌, map, drop}
use Rattle.std.specs.Vec.Iter.{into_iter_items}
use Rattle.vx_base.specs.Views.{members_of}
use Rattle.vx_operators.specs.ColumnarValues.{columnar_rows}
use Rattle.vx_expr.specs.Packs.{typed_columns, FitEach}
use Rattle.vx_expr.proofs.fitting.fitting_columnar_values.Given as goal

abbrev pub invariant-loop-field : goal.invariant-loop-field
invariant-loop-field l = record {
  fit : FitEach l.rows (members_of (drop l.field-index l.members)) (map columnar_rows (into_iter_items l.rest));
  made : l.parts.items ++ typed_columns l.rows (members_of (drop l.field-index l.members)) (map columnar_rows (into_iter_items l.rest)) ≡ typed_columns l.rows (members_of l.members) (map columnar_rows l.fn.columnar_values.items);
}
