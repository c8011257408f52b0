use Rattle.std.proofs.Common.{◌≡◌, ◌++◌}
use Rattle.std.specs.List.{AllByRecursion, flat_map}
use Rattle.std.specs.Vec.Iter.{into_iter_items}
use Rattle.vx_types.specs.Views.{data_type}
use Rattle.vx_arrays.specs.PackedColumns.{IsColumn}
use Rattle.vx_columns.proofs.built_columns.joined_rows.Given as goal

abbrev pub invariant-loop-part : goal.invariant-loop-part
invariant-loop-part l = record {
  column : IsColumn (data_type l.dtype) l.joined;
  same_dtype : AllByRecursion (λ part. part.dtype ≡ data_type l.dtype) (into_iter_items l.part-iterator);
  joined : l.joined.values ++ flat_map (λ part. part.values) (into_iter_items l.part-iterator) ≡ flat_map (λ part. part.values) l.fn.parts.items;
}
