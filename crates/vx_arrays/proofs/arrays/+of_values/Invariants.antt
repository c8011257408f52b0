use Rattle.std.proofs.Common.{◌≡◌, ◌+◌, ◌*◌, ◌++◌, map, drop}
use Rattle.vx_types.specs.Sizes.{type_size, members_size}
use Rattle.vx_types.specs.ValueViews.{datum}
use Rattle.vx_types.specs.Views.{data_type, members_of}
use Rattle.vx_arrays.specs.Fields.{columns_for}
use Rattle.vx_arrays.proofs.arrays.+of_values.Given as goal

abbrev pub decreases-Array::of_values : goal.decreases-Array::of_values
decreases-Array::of_values l = 2 * type_size (data_type l.dtype.now)

abbrev pub decreases-ChildArrays::of_values : goal.decreases-ChildArrays::of_values
decreases-ChildArrays::of_values l = 2 * members_size l.fields.now + 1

abbrev pub invariant-ChildArrays::of_values-loop-place : goal.invariant-ChildArrays::of_values-loop-place
invariant-ChildArrays::of_values-loop-place l = l.arrays.items ++ columns_for l.place (members_of (drop l.place l.members)) (map datum l.values) ≡ columns_for 0 (members_of l.members) (map datum l.values)
