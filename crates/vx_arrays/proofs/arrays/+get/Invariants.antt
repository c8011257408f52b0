use Rattle.std.proofs.Common.{◌≡◌, ◌+◌, ◌*◌, map, take}
use Rattle.vx_types.specs.Sizes.{type_size, members_size}
use Rattle.vx_types.specs.ValueViews.{datum}
use Rattle.vx_types.proofs.BuiltRows.{in_row}
use Rattle.vx_arrays.specs.Buffers.{buffer_type}
use Rattle.vx_arrays.proofs.arrays.+get.Given as goal

abbrev pub decreases-Array::get : goal.decreases-Array::get
decreases-Array::get l = 4 * type_size l.self.now.dtype + 2

abbrev pub decreases-Buffers::get : goal.decreases-Buffers::get
decreases-Buffers::get l = 4 * type_size (buffer_type l.self.now) + 1

abbrev pub decreases-ChildArrays::get : goal.decreases-ChildArrays::get
decreases-ChildArrays::get l = 4 * members_size l.self.now.members + 4

abbrev pub invariant-ChildArrays::get-loop-array : goal.invariant-ChildArrays::get-loop-array
invariant-ChildArrays::get-loop-array l = map datum l.values.items ≡ map (in_row l.row) (take l.array-index l.items)

abbrev pub decreases-shared::SharedArray::get : goal.decreases-shared::SharedArray::get
decreases-shared::SharedArray::get l = 4 * type_size l.self.now.dtype + 3
