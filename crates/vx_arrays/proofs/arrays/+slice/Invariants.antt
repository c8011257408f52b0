use Rattle.std.proofs.Common.{◌≡◌, ◌+◌, ◌*◌, map, take}
use Rattle.vx_types.specs.Sizes.{type_size, members_size}
use Rattle.vx_arrays.specs.ArrayRows.{sliced}
use Rattle.vx_arrays.specs.Buffers.{buffer_type}
use Rattle.vx_arrays.proofs.arrays.+slice.Given as goal

abbrev pub decreases-Array::slice : goal.decreases-Array::slice
decreases-Array::slice l = 4 * type_size l.self.now.dtype + 2

abbrev pub decreases-Buffers::slice : goal.decreases-Buffers::slice
decreases-Buffers::slice l = 4 * type_size (buffer_type l.self.now) + 1

abbrev pub decreases-ChildArrays::slice : goal.decreases-ChildArrays::slice
decreases-ChildArrays::slice l = 4 * members_size l.self.now.members + 4

abbrev pub invariant-ChildArrays::slice-loop-array : goal.invariant-ChildArrays::slice-loop-array
invariant-ChildArrays::slice-loop-array l = l.arrays.items ≡ map (sliced l.rows.start l.rows.end) (take l.array-index l.items)

abbrev pub decreases-shared::SharedArray::slice : goal.decreases-shared::SharedArray::slice
decreases-shared::SharedArray::slice l = 4 * type_size l.self.now.dtype + 3
