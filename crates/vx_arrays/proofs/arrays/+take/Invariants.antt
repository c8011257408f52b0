use Rattle.std.proofs.Common.{◌≡◌, ◌+◌, ◌*◌, map, take}
use Rattle.vx_types.specs.Sizes.{type_size, members_size}
use Rattle.vx_arrays.specs.ArrayRows.{picked_at}
use Rattle.vx_arrays.specs.Buffers.{buffer_type}
use Rattle.vx_arrays.proofs.arrays.+take.Given as goal

abbrev pub decreases-Array::take : goal.decreases-Array::take
decreases-Array::take l = 4 * type_size l.self.now.dtype + 2

abbrev pub decreases-Buffers::take : goal.decreases-Buffers::take
decreases-Buffers::take l = 4 * type_size (buffer_type l.self.now) + 1

abbrev pub decreases-ChildArrays::take : goal.decreases-ChildArrays::take
decreases-ChildArrays::take l = 4 * members_size l.self.now.members + 4

abbrev pub invariant-ChildArrays::take-loop-array : goal.invariant-ChildArrays::take-loop-array
invariant-ChildArrays::take-loop-array l = l.arrays.items ≡ map (picked_at l.places) (take l.array-index l.items)

abbrev pub decreases-shared::SharedArray::take : goal.decreases-shared::SharedArray::take
decreases-shared::SharedArray::take l = 4 * type_size l.self.now.dtype + 3
