use Rattle.std.proofs.Common.{◌≡◌, ◌+◌, ◌*◌, map, take}
use Rattle.vx_types.specs.Sizes.{type_size, members_size}
use Rattle.vx_arrays.specs.ArrayRows.{filtered}
use Rattle.vx_arrays.specs.Buffers.{buffer_type}
use Rattle.vx_arrays.proofs.arrays.+filter.Given as goal

abbrev pub decreases-Array::filter : goal.decreases-Array::filter
decreases-Array::filter l = 4 * type_size l.self.now.dtype + 2

abbrev pub decreases-Buffers::filter : goal.decreases-Buffers::filter
decreases-Buffers::filter l = 4 * type_size (buffer_type l.self.now) + 1

abbrev pub decreases-ChildArrays::filter : goal.decreases-ChildArrays::filter
decreases-ChildArrays::filter l = 4 * members_size l.self.now.members + 4

abbrev pub invariant-ChildArrays::filter-loop-array : goal.invariant-ChildArrays::filter-loop-array
invariant-ChildArrays::filter-loop-array l = l.arrays.items ≡ map (filtered l.mask) (take l.array-index l.items)

abbrev pub decreases-shared::SharedArray::filter : goal.decreases-shared::SharedArray::filter
decreases-shared::SharedArray::filter l = 4 * type_size l.self.now.dtype + 3
