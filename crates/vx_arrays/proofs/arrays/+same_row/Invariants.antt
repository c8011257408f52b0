use Rattle.std.proofs.Common.{◌≡◌, ◌+◌, ◌*◌, map, take}
use Rattle.vx_types.specs.Sizes.{type_size, members_size}
use Rattle.vx_types.proofs.BuiltRows.{in_row}
use Rattle.vx_arrays.specs.Buffers.{buffer_type}
use Rattle.vx_arrays.proofs.arrays.+same_row.Given as goal

abbrev pub decreases-Array::same_row : goal.decreases-Array::same_row
decreases-Array::same_row l = 4 * type_size l.self.now.dtype + 2

abbrev pub decreases-Buffers::same_row : goal.decreases-Buffers::same_row
decreases-Buffers::same_row l = 4 * type_size (buffer_type l.self.now) + 1

abbrev pub decreases-ChildArrays::same_row : goal.decreases-ChildArrays::same_row
decreases-ChildArrays::same_row l = 4 * members_size l.self.now.members + 4

abbrev pub invariant-ChildArrays::same_row-loop-place : goal.invariant-ChildArrays::same_row-loop-place
invariant-ChildArrays::same_row-loop-place l = map (in_row l.row) (take l.place l.ones) ≡ map (in_row l.second) (take l.place l.others)

abbrev pub decreases-shared::SharedArray::same_row : goal.decreases-shared::SharedArray::same_row
decreases-shared::SharedArray::same_row l = 4 * type_size l.self.now.dtype + 3
