use Rattle.std.proofs.Common.{◌≡◌, ◌+◌, ◌*◌, ◌++◌, [], drop}
use Rattle.vx_types.specs.Sizes.{type_size, members_size}
use Rattle.vx_types.specs.Views.{data_type, members_of}
use Rattle.vx_arrays.specs.Fields.{columns_for}
use Rattle.vx_arrays.proofs.arrays.+with_room.Given as goal

abbrev pub decreases-Array::with_room : goal.decreases-Array::with_room
decreases-Array::with_room l = 2 * type_size (data_type l.dtype.now)

abbrev pub decreases-ChildArrays::with_room : goal.decreases-ChildArrays::with_room
decreases-ChildArrays::with_room l = 2 * members_size l.fields.now + 1

abbrev pub invariant-ChildArrays::with_room-loop-field : goal.invariant-ChildArrays::with_room-loop-field
invariant-ChildArrays::with_room-loop-field l = l.arrays.items ++ columns_for l.field-index (members_of (drop l.field-index l.members)) [] ≡ columns_for 0 (members_of l.members) []
