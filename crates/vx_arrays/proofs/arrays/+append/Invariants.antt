use Rattle.std.proofs.Common.{◌+◌, ◌*◌}
use Rattle.std.specs.Vec.Iter.{into_iter_items}
use Rattle.vx_types.specs.Sizes.{type_size, members_size}
use Rattle.vx_arrays.proofs.JoinedArrays.{AreJoining}
use Rattle.vx_arrays.specs.Buffers.{buffer_type}
use Rattle.vx_arrays.proofs.arrays.+append.Given as goal

abbrev pub decreases-Array::append : goal.decreases-Array::append
decreases-Array::append l = 4 * type_size l.self.dtype + 2

abbrev pub decreases-Buffers::append : goal.decreases-Buffers::append
decreases-Buffers::append l = 4 * type_size (buffer_type l.self) + 1

abbrev pub decreases-ChildArrays::append : goal.decreases-ChildArrays::append
decreases-ChildArrays::append l = 4 * members_size l.self.members + 4

abbrev pub invariant-ChildArrays::append-loop-one : goal.invariant-ChildArrays::append-loop-one
invariant-ChildArrays::append-loop-one l = AreJoining l.rows l.fn.self l.fn.other l.arrays.items (into_iter_items l.one-iterator) l.others

abbrev pub decreases-shared::SharedArray::append : goal.decreases-shared::SharedArray::append
decreases-shared::SharedArray::append l = 4 * type_size l.self.dtype + 3
