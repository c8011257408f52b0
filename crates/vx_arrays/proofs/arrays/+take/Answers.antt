use Rattle.std.proofs.Common.{◌∙◌, ap, refl, arith}
use Rattle.vx_arrays.specs.ArrayRows.{picked_at, StructRows}
use Rattle.vx_arrays.proofs.ArrayRanges.{array_taken, array_picked}
use Rattle.vx_arrays.proofs.ArrayRows.{array_of, all_mapped, struct_members, struct_taken, taken_have}
use Rattle.vx_masks.specs.Rows.{taken}
use Rattle.vx_arrays.specs.Buffers.{nulls_for}
use Rattle.vx_arrays.proofs.arrays.+take.Goals as goal

pub Array::take-invariant_of-result : goal.Array::take-invariant_of-result
Array::take-invariant_of-result t c = array_taken c.self.inside.validity c.in_ok-validity.validity c.self.inside.buffers c.in_ok-buffers.buffers c.args.places.now c.self.invariant c.in_ok-buffers.ensures.dtype c.in_ok-buffers.ensures.values c.in_ok-validity.ensures

pub Array::take-returns : goal.Array::take-returns
Array::take-returns t c =
    array_picked c.self.inside.validity c.in_ok-validity.validity c.self.inside.buffers c.in_ok-buffers.buffers c.args.places.now c.self.invariant c.in_ok-buffers.ensures.dtype c.in_ok-buffers.ensures.values c.in_ok-validity.ensures
    ∙ ap (picked_at c.args.places.now) c.self.view_is

pub ChildArrays::take-take-requires : goal.ChildArrays::take-take-requires
ChildArrays::take-take-requires t c =
    let array = array_of c.self.inside.rows c.self.inside.arrays.items c.as_slice-items.result.now c.loop-array.array-index c.array-item.result c.args.self.now c.as_slice-items.ensures.value c.self.view_is c.self.invariant c.loop-array-test.true c.array-item.is in
    (omega (arith, array.smaller), tt)

pub ChildArrays::take-invariant_of-result : goal.ChildArrays::take-invariant_of-result
ChildArrays::take-invariant_of-result t c =
    let made = all_mapped (picked_at c.args.places.now) c.self.inside.arrays.items c.as_slice-items.result.now c.loop-array.arrays.items c.loop-array.array-index c.as_slice-items.ensures.value (omega (arith, c.loop-array-test.false)) c.loop-array.invariant in
    taken_have c.args.places.now c.self.inside.rows c.self.inside.arrays.items c.loop-array.arrays.items made

pub ChildArrays::take-returns-clause-members : goal.ChildArrays::take-returns-clause-members
ChildArrays::take-returns-clause-members t c =
    let made = all_mapped (picked_at c.args.places.now) c.self.inside.arrays.items c.as_slice-items.result.now c.loop-array.arrays.items c.loop-array.array-index c.as_slice-items.ensures.value (omega (arith, c.loop-array-test.false)) c.loop-array.invariant in
    struct_members (picked_at c.args.places.now) c.self.inside.arrays.items c.loop-array.arrays.items made (λ array. refl) ∙ ap (λ (a : StructRows). a.members) c.self.view_is

pub ChildArrays::take-returns-clause-rows : goal.ChildArrays::take-returns-clause-rows
ChildArrays::take-returns-clause-rows t c =
    let made = all_mapped (picked_at c.args.places.now) c.self.inside.arrays.items c.as_slice-items.result.now c.loop-array.arrays.items c.loop-array.array-index c.as_slice-items.ensures.value (omega (arith, c.loop-array-test.false)) c.loop-array.invariant in
    struct_taken c.args.places.now c.self.inside.rows c.self.inside.arrays.items c.loop-array.arrays.items made c.self.invariant
    ∙ ap (λ (a : StructRows). taken (nulls_for a.members) a.rows c.args.places.now) c.self.view_is
