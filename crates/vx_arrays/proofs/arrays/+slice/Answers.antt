use Rattle.std.proofs.Common.{◌≤◌, ◌∙◌, ap, refl, arith, length}
use Rattle.vx_arrays.specs.ArrayRows.{sliced, StructRows}
use Rattle.vx_arrays.proofs.ArrayRanges.{array_ranged, array_sliced}
use Rattle.vx_arrays.proofs.ArrayRows.{array_of, all_mapped, struct_members, struct_len, struct_sliced, sliced_have}
use Rattle.std.specs.List.{slice_range}
use Rattle.vx_arrays.proofs.arrays.+slice.Goals as goal

pub Array::slice-invariant_of-result : goal.Array::slice-invariant_of-result
Array::slice-invariant_of-result t c = array_ranged c.self.inside.validity c.in_ok-validity.validity c.self.inside.buffers c.in_ok-buffers.buffers c.args.rows.start c.args.rows.end c.self.invariant c.in_ok-buffers.ensures.dtype c.in_ok-buffers.ensures.values c.in_ok-validity.ensures

pub Array::slice-returns : goal.Array::slice-returns
Array::slice-returns t c =
    array_sliced c.self.inside.validity c.in_ok-validity.validity c.self.inside.buffers c.in_ok-buffers.buffers c.args.rows.start c.args.rows.end c.in_ok-buffers.ensures.dtype c.in_ok-buffers.ensures.values c.in_ok-validity.ensures
    ∙ ap (sliced c.args.rows.start c.args.rows.end) c.self.view_is

pub ChildArrays::slice-slice-requires : goal.ChildArrays::slice-slice-requires
ChildArrays::slice-slice-requires t c =
    let array = array_of c.self.inside.rows c.self.inside.arrays.items c.as_slice-items.result.now c.loop-array.array-index c.array-item.result c.args.self.now c.as_slice-items.ensures.value c.self.view_is c.self.invariant c.loop-array-test.true c.array-item.is in
    (omega (arith, array.smaller), (c.requires.forwards, omega (arith, c.requires.inside, array.rows)))

pub ChildArrays::slice-invariant_of-result : goal.ChildArrays::slice-invariant_of-result
ChildArrays::slice-invariant_of-result t c =
    let made = all_mapped (sliced c.args.rows.start c.args.rows.end) c.self.inside.arrays.items c.as_slice-items.result.now c.loop-array.arrays.items c.loop-array.array-index c.as_slice-items.ensures.value (omega (arith, c.loop-array-test.false)) c.loop-array.invariant in
    let inside : c.args.rows.end ≤ c.self.inside.rows = omega (arith, c.requires.inside, struct_len c.self.inside.rows c.self.inside.arrays.items c.self.invariant, ap (λ (a : StructRows). length a.rows) c.self.view_is) in
    sliced_have c.args.rows.start c.args.rows.end c.self.inside.rows c.self.inside.arrays.items c.loop-array.arrays.items c.requires.forwards inside made c.self.invariant

pub ChildArrays::slice-returns-clause-members : goal.ChildArrays::slice-returns-clause-members
ChildArrays::slice-returns-clause-members t c =
    let made = all_mapped (sliced c.args.rows.start c.args.rows.end) c.self.inside.arrays.items c.as_slice-items.result.now c.loop-array.arrays.items c.loop-array.array-index c.as_slice-items.ensures.value (omega (arith, c.loop-array-test.false)) c.loop-array.invariant in
    struct_members (sliced c.args.rows.start c.args.rows.end) c.self.inside.arrays.items c.loop-array.arrays.items made (λ array. refl) ∙ ap (λ (a : StructRows). a.members) c.self.view_is

pub ChildArrays::slice-returns-clause-rows : goal.ChildArrays::slice-returns-clause-rows
ChildArrays::slice-returns-clause-rows t c =
    let made = all_mapped (sliced c.args.rows.start c.args.rows.end) c.self.inside.arrays.items c.as_slice-items.result.now c.loop-array.arrays.items c.loop-array.array-index c.as_slice-items.ensures.value (omega (arith, c.loop-array-test.false)) c.loop-array.invariant in
    let inside : c.args.rows.end ≤ c.self.inside.rows = omega (arith, c.requires.inside, struct_len c.self.inside.rows c.self.inside.arrays.items c.self.invariant, ap (λ (a : StructRows). length a.rows) c.self.view_is) in
    struct_sliced c.args.rows.start c.args.rows.end c.self.inside.rows c.self.inside.arrays.items c.loop-array.arrays.items c.requires.forwards inside made
    ∙ ap (λ (a : StructRows). slice_range a.rows c.args.rows.start c.args.rows.end) c.self.view_is
