use Rattle.std.proofs.Common.{◌≡◌, ◌∙◌, ap, refl, arith, length}
use Rattle.vx_arrays.specs.ArrayRows.{filtered, StructRows}
use Rattle.vx_arrays.proofs.ArrayRanges.{array_chosen, array_filtered}
use Rattle.vx_arrays.proofs.ArrayRows.{array_of, all_mapped, struct_members, struct_len, struct_filtered, filtered_have}
use Rattle.vx_masks.specs.Masks.{chosen}
use Rattle.vx_arrays.proofs.arrays.+filter.Goals as goal

pub Array::filter-invariant_of-result : goal.Array::filter-invariant_of-result
Array::filter-invariant_of-result t c = array_chosen c.args.mask.now c.self.inside.validity c.in_ok-validity.validity c.self.inside.buffers c.in_ok-buffers.buffers c.self.invariant c.in_ok-buffers.ensures.dtype c.in_ok-buffers.ensures.values c.in_ok-validity.ensures

pub Array::filter-returns : goal.Array::filter-returns
Array::filter-returns t c =
    array_filtered c.args.mask.now c.self.inside.validity c.in_ok-validity.validity c.self.inside.buffers c.in_ok-buffers.buffers c.self.invariant c.in_ok-buffers.ensures.dtype c.in_ok-buffers.ensures.values c.in_ok-validity.ensures
    ∙ ap (filtered c.args.mask.now) c.self.view_is

pub ChildArrays::filter-filter-requires : goal.ChildArrays::filter-filter-requires
ChildArrays::filter-filter-requires t c =
    let array = array_of c.self.inside.rows c.self.inside.arrays.items c.as_slice-items.result.now c.loop-array.array-index c.array-item.result c.args.self.now c.as_slice-items.ensures.value c.self.view_is c.self.invariant c.loop-array-test.true c.array-item.is in
    (omega (arith, array.smaller), omega (arith, c.requires, array.rows))

pub ChildArrays::filter-invariant_of-result : goal.ChildArrays::filter-invariant_of-result
ChildArrays::filter-invariant_of-result t c =
    let made = all_mapped (filtered c.args.mask.now) c.self.inside.arrays.items c.as_slice-items.result.now c.loop-array.arrays.items c.loop-array.array-index c.as_slice-items.ensures.value (omega (arith, c.loop-array-test.false)) c.loop-array.invariant in
    let len : length c.args.mask.now ≡ c.self.inside.rows = omega (arith, c.requires, struct_len c.self.inside.rows c.self.inside.arrays.items c.self.invariant, ap (λ (a : StructRows). length a.rows) c.self.view_is) in
    filtered_have c.args.mask.now c.true_count-rows.result c.self.inside.rows c.self.inside.arrays.items c.loop-array.arrays.items c.true_count-rows.ensures len made c.self.invariant

pub ChildArrays::filter-returns-clause-members : goal.ChildArrays::filter-returns-clause-members
ChildArrays::filter-returns-clause-members t c =
    let made = all_mapped (filtered c.args.mask.now) c.self.inside.arrays.items c.as_slice-items.result.now c.loop-array.arrays.items c.loop-array.array-index c.as_slice-items.ensures.value (omega (arith, c.loop-array-test.false)) c.loop-array.invariant in
    struct_members (filtered c.args.mask.now) c.self.inside.arrays.items c.loop-array.arrays.items made (λ array. refl) ∙ ap (λ (a : StructRows). a.members) c.self.view_is

pub ChildArrays::filter-returns-clause-rows : goal.ChildArrays::filter-returns-clause-rows
ChildArrays::filter-returns-clause-rows t c =
    let made = all_mapped (filtered c.args.mask.now) c.self.inside.arrays.items c.as_slice-items.result.now c.loop-array.arrays.items c.loop-array.array-index c.as_slice-items.ensures.value (omega (arith, c.loop-array-test.false)) c.loop-array.invariant in
    let len : length c.args.mask.now ≡ c.self.inside.rows = omega (arith, c.requires, struct_len c.self.inside.rows c.self.inside.arrays.items c.self.invariant, ap (λ (a : StructRows). length a.rows) c.self.view_is) in
    struct_filtered c.args.mask.now c.true_count-rows.result c.self.inside.rows c.self.inside.arrays.items c.loop-array.arrays.items c.true_count-rows.ensures len made
    ∙ ap (λ (a : StructRows). chosen c.args.mask.now a.rows) c.self.view_is
