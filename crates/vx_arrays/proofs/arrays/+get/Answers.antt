use Rattle.std.proofs.Common.{◌∙◌, ap, sym, arith, length}
use Rattle.std.specs.Prelude.{slice_get, Some}
use Rattle.vx_types.specs.Data.{Items}
use Rattle.vx_arrays.specs.ArrayRows.{StructRows}
use Rattle.vx_types.specs.ValueViews.{datum}
use Rattle.vx_arrays.proofs.ArrayRanges.{cell_valid, cell_null}
use Rattle.vx_arrays.proofs.ArrayRows.{array_of, struct_len, struct_row, row_more, all_in_row}
use Rattle.vx_arrays.proofs.arrays.+get.Goals as goal

pub Array::get-returns-in_ok-value : goal.Array::get-returns-in_ok-value
Array::get-returns-in_ok-value t c = cell_valid c.self.inside.validity c.self.inside.buffers c.args.row (datum c.in_ok-value.value) c.args.self.now c.self.view_is (rw c.if-value.true at c.value.ensures) c.in_ok-value.ensures

pub Array::get-returns-else-value : goal.Array::get-returns-else-value
Array::get-returns-else-value t c = cell_null c.self.inside.validity c.self.inside.buffers c.args.row c.args.self.now c.self.view_is c.self.invariant (rw c.if-value.false at c.value.ensures)

pub ChildArrays::get-get-requires : goal.ChildArrays::get-get-requires
ChildArrays::get-get-requires t c =
    let array = array_of c.self.inside.rows c.self.inside.arrays.items c.as_slice-items.result.now c.loop-array.array-index c.array-item.result c.args.self.now c.as_slice-items.ensures.value c.self.view_is c.self.invariant c.loop-array-test.true c.array-item.is in
    (omega (arith, array.smaller), omega (arith, c.requires, array.rows))

pub ChildArrays::get-loop-array-preserved : goal.ChildArrays::get-loop-array-preserved
ChildArrays::get-loop-array-preserved t c = row_more c.args.row c.as_slice-items.result.now c.loop-array.values.items c.push.new.self.items c.loop-array.array-index c.array-item.result c.in_ok-value.value c.loop-array-test.true c.array-item.is c.in_ok-value.ensures c.in_ok-push.ensures.items c.loop-array.invariant

pub ChildArrays::get-returns : goal.ChildArrays::get-returns
ChildArrays::get-returns t c =
    let all = all_in_row c.args.row c.self.inside.arrays.items c.as_slice-items.result.now c.loop-array.values.items c.loop-array.array-index c.as_slice-items.ensures.value (omega (arith, c.loop-array-test.false)) c.loop-array.invariant in
    ap (λ (a : StructRows). slice_get a.rows c.args.row) (sym c.self.view_is)
    ∙ struct_row c.self.inside.rows c.args.row c.self.inside.arrays.items c.loop-array.values.items (omega (arith, c.requires, struct_len c.self.inside.rows c.self.inside.arrays.items c.self.invariant, ap (λ (a : StructRows). length a.rows) c.self.view_is)) c.self.invariant all
    ∙ ap (λ (vs : Items). Some vs) (sym c.from_vec.ensures)
