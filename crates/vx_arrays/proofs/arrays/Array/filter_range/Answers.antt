use Rattle.std.proofs.Common.{◌≡◌, ◌∙◌, ap, sym, arith, length, Bool, List}
use Rattle.vx_masks.specs.Masks.{chosen}
use Rattle.vx_types.specs.Columns.{ColumnData}
use Rattle.vx_arrays.specs.ArrayRows.{filtered, sliced}
use Rattle.vx_arrays.proofs.ArrayRows.{length-range}
use Rattle.vx_arrays.proofs.ArrayRanges.{array_len, array_range_chosen, array_range_filtered}
use Rattle.vx_arrays.proofs.arrays.Array.filter_range.Goals as goal

pub filter-requires : goal.filter-requires
filter-requires c =
    let rows : length c.self.inside.validity ≡ length c.args.self.now.values = sym (array_len c.self.inside.validity c.self.inside.buffers c.self.invariant) ∙ ap (λ (a : ColumnData). length a.values) c.self.view_is in
    omega (arith, c.requires.masked, ap (λ (bits : List Bool). length bits) c.in_ok-range.ensures, length-range c.self.inside.validity c.args.rows.start c.args.rows.end c.requires.forwards (omega (arith, rows, c.requires.inside)))

pub invariant_of-result : goal.invariant_of-result
invariant_of-result c =
    array_range_chosen c.args.mask.now c.self.inside.validity c.in_ok-validity.validity c.self.inside.buffers c.in_ok-buffers.buffers c.args.rows.start c.args.rows.end c.self.invariant c.in_ok-buffers.ensures.dtype c.in_ok-buffers.ensures.values
    (c.in_ok-validity.ensures ∙ ap (chosen c.args.mask.now) c.in_ok-range.ensures)

pub returns : goal.returns
returns c =
    array_range_filtered c.args.mask.now c.self.inside.validity c.in_ok-validity.validity c.self.inside.buffers c.in_ok-buffers.buffers c.args.rows.start c.args.rows.end c.self.invariant c.in_ok-buffers.ensures.dtype c.in_ok-buffers.ensures.values
    (c.in_ok-validity.ensures ∙ ap (chosen c.args.mask.now) c.in_ok-range.ensures)
    ∙ ap (λ (a : ColumnData). filtered c.args.mask.now (sliced c.args.rows.start c.args.rows.end a)) c.self.view_is
