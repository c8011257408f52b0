use Rattle.std.proofs.Common.{◌∙◌, ◌*◌, ℕ, length, arith, ap}
use Rattle.std.specs.Prelude.{slice_range}
use Rattle.vx_segments.proofs.KindNumbers.{size_of}
use Rattle.vx_segments.proofs.NumberRows.{fewer_slots, slots_below}
use Rattle.vx_segments.proofs.RangeRows.{range_len}
use Rattle.vx_segments.proofs.number_rows.slots_of.Goals as goal

pub overflow_mul-begin : goal.overflow_mul-begin
overflow_mul-begin c =
    let same = ap (λ (k : ℕ). c.args.from * k) c.width-width.ensures in
    omega (arith, same, slots_below c.args.kind c.args.from c.args.to c.requires.forwards, c.requires.inside)

pub overflow_mul-end : goal.overflow_mul-end
overflow_mul-end c =
    let same = ap (λ (k : ℕ). c.args.to * k) c.width-width.ensures in
    omega (arith, same, c.requires.inside)

pub returns-clause-range : goal.returns-clause-range
returns-clause-range c =
    (λ i. slice_range c.args.slots.now (c.args.from * c.width-width.ensures i) (c.args.to * c.width-width.ensures i))

pub returns-clause-len : goal.returns-clause-len
returns-clause-len c =
    let low = slots_below c.args.kind c.args.from c.args.to c.requires.forwards in
    (λ i. length (slice_range c.args.slots.now (c.args.from * c.width-width.ensures i) (c.args.to * c.width-width.ensures i)))
    ∙ range_len c.args.slots.now (c.args.from * size_of c.args.kind) (c.args.to * size_of c.args.kind) low c.requires.inside ∙ fewer_slots c.args.kind c.args.from c.args.to
