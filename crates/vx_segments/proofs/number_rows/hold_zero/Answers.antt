use Rattle.std.proofs.Common.{◌≡◌, ◌∙◌, ◌++◌, length, arith, refl, sym, pos}
use Rattle.std.specs.Prelude.{IsTrue}
use Rattle.std.proofs.lemmas.List.{take-append-drop}
use Rattle.vx_arrays.proofs.HeldRows.{full_held}
use Rattle.vx_segments.specs.Reading.{numbers_read}
use Rattle.vx_segments.proofs.KindNumbers.{size_of}
use Rattle.vx_segments.proofs.ZeroSlots.{zeros_none, zeros_room, zeros_step, zeros_end, zeros_done}
use Rattle.vx_segments.proofs.number_rows.hold_zero.Goals as goal

pub returns-then-true_count-rows : goal.returns-then-true_count-rows
returns-then-true_count-rows c = (λ t. full_held (pos 0) c.args.valid.now (numbers_read c.args.kind c.args.rows c.args.slots.now) (omega (arith, c.if-true_count-rows.true, c.true_count.ensures, c.requires.count)), λ h. refl)

pub loop-row-init : goal.loop-row-init
loop-row-init c = zeros_none c.args.kind c.args.rows c.args.valid.now c.args.slots.now c.requires.filled (λ i. omega (arith, c.type_inv.slots i))

pub split_at-requires : goal.split_at-requires
split_at-requires c = omega (arith, c.width-width.ensures, zeros_room c.args.kind c.args.rows c.loop-row.row c.args.valid.now c.args.slots.now c.loop-row.rest.now c.loop-row-test.true c.loop-row.invariant)

pub returns-then-not-holds_zero : goal.returns-then-not-holds_zero
returns-then-not-holds_zero c = (
  λ t. absurd cc,
  λ h.
      let slot = c.split_at.result.0.now in
      let after = c.split_at.result.1.now in
      let joined : c.loop-row.rest.now ≡ slot ++ after = sym ((λ i. c.split_at.ensures.front i ++ c.split_at.ensures.back i) ∙ take-append-drop _ c.loop-row.rest.now) in
      let len : length slot ≡ size_of c.args.kind = omega (arith, c.split_at.ensures.front_len, c.width-width.ensures) in
      let yes : IsTrue c.holds_zero.result = c.holds_zero.ensures.1 (zeros_end c.args.kind c.args.rows c.loop-row.row c.args.valid.now c.value.result c.args.slots.now c.loop-row.rest.now slot after c.loop-row-test.true c.requires.count c.value.ensures joined len c.loop-row.invariant h) in
      absurd cc,
)

pub loop-row-preserved : goal.loop-row-preserved
loop-row-preserved c =
    let slot = c.split_at.result.0.now in
    let after = c.split_at.result.1.now in
    let joined : c.loop-row.rest.now ≡ slot ++ after = sym ((λ i. c.split_at.ensures.front i ++ c.split_at.ensures.back i) ∙ take-append-drop _ c.loop-row.rest.now) in
    let len : length slot ≡ size_of c.args.kind = omega (arith, c.split_at.ensures.front_len, c.width-width.ensures) in
    let yes : IsTrue c.holds_zero.result = cc in
    zeros_step c.args.kind c.args.rows c.loop-row.row c.args.valid.now c.value.result c.args.slots.now c.loop-row.rest.now slot after c.loop-row-test.true c.requires.count c.value.ensures joined len (c.holds_zero.ensures.0 yes) c.loop-row.invariant

pub returns : goal.returns
returns c = (λ t. zeros_done c.args.kind c.args.rows c.loop-row.row c.args.valid.now c.args.slots.now c.loop-row.rest.now (omega (arith, c.loop-row-test.false)) c.requires.count c.loop-row.invariant, λ h. refl)
