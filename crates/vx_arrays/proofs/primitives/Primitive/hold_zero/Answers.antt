use Rattle.std.proofs.Common.{◌≡◌, ◌∙◌, ap, refl, length, pos, subst, sym, ℤ, List}
use Rattle.std.specs.Prelude.{IsTrue}
use Rattle.std.proofs.lemmas.List.{length-map}
use Rattle.vx_masks.specs.Rows.{NullsHold}
use Rattle.vx_arrays.proofs.HeldRows.{held_at, held_more, held_bit, bit_held, full_held}
use Rattle.vx_arrays.proofs.primitives.Primitive.hold_zero.Goals as goal

pub returns-then-leaves_none : goal.returns-then-leaves_none
returns-then-leaves_none g c =
    let full : IsTrue c.leaves_none.result = cc in
    (λ t. full_held (pos 0) c.args.valid.now c.args.self.now (c.leaves_none.ensures full), λ h. refl)

pub returns-then-not-holds_zero : goal.returns-then-not-holds_zero
returns-then-not-holds_zero g c = (
  λ h. absurd cc,
  λ h.
      let held = subst (λ (zs : List ℤ). NullsHold (pos 0) c.args.valid.now zs) (sym c.as_slice-numbers.ensures) h in
      let len : length c.args.valid.now ≡ length c.as_slice-numbers.result.now = c.requires ∙ ap length (sym c.as_slice-numbers.ensures) ∙ length-map c.as_slice-numbers.result.now g.T.Kind.number in
      let yes : IsTrue c.holds_zero.result = c.holds_zero.ensures.1 (bit_held (pos 0) c.args.valid.now c.loop-row.row c.value.result (g.T.Kind.number c.index-numbers-row.result) c.value.ensures (held_at g.T.Kind.number (pos 0) c.args.valid.now c.as_slice-numbers.result.now c.loop-row.row c.index-numbers-row.result len c.loop-row-test.true c.index-numbers-row.is held)) in
      absurd cc,
)

pub loop-row-preserved : goal.loop-row-preserved
loop-row-preserved g c =
    let len : length c.args.valid.now ≡ length c.as_slice-numbers.result.now = c.requires ∙ ap length (sym c.as_slice-numbers.ensures) ∙ length-map c.as_slice-numbers.result.now g.T.Kind.number in
    held_more g.T.Kind.number (pos 0) c.args.valid.now c.as_slice-numbers.result.now c.loop-row.row c.index-numbers-row.result len c.loop-row-test.true c.index-numbers-row.is (held_bit (pos 0) c.args.valid.now c.loop-row.row c.value.result (g.T.Kind.number c.index-numbers-row.result) c.value.ensures (c.holds_zero.ensures.0 cc)) c.loop-row.invariant
