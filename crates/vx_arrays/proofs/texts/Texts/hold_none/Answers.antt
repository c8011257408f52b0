use Rattle.std.proofs.Common.{[], refl}
use Rattle.std.specs.Prelude.{IsTrue}
use Rattle.vx_arrays.proofs.HeldRows.{full_held, held_bit, bit_held, held_row_at, held_row_more}
use Rattle.vx_arrays.proofs.texts.Texts.hold_none.Goals as goal

pub returns-then-leaves_none : goal.returns-then-leaves_none
returns-then-leaves_none c =
    let full : IsTrue c.leaves_none.result = cc in
    (λ t. full_held [] c.args.valid.now c.args.self.now (c.leaves_none.ensures full), λ h. refl)

pub returns-then-not-holds_none : goal.returns-then-not-holds_none
returns-then-not-holds_none c = (
  λ h. absurd cc,
  λ h.
      let yes : IsTrue c.holds_none.result = c.holds_none.ensures.1 (bit_held [] c.args.valid.now c.loop-row.row c.value.result c.text.result.now c.value.ensures (held_row_at [] c.args.valid.now c.args.self.now c.loop-row.row c.text.result.now c.requires c.text.ensures h)) in
      absurd cc,
)

pub loop-row-preserved : goal.loop-row-preserved
loop-row-preserved c =
    let yes : IsTrue c.holds_none.result = cc in
    held_row_more [] c.args.valid.now c.args.self.now c.loop-row.row c.text.result.now c.requires c.text.ensures (held_bit [] c.args.valid.now c.loop-row.row c.value.result c.text.result.now c.value.ensures (c.holds_none.ensures.0 yes)) c.loop-row.invariant
