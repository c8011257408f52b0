use Rattle.std.proofs.Common.{◌∙◌, List, Bool, length, arith, ap, subst, sym, pos}
use Rattle.std.specs.Prelude.{IsTrue, slice_range}
use Rattle.vx_masks.specs.Rows.{NullsHold}
use Rattle.vx_types.specs.declared.dtypes.Nullability.TheVariants.{Nullable}
use Rattle.vx_segments.specs.Reading.{numbers_read}
use Rattle.vx_segments.proofs.Decoded.{valid_len}
use Rattle.vx_segments.proofs.number_rows.nullable_rows.Goals as goal

pub hold_zero-requires-clause-count : goal.hold_zero-requires-clause-count
hold_zero-requires-clause-count c = ap length c.in_ok-valid.ensures ∙ valid_len Nullable c.args.rows c.args.validity.now c.requires.validity

pub slice-requires-clause-inside : goal.slice-requires-clause-inside
slice-requires-clause-inside c = omega (arith, c.requires.inside, ap length c.in_ok-valid.ensures ∙ valid_len Nullable c.args.rows c.args.validity.now c.requires.validity)

pub returns-then-not-hold_zero-clause-none : goal.returns-then-not-hold_zero-clause-none
returns-then-not-hold_zero-clause-none c = λ none held.
    let nums = numbers_read c.args.kind c.args.rows c.args.slots.now in
    let yes : IsTrue c.hold_zero.result = c.hold_zero.ensures.1 (subst (λ (bits : List Bool). NullsHold (pos 0) bits nums) (sym c.in_ok-valid.ensures) held) in
    absurd cc

pub returns-clause-valid : goal.returns-clause-valid
returns-clause-valid c = c.in_ok-some.ensures ∙ ap (λ (bits : List Bool). slice_range bits c.args.range.start c.args.range.end) c.in_ok-valid.ensures

pub returns-clause-held : goal.returns-clause-held
returns-clause-held c =
    let nums = numbers_read c.args.kind c.args.rows c.args.slots.now in
    let yes : IsTrue c.hold_zero.result = cc in
    subst (λ (bits : List Bool). NullsHold (pos 0) bits nums) c.in_ok-valid.ensures (c.hold_zero.ensures.0 yes)
