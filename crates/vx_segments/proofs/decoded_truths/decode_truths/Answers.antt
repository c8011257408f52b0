use Rattle.std.proofs.Common.{◌≡◌, ◌∙◌, arith, ap, sym, length, map, refl, false}
use Rattle.std.specs.Prelude.{IsTrue}
use Rattle.vx_masks.specs.Bytes.{packed, SpellNoRows}
use Rattle.vx_masks.specs.Rows.{NullsHold}
use Rattle.vx_types.specs.Data.{bool_type}
use Rattle.vx_types.specs.Slots.{truth_in}
use Rattle.vx_segments.proofs.Decoded.{known, valid_len}
use Rattle.vx_segments.proofs.DecodedNumbers.{mask_taken}
use Rattle.vx_segments.proofs.TruthBits.{both_held, held_both, truths_spell, spelled_false, truths_spelled}
use Rattle.vx_segments.proofs.decoded_truths.decode_truths.Goals as goal

pub returns-in-None-2-clause-refused : goal.returns-in-None-2-clause-refused
returns-in-None-2-clause-refused c = λ e values s.
    let k = known (bool_type c.args.nullability) c.args.nullability c.args.rows c.args.bytes.now c.in-Some.parts.0.now c.in-Some.parts.1.now values tt refl c.in-Some.ensures.joined c.in-Some.ensures.validity s in
    let none : SpellNoRows c.args.rows c.in-Some.parts.1.now = rw c.in-None-2.is at c.in_ok-truths.ensures in
    let t = truths_spelled c.args.nullability c.args.rows c.in-Some.parts.0.now c.in-Some.parts.1.now values k in
    none (map truth_in values) t.0 t.1

pub and-requires : goal.and-requires
and-requires c =
    let read : (length c.in-Some-2.truths ≡ c.args.rows) × (packed c.in-Some-2.truths ≡ c.in-Some.parts.1.now) = rw c.in-Some-2.is at c.in_ok-truths.ensures in
    ap length c.in_ok-valid.ensures ∙ valid_len c.args.nullability c.args.rows c.in-Some.parts.0.now c.in-Some.ensures.validity ∙ sym read.0

pub returns-then-same-clause-valid : goal.returns-then-same-clause-valid
returns-then-same-clause-valid c = ap length c.in_ok-valid.ensures ∙ valid_len c.args.nullability c.args.rows c.in-Some.parts.0.now c.in-Some.ensures.validity

pub returns-then-same-clause-count : goal.returns-then-same-clause-count
returns-then-same-clause-count c =
    let read : (length c.in-Some-2.truths ≡ c.args.rows) × (packed c.in-Some-2.truths ≡ c.in-Some.parts.1.now) = rw c.in-Some-2.is at c.in_ok-truths.ensures in
    read.0

pub returns-then-same-clause-taken : goal.returns-then-same-clause-taken
returns-then-same-clause-taken c = rw c.in_ok-valid.ensures (mask_taken c.args.nullability c.args.rows c.in-Some.parts.0.now)

pub returns-then-same-clause-held : goal.returns-then-same-clause-held
returns-then-same-clause-held c =
    let read : (length c.in-Some-2.truths ≡ c.args.rows) × (packed c.in-Some-2.truths ≡ c.in-Some.parts.1.now) = rw c.in-Some-2.is at c.in_ok-truths.ensures in
    let len : length c.in_ok-valid.valid ≡ length c.in-Some-2.truths = ap length c.in_ok-valid.ensures ∙ valid_len c.args.nullability c.args.rows c.in-Some.parts.0.now c.in-Some.ensures.validity ∙ sym read.0 in
    let yes : IsTrue c.same.result = cc in
    both_held c.in_ok-valid.valid c.in-Some-2.truths len (sym c.in_ok-both.ensures ∙ c.same.ensures.0 yes)

pub returns-then-same-clause-spelled : goal.returns-then-same-clause-spelled
returns-then-same-clause-spelled c =
    let read : (length c.in-Some-2.truths ≡ c.args.rows) × (packed c.in-Some-2.truths ≡ c.in-Some.parts.1.now) = rw c.in-Some-2.is at c.in_ok-truths.ensures in
    let len : length c.in_ok-valid.valid ≡ length c.in-Some-2.truths = ap length c.in_ok-valid.ensures ∙ valid_len c.args.nullability c.args.rows c.in-Some.parts.0.now c.in-Some.ensures.validity ∙ sym read.0 in
    let yes : IsTrue c.same.result = cc in
    let held : NullsHold false c.in_ok-valid.valid c.in-Some-2.truths = both_held c.in_ok-valid.valid c.in-Some-2.truths len (sym c.in_ok-both.ensures ∙ c.same.ensures.0 yes) in
    truths_spell c.args.nullability c.args.rows c.args.bytes.now c.in-Some.parts.0.now c.in-Some.parts.1.now c.in_ok-valid.valid c.in-Some-2.truths c.in-Some.ensures.joined c.in-Some.ensures.validity (λ i. omega (arith, c.type_inv.bytes i)) c.in_ok-valid.ensures read.0 read.1 held

pub returns-else-same-clause-refused : goal.returns-else-same-clause-refused
returns-else-same-clause-refused c = λ e values s.
    let k = known (bool_type c.args.nullability) c.args.nullability c.args.rows c.args.bytes.now c.in-Some.parts.0.now c.in-Some.parts.1.now values tt refl c.in-Some.ensures.joined c.in-Some.ensures.validity s in
    let read : (length c.in-Some-2.truths ≡ c.args.rows) × (packed c.in-Some-2.truths ≡ c.in-Some.parts.1.now) = rw c.in-Some-2.is at c.in_ok-truths.ensures in
    let len : length c.in_ok-valid.valid ≡ length c.in-Some-2.truths = ap length c.in_ok-valid.ensures ∙ valid_len c.args.nullability c.args.rows c.in-Some.parts.0.now c.in-Some.ensures.validity ∙ sym read.0 in
    let held = spelled_false c.args.nullability c.args.rows c.in-Some.parts.0.now c.in-Some.parts.1.now c.in_ok-valid.valid c.in-Some-2.truths values k c.in_ok-valid.ensures read.0 read.1 in
    let yes : IsTrue c.same.result = c.same.ensures.1 (c.in_ok-both.ensures ∙ held_both c.in_ok-valid.valid c.in-Some-2.truths len held) in
    absurd cc
