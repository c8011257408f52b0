use Rattle.std.proofs.Common.{◌∙◌, arith, ap, sym, subst, length, refl, pos}
use Rattle.std.specs.Prelude.{IsTrue}
use Rattle.std.specs.List.{AllByRecursion}
use Rattle.vx_masks.specs.Rows.{NullsHold}
use Rattle.vx_types.specs.declared.dtypes.IntKind.{IntKind}
use Rattle.vx_types.specs.Fits.{IsInside}
use Rattle.vx_types.specs.Data.{int_type}
use Rattle.vx_arrays.specs.Numbers.{numbers_in}
use Rattle.vx_segments.proofs.Decoded.{known, numbers_fill, valid_len}
use Rattle.vx_segments.proofs.DecodedNumbers.{mask_taken, numbers_spell, spelled_zero}
use Rattle.vx_segments.proofs.decoded_numbers.decode_numbers.Goals as goal

pub returns-then-not-is_filled-clause-refused : goal.returns-then-not-is_filled-clause-refused
returns-then-not-is_filled-clause-refused c = λ e values s.
    let k = known (int_type c.args.kind c.args.nullability) c.args.nullability c.args.rows c.args.bytes.now c.in-Some.parts.0.now c.in-Some.parts.1.now values tt refl c.in-Some.ensures.joined c.in-Some.ensures.validity s in
    let yes = c.is_filled.ensures.1 (numbers_fill c.args.kind c.args.nullability c.args.rows c.in-Some.parts.0.now c.in-Some.parts.1.now values k) in
    absurd cc

pub hold_zero-requires : goal.hold_zero-requires
hold_zero-requires c = ap length c.in_ok-valid.ensures ∙ valid_len c.args.nullability c.args.rows c.in-Some.parts.0.now c.in-Some.ensures.validity ∙ sym c.in_ok-numbers.ensures.count

pub returns-then-hold_zero-clause-valid : goal.returns-then-hold_zero-clause-valid
returns-then-hold_zero-clause-valid c = ap length c.in_ok-valid.ensures ∙ valid_len c.args.nullability c.args.rows c.in-Some.parts.0.now c.in-Some.ensures.validity

pub returns-then-hold_zero-clause-taken : goal.returns-then-hold_zero-clause-taken
returns-then-hold_zero-clause-taken c = rw c.in_ok-valid.ensures (mask_taken c.args.nullability c.args.rows c.in-Some.parts.0.now)

pub returns-then-hold_zero-clause-spelled : goal.returns-then-hold_zero-clause-spelled
returns-then-hold_zero-clause-spelled c =
    let zs = numbers_in c.in_ok-numbers.numbers in
    let yes : IsTrue c.hold_zero.result = cc in
    let held : NullsHold (pos 0) c.in_ok-valid.valid zs = c.hold_zero.ensures.0 yes in
    let inside : AllByRecursion (IsInside c.args.kind) zs = subst (λ (k : IntKind). AllByRecursion (IsInside k) zs) c.in_ok-numbers.ensures.kind c.len-len.ensures.inside in
    numbers_spell c.args.kind c.args.nullability c.args.rows c.args.bytes.now c.in-Some.parts.0.now c.in-Some.parts.1.now c.in_ok-valid.valid zs c.in-Some.ensures.joined c.in-Some.ensures.validity (λ i. omega (arith, c.type_inv.bytes i)) c.in_ok-valid.ensures c.in_ok-numbers.ensures.count inside c.in_ok-numbers.ensures.spelled held

pub returns-else-hold_zero-clause-refused : goal.returns-else-hold_zero-clause-refused
returns-else-hold_zero-clause-refused c = λ e values s.
    let zs = numbers_in c.in_ok-numbers.numbers in
    let k = known (int_type c.args.kind c.args.nullability) c.args.nullability c.args.rows c.args.bytes.now c.in-Some.parts.0.now c.in-Some.parts.1.now values tt refl c.in-Some.ensures.joined c.in-Some.ensures.validity s in
    let inside : AllByRecursion (IsInside c.args.kind) zs = subst (λ (k : IntKind). AllByRecursion (IsInside k) zs) c.in_ok-numbers.ensures.kind c.len-len.ensures.inside in
    let held = spelled_zero c.args.kind c.args.nullability c.args.rows c.in-Some.parts.0.now c.in-Some.parts.1.now c.in_ok-valid.valid zs values k c.in_ok-valid.ensures c.in_ok-numbers.ensures.count inside c.in_ok-numbers.ensures.spelled in
    let yes : IsTrue c.hold_zero.result = c.hold_zero.ensures.1 held in
    absurd cc
