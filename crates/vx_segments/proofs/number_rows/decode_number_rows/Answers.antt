use Rattle.std.proofs.Common.{arith, subst, refl}
use Rattle.std.specs.Prelude.{IsTrue}
use Rattle.std.specs.List.{AllByRecursion}
use Rattle.vx_types.specs.declared.dtypes.IntKind.{IntKind}
use Rattle.vx_types.specs.Data.{int_type}
use Rattle.vx_types.specs.Fits.{IsInside}
use Rattle.vx_arrays.specs.Numbers.{numbers_in}
use Rattle.vx_segments.proofs.Decoded.{AreBytes, back_bytes, known, numbers_fill}
use Rattle.vx_segments.proofs.NumberRows.{known_zero, number_rows_spell, rows_hold_zero, rows_len, rows_taken, slots_below}
use Rattle.vx_segments.proofs.number_rows.decode_number_rows.Goals as goal

pub returns-then-not-is_filled-clause-refused : goal.returns-then-not-is_filled-clause-refused
returns-then-not-is_filled-clause-refused c = λ e values s.
    let k = known (int_type c.args.kind c.args.nullability) c.args.nullability c.args.rows c.args.bytes.now c.in-Some.parts.0.now c.in-Some.parts.1.now values tt refl c.in-Some.ensures.joined c.in-Some.ensures.validity s in
    let yes = c.is_filled.ensures.1 (numbers_fill c.args.kind c.args.nullability c.args.rows c.in-Some.parts.0.now c.in-Some.parts.1.now values k) in
    absurd cc

pub valid_rows-requires-clause-filled : goal.valid_rows-requires-clause-filled
valid_rows-requires-clause-filled c = let yes : IsTrue c.is_filled.result = cc in c.is_filled.ensures.0 yes

pub returns-in-None-2-clause-refused : goal.returns-in-None-2-clause-refused
returns-in-None-2-clause-refused c = λ e values s.
    let slots = c.in-Some.parts.1.now in
    let yes : IsTrue c.is_filled.result = cc in
    let small : AreBytes slots = back_bytes c.args.bytes.now c.in-Some.parts.0.now slots c.in-Some.ensures.joined (λ i. omega (arith, c.type_inv.bytes i)) in
    let k = known (int_type c.args.kind c.args.nullability) c.args.nullability c.args.rows c.args.bytes.now c.in-Some.parts.0.now slots values tt refl c.in-Some.ensures.joined c.in-Some.ensures.validity s in
    (rw c.in-None-2.is at c.in_ok-valid.ensures.none) refl (known_zero c.args.kind c.args.nullability c.args.rows c.in-Some.parts.0.now slots values k (c.is_filled.ensures.0 yes) small)

pub slots_of-part-requires-clause-inside : goal.slots_of-part-requires-clause-inside
slots_of-part-requires-clause-inside c =
    let yes : IsTrue c.is_filled.result = cc in
    omega (arith, slots_below c.args.kind c.args.range.end c.args.rows c.requires.inside, c.is_filled.ensures.0 yes)

pub returns-clause-valid : goal.returns-clause-valid
returns-clause-valid c = rows_len c.args.nullability c.args.rows c.args.range.start c.args.range.end c.in-Some.parts.0.now c.in-Some-2.valid c.in-Some.ensures.validity c.requires.forwards c.requires.inside (rw c.in-Some-2.is at c.in_ok-valid.ensures.valid)

pub returns-clause-taken : goal.returns-clause-taken
returns-clause-taken c = rows_taken c.args.nullability c.args.rows c.args.range.start c.args.range.end c.in-Some.parts.0.now c.in-Some-2.valid (rw c.in-Some-2.is at c.in_ok-valid.ensures.valid)

pub returns-clause-held : goal.returns-clause-held
returns-clause-held c =
    let zs = numbers_in c.in_ok-numbers.numbers in
    let slots = c.in-Some.parts.1.now in
    let yes : IsTrue c.is_filled.result = cc in
    let small : AreBytes slots = back_bytes c.args.bytes.now c.in-Some.parts.0.now slots c.in-Some.ensures.joined (λ i. omega (arith, c.type_inv.bytes i)) in
    let inside : AllByRecursion (IsInside c.args.kind) zs = subst (λ (k : IntKind). AllByRecursion (IsInside k) zs) c.in_ok-numbers.ensures.kind c.len-inside.ensures.inside in
    rows_hold_zero c.args.kind c.args.nullability c.args.rows c.args.range.start c.args.range.end c.in-Some.parts.0.now slots c.slots_of-part.result.now c.in-Some-2.valid zs small (c.is_filled.ensures.0 yes) c.requires.forwards c.requires.inside
    (rw c.in-Some-2.is at c.in_ok-valid.ensures.valid) (rw c.in-Some-2.is at c.in_ok-valid.ensures.held) c.slots_of-part.ensures.range c.in_ok-numbers.ensures.count inside c.in_ok-numbers.ensures.spelled

pub returns-clause-spelled : goal.returns-clause-spelled
returns-clause-spelled c =
    let zs = numbers_in c.in_ok-numbers.numbers in
    let yes : IsTrue c.is_filled.result = cc in
    let inside : AllByRecursion (IsInside c.args.kind) zs = subst (λ (k : IntKind). AllByRecursion (IsInside k) zs) c.in_ok-numbers.ensures.kind c.len-inside.ensures.inside in
    number_rows_spell c.args.kind c.args.nullability c.args.rows c.args.range.start c.args.range.end c.args.bytes.now c.in-Some.parts.0.now c.in-Some.parts.1.now c.slots_of-part.result.now c.in-Some-2.valid zs c.in-Some.ensures.joined c.in-Some.ensures.validity (λ i. omega (arith, c.type_inv.bytes i))
    (c.is_filled.ensures.0 yes) c.requires.forwards c.requires.inside (rw c.in-Some-2.is at c.in_ok-valid.ensures.valid) (rw c.in-Some-2.is at c.in_ok-valid.ensures.held) c.slots_of-part.ensures.range c.in_ok-numbers.ensures.count inside c.in_ok-numbers.ensures.spelled
