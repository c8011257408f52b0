use Rattle.std.proofs.Common.{◌≡◌, ◌∙◌, ℕ, ◌<◌, ◌^◌, List, length, Err, ap, sym, subst, rules}
use Rattle.std.specs.Prelude.{IsTrue}
use Rattle.vx_types.specs.Views.{data_type}
use Rattle.vx_columns.specs.LaidRuns.{Differ}
use Rattle.vx_columns.specs.RunRows.{Rise, start_of}
use Rattle.vx_segments.specs.declared.decode_errors.DecodeError.TheVariants as errors
use Rattle.vx_segments.proofs.CodedSegments.{count_is, ends_same, known_runs, parts_same, runs_spelled}
use Rattle.vx_segments.proofs.CodingsRead.{last_end}
use Rattle.vx_segments.proofs.Leaves.{has_one_meaning}
use Rattle.vx_segments.proofs.run_segments.decode_runs.Goals as goal

pub returns-then-not-rise_to-clause-refused : goal.returns-then-not-rise_to-clause-refused
returns-then-not-rise_to-clause-refused c = λ e values s.
    let t = data_type c.args.dtype.now in
    let bytes = c.args.bytes.now in
    let count = c.in-Some.parts.0 in
    let front = c.in-Some.parts.1.now in
    let plain = c.in-Some.parts.2.now in
    let fits : count < 2 ^ 32 = search rules in
    let same = parts_same t c.args.rows count bytes front plain values fits c.in-Some.ensures.joined c.in-Some.ensures.count s in
    let ends = c.as_slice.ensures.value ∙ ends_same c.in_ok-ends.ends.items s.ends c.in_ok-ends.ensures.small s.small (c.in_ok-ends.ensures.spelled ∙ same.1) in
    let rise : Rise 0 c.as_slice.result.now = subst (Rise 0) (sym ends) s.laid.rise in
    let last : start_of 0 c.as_slice.result.now (length c.as_slice.result.now) ≡ c.args.rows = ap (λ (es : List ℕ). start_of 0 es (length es)) ends ∙ last_end c.args.rows values s.runs s.ends s.laid s.count in
    let yes : IsTrue c.rise_to.result = c.rise_to.ensures.1 (rise, last) in
    absurd cc

pub fill_apart-requires-clause-same : goal.fill_apart-requires-clause-same
fill_apart-requires-clause-same c = count_is c.in_ok-ends.ends.items c.in-Some.parts.1.now c.in-Some.parts.0 c.in_ok-ends.ensures.spelled c.in-Some.ensures.count ∙ sym c.in-Ok.ensures.spelled.count

pub returns-in-Err-clause-refused : goal.returns-in-Err-clause-refused
returns-in-Err-clause-refused c = λ e values s.
    let t = data_type c.args.dtype.now in
    let bytes = c.args.bytes.now in
    let count = c.in-Some.parts.0 in
    let front = c.in-Some.parts.1.now in
    let plain = c.in-Some.parts.2.now in
    let fits : count < 2 ^ 32 = search rules in
    let same = parts_same t c.args.rows count bytes front plain values fits c.in-Some.ensures.joined c.in-Some.ensures.count s in
    let bad : c.in-Err.error ≡ errors.BadSegment = cc in
    c.in-Err.ensures.refused (λ i. Err (bad i)) s.runs (known_runs t c.args.rows count bytes plain values s same.0 same.2)

pub returns-in-Ok-fill_apart-clause-spelled : goal.returns-in-Ok-fill_apart-clause-spelled
returns-in-Ok-fill_apart-clause-spelled c =
    let t = data_type c.args.dtype.now in
    let bytes = c.args.bytes.now in
    let count = c.in-Some.parts.0 in
    let front = c.in-Some.parts.1.now in
    let plain = c.in-Some.parts.2.now in
    let fits : count < 2 ^ 32 = search rules in
    let yes : IsTrue c.rise_to.result = cc in
    let risen = c.rise_to.ensures.0 yes in
    let rise : Rise 0 c.in_ok-ends.ends.items = subst (Rise 0) c.as_slice.ensures.value risen.0 in
    let last : start_of 0 c.in_ok-ends.ends.items (length c.in_ok-ends.ends.items) ≡ c.args.rows = ap (λ (es : List ℕ). start_of 0 es (length es)) (sym c.as_slice.ensures.value) ∙ risen.1 in
    runs_spelled t c.args.rows count bytes front plain c.in-Ok.values.values c.in-Ok-fill_apart.column.values c.in_ok-ends.ends.items fits c.in-Some.ensures.joined c.in-Some.ensures.count c.in_ok-ends.ensures.spelled c.in_ok-ends.ensures.small rise last c.in-Ok.ensures.spelled c.in-Ok-fill_apart.ensures.differ c.in-Ok-fill_apart.ensures.values

pub returns-in-Err-fill_apart-clause-refused : goal.returns-in-Err-fill_apart-clause-refused
returns-in-Err-fill_apart-clause-refused c = λ e values s.
    let t = data_type c.args.dtype.now in
    let bytes = c.args.bytes.now in
    let count = c.in-Some.parts.0 in
    let front = c.in-Some.parts.1.now in
    let plain = c.in-Some.parts.2.now in
    let fits : count < 2 ^ 32 = search rules in
    let same = parts_same t c.args.rows count bytes front plain values fits c.in-Some.ensures.joined c.in-Some.ensures.count s in
    let bad : c.in-Err-fill_apart.error ≡ errors.BadSegment = cc in
    let runs = has_one_meaning t c.requires.leaf count plain s.runs c.in-Ok.values.values (known_runs t c.args.rows count bytes plain values s same.0 same.2) c.in-Ok.ensures.spelled in
    c.in-Err-fill_apart.ensures.refused (λ i. Err (bad i)) (subst Differ runs s.laid.differ)
