use Rattle.std.proofs.Common.{◌∙◌, length, ap, arith}
use Rattle.vx_types.specs.Slots.{IsShort}
use Rattle.vx_segments.specs.Codings.{run_bytes}
use Rattle.vx_segments.specs.Segment.{plain_bytes}
use Rattle.vx_segments.proofs.EncodedSegments.{laid_count, run_values, runs_spell}
use Rattle.vx_segments.proofs.encoded_segments.encode_runs.Goals as goal

pub encode_parts-written-requires-clause-short : goal.encode_parts-written-requires-clause-short
encode_parts-written-requires-clause-short c = run_values IsShort c.args.column.now.values c.in_ok-values.values.values c.in_ok-values.ends.items c.in_ok-values.ensures.runs c.requires.short

pub encode_parts-written-requires-clause-few : goal.encode_parts-written-requires-clause-few
encode_parts-written-requires-clause-few c = omega (arith, c.requires.few, ap length c.as_slice.ensures.value, laid_count c.args.column.now.values c.in_ok-values.values.values c.in_ok-values.ends.items c.in_ok-values.ensures.runs)

pub returns-in-Ok : goal.returns-in-Ok
returns-in-Ok c =
    let values = c.in_ok-values.values.values in
    let ends = c.in_ok-values.ends.items in
    runs_spell c.args.column.now.dtype c.args.column.now.values values ends c.in-Ok.bytes.items c.requires.leaf c.len-fit.ensures.fit c.requires.short c.requires.few c.in_ok-values.ensures.runs
    (c.in-Ok.ensures ∙ (λ i. run_bytes (c.as_slice.ensures.value i) (plain_bytes (c.in_ok-values.ensures.dtype i) values)))
