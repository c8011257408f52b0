use Rattle.vx_columns.proofs.KeptRuns.{kept_made}
use Rattle.vx_columns.proofs.run_rows.kept_runs.Goals as goal

pub invariant_of-result : goal.invariant_of-result
invariant_of-result c =
    (kept_made c.args.counts.now c.in_ok-places.places.items c.in_ok-ends.ends.items c.as_slice.result.now c.args.values.now c.in_ok-values.values c.in_ok-places.ensures c.in_ok-ends.ensures c.as_slice.ensures.value c.in_ok-values.ensures c.requires.runs).0

pub returns-clause-values : goal.returns-clause-values
returns-clause-values c =
    (kept_made c.args.counts.now c.in_ok-places.places.items c.in_ok-ends.ends.items c.as_slice.result.now c.args.values.now c.in_ok-values.values c.in_ok-places.ensures c.in_ok-ends.ensures c.as_slice.ensures.value c.in_ok-values.ensures c.requires.runs).1
