use Rattle.std.proofs.Common.{◌∙◌, arith, length, sym, ap}
use Rattle.vx_types.specs.Columns.{ColumnData}
use Rattle.vx_columns.proofs.KeptRuns.{mask_len, filtered_runs, chosen_sum}
use Rattle.vx_columns.proofs.SpreadRuns.{runs_len}
use Rattle.vx_columns.proofs.run_rows.Runs.filter.Goals as goal

pub counts_chosen-requires-clause-rows : goal.counts_chosen-requires-clause-rows
counts_chosen-requires-clause-rows c = c.requires ∙ runs_len c.self.inside.values c.args.self.now c.self.inside.ends.items c.as_slice.result.now c.self.view_is c.as_slice.ensures.value c.self.invariant.same c.self.invariant.rise

pub kept_runs-requires-clause-runs : goal.kept_runs-requires-clause-runs
kept_runs-requires-clause-runs c =
    let counts = c.as_slice-2.ensures.value ∙ c.in_ok-counts.ensures in
    ap length counts ∙ mask_len c.as_slice.result.now c.args.mask.now 0 ∙ ap length c.as_slice.ensures.value ∙ c.self.invariant.same

pub kept_runs-requires-clause-rows : goal.kept_runs-requires-clause-rows
kept_runs-requires-clause-rows c =
    let counts = c.as_slice-2.ensures.value ∙ c.in_ok-counts.ensures in
    let runs = ap length counts ∙ mask_len c.as_slice.result.now c.args.mask.now 0 ∙ ap length c.as_slice.ensures.value ∙ c.self.invariant.same in
    let rows = filtered_runs c.self.inside.values c.args.self.now c.self.inside.ends.items c.as_slice.result.now c.as_slice-2.result.now c.args.mask.now c.self.view_is c.self.invariant.same c.as_slice.ensures.value counts in
    omega (arith, chosen_sum c.args.mask.now c.args.self.now.values c.self.inside.values.values c.as_slice-2.result.now runs rows, c.requires, c.len-rows.ensures)

pub returns : goal.returns
returns c =
    let rows = filtered_runs c.self.inside.values c.args.self.now c.self.inside.ends.items c.as_slice.result.now c.as_slice-2.result.now c.args.mask.now c.self.view_is c.self.invariant.same c.as_slice.ensures.value (c.as_slice-2.ensures.value ∙ c.in_ok-counts.ensures) in
    let type = c.in_ok-runs.ensures.dtype ∙ ap (λ (a : ColumnData). a.dtype) c.self.view_is in
    let values = c.in_ok-runs.ensures.values ∙ sym rows in
    λ i. record { dtype = type i; values = values i }
