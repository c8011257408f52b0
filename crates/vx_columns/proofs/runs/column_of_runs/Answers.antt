use Rattle.std.proofs.Common.{◌∙◌, sym, ap, length, map}
use Rattle.std.proofs.lemmas.List.{length-map}
use Rattle.vx_types.specs.Columns.{ColumnData}
use Rattle.vx_types.specs.ValueViews.{datum}
use Rattle.vx_types.specs.Views.{data_type}
use Rattle.vx_columns.specs.Runs.{spread}
use Rattle.vx_columns.proofs.RunRows.{column_of_runs}
use Rattle.vx_columns.proofs.SpreadRuns.{good_rise}
use Rattle.vx_columns.proofs.runs.column_of_runs.Goals as goal

pub of-runs-requires-clause-same : goal.of-runs-requires-clause-same
of-runs-requires-clause-same c = c.requires.good.same ∙ sym (length-map c.args.values.now datum) ∙ sym (ap length c.in_ok-values.ensures.values)

pub of-runs-requires-clause-rise : goal.of-runs-requires-clause-rise
of-runs-requires-clause-rise c = good_rise (length c.args.values.now) c.args.ends.items c.requires.good

pub of_rows-requires : goal.of_rows-requires
of_rows-requires c =
    column_of_runs (data_type c.args.dtype) (map datum c.args.values.now) c.args.ends.items c.of-runs.result c.requires.fit (ap (λ (a : ColumnData). a.dtype) c.of-runs.ensures ∙ c.in_ok-values.ensures.dtype)
    (ap (λ (a : ColumnData). a.values) c.of-runs.ensures ∙ (λ i. spread 0 (c.in_ok-values.ensures.values i) c.args.ends.items))

pub returns-clause-values : goal.returns-clause-values
returns-clause-values c = c.of_rows.ensures.values ∙ ap (λ (a : ColumnData). a.values) c.of-runs.ensures ∙ (λ i. spread 0 (c.in_ok-values.ensures.values i) c.args.ends.items)
