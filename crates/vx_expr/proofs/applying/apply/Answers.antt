use Rattle.std.proofs.Common.{◌≡◌, rules, false, List, map, Option, Some, subst}
use Rattle.std.specs.Prelude.{IfOk}
use Rattle.vx_base.specs.Data.{Datum}
use Rattle.vx_base.specs.Runs.{spread}
use Rattle.vx_expr.specs.Mentions.{uses_row_number}
use Rattle.vx_expr.specs.Rows.{worth, worth_of_each, IsFirstFault}
use Rattle.vx_expr.proofs.AppliedRuns.{rows_worth}
use Rattle.vx_expr.proofs.applying.apply.Goals as goal

pub returns-in-Runs-clause-values : goal.returns-in-Runs-clause-values
returns-in-Runs-clause-values c =
    let a = c.args.expression.now in
    let vs = c.in-Runs.values.now.values in
    let ends = c.in-Runs.ends.now in
    let unnumbered : uses_row_number a.term ≡ false = search rules in
    let rows : spread 0 (worth_of_each a vs) ends ≡ worth a c.args.root.now.values c.args.numbers.now.values = rows_worth a vs c.args.root.now.values c.args.numbers.now.values ends unnumbered c.in-Runs.ensures.values c.requires.same_rows in
    subst (λ (ms : List (Option Datum)). IfOk c.applied_to_runs.result (λ column. map Some column.values ≡ ms)) rows c.applied_to_runs.ensures.values

pub returns-in-Runs-clause-fault : goal.returns-in-Runs-clause-fault
returns-in-Runs-clause-fault c = λ row h.
    let a = c.args.expression.now in
    let vs = c.in-Runs.values.now.values in
    let ends = c.in-Runs.ends.now in
    let unnumbered : uses_row_number a.term ≡ false = search rules in
    let rows : spread 0 (worth_of_each a vs) ends ≡ worth a c.args.root.now.values c.args.numbers.now.values = rows_worth a vs c.args.root.now.values c.args.numbers.now.values ends unnumbered c.in-Runs.ensures.values c.requires.same_rows in
    subst (λ (ms : List (Option Datum)). IsFirstFault ms row) rows (c.applied_to_runs.ensures.fault row h)
