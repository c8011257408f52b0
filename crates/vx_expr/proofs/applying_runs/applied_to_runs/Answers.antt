use Rattle.std.proofs.Common.{◌≡◌, ℕ, List, map, Option, Some, Err, sym, ap, subst, ◌∙◌, arith}
use Rattle.vx_base.specs.Data.{Datum}
use Rattle.vx_base.specs.Runs.{spread}
use Rattle.vx_expr.specs.declared.applying.ApplyError.{ApplyError}
use Rattle.vx_expr.specs.declared.applying.ApplyError.TheVariants.{EvalFault}
use Rattle.vx_expr.specs.Rows.{worth, worth_of_each, IsFirstFault}
use Rattle.vx_expr.proofs.AnyRow.{worth_at_any_rows}
use Rattle.vx_expr.proofs.AppliedRows.{length_worth}
use Rattle.vx_expr.proofs.AppliedRuns.{fault_inside, fault_spread, length_each, runs_count, runs_worth}
use Rattle.vx_expr.proofs.applying_runs.applied_to_runs.Goals as goal

pub filled-requires-clause-same : goal.filled-requires-clause-same
filled-requires-clause-same c =
    let count = c.in_ok-numbers.ensures.count ∙ c.requires.same in
    c.requires.same ∙ sym (runs_count c.args.expression.now c.args.values.now.values c.in_ok-numbers.numbers.values c.in-Ok.column.values c.requires.unnumbered count c.in-Ok.ensures.values)

pub returns-in-Ok-filled-clause-values : goal.returns-in-Ok-filled-clause-values
returns-in-Ok-filled-clause-values c =
    let count = c.in_ok-numbers.ensures.count ∙ c.requires.same in
    ap (λ (values : List Datum). map Some values) c.in-Ok-filled.ensures.values
    ∙ runs_worth c.args.expression.now c.args.values.now.values c.in_ok-numbers.numbers.values c.in-Ok.column.values c.args.ends.now c.requires.unnumbered count c.in-Ok.ensures.values

pub run_start-requires : goal.run_start-requires
run_start-requires c =
    let a = c.args.expression.now in
    let vs = c.args.values.now.values in
    let ns = c.in_ok-numbers.numbers.values in
    let run = c.in-Err-EvalFault.run' in
    let error : c.in-Err-EvalFault.field-0 ≡ EvalFault run = rw c.in-Err-EvalFault.is at c.in-Err-EvalFault.field-0-is in
    let fault = c.applied-made.ensures.fault run (c.in-Err-EvalFault.is ∙ ap (λ (e : ApplyError). Err e) error) in
    omega (arith, fault_inside (worth a vs ns) run fault, length_worth a vs ns (c.in_ok-numbers.ensures.count ∙ c.requires.same), c.requires.same)

pub returns-in-Err-EvalFault-clause-fault : goal.returns-in-Err-EvalFault-clause-fault
returns-in-Err-EvalFault-clause-fault c = λ row h.
    let a = c.args.expression.now in
    let vs = c.args.values.now.values in
    let ns = c.in_ok-numbers.numbers.values in
    let ends = c.args.ends.now in
    let run = c.in-Err-EvalFault.run' in
    let error : c.in-Err-EvalFault.field-0 ≡ EvalFault run = rw c.in-Err-EvalFault.is at c.in-Err-EvalFault.field-0-is in
    let told = c.applied-made.ensures.fault run (c.in-Err-EvalFault.is ∙ ap (λ (e : ApplyError). Err e) error) in
    let fault = subst (λ (ms : List (Option Datum)). IsFirstFault ms run) (worth_at_any_rows a vs ns c.requires.unnumbered (c.in_ok-numbers.ensures.count ∙ c.requires.same)) told in
    let same : c.run_start.result ≡ row = cc in
    subst (λ (first : ℕ). IsFirstFault (spread 0 (worth_of_each a vs) ends) first) (sym c.run_start.ensures ∙ same) (fault_spread (worth_of_each a vs) ends run (c.requires.same ∙ sym (length_each a vs)) c.requires.rise fault)
