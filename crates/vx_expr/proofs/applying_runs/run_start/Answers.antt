use Rattle.std.proofs.Common.{◌≡◌, ◌-◌, suc, sym, ap, ◌∙◌, arith}
use Rattle.vx_base.specs.RunRows.{start_of}
use Rattle.vx_base.proofs.SpreadRuns.{start_next}
use Rattle.vx_expr.proofs.applying_runs.run_start.Goals as goal

pub returns-else-run-eq0 : goal.returns-else-run-eq0
returns-else-run-eq0 c =
    let ends = c.args.ends.now in
    let before = c.args.run - 1 in
    let next : suc before ≡ c.args.run = omega arith in
    sym (start_next 0 ends before (omega arith)) ∙ ap (start_of 0 ends) next
