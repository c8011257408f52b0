use Rattle.std.proofs.Common.{arith}
use Rattle.vx_plan.specs.Refs.{number_of}
use Rattle.vx_steps.proofs.HinderedRows.{none_all, none_next, run_hindered}
use Rattle.vx_steps.proofs.hindrances.hindrance_of_runs.Goals as goal

pub returns-in-Some : goal.returns-in-Some
returns-in-Some c = run_hindered c.args.places c.args.table.now (number_of c.args.plan) c.args.start c.args.mask.now c.loop-done.done c.run_end-end.result c.in-Some.found c.run_end-end.ensures.run (rw c.if-value.true at c.value.ensures) c.in-Some.ensures

pub loop-done-preserved-in_default : goal.loop-done-preserved-in_default
loop-done-preserved-in_default c =
    none_next c.args.places c.args.table.now (number_of c.args.plan) c.args.start c.args.mask.now c.loop-done.done c.run_end-end.result c.loop-done.invariant c.run_end-end.ensures.run (λ on. c.in_default.ensures)

pub returns : goal.returns
returns c = none_all c.args.places c.args.table.now (number_of c.args.plan) c.args.start c.args.mask.now c.loop-done.done (omega arith) c.loop-done.invariant
