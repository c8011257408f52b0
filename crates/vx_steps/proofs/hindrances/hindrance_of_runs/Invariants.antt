use Rattle.std.proofs.Common.{◌-◌, length}
use Rattle.vx_plan.specs.Refs.{number_of}
use Rattle.vx_steps.proofs.HinderedRows.{NoneBefore}
use Rattle.vx_steps.proofs.hindrances.hindrance_of_runs.Given as goal

abbrev pub invariant-loop-done : goal.invariant-loop-done
invariant-loop-done l = NoneBefore l.places l.table (number_of l.plan) l.start l.mask l.done

abbrev pub decreases-loop-done : goal.decreases-loop-done
decreases-loop-done l = length l.mask - l.done
