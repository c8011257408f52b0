use Rattle.std.proofs.Common.{◌+◌, ◌*◌, ◌≤◌, ◌-◌, None}
use Rattle.vx_plan.specs.Rules.{node_at}
use Rattle.vx_steps.specs.Hindrances.{AreHindered, IsOne}
use Rattle.vx_steps.proofs.HinderedRows.{FieldsHindered}
use Rattle.vx_steps.proofs.hindrances.+hindrances.Given as goal

abbrev pub decreases-hindrance_of_rows : goal.decreases-hindrance_of_rows
decreases-hindrance_of_rows l = 2 * l.plan + 1

abbrev pub decreases-hindrance_of_fields : goal.decreases-hindrance_of_fields
decreases-hindrance_of_fields l = 2 * l.plan

abbrev pub decreases-hindrance_of_chunks : goal.decreases-hindrance_of_chunks
decreases-hindrance_of_chunks l = 2 * l.plan

abbrev pub invariant-hindrance_of_fields-loop-place : goal.invariant-hindrance_of_fields-loop-place
invariant-hindrance_of_fields-loop-place l = IsOne (FieldsHindered l.places l.table (node_at l.table l.plan).children l.place l.start l.count) None

abbrev pub invariant-hindrance_of_chunks-loop-done : goal.invariant-hindrance_of_chunks-loop-done
invariant-hindrance_of_chunks-loop-done l = record {
  inside : l.done ≤ l.count;
  none : IsOne (AreHindered l.places l.table l.plan l.start l.done) None;
}

abbrev pub decreases-hindrance_of_chunks-loop-done : goal.decreases-hindrance_of_chunks-loop-done
decreases-hindrance_of_chunks-loop-done l = l.count - l.done
