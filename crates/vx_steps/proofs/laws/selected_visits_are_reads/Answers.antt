use Rattle.vx_steps.proofs.ReadVisits.{selected_leaf, selected_read, selected_visit}
use Rattle.vx_steps.proofs.laws.selected_visits_are_reads.Goals as goal

pub returns : goal.returns
returns c = record { leaves = selected_leaf; only = selected_read; each = selected_visit }
