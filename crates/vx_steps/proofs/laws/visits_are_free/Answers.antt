use Rattle.vx_steps.proofs.FreeVisits.{leaf_free, leaf_selected, list_free, list_selected}
use Rattle.vx_steps.proofs.laws.visits_are_free.Goals as goal

pub returns : goal.returns
returns c = record { leaves = leaf_free; lists = list_free; selected_leaves = leaf_selected; selected_lists = list_selected }
