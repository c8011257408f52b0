use Rattle.vx_splits.proofs.TakenRows.{selects_rows, takes_rows}
use Rattle.vx_splits.proofs.selections.rows_are_selected.Goals as goal

pub returns-clause-selected : goal.returns-clause-selected
returns-clause-selected c = selects_rows

pub returns-clause-taken : goal.returns-clause-taken
returns-clause-taken c = takes_rows
