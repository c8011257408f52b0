use Rattle.vx_lower.proofs.PlannedTables.{holds_planned, holds_root, row_index_alike}
use Rattle.vx_lower.proofs.laws.tables_hold_plans.Goals as goal

pub returns-clause-alike : goal.returns-clause-alike
returns-clause-alike c = row_index_alike

pub returns-clause-planned : goal.returns-clause-planned
returns-clause-planned c = holds_planned

pub returns-clause-root : goal.returns-clause-root
returns-clause-root c = holds_root
