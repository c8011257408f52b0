use Rattle.vx_lower.proofs.GoodTrees.{can_be_planned}
use Rattle.vx_lower.proofs.Planning.{planned_reads, planned_rows, planned_type, planned_values}
use Rattle.vx_lower.proofs.laws.planned_is_projected.Goals as goal

pub returns-clause-planned : goal.returns-clause-planned
returns-clause-planned c = can_be_planned

pub returns-clause-dtype : goal.returns-clause-dtype
returns-clause-dtype c = planned_type

pub returns-clause-rows : goal.returns-clause-rows
returns-clause-rows c = planned_rows

pub returns-clause-values : goal.returns-clause-values
returns-clause-values c = planned_values

pub returns-clause-reads : goal.returns-clause-reads
returns-clause-reads c = planned_reads
