use Rattle.vx_layout.proofs.Joined.{values_same, values_count, values_at}
use Rattle.vx_layout.proofs.laws.values_are_those_of_the_rows.Goals as goal

pub returns-clause-one : goal.returns-clause-one
returns-clause-one c = values_same

pub returns-clause-count : goal.returns-clause-count
returns-clause-count c = values_count

pub returns-clause-each : goal.returns-clause-each
returns-clause-each c = values_at
