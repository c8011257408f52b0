use Rattle.vx_plan.proofs.AlikePlans.{alike_values, alike_reads}
use Rattle.vx_plan.proofs.laws.alike_plans_are_worth_the_same.Goals as goal

pub returns-clause-values : goal.returns-clause-values
returns-clause-values c = alike_values

pub returns-clause-reads : goal.returns-clause-reads
returns-clause-reads c = alike_reads
