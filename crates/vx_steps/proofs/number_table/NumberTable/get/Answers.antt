use Rattle.vx_steps.proofs.Tables.{number_none, number_reached}
use Rattle.vx_steps.proofs.number_table.NumberTable.get.Goals as goal

pub returns-in-Some-clause-value : goal.returns-in-Some-clause-value
returns-in-Some-clause-value c = number_reached c.args.self.now c.args.plan c.in-Some.place c.index.result.now c.in-Some.ensures c.index.ensures

pub returns-in-None-clause-value : goal.returns-in-None-clause-value
returns-in-None-clause-value c = number_none c.args.self.now c.args.plan c.in-None.ensures
