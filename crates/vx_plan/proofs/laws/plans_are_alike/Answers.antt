use Rattle.vx_plan.proofs.AlikePlans.{concat_alike, pack_alike, take_alike, eval_alike, scan_alike, zoned_alike, pruning_alike, list_alike}
use Rattle.vx_plan.proofs.laws.plans_are_alike.Goals as goal

pub returns-clause-concats : goal.returns-clause-concats
returns-clause-concats c = concat_alike

pub returns-clause-packs : goal.returns-clause-packs
returns-clause-packs c = pack_alike

pub returns-clause-takes : goal.returns-clause-takes
returns-clause-takes c = take_alike

pub returns-clause-evals : goal.returns-clause-evals
returns-clause-evals c = eval_alike

pub returns-clause-scans : goal.returns-clause-scans
returns-clause-scans c = scan_alike

pub returns-clause-zoned : goal.returns-clause-zoned
returns-clause-zoned c = zoned_alike

pub returns-clause-pruning : goal.returns-clause-pruning
returns-clause-pruning c = pruning_alike

pub returns-clause-lists : goal.returns-clause-lists
returns-clause-lists c = list_alike
