use Rattle.vx_scan.proofs.Runnable.{nothing_prepared}
use Rattle.vx_scan.proofs.prepared_scans.prepare_nothing.Goals as goal

pub returns : goal.returns
returns c = nothing_prepared c.args.file c.args.settings c.in_ok-plans.plans c.new.result c.requires.few c.requires.none c.new.ensures.items (c.in_ok-plans.ensures {u = tt})
