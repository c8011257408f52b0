use Rattle.vx_scan.proofs.Runnable.{rows_prepared}
use Rattle.vx_scan.proofs.prepared_scans.prepare_rows.Goals as goal

pub returns : goal.returns
returns c =
    rows_prepared c.args.file c.args.settings.now c.args.rows c.in_ok-plans.plans c.in_ok-chunks.chunks c.requires.few c.keeps_rules.ensures.good c.requires.begins (c.in_ok-plans.ensures {u = tt}) (c.in_ok-chunks.ensures {u = tt})
