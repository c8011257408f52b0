use Rattle.std.proofs.Common.{◌∙◌}
use Rattle.scan_demo.proofs.DemoSummary.{summary_is}
use Rattle.scan_demo.proofs.summaries.summary_of.Goals as goal

pub returns-clause-summary : goal.returns-clause-summary
returns-clause-summary c same =
    (rw c.in_ok-totals.ensures at c.in_ok-text.ensures) ∙ summary_is c.args.number c.args.batches.now c.requires same
