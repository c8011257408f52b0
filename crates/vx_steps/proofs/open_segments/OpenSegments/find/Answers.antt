use Rattle.vx_steps.proofs.Counting.{all_counted}
use Rattle.vx_steps.proofs.open_segments.OpenSegments.find.Goals as goal

pub returns : goal.returns
returns c = all_counted c.args.table.now c.args.leaves.now.all c.in_ok-self.field-0 c.in_ok-self.ensures
