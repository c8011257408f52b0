use Rattle.vx_steps.proofs.Beginning.{scan_max}
use Rattle.vx_steps.proofs.scan.Scan.with_max_active.Goals as goal

pub invariant_of-self : goal.invariant_of-self
invariant_of-self c = scan_max c.self.inside.table.now c.self.inside.job c.self.inside.progress c.self.inside.refused c.args.count c.self.invariant
