use Rattle.std.proofs.Common.{arith}
use Rattle.vx_columns.proofs.SpreadRuns.{runs_len}
use Rattle.vx_columns.proofs.run_rows.Runs.len.Goals as goal

pub returns : goal.returns
returns c = omega (arith, c.last_of.ensures, runs_len c.self.inside.values c.args.self.now c.self.inside.ends.items c.as_slice.result.now c.self.view_is c.as_slice.ensures.value c.self.invariant.same c.self.invariant.rise)
