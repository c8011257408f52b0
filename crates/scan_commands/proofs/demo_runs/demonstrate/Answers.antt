use Rattle.std.proofs.Common.{◌∙◌}
use Rattle.scan_commands.proofs.Demonstrating.{summary_ends}
use Rattle.scan_commands.proofs.demo_runs.demonstrate.Goals as goal

pub returns : goal.returns
returns g c = summary_ends c.args.number c.of_writing.result c.write_all.result c.deref.result.now _ _ c.of_writing.ensures (c.deref.ensures.value ∙ c.in-Ok.ensures) c.write_all.ensures
