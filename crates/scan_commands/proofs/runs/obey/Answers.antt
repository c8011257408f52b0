use Rattle.std.proofs.Common.{refl}
use Rattle.scan_commands.proofs.Drawing.{draws_so, draws_complete}
use Rattle.scan_commands.proofs.Running.{obeys_tree}
use Rattle.scan_commands.proofs.runs.obey.Goals as goal

pub returns-in-Tree : goal.returns-in-Tree
returns-in-Tree g c =
    let draws = draws_so c.status.result c.draw.result _ _ c.status.ensures c.draw.ensures.pieces c.draw.ensures.draws in
    obeys_tree c.args.command.now _ _ _ _ c.in-Tree.is (record { serves = draws; complete = draws_complete c.status.result _ _ draws; sources = refl })
