use Rattle.std.proofs.Common.{map}
use Rattle.vx_steps.specs.declared.still_read.StillRead.{StillRead}
use Rattle.vx_steps.specs.Pieces.{read_of}
use Rattle.vx_steps.proofs.AddedNeeds.{needs_added}
use Rattle.vx_steps.proofs.still_read.add_needs.Goals as goal

pub returns : goal.returns
returns c =
    let new : StillRead = record { leaves = c.count_leaves.new.leaves; segments = c.count_segments.new.counts } in
    record { added = needs_added c.count_segments.result c.args.still.now new (map read_of c.args.needs.now) c.in_ok-count_leaves.ensures c.count_segments.ensures }
