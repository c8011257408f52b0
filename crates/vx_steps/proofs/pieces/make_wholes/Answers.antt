use Rattle.vx_steps.proofs.PieceRows.{ready_inside}
use Rattle.vx_steps.proofs.pieces.make_wholes.Goals as goal

pub ready_wholes-requires-clause-ready : goal.ready_wholes-requires-clause-ready
ready_wholes-requires-clause-ready c =
    ready_inside c.args.grounds.table.now c.args.grounds.leaves.now.here c.args.grounds.given.now c.args.wholes.now.made c.args.grounds.offset c.args.plan c.args.split.now.rows.start c.args.split.now.mask c.args.needs.now c.requires.placed c.args.at.now.next c.args.at.now.done c.requires.given.kept (c.requires.given.first c.if-at.false) c.requires.ready
