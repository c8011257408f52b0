use Rattle.std.proofs.Common.{◌<◌, ◌≤◌, inr, refl, arith}
use Rattle.vx_steps.proofs.PieceRows.{given_to, kept_for, ready_range, some_given}
use Rattle.vx_steps.proofs.pieces.give_rows.Goals as goal

pub piece_column-requires-clause-ready : goal.piece_column-requires-clause-ready
piece_column-requires-clause-ready c =
    ready_range c.args.grounds.table.now c.args.grounds.leaves.now.here c.args.grounds.given.now c.args.wholes.now.made c.args.grounds.offset c.args.plan c.args.split.now.rows.start c.args.split.now.mask c.args.needs.now c.requires.placed c.args.at.now.done c.args.ready
    (kept_for c.args.grounds.leaves.now.here c.args.needs.now c.args.at.now.next c.args.at.now.done c.args.ready c.requires.given.kept c.requires.passed) (omega (arith, c.requires.given.row.behind, c.requires.some))

pub returns-in-Ok-clause-given : goal.returns-in-Ok-clause-given
returns-in-Ok-clause-given c =
    given_to c.args.grounds.table.now c.args.grounds.given.now c.args.grounds.leaves.now.here c.args.wholes.now c.args.plan c.args.split.now c.args.needs.now c.args.at.now _ c.requires.placed c.requires.given c.requires.made c.args.ready c.requires.some c.requires.within c.requires.passed c.requires.next refl

pub returns-in-Ok-clause-gives : goal.returns-in-Ok-clause-gives
returns-in-Ok-clause-gives c =
    let behind : c.args.at.now.done ≤ c.args.at.now.row = c.requires.given.row.behind in
    let past : c.args.at.now.row < c.args.ready = c.requires.some in
    record {
      forwards = omega (arith, behind, past);
      some = some_given c.args.split.now.mask c.args.at.now.done c.args.at.now.row c.args.ready c.requires.given.row c.requires.some c.requires.within;
      dtype = c.in-Ok.ensures.dtype;
      count = c.in-Ok.ensures.rows;
      computed = c.in-Ok.ensures.computed;
    }

pub returns-in-Err-clause-cause : goal.returns-in-Err-clause-cause
returns-in-Err-clause-cause c =
    inr (c.args.ready, c.requires.within, kept_for c.args.grounds.leaves.now.here c.args.needs.now c.args.at.now.next c.args.at.now.done c.args.ready c.requires.given.kept c.requires.passed, c.in-Err.ensures.computed)
