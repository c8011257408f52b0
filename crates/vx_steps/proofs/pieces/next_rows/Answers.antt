use Rattle.std.proofs.Common.{ℕ, inl, Some, subst}
use Rattle.vx_steps.specs.Pieces.{FailsRows, GivesRows}
use Rattle.vx_steps.specs.Wholes.{held_with}
use Rattle.vx_steps.proofs.PieceRows.{fails_by, fails_wider, gives_by}
use Rattle.vx_steps.proofs.WholeMaking.{held_by}
use Rattle.vx_steps.proofs.pieces.next_rows.Goals as goal

pub give_rows-requires-clause-held : goal.give_rows-requires-clause-held
give_rows-requires-clause-held c = held_by c.args.grounds.table.now c.args.grounds.leaves.now.here (Some c.args.grounds.given.now) c.args.grounds.offset c.args.wholes.now.made c.make_wholes.new.wholes.made c.make_wholes.ensures.made c.requires.held

pub returns-in-Ok-give_rows-clause-gives : goal.returns-in-Ok-give_rows-clause-gives
returns-in-Ok-give_rows-clause-gives c =
    let F : ℕ → Type 0 = λ from. GivesRows (held_with c.args.grounds c.args.wholes.now) c.args.plan c.args.split.now from c.give_rows.new.at.done c.in-Ok-give_rows.column in
    subst F c.make_wholes.ensures.done (gives_by c.args.grounds.table.now c.args.grounds.leaves.now.here c.args.grounds.given.now c.args.grounds.offset c.args.wholes.now.made c.make_wholes.new.wholes.made c.make_wholes.ensures.made c.args.plan c.args.split.now c.make_wholes.new.at.done c.give_rows.new.at.done c.in-Ok-give_rows.column c.in-Ok-give_rows.ensures.gives)

pub returns-in-Err-give_rows-clause-cause : goal.returns-in-Err-give_rows-clause-cause
returns-in-Err-give_rows-clause-cause c =
    fails_wider (held_with c.args.grounds c.args.wholes.now) c.args.plan c.args.split.now c.args.needs.now c.make_wholes.new.at.done c.in-Err-give_rows.error
    (fails_by c.args.grounds.table.now c.args.grounds.leaves.now.here c.args.grounds.given.now c.args.grounds.offset c.args.wholes.now.made c.make_wholes.new.wholes.made c.make_wholes.ensures.made c.args.plan c.args.split.now c.args.needs.now c.make_wholes.new.at.done c.in-Err-give_rows.error c.in-Err-give_rows.ensures.cause)

pub returns-in-Err-give_rows-clause-fails : goal.returns-in-Err-give_rows-clause-fails
returns-in-Err-give_rows-clause-fails c =
    let F : ℕ → Type 0 = λ from. FailsRows (held_with c.args.grounds c.args.wholes.now) c.args.plan c.args.split.now c.args.needs.now from c.in-Err-give_rows.error in
    inl (subst F c.make_wholes.ensures.done (fails_by c.args.grounds.table.now c.args.grounds.leaves.now.here c.args.grounds.given.now c.args.grounds.offset c.args.wholes.now.made c.make_wholes.new.wholes.made c.make_wholes.ensures.made c.args.plan c.args.split.now c.args.needs.now c.make_wholes.new.at.done c.in-Err-give_rows.error c.in-Err-give_rows.ensures.cause))
