use Rattle.std.proofs.Common.{rules}
use Rattle.vx_steps.proofs.Noting.{all_noted, next_noted, none_noted}
use Rattle.vx_steps.proofs.handed_leaves.note_split.Goals as goal

pub loop-place-init : goal.loop-place-init
loop-place-init c = none_noted c.args.needs.now c.args.number c.args.later.now

pub loop-place-preserved : goal.loop-place-preserved
loop-place-preserved c = next_noted c.args.needs.now c.loop-place.place c.args.number c.args.later.now c.loop-place.later c.note.new.self c.loop-place-test.true c.loop-place.invariant c.in_ok-note.ensures.noted

pub returns : goal.returns
returns c = all_noted c.args.needs.now c.loop-place.place c.args.number c.args.later.now c.loop-place.later (search rules) c.loop-place.invariant
