use Rattle.std.proofs.Common.{◌≡◌, ◌++◌, [], length, refl, ap, ◌∙◌, sym, rules}
use Rattle.vx_io.specs.Tables.{session_state}
use Rattle.vx_io.proofs.Driving.{drive_more, drive_all, drive_refused, next_joined, none_left, length_more}
use Rattle.vx_io.proofs.SoundEnds.{sound_has}
use Rattle.vx_io.proofs.commands.drive.Goals as goal

pub loop-command-preserved : goal.loop-command-preserved
loop-command-preserved g c =
    let so_far = c.loop-command.invariant in (
      drive_more c.args.session.now.ranges.now c.loop-command.yielded c.in-Some.command c.loop-command.driven.completions.items c.run.new.completions.items (session_state c.args.session.now)
          (session_state c.loop-command.session) (session_state c.run.new.session) so_far.0 (rw so_far.4.ranges at c.in-Ok.ensures.gives),
      length_more c.loop-command.yielded c.in-Some.command c.loop-command.driven.done so_far.1,
      so_far.2,
      next_joined c.loop-command.yielded c.loop-command.command-iterator.rest.items c.args.commands.items c.next.new.self.rest.items c.in-Some.command so_far.3 c.in-Some.ensures.steps.0,
      record {
        same_reference = c.run.ensures.loans.same_reference ∙ so_far.4.same_reference;
        ranges = c.run.ensures.loans.ranges ∙ so_far.4.ranges;
      },
    )

pub returns-in-Err-clause-drives : goal.returns-in-Err-clause-drives
returns-in-Err-clause-drives g c =
    let so_far = c.loop-command.invariant in
    drive_refused c.args.session.now.ranges.now c.args.commands.items c.loop-command.yielded c.next.new.self.rest.items c.in-Some.command c.in-Err.error _ c.loop-command.driven.completions.items (session_state c.args.session.now)
    (session_state c.loop-command.session) (session_state c.run.new.session)
    (ap (λ cs. c.loop-command.yielded ++ cs) (sym c.in-Some.ensures.steps.0) ∙ so_far.3) so_far.1 refl c.requires.distinct so_far.0 (rw so_far.4.ranges at c.in-Err.ensures.gives)
    (sound_has c.run.new.session.ranges.now (session_state c.run.new.session) c.run.new.session.sound)

pub returns-clause-drives : goal.returns-clause-drives
returns-clause-drives g c =
    let so_far = c.loop-command.invariant in
    let none : length c.loop-command.command-iterator.rest.items ≡ 0 = search rules in
    drive_all c.args.session.now.ranges.now c.args.commands.items c.loop-command.yielded [] c.loop-command.driven (session_state c.args.session.now)
    (session_state c.loop-command.session) (session_state c.loop-command.session)
    (ap (λ cs. c.loop-command.yielded ++ cs) (sym (none_left c.loop-command.command-iterator.rest.items none)) ∙ so_far.3) so_far.1 c.requires.distinct so_far.0 (rw so_far.2 refl)
    (sound_has c.loop-command.session.ranges.now (session_state c.loop-command.session) c.loop-command.session.sound)
