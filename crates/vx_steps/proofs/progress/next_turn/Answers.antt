use Rattle.std.proofs.Common.{sym, subst}
use Rattle.std.specs.Prelude.{IfErr, IfOk}
use Rattle.vx_steps.specs.declared.jobs.Job.{Job}
use Rattle.vx_steps.specs.Jobs.{AddsLeaves, KeepsBound, KeepsColumns, KeepsTold, KeepsWholesFor, WantsFor}
use Rattle.vx_steps.specs.Running.{IsRunning, IsSound}
use Rattle.vx_steps.specs.Standings.{standing_of, Standing}
use Rattle.vx_steps.specs.Steps.{active_in, IsStepRefusal, TakesTurn}
use Rattle.vx_steps.specs.Wants.{Grows}
use Rattle.vx_steps.proofs.Prepared.{running_ready, sound_ready}
use Rattle.vx_steps.proofs.progress.next_turn.Goals as goal

pub advance-requires-clause-sound : goal.advance-requires-clause-sound
advance-requires-clause-sound c =
    let nodes = c.args.table.now in
    let ready = c.in_ok-make_ready.ensures in
    subst (λ (job : Job). IsSound nodes job c.make_ready.new.progress) (sym ready.job) (sound_ready nodes c.args.job.now c.args.progress.now c.make_ready.new.progress ready.others ready.standing ready.here ready.counted c.requires.sound)

pub advance-requires-clause-running : goal.advance-requires-clause-running
advance-requires-clause-running c =
    let nodes = c.args.table.now in
    let ready = c.in_ok-make_ready.ensures in
    subst (λ (job : Job). IsRunning nodes job c.make_ready.new.progress) (sym ready.job) (running_ready nodes c.args.job.now c.args.progress.now c.make_ready.new.progress ready.others ready.standing ready.here ready.ready c.requires.running)

pub returns-in_err-make_ready-clause-sound : goal.returns-in_err-make_ready-clause-sound
returns-in_err-make_ready-clause-sound c =
    let ready = c.in_err-make_ready.ensures in
    sound_ready c.args.table.now c.args.job.now c.args.progress.now c.make_ready.new.progress ready.others ready.standing ready.here ready.counted c.requires.sound

pub returns-clause-told : goal.returns-clause-told
returns-clause-told c =
    let P : Standing → Type 0 = λ old. KeepsTold c.args.table.now c.args.job.now old (standing_of c.advance.new.progress) in
    let Q : Job → Type 0 = λ job. KeepsTold c.args.table.now job (standing_of c.make_ready.new.progress) (standing_of c.advance.new.progress) in
    subst P c.in_ok-make_ready.ensures.standing (subst Q c.in_ok-make_ready.ensures.job c.advance.ensures.told)

pub returns-clause-grows : goal.returns-clause-grows
returns-clause-grows c =
    let P : Standing → Type 0 = λ old. Grows old.reads.wanted c.advance.new.progress.reads.wanted in
    subst P c.in_ok-make_ready.ensures.standing c.advance.ensures.grows

pub returns-clause-leaves : goal.returns-clause-leaves
returns-clause-leaves c =
    let P : Standing → Type 0 = λ old. KeepsColumns old.leaves c.advance.new.progress.store.columns.all in
    subst P c.in_ok-make_ready.ensures.standing c.advance.ensures.leaves

pub returns-clause-leaves_only : goal.returns-clause-leaves_only
returns-clause-leaves_only c =
    let A = active_in c.advance.result (standing_of c.advance.new.progress) in
    let P : Standing → Type 0 = λ old. AddsLeaves c.args.table.now c.args.job.now A old.leaves c.advance.new.progress.store.columns.all in
    let Q : Job → Type 0 = λ job. AddsLeaves c.args.table.now job A c.make_ready.new.progress.store.columns.all c.advance.new.progress.store.columns.all in
    subst P c.in_ok-make_ready.ensures.standing (subst Q c.in_ok-make_ready.ensures.job c.advance.ensures.leaves_only)

pub returns-clause-wholes : goal.returns-clause-wholes
returns-clause-wholes c =
    let A = active_in c.advance.result (standing_of c.advance.new.progress) in
    let P : Standing → Type 0 = λ old. KeepsWholesFor c.args.table.now c.args.job.now A old.wholes c.advance.new.progress.wholes in
    let Q : Job → Type 0 = λ job. KeepsWholesFor c.args.table.now job A c.make_ready.new.progress.wholes c.advance.new.progress.wholes in
    subst P c.in_ok-make_ready.ensures.standing (subst Q c.in_ok-make_ready.ensures.job c.advance.ensures.wholes)

pub returns-clause-bounded : goal.returns-clause-bounded
returns-clause-bounded c =
    let P : Standing → Type 0 = λ old. KeepsBound c.args.job.now old (standing_of c.advance.new.progress) in
    let Q : Job → Type 0 = λ job. KeepsBound job (standing_of c.make_ready.new.progress) (standing_of c.advance.new.progress) in
    subst P c.in_ok-make_ready.ensures.standing (subst Q c.in_ok-make_ready.ensures.job c.advance.ensures.bounded)

pub returns-clause-wants : goal.returns-clause-wants
returns-clause-wants c =
    let A = active_in c.advance.result (standing_of c.advance.new.progress) in
    let P : Standing → Type 0 = λ old. IfOk c.advance.result (λ turn. WantsFor c.args.table.now c.args.job.now A old (standing_of c.advance.new.progress)) in
    let Q : Job → Type 0 = λ job. IfOk c.advance.result (λ turn. WantsFor c.args.table.now job A (standing_of c.make_ready.new.progress) (standing_of c.advance.new.progress)) in
    subst P c.in_ok-make_ready.ensures.standing (subst Q c.in_ok-make_ready.ensures.job c.advance.ensures.wants)

pub returns-clause-turn : goal.returns-clause-turn
returns-clause-turn c =
    let P : Standing → Type 0 = λ old. IfOk c.advance.result (TakesTurn c.args.table.now c.args.job.now old (standing_of c.advance.new.progress)) in
    let Q : Job → Type 0 = λ job. IfOk c.advance.result (TakesTurn c.args.table.now job (standing_of c.make_ready.new.progress) (standing_of c.advance.new.progress)) in
    subst P c.in_ok-make_ready.ensures.standing (subst Q c.in_ok-make_ready.ensures.job c.advance.ensures.turn)

pub returns-clause-cause : goal.returns-clause-cause
returns-clause-cause c =
    let P : Standing → Type 0 = λ old. IfErr c.advance.result (IsStepRefusal c.args.table.now c.args.job.now old (standing_of c.advance.new.progress)) in
    let Q : Job → Type 0 = λ job. IfErr c.advance.result (IsStepRefusal c.args.table.now job (standing_of c.make_ready.new.progress) (standing_of c.advance.new.progress)) in
    subst P c.in_ok-make_ready.ensures.standing (subst Q c.in_ok-make_ready.ensures.job c.advance.ensures.cause)

pub returns-clause-sound : goal.returns-clause-sound
returns-clause-sound c =
    let Q : Job → Type 0 = λ job. IsSound c.args.table.now job c.advance.new.progress in
    subst Q c.in_ok-make_ready.ensures.job c.advance.ensures.sound

pub returns-in_err-make_ready-clause-told : goal.returns-in_err-make_ready-clause-told
returns-in_err-make_ready-clause-told c =
    let P : Standing → Type 0 = λ new. KeepsTold c.args.table.now c.args.job.now (standing_of c.args.progress.now) new in
    subst P (sym c.in_err-make_ready.ensures.standing) (λ outside is. is)

pub returns-in_err-make_ready-clause-grows : goal.returns-in_err-make_ready-clause-grows
returns-in_err-make_ready-clause-grows c =
    let P : Standing → Type 0 = λ new. Grows c.args.progress.now.reads.wanted new.reads.wanted in
    subst P (sym c.in_err-make_ready.ensures.standing) (λ place w at. at)

pub returns-in_err-make_ready-clause-leaves : goal.returns-in_err-make_ready-clause-leaves
returns-in_err-make_ready-clause-leaves c =
    let P : Standing → Type 0 = λ new. KeepsColumns c.args.progress.now.store.columns.all new.leaves in
    subst P (sym c.in_err-make_ready.ensures.standing) (λ n column at. at)
