use Rattle.std.proofs.Common.{Ok, Err, refl, sym, subst}
use Rattle.vx_steps.specs.Jobs.{active_of}
use Rattle.vx_steps.specs.Steps.{active_in}
use Rattle.vx_drive.specs.declared.adaptor_errors.AdaptorError.{AdaptorError}
use Rattle.vx_drive.specs.Batched.{StepGives}
use Rattle.vx_drive.proofs.Stepping.{refusal_gives, step_gives, step_keeps, step_wants}
use Rattle.vx_drive.proofs.batching.step.Goals as goal

pub returns-in-Ok : goal.returns-in-Ok
returns-in-Ok c =
    let e = c.in-Ok.ensures in
    let numbers = active_in (Ok c.in-Ok.turn) c.step.new.self.progress in
    let keeps = step_keeps numbers c.args.scan.now c.step.new.self e.nodes e.job e.told e.grows e.leaves e.wholes in
    step_gives c.in-Ok.turn c.args.scan.now c.step.new.self keeps (step_wants numbers c.args.scan.now c.step.new.self e.wants) (e.not_refused refl) e.turn e.after_refusal e.lowers

pub returns-in-Err : goal.returns-in-Err
returns-in-Err c =
    let e = c.in-Err.ensures in
    let keeps = step_keeps (active_of c.step.new.self.progress) c.args.scan.now c.step.new.self e.nodes e.job e.told e.grows e.leaves e.wholes in
    subst (λ (error : AdaptorError). StepGives (Err error) c.args.scan.now c.step.new.self) (sym c.from.ensures) (refusal_gives c.in-Err.error c.args.scan.now c.step.new.self keeps (e.refused refl) e.cause)
