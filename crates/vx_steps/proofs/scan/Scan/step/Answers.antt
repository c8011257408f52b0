use Rattle.std.proofs.Common.{◌≡◌, ◌<◌, ℕ, Ok, false, true, subst, sym}
use Rattle.vx_steps.specs.declared.jobs.Job.{Job}
use Rattle.vx_steps.specs.declared.progress.Turn.TheVariants.{Done}
use Rattle.vx_steps.specs.Jobs.{KeepsColumns, KeepsTold, WantsFor}
use Rattle.vx_steps.specs.Needs.{Among}
use Rattle.vx_steps.specs.Running.{IsSound}
use Rattle.vx_steps.specs.ScanData.{ScanData}
use Rattle.vx_steps.specs.Standings.{standing_of}
use Rattle.vx_steps.specs.Steps.{active_in, GoesOn, IsReadByRest, IsStepRefusal, work_left}
use Rattle.vx_steps.specs.Wants.{Grows}
use Rattle.vx_steps.proofs.Advancing.{turn_lowers}
use Rattle.vx_steps.proofs.LetGo.{done_holds, emptied, grows_let_go, refusal_let_go, sound_let_go, told_let_go, LetsGoOf}
use Rattle.vx_steps.proofs.scan.Scan.step.Goals as goal

not_both : true ≡ false → ⊥
not_both e = cc

pub returns-in-Ok-clause-told : goal.returns-in-Ok-clause-told
returns-in-Ok-clause-told c =
    let P : ScanData → Type 0 = λ scan. KeepsTold scan.nodes scan.job scan.progress (standing_of c.next_turn.new.progress) in
    subst P c.self.view_is c.in-Ok.ensures.told

pub returns-in-Ok-clause-lowers : goal.returns-in-Ok-clause-lowers
returns-in-Ok-clause-lowers c =
    let inside = c.self.inside in
    let P : ScanData → Type 0 = λ scan. GoesOn c.in-Ok.turn → work_left scan.job (standing_of c.next_turn.new.progress) < work_left scan.job scan.progress in
    subst P c.self.view_is (turn_lowers inside.table.now inside.job (standing_of inside.progress) (standing_of c.next_turn.new.progress) c.in-Ok.turn c.in-Ok.ensures.turn)

pub returns-in-Ok-clause-grows : goal.returns-in-Ok-clause-grows
returns-in-Ok-clause-grows c =
    let P : ScanData → Type 0 = λ scan. Grows scan.progress.reads.wanted c.next_turn.new.progress.reads.wanted in
    subst P c.self.view_is c.in-Ok.ensures.grows

pub returns-in-Ok-clause-leaves : goal.returns-in-Ok-clause-leaves
returns-in-Ok-clause-leaves c =
    let P : ScanData → Type 0 = λ scan. KeepsColumns scan.progress.leaves c.next_turn.new.progress.store.columns.all in
    subst P c.self.view_is c.in-Ok.ensures.leaves

pub returns-in-Ok-clause-wants : goal.returns-in-Ok-clause-wants
returns-in-Ok-clause-wants c =
    let new = standing_of c.next_turn.new.progress in
    let P : ScanData → Type 0 = λ scan. WantsFor scan.nodes scan.job (active_in (Ok c.in-Ok.turn) new) scan.progress new in
    subst P c.self.view_is c.in-Ok.ensures.wants

pub returns-in-Ok-clause-held : goal.returns-in-Ok-clause-held
returns-in-Ok-clause-held c =
    let new = standing_of c.next_turn.new.progress in
    let P : ScanData → Type 0 = λ scan. (s : ℕ) → Among s new.held → IsReadByRest scan.nodes scan.job new s in
    subst P c.self.view_is c.in-Ok.ensures.running.going.needed

pub returns-in-Ok-clause-none_held : goal.returns-in-Ok-clause-none_held
returns-in-Ok-clause-none_held c =
    let inside = c.self.inside in
    λ e.
    let is : c.in-Ok.turn ≡ Done = cc in
    done_holds inside.table.now inside.job (standing_of inside.progress) c.next_turn.new.progress c.in-Ok.turn c.in-Ok.ensures.turn c.in-Ok.ensures.running is

pub returns-in-Err-clause-told : goal.returns-in-Err-clause-told
returns-in-Err-clause-told c =
    let inside = c.self.inside in
    let lets : LetsGoOf c.next_turn.new.progress c.let_all_go.new.self = record { reads = c.let_all_go.ensures.reads; same = c.let_all_go.ensures.same } in
    let P : ScanData → Type 0 = λ scan. KeepsTold scan.nodes scan.job scan.progress (standing_of c.let_all_go.new.self) in
    subst P c.self.view_is (told_let_go inside.table.now inside.job (standing_of inside.progress) c.next_turn.new.progress c.let_all_go.new.self lets c.in-Err.ensures.told)

pub returns-in-Err-clause-cause : goal.returns-in-Err-clause-cause
returns-in-Err-clause-cause c =
    let inside = c.self.inside in
    let lets : LetsGoOf c.next_turn.new.progress c.let_all_go.new.self = record { reads = c.let_all_go.ensures.reads; same = c.let_all_go.ensures.same } in
    let P : ScanData → Type 0 = λ scan. IsStepRefusal scan.nodes scan.job scan.progress (standing_of c.let_all_go.new.self) c.in-Err.error in
    subst P c.self.view_is (refusal_let_go inside.table.now inside.job (standing_of inside.progress) c.next_turn.new.progress c.let_all_go.new.self c.in-Err.error lets c.in-Err.ensures.cause)

pub returns-in-Err-clause-grows : goal.returns-in-Err-clause-grows
returns-in-Err-clause-grows c =
    let inside = c.self.inside in
    let lets : LetsGoOf c.next_turn.new.progress c.let_all_go.new.self = record { reads = c.let_all_go.ensures.reads; same = c.let_all_go.ensures.same } in
    let P : ScanData → Type 0 = λ scan. Grows scan.progress.reads.wanted c.let_all_go.new.self.reads.wanted in
    subst P c.self.view_is (grows_let_go inside.progress.reads.wanted c.next_turn.new.progress c.let_all_go.new.self lets c.in-Err.ensures.grows)

pub invariant_of-self-in-Err : goal.invariant_of-self-in-Err
invariant_of-self-in-Err c =
    let nodes = c.self.inside.table.now in
    let lets : LetsGoOf c.next_turn.new.progress c.let_all_go.new.self = record { reads = c.let_all_go.ensures.reads; same = c.let_all_go.ensures.same } in
    let J : Job → Type 0 = λ job. IsSound nodes job c.let_all_go.new.self in
    let sound : J c.next_turn.new.job = subst J (sym c.in-Err.ensures.job) (sound_let_go nodes c.self.inside.job c.next_turn.new.progress c.let_all_go.new.self lets c.in-Err.ensures.sound) in
    (sound, (λ e. absurd (not_both e), λ e. emptied c.next_turn.new.progress c.let_all_go.new.self lets c.let_all_go.ensures.held))
