use Rattle.std.proofs.Common.{rules, ◌≡◌, ◌∙◌, List, ◌∷◌, ap, arith, length, sym, subst}
use Rattle.vx_steps.specs.Delivered.{IsOf}
use Rattle.vx_steps.specs.Jobs.{active_of}
use Rattle.vx_steps.specs.ReadTableData.{Wanted}
use Rattle.vx_steps.specs.Standings.{standing_of}
use Rattle.vx_steps.specs.Wants.{Grows}
use Rattle.vx_steps.proofs.Advancing.{done_turn, gives_later, hands_read, leaves_for, running_handed, running_same, sound_reads, starts_reads, told_reads, waits_turn, wants_for, wholes_for, with_reads}
use Rattle.vx_steps.proofs.Finishing.{count_started, refusal_before, same_among}
use Rattle.vx_steps.proofs.progress.advance.Goals as goal

-- ---- no split is left

pub returns-then-is_empty-clause-turn : goal.returns-then-is_empty-clause-turn
returns-then-is_empty-clause-turn c =
    let none : length c.start_all.new.progress.active.items ≡ 0 = search rules in
    done_turn c.args.table.now c.args.job.now (standing_of c.args.progress.now) c.start_all.new.progress c.in_ok-start_all.ensures.starts c.in_ok-start_all.ensures.all none

-- ---- a read is handed out

pub returns-in-Some-clause-sound : goal.returns-in-Some-clause-sound
returns-in-Some-clause-sound c = sound_reads c.args.table.now c.args.job.now c.start_all.new.progress c.hand_out.new.self c.in_ok-start_all.ensures.sound

pub returns-in-Some-clause-running : goal.returns-in-Some-clause-running
returns-in-Some-clause-running c = running_handed c.args.table.now c.args.job.now c.start_all.new.progress c.hand_out.new.self c.in-Some.ensures.turn.wanted c.in-Some.ensures.stored c.in_ok-start_all.ensures.running

pub returns-in-Some-clause-told : goal.returns-in-Some-clause-told
returns-in-Some-clause-told c = λ outside is.
    let P : List Wanted → Type 0 = λ wanted. IsOf c.args.table.now c.args.job.now.offset wanted c.start_all.new.progress.store.columns.all c.start_all.new.progress.wholes.made outside in
    subst P (sym c.in-Some.ensures.turn.wanted) (c.in_ok-start_all.ensures.told outside is)

pub returns-in-Some-clause-grows : goal.returns-in-Some-clause-grows
returns-in-Some-clause-grows c = subst (λ (ws : List Wanted). Grows c.args.progress.now.reads.wanted ws) (sym c.in-Some.ensures.turn.wanted) c.in_ok-start_all.ensures.grows

pub returns-in-Some-clause-turn : goal.returns-in-Some-clause-turn
returns-in-Some-clause-turn c =
    let some : length c.start_all.new.progress.active.items ≡ 0 → ⊥ = search rules in
    hands_read c.args.table.now c.args.job.now (standing_of c.args.progress.now) c.start_all.new.progress c.hand_out.new.self c.in-Some.read c.in_ok-start_all.ensures.starts c.in-Some.ensures.turn some

pub returns-in-Some-clause-wants : goal.returns-in-Some-clause-wants
returns-in-Some-clause-wants c =
    let started = c.start_all.new.progress in
    wants_for c.args.table.now c.args.job.now (active_of (standing_of started)) (active_of (standing_of started)) (standing_of c.args.progress.now) (standing_of started) (standing_of (with_reads started c.hand_out.new.self)) (λ number among. among) c.in-Some.ensures.turn.wanted c.in_ok-start_all.ensures.starts.wants

-- ---- rows are given, if some are ready

pub finish_some-requires-clause-sound : goal.finish_some-requires-clause-sound
finish_some-requires-clause-sound c = sound_reads c.args.table.now c.args.job.now c.start_all.new.progress c.hand_out.new.self c.in_ok-start_all.ensures.sound

pub finish_some-requires-clause-running : goal.finish_some-requires-clause-running
finish_some-requires-clause-running c = running_same c.args.table.now c.args.job.now c.start_all.new.progress c.hand_out.new.self c.in_default.ensures.turn.1 c.in_ok-start_all.ensures.running

pub returns-in-Ok-Some-clause-told : goal.returns-in-Ok-Some-clause-told
returns-in-Ok-Some-clause-told c = λ outside is. c.in-Ok-Some.ensures.told outside (told_reads c.args.table.now c.args.job.now (standing_of c.args.progress.now) c.start_all.new.progress c.hand_out.new.self c.in_default.ensures.turn.1 c.in_ok-start_all.ensures.told outside is)

pub returns-in-Ok-None-clause-told : goal.returns-in-Ok-None-clause-told
returns-in-Ok-None-clause-told c = λ outside is. c.in-Ok-None.ensures.told outside (told_reads c.args.table.now c.args.job.now (standing_of c.args.progress.now) c.start_all.new.progress c.hand_out.new.self c.in_default.ensures.turn.1 c.in_ok-start_all.ensures.told outside is)

pub returns-in-Err-clause-told : goal.returns-in-Err-clause-told
returns-in-Err-clause-told c = λ outside is. c.in-Err.ensures.told outside (told_reads c.args.table.now c.args.job.now (standing_of c.args.progress.now) c.start_all.new.progress c.hand_out.new.self c.in_default.ensures.turn.1 c.in_ok-start_all.ensures.told outside is)

pub returns-in-Ok-Some-clause-grows : goal.returns-in-Ok-Some-clause-grows
returns-in-Ok-Some-clause-grows c = subst (λ (ws : List Wanted). Grows c.args.progress.now.reads.wanted ws) (sym (c.in-Ok-Some.ensures.wanted ∙ ap (λ r. r.wanted) c.in_default.ensures.turn.1)) c.in_ok-start_all.ensures.grows

pub returns-in-Ok-None-clause-grows : goal.returns-in-Ok-None-clause-grows
returns-in-Ok-None-clause-grows c = subst (λ (ws : List Wanted). Grows c.args.progress.now.reads.wanted ws) (sym (c.in-Ok-None.ensures.wanted ∙ ap (λ r. r.wanted) c.in_default.ensures.turn.1)) c.in_ok-start_all.ensures.grows

pub returns-in-Err-clause-grows : goal.returns-in-Err-clause-grows
returns-in-Err-clause-grows c = subst (λ (ws : List Wanted). Grows c.args.progress.now.reads.wanted ws) (sym (c.in-Err.ensures.wanted ∙ ap (λ r. r.wanted) c.in_default.ensures.turn.1)) c.in_ok-start_all.ensures.grows

pub returns-in-Ok-Some-clause-turn : goal.returns-in-Ok-Some-clause-turn
returns-in-Ok-Some-clause-turn c =
    let old = standing_of c.args.progress.now in
    let started = c.start_all.new.progress in
    let same = c.in_default.ensures.turn.1 in
    gives_later c.args.table.now c.args.job.now old (standing_of (with_reads started c.hand_out.new.self)) (standing_of c.finish_some.new.progress) c.in-Ok-Some.number c.in-Ok-Some.column (starts_reads c.args.table.now c.args.job.now old started c.hand_out.new.self same c.in_ok-start_all.ensures.starts) (told_reads c.args.table.now c.args.job.now old started c.hand_out.new.self same c.in_ok-start_all.ensures.told) (rw c.in-Ok-Some.field-0-is at c.in-Ok-Some.ensures.output)

pub returns-in-Ok-None-clause-turn : goal.returns-in-Ok-None-clause-turn
returns-in-Ok-None-clause-turn c =
    let some : length c.start_all.new.progress.active.items ≡ 0 → ⊥ = search rules in
    let turn = c.in_default.ensures.turn in
    waits_turn c.args.table.now c.args.job.now (standing_of c.args.progress.now) c.start_all.new.progress c.hand_out.new.self (standing_of c.finish_some.new.progress) c.in_ok-start_all.ensures.starts c.in_ok-start_all.ensures.all c.in_ok-start_all.ensures.running turn.1 turn.0 some (c.in-Ok-None.ensures.none c.in-Ok-None.field-0-is) c.in-Ok-None.ensures.wanted c.in-Ok-None.ensures.handed

pub returns-in-Err-clause-cause : goal.returns-in-Err-clause-cause
returns-in-Err-clause-cause c =
    let old = standing_of c.args.progress.now in
    let started = c.start_all.new.progress in
    refusal_before c.args.table.now c.args.job.now old (standing_of (with_reads started c.hand_out.new.self)) (standing_of c.finish_some.new.progress) c.in-Err.error (told_reads c.args.table.now c.args.job.now old started c.hand_out.new.self c.in_default.ensures.turn.1 c.in_ok-start_all.ensures.told) c.in-Err.ensures.cause

pub returns-in-Ok-Some-clause-wants : goal.returns-in-Ok-Some-clause-wants
returns-in-Ok-Some-clause-wants c =
    let started = standing_of c.start_all.new.progress in
    let given = standing_of c.finish_some.new.progress in
    wants_for c.args.table.now c.args.job.now (active_of started) (c.in-Ok-Some.number ∷ active_of given) (standing_of c.args.progress.now) started given (rw c.in-Ok-Some.field-0-is at c.in-Ok-Some.ensures.active) (c.in-Ok-Some.ensures.wanted ∙ ap (λ r. r.wanted) c.in_default.ensures.turn.1) c.in_ok-start_all.ensures.starts.wants

pub returns-in-Ok-None-clause-wants : goal.returns-in-Ok-None-clause-wants
returns-in-Ok-None-clause-wants c =
    let started = standing_of c.start_all.new.progress in
    let tried = standing_of c.finish_some.new.progress in
    wants_for c.args.table.now c.args.job.now (active_of started) (active_of tried) (standing_of c.args.progress.now) started tried (rw c.in-Ok-None.field-0-is at c.in-Ok-None.ensures.active) (c.in-Ok-None.ensures.wanted ∙ ap (λ r. r.wanted) c.in_default.ensures.turn.1) c.in_ok-start_all.ensures.starts.wants

pub returns-in-Ok-Some-clause-bounded : goal.returns-in-Ok-Some-clause-bounded
returns-in-Ok-Some-clause-bounded c =
    let started = count_started c.start_all.new.progress in
    let now = count_started c.finish_some.new.progress in
    let bound = c.in_ok-start_all.ensures.bounded in
    let fewer = c.in-Ok-Some.ensures.bounded in
    omega arith

pub returns-in-Ok-None-clause-bounded : goal.returns-in-Ok-None-clause-bounded
returns-in-Ok-None-clause-bounded c =
    let started = count_started c.start_all.new.progress in
    let now = count_started c.finish_some.new.progress in
    let bound = c.in_ok-start_all.ensures.bounded in
    let fewer = c.in-Ok-None.ensures.bounded in
    omega arith

pub returns-in-Err-clause-bounded : goal.returns-in-Err-clause-bounded
returns-in-Err-clause-bounded c =
    let started = count_started c.start_all.new.progress in
    let now = count_started c.finish_some.new.progress in
    let bound = c.in_ok-start_all.ensures.bounded in
    let fewer = c.in-Err.ensures.bounded in
    omega arith

pub returns-in-Ok-Some-clause-wholes : goal.returns-in-Ok-Some-clause-wholes
returns-in-Ok-Some-clause-wholes c =
    let started = c.start_all.new.progress in
    let given = c.finish_some.new.progress in
    wholes_for c.args.table.now c.args.job.now (active_of (standing_of started)) (c.in-Ok-Some.number ∷ active_of (standing_of given)) c.args.progress.now.wholes started.wholes given.wholes (rw c.in-Ok-Some.field-0-is at c.in-Ok-Some.ensures.active) c.in_ok-start_all.ensures.wholes c.in-Ok-Some.ensures.wholes

pub returns-in-Ok-None-clause-wholes : goal.returns-in-Ok-None-clause-wholes
returns-in-Ok-None-clause-wholes c =
    let started = c.start_all.new.progress in
    let tried = c.finish_some.new.progress in
    wholes_for c.args.table.now c.args.job.now (active_of (standing_of started)) (active_of (standing_of tried)) c.args.progress.now.wholes started.wholes tried.wholes (rw c.in-Ok-None.field-0-is at c.in-Ok-None.ensures.active) c.in_ok-start_all.ensures.wholes c.in-Ok-None.ensures.wholes

pub returns-in-Err-clause-wholes : goal.returns-in-Err-clause-wholes
returns-in-Err-clause-wholes c =
    let started = c.start_all.new.progress in
    let tried = c.finish_some.new.progress in
    wholes_for c.args.table.now c.args.job.now (active_of (standing_of started)) (active_of (standing_of tried)) c.args.progress.now.wholes started.wholes tried.wholes (same_among (active_of (standing_of started)) (active_of (standing_of tried)) c.in-Err.ensures.refused) c.in_ok-start_all.ensures.wholes c.in-Err.ensures.wholes

pub returns-in-Ok-Some-clause-leaves_only : goal.returns-in-Ok-Some-clause-leaves_only
returns-in-Ok-Some-clause-leaves_only c =
    let started = c.start_all.new.progress in
    let given = c.finish_some.new.progress in
    leaves_for c.args.table.now c.args.job.now (active_of (standing_of started)) (c.in-Ok-Some.number ∷ active_of (standing_of given)) c.args.progress.now.store.columns.all started.store.columns.all given.store.columns.all (rw c.in-Ok-Some.field-0-is at c.in-Ok-Some.ensures.active) c.in_ok-start_all.ensures.leaves c.in-Ok-Some.ensures.leaves_only

pub returns-in-Ok-None-clause-leaves_only : goal.returns-in-Ok-None-clause-leaves_only
returns-in-Ok-None-clause-leaves_only c =
    let started = c.start_all.new.progress in
    let tried = c.finish_some.new.progress in
    leaves_for c.args.table.now c.args.job.now (active_of (standing_of started)) (active_of (standing_of tried)) c.args.progress.now.store.columns.all started.store.columns.all tried.store.columns.all (rw c.in-Ok-None.field-0-is at c.in-Ok-None.ensures.active) c.in_ok-start_all.ensures.leaves c.in-Ok-None.ensures.leaves_only

pub returns-in-Err-clause-leaves_only : goal.returns-in-Err-clause-leaves_only
returns-in-Err-clause-leaves_only c =
    let started = c.start_all.new.progress in
    let tried = c.finish_some.new.progress in
    leaves_for c.args.table.now c.args.job.now (active_of (standing_of started)) (active_of (standing_of tried)) c.args.progress.now.store.columns.all started.store.columns.all tried.store.columns.all (same_among (active_of (standing_of started)) (active_of (standing_of tried)) c.in-Err.ensures.refused) c.in_ok-start_all.ensures.leaves c.in-Err.ensures.leaves_only
