use Rattle.std.proofs.Common.{◌∙◌, ap, refl}
use Rattle.vx_steps.specs.declared.leaf_stores.LeafStore.{LeafStore}
use Rattle.vx_steps.specs.Jobs.{CanStart, Starts}
use Rattle.vx_steps.specs.Standings.{standing_of}
use Rattle.vx_steps.proofs.Starting.{sound_with}
use Rattle.vx_steps.proofs.StartingAll.{all_looked, bound_looked, going_first, grows_looked, holding_of, noted_first, on_ok, running_on, starts_looked, starts_noted, told_looked}
use Rattle.vx_steps.proofs.progress.start_all.Goals as goal

pub returns-then-progress-clause-running : goal.returns-then-progress-clause-running
returns-then-progress-clause-running c = running_on c.start_splits.result c.args.table.now c.args.job.now c.args.progress.now c.start_splits.new.progress c.if-progress.true c.start_splits.ensures.running c.start_splits.ensures.noted c.start_splits.ensures.all

pub returns-then-progress-clause-leaves : goal.returns-then-progress-clause-leaves
returns-then-progress-clause-leaves c = ap (λ (s : LeafStore). s.columns.all) c.start_splits.ensures.store

pub returns-in_err-note_later-clause-sound : goal.returns-in_err-note_later-clause-sound
returns-in_err-note_later-clause-sound c = sound_with c.args.table.now c.args.job.now c.args.progress.now _ refl refl c.requires.sound

pub returns-in_err-set_apart_handed-clause-sound : goal.returns-in_err-set_apart_handed-clause-sound
returns-in_err-set_apart_handed-clause-sound c = sound_with c.args.table.now c.args.job.now c.args.progress.now _ refl refl c.requires.sound

pub start_splits-requires-2-clause-noted : goal.start_splits-requires-2-clause-noted
start_splits-requires-2-clause-noted c = noted_first c.args.table.now c.args.job.now c.args.progress.now.needed c.note_later.new.needed c.set_apart_handed.new.needed c.args.progress.now.store.columns.here c.in_ok-note_later.ensures.noted c.in_ok-set_apart_handed.ensures

pub start_splits-requires-2-clause-sound : goal.start_splits-requires-2-clause-sound
start_splits-requires-2-clause-sound c = sound_with c.args.table.now c.args.job.now c.args.progress.now _ refl refl c.requires.sound

pub start_splits-requires-2-clause-running : goal.start_splits-requires-2-clause-running
start_splits-requires-2-clause-running c = going_first c.args.table.now c.args.job.now c.args.progress.now c.args.progress.now.store.columns.here c.note_later.new.needed c.set_apart_handed.new.needed c.if-progress.false c.in_ok-note_later.ensures.noted c.in_ok-set_apart_handed.ensures c.requires.running.going

pub hold_handed-requires-clause-holding : goal.hold_handed-requires-clause-holding
hold_handed-requires-clause-holding c =
    let h = c.in_ok-start_splits.ensures in
    let noted = noted_first c.args.table.now c.args.job.now c.args.progress.now.needed c.note_later.new.needed c.set_apart_handed.new.needed c.args.progress.now.store.columns.here c.in_ok-note_later.ensures.noted c.in_ok-set_apart_handed.ensures in
    holding_of c.args.table.now c.args.job.now c.start_splits-2.new.progress (ap (λ (s : LeafStore). s.columns.ready) h.store ∙ c.requires.ready) (h.noted ∙ noted) h.all h.running

pub returns-in_err-start_splits-clause-leaves : goal.returns-in_err-start_splits-clause-leaves
returns-in_err-start_splits-clause-leaves c = ap (λ (s : LeafStore). s.columns.all) c.in_err-start_splits.ensures.store

pub returns-clause-told : goal.returns-clause-told
returns-clause-told c = told_looked c.args.table.now c.args.job.now (standing_of c.args.progress.now) c.start_splits-2.new.progress c.hold_handed.new.progress c.hold_handed.ensures.keeps c.in_ok-start_splits.ensures.told

pub returns-clause-grows : goal.returns-clause-grows
returns-clause-grows c = grows_looked c.args.progress.now.reads.wanted c.start_splits-2.new.progress c.hold_handed.new.progress c.hold_handed.ensures.keeps c.in_ok-start_splits.ensures.grows

pub returns-clause-leaves : goal.returns-clause-leaves
returns-clause-leaves c = c.hold_handed.ensures.keeps.leaves ∙ ap (λ (s : LeafStore). s.columns.all) c.in_ok-start_splits.ensures.store

pub returns-clause-wholes : goal.returns-clause-wholes
returns-clause-wholes c = c.hold_handed.ensures.keeps.wholes ∙ c.in_ok-start_splits.ensures.wholes

pub returns-clause-bounded : goal.returns-clause-bounded
returns-clause-bounded c = bound_looked c.args.job.now (standing_of c.args.progress.now) c.start_splits-2.new.progress c.hold_handed.new.progress c.hold_handed.ensures.keeps c.in_ok-start_splits.ensures.bounded

pub returns-clause-starts : goal.returns-clause-starts
returns-clause-starts c =
    let nodes = c.args.table.now in
    let job = c.args.job.now in
    let old = c.args.progress.now in
    let mid = c.start_splits-2.new.progress in
    let new = c.hold_handed.new.progress in
    on_ok c.hold_handed.result (Starts nodes job (standing_of old) (standing_of new)) (starts_looked nodes job (standing_of old) mid new c.hold_handed.ensures.keeps (starts_noted nodes job old mid c.set_apart_handed.new.needed c.in_ok-start_splits.ensures.starts))

pub returns-clause-all : goal.returns-clause-all
returns-clause-all c =
    let job = c.args.job.now in
    let mid = c.start_splits-2.new.progress in
    let new = c.hold_handed.new.progress in
    on_ok c.hold_handed.result (CanStart job (standing_of new) → ⊥) (all_looked job mid new c.hold_handed.ensures.keeps c.in_ok-start_splits.ensures.all)
