use Rattle.std.proofs.Common.{rules, ◌<◌, ◌∙◌, List, ap, arith, below_more, length, map, subst, sym}
use Rattle.std.proofs.lemmas.List.{length-map, length-set}
use Rattle.vx_steps.specs.declared.wholes.Wholes.{Wholes}
use Rattle.vx_steps.specs.Jobs.{active_of, number_left, AddsLeaves, KeepsColumns, KeepsWholesFor}
use Rattle.vx_steps.specs.KeptData.{Kept}
use Rattle.vx_steps.specs.Running.{IsHeldAt}
use Rattle.vx_steps.specs.Standings.{split_left, standing_of}
use Rattle.vx_steps.proofs.Finishing.{count_started, gives_output, held_before, holds_all, leaves_tried, no_more, only_keeps_none, only_keeps_then, refusal_before, same_among, still_active, told_settled, wholes_tried}
use Rattle.vx_steps.proofs.progress.finish_some.Goals as goal

pub loop-place-init : goal.loop-place-init
loop-place-init c = record {
  sound = c.requires.sound;
  running = c.requires.running;
  keeps = only_keeps_none c.args.table.now c.args.job.now (standing_of c.args.progress.now);
  held = λ place less. absurd (omega arith);
}

pub loop-place-preserved : goal.loop-place-preserved
loop-place-preserved c =
    let tried = c.in-Ok-None.ensures in
    let none = c.in-Ok-None.field-0-is in
    let keeps = c.loop-place.invariant.keeps in
    record {
      sound = tried.sound;
      running = tried.running none;
      keeps = only_keeps_then c.args.table.now c.args.job.now (standing_of c.args.progress.now) (standing_of c.loop-place.progress) (standing_of c.finish_at.new.progress) keeps (tried.keeps none);
      held = below_more (IsHeldAt c.args.table.now c.args.job.now c.args.progress.now) c.loop-place.place c.loop-place.invariant.held (held_before c.args.table.now c.args.job.now c.args.progress.now c.loop-place.progress c.loop-place.place keeps (tried.held none));
    }

pub finish_at-requires-clause-place : goal.finish_at-requires-clause-place
finish_at-requires-clause-place c =
    let before = count_started c.args.progress.now in
    let now = count_started c.loop-place.progress in
    let same = ap length c.loop-place.invariant.keeps.started in
    omega arith

pub settle-number-requires-clause-place : goal.settle-number-requires-clause-place
settle-number-requires-clause-place c =
    let out = rw c.in-Ok-Some.field-0-is at c.in-Ok-Some.ensures.output in
    let before = count_started c.args.progress.now in
    let mid = count_started c.loop-place.progress in
    let now = count_started c.finish_at.new.progress in
    let same = ap length c.loop-place.invariant.keeps.started in
    let put = ap length out.started in
    let as_put = length-set (standing_of c.loop-place.progress).started c.loop-place.place (split_left out.after) in
    omega arith

pub settle-number-requires-clause-passing : goal.settle-number-requires-clause-passing
settle-number-requires-clause-passing c = rw c.in-Ok-Some.field-0-is at c.in-Ok-Some.ensures.passing

pub returns-in-Ok-Some-clause-told : goal.returns-in-Ok-Some-clause-told
returns-in-Ok-Some-clause-told c =
    told_settled c.args.table.now c.args.job.now (standing_of c.args.progress.now) c.finish_at.new.progress c.settle-number.new.progress c.loop-place.place c.settle-number.result c.settle-number.ensures.settles
    (λ outside is. c.in-Ok-Some.ensures.told outside (c.loop-place.invariant.keeps.told outside is))

pub returns-in-Ok-Some-clause-wholes : goal.returns-in-Ok-Some-clause-wholes
returns-in-Ok-Some-clause-wholes c =
    let W : Wholes → Type 0 = λ w. KeepsWholesFor c.args.table.now c.args.job.now (active_of (standing_of c.args.progress.now)) c.args.progress.now.wholes w in
    subst W (sym c.settle-number.ensures.settles.wholes) (wholes_tried c.args.table.now c.args.job.now (standing_of c.args.progress.now) (standing_of c.loop-place.progress) c.finish_at.new.progress.wholes c.loop-place.invariant.keeps c.in-Ok-Some.ensures.wholes)

pub returns-in-Ok-Some-clause-leaves_only : goal.returns-in-Ok-Some-clause-leaves_only
returns-in-Ok-Some-clause-leaves_only c =
    let L : List Kept → Type 0 = λ ks. AddsLeaves c.args.table.now c.args.job.now (active_of (standing_of c.args.progress.now)) c.args.progress.now.store.columns.all ks in
    subst L (sym c.settle-number.ensures.settles.leaves) (leaves_tried c.args.table.now c.args.job.now (standing_of c.args.progress.now) (standing_of c.loop-place.progress) c.finish_at.new.progress.store.columns.all c.loop-place.invariant.keeps c.in-Ok-Some.ensures.leaves_only)

pub returns-in-Ok-Some-clause-leaves : goal.returns-in-Ok-Some-clause-leaves
returns-in-Ok-Some-clause-leaves c =
    let L : List Kept → Type 0 = λ ks. KeepsColumns c.args.progress.now.store.columns.all ks in
    subst L (sym c.settle-number.ensures.settles.leaves) (λ n column at. c.in-Ok-Some.ensures.leaves n column (c.loop-place.invariant.keeps.leaves n column at))

pub returns-in-Ok-Some-clause-wanted : goal.returns-in-Ok-Some-clause-wanted
returns-in-Ok-Some-clause-wanted c = c.settle-number.ensures.settles.wanted ∙ (c.in-Ok-Some.ensures.wanted ∙ c.loop-place.invariant.keeps.wanted)

pub returns-in-Ok-Some-clause-handed : goal.returns-in-Ok-Some-clause-handed
returns-in-Ok-Some-clause-handed c = c.settle-number.ensures.settles.handed ∙ (c.in-Ok-Some.ensures.handed ∙ c.loop-place.invariant.keeps.handed)

pub returns-in-Ok-Some-clause-bounded : goal.returns-in-Ok-Some-clause-bounded
returns-in-Ok-Some-clause-bounded c =
    no_more c.args.table.now c.args.job.now c.args.progress.now c.loop-place.progress c.finish_at.new.progress c.settle-number.new.progress c.loop-place.place c.settle-number.result c.in-Ok-Some.column c.loop-place.invariant.keeps (rw c.in-Ok-Some.field-0-is at c.in-Ok-Some.ensures.output) c.settle-number.ensures.settles

pub returns-in-Ok-Some-clause-active : goal.returns-in-Ok-Some-clause-active
returns-in-Ok-Some-clause-active c =
    still_active c.args.table.now c.args.job.now (standing_of c.args.progress.now) c.loop-place.progress c.finish_at.new.progress c.settle-number.new.progress c.loop-place.place c.settle-number.result c.in-Ok-Some.column c.loop-place.invariant.keeps (rw c.in-Ok-Some.field-0-is at c.in-Ok-Some.ensures.output) c.in-Ok-Some.ensures.numbers c.settle-number.ensures.settles

pub returns-in-Ok-Some-clause-output : goal.returns-in-Ok-Some-clause-output
returns-in-Ok-Some-clause-output c =
    gives_output c.args.table.now c.args.job.now c.args.progress.now c.loop-place.progress c.finish_at.new.progress c.settle-number.new.progress c.loop-place.place c.settle-number.result c.in-Ok-Some.column c.loop-place.invariant.keeps (rw c.in-Ok-Some.field-0-is at c.in-Ok-Some.ensures.output) c.in-Ok-Some.ensures.next c.in-Ok-Some.ensures.handed c.settle-number.ensures.settles

pub returns-in-Err-clause-told : goal.returns-in-Err-clause-told
returns-in-Err-clause-told c = λ outside is. c.in-Err.ensures.told outside (c.loop-place.invariant.keeps.told outside is)

pub returns-in-Err-clause-wholes : goal.returns-in-Err-clause-wholes
returns-in-Err-clause-wholes c = wholes_tried c.args.table.now c.args.job.now (standing_of c.args.progress.now) (standing_of c.loop-place.progress) c.finish_at.new.progress.wholes c.loop-place.invariant.keeps c.in-Err.ensures.wholes

pub returns-in-Err-clause-leaves_only : goal.returns-in-Err-clause-leaves_only
returns-in-Err-clause-leaves_only c = leaves_tried c.args.table.now c.args.job.now (standing_of c.args.progress.now) (standing_of c.loop-place.progress) c.finish_at.new.progress.store.columns.all c.loop-place.invariant.keeps c.in-Err.ensures.leaves_only

pub returns-in-Err-clause-leaves : goal.returns-in-Err-clause-leaves
returns-in-Err-clause-leaves c = λ n column at. c.in-Err.ensures.leaves n column (c.loop-place.invariant.keeps.leaves n column at)

pub returns-in-Err-clause-cause : goal.returns-in-Err-clause-cause
returns-in-Err-clause-cause c = refusal_before c.args.table.now c.args.job.now (standing_of c.args.progress.now) (standing_of c.loop-place.progress) (standing_of c.finish_at.new.progress) c.in-Err.error c.loop-place.invariant.keeps.told c.in-Err.ensures.cause

pub returns-in-Err-clause-refused : goal.returns-in-Err-clause-refused
returns-in-Err-clause-refused c = c.in-Err.ensures.numbers ∙ ap (map number_left) c.loop-place.invariant.keeps.started

pub returns-in-Err-clause-bounded : goal.returns-in-Err-clause-bounded
returns-in-Err-clause-bounded c =
    let before = count_started c.args.progress.now in
    let now = count_started c.finish_at.new.progress in
    let first = length-map (standing_of c.args.progress.now).started number_left in
    let last = length-map (standing_of c.finish_at.new.progress).started number_left in
    let same = ap length (c.in-Err.ensures.numbers ∙ ap (map number_left) c.loop-place.invariant.keeps.started) in
    omega arith

pub returns-clause-none : goal.returns-clause-none
returns-clause-none c = λ e. holds_all c.args.table.now c.args.job.now c.args.progress.now c.loop-place.progress c.loop-place.invariant.keeps (λ place less. let passed : place < c.loop-place.place = search rules in c.loop-place.invariant.held place passed)

pub returns-clause-active : goal.returns-clause-active
returns-clause-active c = same_among (active_of (standing_of c.args.progress.now)) (active_of (standing_of c.loop-place.progress)) (ap (map number_left) c.loop-place.invariant.keeps.started)
