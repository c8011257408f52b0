use Rattle.std.proofs.Common.{◌≡◌, ◌+◌, ◌==◌, ◌++◌, [], ◌∷◌, true, false, inl, List, map, refl, sym, subst, arith}
use Rattle.std.proofs.lemmas.Grind.{common_steps}
use Rattle.vx_base.specs.Masks.{true_count}
use Rattle.vx_steps.specs.declared.jobs.ActiveSplit.{ActiveSplit}
use Rattle.vx_steps.specs.Jobs.{number_left}
use Rattle.vx_steps.specs.Needs.{Among, AreAmong}
use Rattle.vx_steps.specs.Pieces.{read_of}
use Rattle.vx_steps.specs.Standings.{split_left}
use Rattle.vx_steps.proofs.Agreeing.{of_wanted}
use Rattle.vx_steps.proofs.PieceRows.{needs_are}
use Rattle.vx_steps.proofs.StartedNeeds.{going_passed, going_started, notes_more}
use Rattle.vx_steps.proofs.Starting.{got_at, left_from, left_passed, left_started, pushed_among, sound_with, still_pushed, wants_split}
use Rattle.vx_steps.proofs.progress.start_next.Goals as goal

pub returns-then-true_count-eq0-clause-sound : goal.returns-then-true_count-eq0-clause-sound
returns-then-true_count-eq0-clause-sound c = sound_with c.args.table.now c.args.job.now c.args.progress.now _ refl refl c.requires.sound

pub returns-then-true_count-eq0-clause-running : goal.returns-then-true_count-eq0-clause-running
returns-then-true_count-eq0-clause-running c =
    let splits = c.args.job.now.splits.items in
    let next = c.args.progress.now.next in
    let none : (true_count c.index-split.result.now.mask == 0) ≡ true = grind (arith, common_steps) in
    going_passed c.args.table.now c.args.job.now c.args.progress.now c.requires.left c.requires.ready c.requires.noted (left_passed splits c.index-split.result.now c.args.progress.now.active.items next c.requires.left c.index-split.ensures none) c.requires.running

pub returns-then-true_count-eq0-clause-starts : goal.returns-then-true_count-eq0-clause-starts
returns-then-true_count-eq0-clause-starts c =
    let splits = c.args.job.now.splits.items in
    let next = c.args.progress.now.next in
    let none : (true_count c.index-split.result.now.mask == 0) ≡ true = grind (arith, common_steps) in
    record {
      left = left_passed splits c.index-split.result.now c.args.progress.now.active.items next c.requires.left c.index-split.ensures none;
      active = λ number among. among;
      wants = λ segment asked. inl asked;
      grows = λ place w at. at;
      handed = refl;
      leaves = refl;
    }

pub returns-in_err-active-clause-sound : goal.returns-in_err-active-clause-sound
returns-in_err-active-clause-sound c = sound_with c.args.table.now c.args.job.now c.args.progress.now _ refl refl c.requires.sound

pub returns-in_err-active-clause-told : goal.returns-in_err-active-clause-told
returns-in_err-active-clause-told c = of_wanted c.args.table.now c.args.job.now.offset c.args.progress.now.reads.wanted c.start_split.new.reads.wanted c.args.progress.now.store.columns.all c.args.progress.now.wholes.made c.in_err-active.ensures.agrees

pub returns-in_err-set_apart-clause-sound : goal.returns-in_err-set_apart-clause-sound
returns-in_err-set_apart-clause-sound c = sound_with c.args.table.now c.args.job.now c.args.progress.now _ refl refl c.requires.sound

pub returns-in_err-set_apart-clause-told : goal.returns-in_err-set_apart-clause-told
returns-in_err-set_apart-clause-told c = of_wanted c.args.table.now c.args.job.now.offset c.args.progress.now.reads.wanted c.start_split.new.reads.wanted c.args.progress.now.store.columns.all c.args.progress.now.wholes.made c.in_ok-active.ensures.agrees

pub returns-in_err-push-clause-sound : goal.returns-in_err-push-clause-sound
returns-in_err-push-clause-sound c = sound_with c.args.table.now c.args.job.now c.args.progress.now _ refl refl c.requires.sound

pub returns-in_err-push-clause-told : goal.returns-in_err-push-clause-told
returns-in_err-push-clause-told c = of_wanted c.args.table.now c.args.job.now.offset c.args.progress.now.reads.wanted c.start_split.new.reads.wanted c.args.progress.now.store.columns.all c.args.progress.now.wholes.made c.in_ok-active.ensures.agrees

pub returns-clause-sound : goal.returns-clause-sound
returns-clause-sound c = sound_with c.args.table.now c.args.job.now c.args.progress.now _ refl refl c.requires.sound

pub returns-clause-told : goal.returns-clause-told
returns-clause-told c = of_wanted c.args.table.now c.args.job.now.offset c.args.progress.now.reads.wanted c.start_split.new.reads.wanted c.args.progress.now.store.columns.all c.args.progress.now.wholes.made c.in_ok-active.ensures.agrees

pub returns-clause-noted : goal.returns-clause-noted
returns-clause-noted c = grind (arith, common_steps)

pub returns-clause-running : goal.returns-clause-running
returns-clause-running c =
    let nodes = c.args.table.now in
    let job = c.args.job.now in
    let old = c.args.progress.now in
    let splits = job.splits.items in
    let next = old.next in
    let split = c.index-split.result.now in
    let active = c.in_ok-active.active in
    let mid = c.start_split.new.needed in
    let new = c.set_apart.new.needed in
    let h = c.in_ok-active.ensures in
    let at = got_at splits next split c.requires.left c.index-split.ensures in
    let some : (true_count split.mask == 0) ≡ false = grind (arith, common_steps) in
    let done = h.starting.done in
    let apart = rw c.deref.ensures.value at c.in_ok-set_apart.ensures in
    let L : List ActiveSplit → Type 0 = λ actives. left_from actives (next + 1) splits ≡ left_from old.active.items next splits in
    let left : L c.push.new.self.items = subst L (sym c.in_ok-push.ensures.items) (left_started splits split old.active.items active next c.requires.left c.index-split.ensures some h.number done) in
    going_started nodes job old c.push.new.self c.start_split.new.reads new split active c.requires.left at some h.number h.starting c.in_ok-push.ensures.items c.requires.ready c.requires.noted
    (record { asked = h.asked; only = h.only; grows = h.grows; came = h.came; named = h.named; stored = h.stored })
    (notes_more nodes job.plan active old.needed mid new h.tallies h.room h.kept_room h.needed h.held apart)
    left c.requires.running

pub returns-clause-starts : goal.returns-clause-starts
returns-clause-starts c =
    let nodes = c.args.table.now in
    let job = c.args.job.now in
    let old = c.args.progress.now in
    let splits = job.splits.items in
    let next = old.next in
    let split = c.index-split.result.now in
    let active = c.in_ok-active.active in
    let h = c.in_ok-active.ensures in
    let at = got_at splits next split c.requires.left c.index-split.ensures in
    let some : (true_count split.mask == 0) ≡ false = grind (arith, common_steps) in
    let done = h.starting.done in
    let L : List ActiveSplit → Type 0 = λ actives. left_from actives (next + 1) splits ≡ left_from old.active.items next splits in
    let A : List ActiveSplit → Type 0 = λ actives. AreAmong (map number_left (map split_left old.active.items)) (map number_left (map split_left actives)) in
    let N : List ActiveSplit → Type 0 = λ actives. Among next (map number_left (map split_left actives)) in
    let numbers = map number_left (map split_left c.push.new.self.items) in
    let own : N (old.active.items ++ active ∷ []) = subst (λ (n : _). Among n (map number_left (map split_left (old.active.items ++ active ∷ [])))) h.number (pushed_among old.active.items active) in
    record {
      left = subst L (sym c.in_ok-push.ensures.items) (left_started splits split old.active.items active next c.requires.left c.index-split.ensures some h.number done);
      active = subst A (sym c.in_ok-push.ensures.items) (still_pushed old.active.items active);
      wants = wants_split nodes job old.store.columns.all old.reads.wanted c.start_split.new.reads.wanted next numbers split (map read_of active.needs.items) (subst N (sym c.in_ok-push.ensures.items) own) at (needs_are nodes job split active.needs.items h.starting.placed) h.only;
      grows = h.grows;
      handed = h.handed;
      leaves = refl;
    }
