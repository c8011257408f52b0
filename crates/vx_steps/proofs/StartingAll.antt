-- What is found at the first step, and what stays true when splits are started then.
use Rattle.std.proofs.Common.{◌≡◌, ℕ, ◌<◌, ◌≤◌, ◌⊎◌, max, inl, ⊎_elim, Bool, true, false, List, [], ◌∷◌, ◌++◌, Result, Ok, Err, length, map, drop, refl, sym, ap, ◌∙◌, subst, arith}
use Rattle.std.specs.Prelude.{OnOk}
use Rattle.std.specs.declared.alloc.AllocError.{AllocError}
use Rattle.std.proofs.lemmas.Bool.{cases_lt}
use Rattle.vx_plan.specs.Nodes.{Node}
use Rattle.vx_steps.specs.declared.jobs.ActiveSplit.{ActiveSplit}
use Rattle.vx_steps.specs.declared.jobs.Job.{Job}
use Rattle.vx_steps.specs.declared.jobs.Progress.{Progress}
use Rattle.vx_steps.specs.declared.needed.Needed.{Needed}
use Rattle.vx_steps.specs.declared.wholes.Wholes.{Wholes}
use Rattle.vx_steps.specs.Delivered.{IsOf}
use Rattle.vx_steps.specs.HandedLeaves.{HandedAreApart, IsHolding, NotesAll, ReadsBehind}
use Rattle.vx_steps.specs.Jobs.{active_of, number_left, CanStart, IsWantedBy, KeepsBound, KeepsTold, Starts}
use Rattle.vx_steps.specs.KeptData.{Kept}
use Rattle.vx_steps.specs.LaterReads.{IsNotedOf, SplitRead}
use Rattle.vx_steps.specs.LettingGo.{KeepsStanding}
use Rattle.vx_steps.specs.Needed.{AreReadsOfSplits, KeepsNeeded}
use Rattle.vx_steps.specs.Needs.{Among, AreAmong}
use Rattle.vx_steps.specs.ReadTableData.{Wanted}
use Rattle.vx_steps.specs.Releasing.{ServesAll}
use Rattle.vx_steps.specs.Running.{IsGoing, IsRunning}
use Rattle.vx_steps.specs.Standings.{none_given, numbers_from, split_left, standing_of, SplitLeft, Standing}
use Rattle.vx_steps.specs.Wants.{Grows, IsAsked}

true_false : (b : Bool) → b ≡ true → b ≡ false → ⊥
true_false b is not = cc

-- ---- what is noted and set apart

-- the scan with other notes
abbrev pub noted_as : Progress → Needed → Progress
noted_as old needed = record { next = old.next; active = old.active; reads = old.reads; store = old.store; wholes = old.wholes; needed = needed }

serves_noted : (nodes : List Node) (job : Job) (old : Progress) (needed : Needed) → ServesAll nodes job old → ServesAll nodes job (noted_as old needed)
serves_noted nodes job old needed serves = record { gone_late = serves.gone_late; passed_late = serves.passed_late; served = serves.served; active_after = serves.active_after; gone_after = serves.gone_after }

-- what all splits read, where there are two or more
later_of : (nodes : List Node) (job : Job) (old new : Needed) → IsNotedOf old.later [] → NotesAll nodes job old new → (later : List SplitRead) × (1 < length job.splits.items → IsNotedOf new.later later × AreReadsOfSplits nodes job later)
later_of nodes job old new none notes = ⊎_elim (λ (many : 1 < length job.splits.items). two many) (λ (few : length job.splits.items ≤ 1). ([], λ many. absurd (omega (arith, few, many)))) (cases_lt 1 (length job.splits.items))
  where
    two : 1 < length job.splits.items → (later : List SplitRead) × (1 < length job.splits.items → IsNotedOf new.later later × AreReadsOfSplits nodes job later)
    two many =
        let r = notes.noted none many in
        (r.0, λ again. (r.1, r.2))

-- what splits read is noted, and the row behind them
keeps_noted : (nodes : List Node) (job : Job) (old : Progress) (new : Needed) → old.needed.noted ≡ false → NotesAll nodes job old.needed new → new ≡ record old.needed { later = new.later; row = new.row; noted = new.noted } → KeepsNeeded nodes job old → KeepsNeeded nodes job (noted_as old (record old.needed { later = new.later; row = new.row; noted = new.noted }))
keeps_noted nodes job old new not notes same keeps =
    let later = later_of nodes job old.needed new (keeps.unnoted not) notes in
    record {
      tallies = keeps.tallies;
      unnoted = λ none. absurd (true_false new.noted notes.is_noted none);
      later = later.0;
      noted = λ is many. later.1 many;
      found = keeps.found;
      row = λ is. notes.row;
      apart = keeps.apart;
      forgotten = keeps.forgotten;
      none_before = keeps.none_before;
      bytes = keeps.bytes;
      room = keeps.room;
      asked = keeps.asked;
    }

pub going_noted : (nodes : List Node) (job : Job) (old : Progress) (new : Needed) → old.needed.noted ≡ false → NotesAll nodes job old.needed new → IsGoing nodes job old → IsGoing nodes job (noted_as old new)
going_noted nodes job old new not notes is =
    let P : Needed → Type 0 = λ needed. IsGoing nodes job (noted_as old needed) in
    let made : Needed = record old.needed { later = new.later; row = new.row; noted = new.noted } in
    subst P (sym notes.same) (record {
      ready = is.ready;
      noted = λ after. notes.is_noted;
      actives = is.actives;
      serves = serves_noted nodes job old made is.serves;
      keeps = keeps_noted nodes job old new not notes notes.same is.keeps;
      needed = is.needed;
      holds = is.holds;
      came = is.came;
    })

-- leaves that were handed in are set apart
pub going_apart : (nodes : List Node) (job : Job) (old : Progress) (handed : List Kept) (new : Needed) → old.needed.noted ≡ true → HandedAreApart nodes job.plan handed old.needed new → IsGoing nodes job old → IsGoing nodes job (noted_as old new)
going_apart nodes job old handed new noted sets is =
    let P : Needed → Type 0 = λ needed. IsGoing nodes job (noted_as old needed) in
    let made : Needed = record old.needed { apart = new.apart } in
    let keeps = is.keeps in
    subst P (sym sets.same) (record {
      ready = is.ready;
      noted = is.noted;
      actives = is.actives;
      serves = serves_noted nodes job old made is.serves;
      keeps = record {
        tallies = keeps.tallies;
        unnoted = keeps.unnoted;
        later = keeps.later;
        noted = keeps.noted;
        found = sets.found keeps.found;
        row = keeps.row;
        apart = λ n place at behind. sets.only keeps.found n place at (subst (λ (r : ℕ). ReadsBehind nodes job.plan r n) (sym (keeps.row noted)) behind);
        forgotten = keeps.forgotten;
        none_before = keeps.none_before;
        bytes = keeps.bytes;
        room = keeps.room;
        asked = keeps.asked;
      };
      needed = is.needed;
      holds = is.holds;
      came = is.came;
    })

-- both, as a step does them
pub going_first : (nodes : List Node) (job : Job) (old : Progress) (handed : List Kept) (mid new : Needed) → old.needed.noted ≡ false → NotesAll nodes job old.needed mid → HandedAreApart nodes job.plan handed mid new → IsGoing nodes job old → IsGoing nodes job (noted_as old new)
going_first nodes job old handed mid new not notes sets is = going_apart nodes job (noted_as old mid) handed new notes.is_noted sets (going_noted nodes job old mid not notes is)

pub noted_first : (nodes : List Node) (job : Job) (old mid new : Needed) (handed : List Kept) → NotesAll nodes job old mid → HandedAreApart nodes job.plan handed mid new → new.noted ≡ true
noted_first nodes job old mid new handed notes sets = ap (λ (n : Needed). n.noted) sets.same ∙ notes.is_noted

-- ---- once splits were started

none_active : (actives : List ActiveSplit) → ((a : ActiveSplit) → Among a actives → ⊥) → length (map split_left actives) ≡ 0
none_active [] none = refl
none_active (a ∷ actives) none = absurd (none a (inl refl))

-- where no split can be started any more, one was, unless there is none
pub first_of : (nodes : List Node) (job : Job) (progress : Progress) → IsGoing nodes job progress → (CanStart job (standing_of progress) → ⊥) → progress.next ≡ 0 → length job.splits.items ≡ 0
first_of nodes job progress is all zero = ⊎_elim (λ (some : 0 < length job.splits.items). absurd (more some)) (λ (none : length job.splits.items ≤ 0). empty none) (cases_lt 0 (length job.splits.items))
  where
    empty : length job.splits.items ≤ 0 → length job.splits.items ≡ 0
    empty none = omega (arith, none)

    not_after : (a : ActiveSplit) → Among a progress.active.items → ⊥
    not_after a among = omega (arith, zero, is.serves.active_after a among)

    more : 0 < length job.splits.items → ⊥
    more some = all (omega (arith, zero, some), inl (none_active progress.active.items not_after))

pub running_of : (nodes : List Node) (job : Job) (progress : Progress) → IsGoing nodes job progress → progress.needed.noted ≡ true → (CanStart job (standing_of progress) → ⊥) → IsRunning nodes job progress
running_of nodes job progress is noted all = record {
  first = λ again zero. first_of nodes job progress is all zero;
  unforgotten = λ not. absurd (true_false progress.needed.noted noted not);
  going = is;
}

pub running_on : (result : Result (Unit {0}) AllocError) (nodes : List Node) (job : Job) (old new : Progress) → old.needed.noted ≡ true → OnOk result (IsGoing nodes job new) → OnOk result (new.needed.noted ≡ old.needed.noted) → OnOk result (CanStart job (standing_of new) → ⊥) → OnOk result (IsRunning nodes job new)
running_on (Ok x) nodes job old new noted going same all = running_of nodes job new going (same ∙ noted) all
running_on (Err e) nodes job old new noted going same all = tt

pub holding_of : (nodes : List Node) (job : Job) (progress : Progress) → progress.store.columns.ready ≡ true → progress.needed.noted ≡ true → (CanStart job (standing_of progress) → ⊥) → IsGoing nodes job progress → IsHolding nodes job progress
holding_of nodes job progress ready noted all is = record { ready = ready; first = λ zero. first_of nodes job progress is all zero; noted = noted; going = is }

-- ---- what was handed in is looked through

pub told_looked : (nodes : List Node) (job : Job) (first : Standing) (old new : Progress) → KeepsStanding old new → KeepsTold nodes job first (standing_of old) → KeepsTold nodes job first (standing_of new)
told_looked nodes job first old new keeps told outside is =
    let W : Wholes → Type 0 = λ w. IsOf nodes job.offset old.reads.wanted old.store.columns.all w.made outside in
    let L : List Kept → Type 0 = λ ks. IsOf nodes job.offset old.reads.wanted ks new.wholes.made outside in
    let R : List Wanted → Type 0 = λ ws. IsOf nodes job.offset ws new.store.columns.all new.wholes.made outside in
    let wholes : W new.wholes = subst W (sym keeps.wholes) (told outside is) in
    let leaves : L new.store.columns.all = subst L (sym keeps.leaves) wholes in
    subst R (sym keeps.wanted) leaves

pub grows_looked : (first : List Wanted) (old new : Progress) → KeepsStanding old new → Grows first old.reads.wanted → Grows first new.reads.wanted
grows_looked first old new keeps grows = subst (Grows first) (sym keeps.wanted) grows

pub bound_looked : (job : Job) (first : Standing) (old new : Progress) → KeepsStanding old new → KeepsBound job first (standing_of old) → KeepsBound job first (standing_of new)
bound_looked job first old new keeps bound =
    let B : List SplitLeft → Type 0 = λ ss. length ss ≤ max (length first.started) (max 1 job.max_active) in
    subst B (sym keeps.started) bound

pub starts_looked : (nodes : List Node) (job : Job) (first : Standing) (old new : Progress) → KeepsStanding old new → Starts nodes job first (standing_of old) → Starts nodes job first (standing_of new)
starts_looked nodes job first old new keeps starts =
    let splits = job.splits.items in
    let N : List SplitLeft → Type 0 = λ ss. AreAmong (active_of first) (map number_left ss) in
    let A : List SplitLeft → Type 0 = λ ss. (segment : ℕ) → IsAsked old.reads.wanted segment → IsAsked first.reads.wanted segment ⊎ IsWantedBy nodes job (map number_left ss) first.leaves segment in
    let W : List Wanted → Type 0 = λ ws. (segment : ℕ) → IsAsked ws segment → IsAsked first.reads.wanted segment ⊎ IsWantedBy nodes job (map number_left (map split_left new.active.items)) first.leaves segment in
    let wants : A (map split_left new.active.items) = subst A (sym keeps.started) starts.wants in
    record {
      left = ap (λ (ss : List SplitLeft). ss ++ map none_given (numbers_from new.next (drop new.next splits))) keeps.started ∙ ap (λ (n : ℕ). map split_left old.active.items ++ map none_given (numbers_from n (drop n splits))) keeps.next ∙ starts.left;
      active = subst N (sym keeps.started) starts.active;
      wants = subst W (sym keeps.wanted) wants;
      grows = subst (Grows first.reads.wanted) (sym keeps.wanted) starts.grows;
      handed = keeps.handed ∙ starts.handed;
      leaves = keeps.leaves ∙ starts.leaves;
    }

pub all_looked : (job : Job) (old new : Progress) → KeepsStanding old new → (CanStart job (standing_of old) → ⊥) → CanStart job (standing_of new) → ⊥
all_looked job old new keeps none can =
    let next : old.next < length job.splits.items = omega (arith, can.0, keeps.next) in
    let S : List SplitLeft → Type 0 = λ ss. (length ss ≡ 0) ⊎ (length ss < job.max_active) in
    none (next, subst S keeps.started can.1)

-- where nothing was started yet, all is as it was for the caller
pub starts_noted : (nodes : List Node) (job : Job) (old new : Progress) (needed : Needed) → Starts nodes job (standing_of (noted_as old needed)) (standing_of new) → Starts nodes job (standing_of old) (standing_of new)
starts_noted nodes job old new needed starts = record { left = starts.left; active = starts.active; wants = starts.wants; grows = starts.grows; handed = starts.handed; leaves = starts.leaves }

pub on_ok : (result : Result (Unit {0}) AllocError) (P : Type 0) → P → OnOk result P
on_ok (Ok x) P is = is
on_ok (Err e) P is = tt
