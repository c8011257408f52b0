-- Once all rows were given, all is let go: no row is left that needs anything.
use Rattle.std.proofs.Common.{◌≡◌, ℕ, zero, suc, ◌<◌, ◌≤◌, inr, List, [], ◌∷◌, Option, Some, None, length, map, refl, sym, ap, ◌∙◌, subst, arith}
use Rattle.std.specs.List.{remove, slice_get}
use Rattle.std.proofs.lemmas.Option.{same_Some, slice_get_within}
use Rattle.vx_plan.specs.Nodes.{Node}
use Rattle.vx_steps.specs.declared.jobs.ActiveSplit.{ActiveSplit}
use Rattle.vx_steps.specs.declared.jobs.Job.{Job}
use Rattle.vx_steps.specs.declared.jobs.Progress.{Progress}
use Rattle.vx_steps.specs.declared.splits.Split.{Split}
use Rattle.vx_steps.specs.Held.{AreTyped}
use Rattle.vx_steps.specs.Kept.{IsKept}
use Rattle.vx_steps.specs.KeptData.{Kept}
use Rattle.vx_steps.specs.Leavings.{IsReadBehind}
use Rattle.vx_steps.specs.LettingGo.{Ends}
use Rattle.vx_steps.specs.Needed.{still_reads, IsLacked, KeepsNeeded}
use Rattle.vx_steps.specs.Needs.{Among}
use Rattle.vx_steps.specs.OpenSegments.{AreCounted}
use Rattle.vx_steps.specs.Places.{place_in}
use Rattle.vx_steps.specs.ReadTable.{bytes_of}
use Rattle.vx_steps.specs.ReadTableData.{Wanted}
use Rattle.vx_steps.specs.Running.{IsEnded, IsLast, IsPassing, IsRunning, IsSound, Settles}
use Rattle.vx_steps.specs.Standings.{left_of, split_left, standing_of, SplitLeft}
use Rattle.vx_steps.specs.StillRead.{IsTallyOf}
use Rattle.vx_steps.specs.Wants.{IsAsked}
use Rattle.vx_steps.proofs.Beginning.{none_among, none_left}
use Rattle.vx_steps.proofs.Releasing.{among_at, got_among}
use Rattle.vx_steps.proofs.Settling.{map_removed, needs_kept, not_both}

-- a leaf that the row behind the splits reads doesn't stand there
not_apart : (nodes : List Node) (job : Job) (old : Progress) → KeepsNeeded nodes job old → (n : ℕ) → IsReadBehind nodes job n → place_in old.needed.apart.places n ≡ None
not_apart nodes job old keeps n read = by (place_in old.needed.apart.places n) refl
  where
    by : (o : Option ℕ) → place_in old.needed.apart.places n ≡ o → place_in old.needed.apart.places n ≡ None
    by None at = at
    by (Some place) at = absurd (keeps.apart n place at read)

-- ---- all rows are given

pub are_given : (job : Job) (place : ℕ) (progress : Progress) (active : ActiveSplit) (split : Split) → IsLast job progress → slice_get progress.active.items place ≡ Some active → slice_get job.splits.items active.split ≡ Some split → length split.mask ≤ active.at.done → IsEnded job place progress
are_given job place progress active split last at split_at past = record {
  last = last;
  given = λ other own got own_at.
      let same : active ≡ other = same_Some active other (sym at ∙ got) in
      let P : ActiveSplit → Type 0 = λ a. slice_get job.splits.items a.split ≡ Some split in
      let it : split ≡ own = same_Some split own (sym (subst P same split_at) ∙ own_at) in
      let A : ActiveSplit → Type 0 = λ a. length split.mask ≤ a.at.done in
      let S : Split → Type 0 = λ s. length s.mask ≤ other.at.done in
      subst S it (subst A same past);
}

-- the only one in a list
one_gone : {X : Type 0} (xs : List X) (i : ℕ) → length xs ≡ 1 → i < length xs → remove xs i ≡ []
one_gone [] i one inside = absurd (omega arith)
one_gone (x ∷ []) zero one inside = refl
one_gone (x ∷ []) (suc i) one inside = absurd (omega arith)
one_gone (x ∷ (y ∷ xs)) i one inside = absurd (omega arith)

-- what stands in a list of one stands at each place of it
one_place : {X : Type 0} (xs : List X) (x : X) (i : ℕ) → length xs ≡ 1 → i < length xs → Among x xs → slice_get xs i ≡ Some x
one_place xs x i one inside among =
    let at = among_at xs x among in
    let same : at.0 ≡ i = omega (arith, at.1, one, inside) in
    subst (λ (k : ℕ). slice_get xs k ≡ Some x) same at.2

-- ---- what is true then

pub sound_ended : (nodes : List Node) (job : Job) (old new : Progress) → Ends old new → KeepsNeeded nodes job old → IsSound nodes job old → IsSound nodes job new
sound_ended nodes job old new ends keeps is = subst (IsSound nodes job) (sym ends.same) (record {
  known = is.known;
  inside = is.inside;
  fits = is.fits;
  typed_given = is.typed_given;
  typed_leaves = subst (AreTyped nodes) (sym ends.leaves.all) is.typed_leaves;
  typed_made = is.typed_made;
  apart_made = is.apart_made;
  apart_used = is.apart_used;
  uses = is.uses;
  counted = subst (λ (ks : List Kept). AreCounted nodes ks old.store.segments) (sym ends.leaves.all) is.counted;
  behind = λ n read kept.
      let was = is.behind n read (subst (λ (ks : List Kept). IsKept ks n) ends.leaves.all kept) in
      (was.0, ends.leaves.stays n (not_apart nodes job old keeps n read) ∙ was.1);
})

-- the scan after its end
abbrev ended : Progress → Progress → Progress
ended old new = record old { active = new.active; reads = new.reads; store = record old.store { columns = new.store.columns }; needed = record old.needed { still = new.needed.still; held = new.needed.held } }

pub running_ended : (nodes : List Node) (job : Job) (place : ℕ) (old new : Progress) → place < length old.active.items → Ends old new → IsEnded job place old → IsPassing nodes job place old → IsRunning nodes job new
running_ended nodes job place old new inside ends over is = subst (IsRunning nodes job) (sym ends.same) (record {
  first = λ noted none.
      let some : 0 < old.next = begun in
      let zero_next : old.next ≡ 0 = none in
      absurd (omega arith);
  unforgotten = λ not. not_both old.needed.noted is.noted not;
  going = record {
    ready = λ _. ends.leaves.ready ∙ is.ready;
    noted = λ _. is.noted;
    actives = λ active among. absurd (none_among new.active.items active ends.active among);
    serves = record {
      gone_late = λ segment gone. inr (λ number split read behind at reads e.
          let less : number < length job.splits.items = slice_get_within job.splits.items number split at in
          let past : old.next ≤ number = behind in
          let all : old.next ≡ length job.splits.items = over.last.0 in
          absurd (omega arith));
      passed_late = λ _. over.last.0;
      served = λ active among. absurd (none_among new.active.items active ends.active among);
      active_after = λ active among. begun;
      gone_after = λ segment gone. begun;
    };
    keeps = record {
      tallies = subst (λ (actives : List ActiveSplit). IsTallyOf new.needed.still (still_reads actives)) (sym ends.active) ends.still;
      unnoted = is.keeps.unnoted;
      later = is.keeps.later;
      noted = is.keeps.noted;
      found = is.keeps.found;
      row = is.keeps.row;
      apart = is.keeps.apart;
      forgotten = λ n all none needed. nothing_left needed.0 needed.1;
      none_before = λ e. ends.held;
      bytes = λ s bytes came here. absurd (here (ends.reads.gone s bytes (ap (λ (ws : List Wanted). bytes_of ws s) (sym ends.reads.wanted) ∙ came)));
      room = λ s asked. ends.room s (is.keeps.room s (asked_before s asked));
      asked = λ s asked none. absurd (not_lacked s (is.keeps.asked s (asked_before s asked) (ap (λ (ws : List Wanted). bytes_of ws s) (sym ends.reads.wanted) ∙ none)));
    };
    needed = λ s holds. absurd (none_among new.needed.held.held s ends.held holds);
    holds = λ s bytes came left. absurd (nothing_left left.0 left.1);
    came = λ s holds. absurd (none_among new.needed.held.held s ends.held holds);
  };
})
  where
    one : length old.active.items ≡ 1
    one = over.last.1

    begun : 0 < old.next
    begun = by old.active.items refl one
      where
        by : (actives : List ActiveSplit) → actives ≡ old.active.items → length actives ≡ 1 → 0 < old.next
        by [] same count = absurd (omega (arith, count))
        by (active ∷ actives) same count = is.serves.active_after active (got_among old.active.items 0 active (ap (λ (xs : List ActiveSplit). slice_get xs 0) (sym same)))

    nothing_left : (s : SplitLeft) → Among s (left_of job (standing_of (ended old new))) → ⊥
    nothing_left s among =
        let all : length job.splits.items ≤ old.next = omega (arith, over.last.0) in
        none_among (left_of job (standing_of (ended old new))) s (none_left job (standing_of (ended old new)) (ap (map split_left) ends.active) all) among

    asked_before : (s : ℕ) → IsAsked new.reads.wanted s → IsAsked old.reads.wanted s
    asked_before s asked = subst (λ (ws : List Wanted). IsAsked ws s) ends.reads.wanted asked

    not_lacked : (s : ℕ) → IsLacked old s → ⊥
    not_lacked s (active, among, (need, there, e, none)) =
        let at = one_place old.active.items active place one inside among in
        let started = is.this active at in
        needs_kept nodes job place old active started.split at started.at (over.given active started.split at started.at) is need there none

pub settles_ended : (nodes : List Node) (job : Job) (place : ℕ) (old new : Progress) (active : ActiveSplit) → place < length old.active.items → slice_get old.active.items place ≡ Some active → Ends old new → IsEnded job place old → IsPassing nodes job place old → Settles job place active.split old new
settles_ended nodes job place old new active inside at ends over is =
    let started = is.this active at in
    record {
      active = active;
      at = at;
      number_is = refl;
      split = started.split;
      split_at = started.at;
      started = inr (over.given active started.split at started.at, ap (map split_left) (ends.active ∙ sym (one_gone old.active.items place over.last.1 inside)) ∙ map_removed split_left old.active.items place);
      next = ap (λ (p : Progress). p.next) ends.same;
      wanted = ends.reads.wanted;
      handed = ends.reads.handed;
      leaves = ends.leaves.all;
      wholes = ap (λ (p : Progress). p.wholes) ends.same;
    }
