-- Which splits are left when one is started, and what is wanted for it.
use Rattle.std.proofs.Common.{◌≡◌, ℕ, suc, ◌+◌, ◌<◌, ◌≤◌, ◌==◌, max, Bool, true, false, ◌⊎◌, inl, inr, ⊎_elim, List, [], ◌∷◌, ◌++◌, map, drop, Some, length, get_or, refl, sym, ap, ◌∙◌, subst, arith, add-one}
use Rattle.std.specs.Prelude.{if◌then◌else◌}
use Rattle.std.specs.List.{slice_get}
use Rattle.std.proofs.Math.Seq.{drop-cons}
use Rattle.std.proofs.lemmas.List.{length-map}
use Rattle.std.proofs.lemmas.Option.{slice_get-get_or}
use Rattle.vx_base.specs.Masks.{true_count}
use Rattle.vx_plan.specs.Nodes.{Node}
use Rattle.vx_steps.specs.declared.jobs.ActiveSplit.{ActiveSplit}
use Rattle.vx_steps.specs.declared.jobs.Job.{Job}
use Rattle.vx_steps.specs.declared.jobs.Progress.{Progress}
use Rattle.vx_steps.specs.declared.leaf_reads.LeafRead.{LeafRead}
use Rattle.vx_steps.specs.declared.leaf_stores.LeafStore.{LeafStore}
use Rattle.vx_steps.specs.declared.splits.Split.{Split}
use Rattle.vx_steps.specs.declared.wholes.Wholes.{Wholes}
use Rattle.vx_steps.specs.Jobs.{active_of, number_left, CanStart, IsWantedBy, KeepsBound, Starts}
use Rattle.vx_steps.specs.KeptData.{Kept}
use Rattle.vx_steps.specs.Needs.{Among, AreAmong}
use Rattle.vx_steps.specs.ReadTableData.{Wanted}
use Rattle.vx_steps.specs.Running.{IsSound}
use Rattle.vx_steps.specs.Standings.{none_given, numbers_from, split_left, standing_of, SplitLeft, Standing}
use Rattle.vx_steps.specs.Turns.{ReadsFor}
use Rattle.vx_steps.specs.Wants.{AreNeeds, IsAsked, IsNeeded}

pub got_at : {X : Type 0} (xs : List X) (i : ℕ) (x : X) → i < length xs → x ≡ get_or xs i x → slice_get xs i ≡ Some x
got_at xs i x inside is = slice_get-get_or xs i x inside ∙ ap Some (sym is)

-- ---- the splits that are left

numbers_step : (splits : List Split) (k : ℕ) (split : Split) → k < length splits → split ≡ get_or splits k split → numbers_from k (drop k splits) ≡ numbers_from k (split ∷ drop (k + 1) splits)
numbers_step splits k split inside is =
    let e : drop k splits ≡ split ∷ drop (k + 1) splits = rw add-one (drop-cons splits k split inside ∙ ap (λ (s : Split). s ∷ drop (suc k) splits) (sym is)) in
    ap (numbers_from k) e

numbers_take : (splits : List Split) (k : ℕ) (split : Split) → k < length splits → split ≡ get_or splits k split → (true_count split.mask == 0) ≡ false → numbers_from k (drop k splits) ≡ k ∷ numbers_from (k + 1) (drop (k + 1) splits)
numbers_take splits k split inside is some = numbers_step splits k split inside is ∙ ap (λ (b : Bool). if b then numbers_from (k + 1) (drop (k + 1) splits) else k ∷ numbers_from (k + 1) (drop (k + 1) splits)) some

numbers_pass : (splits : List Split) (k : ℕ) (split : Split) → k < length splits → split ≡ get_or splits k split → (true_count split.mask == 0) ≡ true → numbers_from k (drop k splits) ≡ numbers_from (k + 1) (drop (k + 1) splits)
numbers_pass splits k split inside is none = numbers_step splits k split inside is ∙ ap (λ (b : Bool). if b then numbers_from (k + 1) (drop (k + 1) splits) else k ∷ numbers_from (k + 1) (drop (k + 1) splits)) none

-- the splits that are left, where these were started and this is the next one
abbrev pub left_from : List ActiveSplit → ℕ → List Split → List SplitLeft
left_from actives next splits = map split_left actives ++ map none_given (numbers_from next (drop next splits))

map_pushed : (actives : List ActiveSplit) (active : ActiveSplit) (more : List SplitLeft) → map split_left (actives ++ active ∷ []) ++ more ≡ map split_left actives ++ (split_left active ∷ more)
map_pushed [] active more = refl
map_pushed (a ∷ actives) active more = ap (λ (ss : List SplitLeft). split_left a ∷ ss) (map_pushed actives active more)

abbrev left_at : ℕ → ℕ → SplitLeft
left_at number given = record { number = number; given = given }

none_of_it : (active : ActiveSplit) (next : ℕ) → active.split ≡ next → active.at.done ≡ 0 → split_left active ≡ none_given next
none_of_it active next number done = ap (λ (n : ℕ). left_at n active.at.done) number ∙ ap (left_at next) done

-- the next split is started
pub left_started : (splits : List Split) (split : Split) (actives : List ActiveSplit) (active : ActiveSplit) (next : ℕ) → next < length splits → split ≡ get_or splits next split → (true_count split.mask == 0) ≡ false → active.split ≡ next → active.at.done ≡ 0 → left_from (actives ++ active ∷ []) (next + 1) splits ≡ left_from actives next splits
left_started splits split actives active next inside is some number done =
    let rest : List SplitLeft = map none_given (numbers_from (next + 1) (drop (next + 1) splits)) in
    let here : split_left active ∷ rest ≡ map none_given (numbers_from next (drop next splits)) = ap (λ (s : SplitLeft). s ∷ rest) (none_of_it active next number done) ∙ sym (ap (map none_given) (numbers_take splits next split inside is some)) in
    map_pushed actives active rest ∙ ap (λ (ss : List SplitLeft). map split_left actives ++ ss) here

-- or passed by
pub left_passed : (splits : List Split) (split : Split) (actives : List ActiveSplit) (next : ℕ) → next < length splits → split ≡ get_or splits next split → (true_count split.mask == 0) ≡ true → left_from actives (next + 1) splits ≡ left_from actives next splits
left_passed splits split actives next inside is none = ap (λ (ns : List ℕ). map split_left actives ++ map none_given ns) (sym (numbers_pass splits next split inside is none))

-- the numbers of active splits, when one more is active
pub still_pushed : (actives : List ActiveSplit) (active : ActiveSplit) → AreAmong (map number_left (map split_left actives)) (map number_left (map split_left (actives ++ active ∷ [])))
still_pushed [] active n m = absurd m
still_pushed (a ∷ actives) active n (inl e) = inl e
still_pushed (a ∷ actives) active n (inr m) = inr (still_pushed actives active n m)

pub pushed_among : (actives : List ActiveSplit) (active : ActiveSplit) → Among active.split (map number_left (map split_left (actives ++ active ∷ [])))
pushed_among [] active = inl refl
pushed_among (a ∷ actives) active = inr (pushed_among actives active)

-- as many are active as may be, when one more is started where one can be
pub bound_more : (job : Job) (first : Standing) (mid new : Progress) → KeepsBound job first (standing_of mid) → CanStart job (standing_of mid) → length new.active.items ≤ length mid.active.items + 1 → KeepsBound job first (standing_of new)
bound_more job first mid new bound can more = by can.1
  where
    before : length (map split_left mid.active.items) ≡ length mid.active.items
    before = length-map mid.active.items split_left

    after : length (map split_left new.active.items) ≡ length new.active.items
    after = length-map new.active.items split_left

    by : (length (map split_left mid.active.items) ≡ 0) ⊎ (length (map split_left mid.active.items) < job.max_active) → length (map split_left new.active.items) ≤ max (length first.started) (max 1 job.max_active)
    by (inl none) = omega (arith, before, after, more, none)
    by (inr fewer) = omega (arith, before, after, more, fewer)

-- ---- what is wanted

-- what a started split wants is read for it
pub wants_split : (nodes : List Node) (job : Job) (leaves : List Kept) (old new : List Wanted) (number : ℕ) (numbers : List ℕ) (split : Split) (needs : List LeafRead) → Among number numbers → slice_get job.splits.items number ≡ Some split → AreNeeds (ReadsFor nodes job split) needs →
    ((segment : ℕ) → IsAsked new segment → IsAsked old segment ⊎ IsNeeded needs leaves segment) → (segment : ℕ) → IsAsked new segment → IsAsked old segment ⊎ IsWantedBy nodes job numbers leaves segment
wants_split nodes job leaves old new number numbers split needs among at are only segment asked =
    ⊎_elim (λ (a : IsAsked old segment). inl a) (λ (n : IsNeeded needs leaves segment). inr (record { number = number; split = split; at = at; read = n.0; reads = are.only n.0 n.1; not_kept = n.2; segment_is = n.3 }, among)) (only segment asked)

pub starts_then : (nodes : List Node) (job : Job) (old mid new : Standing) → Starts nodes job old mid → Starts nodes job mid new → Starts nodes job old new
starts_then nodes job old mid new first second =
    let P : List Kept → Type 0 = λ leaves. (segment : ℕ) → IsAsked new.reads.wanted segment → IsAsked mid.reads.wanted segment ⊎ IsWantedBy nodes job (active_of new) leaves segment in
    let wants : P old.leaves = subst P first.leaves second.wants in
    record {
      left = second.left ∙ first.left;
      active = λ number among. second.active number (first.active number among);
      wants = λ segment asked. ⊎_elim (λ (a : IsAsked mid.reads.wanted segment). wanted_before segment (first.wants segment a)) (λ (w : IsWantedBy nodes job (active_of new) old.leaves segment). inr w) (wants segment asked);
      grows = λ place w at. second.grows place w (first.grows place w at);
      handed = second.handed ∙ first.handed;
      leaves = second.leaves ∙ first.leaves;
    }
  where
    wanted_before : (segment : ℕ) → IsAsked old.reads.wanted segment ⊎ IsWantedBy nodes job (active_of mid) old.leaves segment → IsAsked old.reads.wanted segment ⊎ IsWantedBy nodes job (active_of new) old.leaves segment
    wanted_before segment (inl asked) = inl asked
    wanted_before segment (inr (read, among)) = inr (read, second.active read.number among)

-- ---- what is sound stays so

-- where the columns of leaves and the whole values are the same
pub sound_with : (nodes : List Node) (job : Job) (old new : Progress) → new.store ≡ old.store → new.wholes ≡ old.wholes → IsSound nodes job old → IsSound nodes job new
sound_with nodes job old new store wholes is =
    let S : LeafStore → Wholes → Type 0 = λ s w. IsSound nodes job (record { next = new.next; active = new.active; reads = new.reads; store = s; wholes = w; needed = new.needed }) in
    let own : S old.store old.wholes = record { known = is.known; inside = is.inside; fits = is.fits; typed_given = is.typed_given; typed_leaves = is.typed_leaves; typed_made = is.typed_made; apart_made = is.apart_made; apart_used = is.apart_used; uses = is.uses; counted = is.counted; behind = is.behind } in
    let with_store : S new.store old.wholes = subst (λ (s : LeafStore). S s old.wholes) (sym store) own in
    subst (λ (w : Wholes). S new.store w) (sym wholes) with_store
