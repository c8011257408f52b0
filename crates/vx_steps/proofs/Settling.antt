-- Once its needs are passed, a split whose rows were given goes on, and is active no more where none of them is left.
use Rattle.std.proofs.Common.{◌≡◌, Global, Vec, ℕ, zero, suc, ◌<◌, ◌≤◌, ◌⊎◌, inl, inr, ⊎_elim, true, false, List, [], ◌∷◌, Some, None, ◌+◌, Bool, length, map, drop, refl, sym, ap, ◌∙◌, subst, arith}
use Rattle.std.specs.List.{remove, slice_get}
use Rattle.std.specs.Option.{option_map}
use Rattle.std.proofs.lemmas.Bool.{cases_eq}
use Rattle.std.proofs.lemmas.List.{length-map}
use Rattle.std.proofs.lemmas.Option.{same_Some, slice_get-map, slice_get_within}
use Rattle.vx_plan.specs.Nodes.{Node}
use Rattle.vx_plan.specs.Plans.{plan_at}
use Rattle.vx_steps.specs.declared.jobs.ActiveSplit.{ActiveSplit}
use Rattle.vx_steps.specs.declared.jobs.Job.{Job}
use Rattle.vx_steps.specs.declared.jobs.Progress.{Progress}
use Rattle.vx_steps.specs.declared.leaf_reads.LeafRead.{LeafRead}
use Rattle.vx_steps.specs.declared.placed_reads.PlacedRead.{PlacedRead}
use Rattle.vx_steps.specs.declared.splits.Split.{Split}
use Rattle.vx_steps.specs.Given.{handed_by}
use Rattle.vx_steps.specs.Kept.{kept_at}
use Rattle.vx_steps.specs.LettingGo.{KeepsStanding}
use Rattle.vx_steps.specs.Needed.{open_reads, still_reads, IsLacked}
use Rattle.vx_steps.specs.Needs.{Among}
use Rattle.vx_steps.specs.Pieces.{piece_of, read_of, IsPlaced}
use Rattle.vx_steps.specs.Running.{ArePassedAt, IsActive, IsPassing, IsRunning, IsStarted, Settles}
use Rattle.vx_steps.specs.Standings.{left_of, none_given, numbers_from, split_left, standing_of, SplitLeft}
use Rattle.vx_steps.specs.Steps.{IsReadByRest}
use Rattle.vx_steps.specs.StillRead.{all_reads, IsTallyOf, SegmentIsRead}
use Rattle.vx_steps.specs.Turns.{ReadsFor}
use Rattle.vx_steps.specs.Visits.{Visits, IsLeafRead}
use Rattle.vx_steps.proofs.AllReads.{all_removed}
use Rattle.vx_steps.proofs.OpenReads.{left_row, still_needed}
use Rattle.vx_steps.proofs.Releasing.{among_at, got_among, not_kept}
use Rattle.vx_steps.proofs.Selecting.{among_back, among_front, among_split}

-- ---- one element less

none_dropped : {X : Type 0} (xs : List X) → drop zero xs ≡ xs
none_dropped [] = refl
none_dropped (x ∷ xs) = refl

-- what is left stands at another place
removed_at : {X : Type 0} (xs : List X) (i : ℕ) (x : X) → Among x (remove xs i) → (j : ℕ) × (slice_get xs j ≡ Some x) × (j ≡ i → ⊥)
removed_at [] zero x among = absurd among
removed_at [] (suc i) x among = absurd among
removed_at (y ∷ xs) zero x among =
    let at = among_at xs x (subst (λ (ys : List _). Among x ys) (none_dropped xs) among) in
    (suc at.0, at.2, λ e. absurd (omega arith))
removed_at (y ∷ xs) (suc i) x (inl e) = (0, ap Some e, λ z. absurd (omega arith))
removed_at (y ∷ xs) (suc i) x (inr more) =
    let r = removed_at xs i x more in
    (suc r.0, r.1, λ e. r.2 (omega arith))

-- and the others are left
among_removed : {X : Type 0} (xs : List X) (i : ℕ) (y x : X) → slice_get xs i ≡ Some y → Among x xs → Among x (remove xs i) ⊎ (y ≡ x)
among_removed [] i y x at among = absurd among
among_removed (z ∷ xs) zero y x at (inl e) = inr (sym (same_Some z y at) ∙ e)
among_removed (z ∷ xs) zero y x at (inr more) = inl (subst (λ (ys : List _). Among x ys) (sym (none_dropped xs)) more)
among_removed (z ∷ xs) (suc i) y x at (inl e) = inl (inl e)
among_removed (z ∷ xs) (suc i) y x at (inr more) = ⊎_elim (λ (a : Among x (remove xs i)). inl (inr a)) (λ (e : y ≡ x). inr e) (among_removed xs i y x at more)

pub map_removed : {X Y : Type 0} (f : X → Y) (xs : List X) (i : ℕ) → map f (remove xs i) ≡ remove (map f xs) i
map_removed f [] zero = refl
map_removed f [] (suc i) = refl
map_removed f (x ∷ xs) zero = ap (map f) (none_dropped xs) ∙ sym (none_dropped (map f xs))
map_removed f (x ∷ xs) (suc i) = ap (λ (ys : List _). f x ∷ ys) (map_removed f xs i)

got_mapped : {X Y : Type 0} (f : X → Y) (xs : List X) (i : ℕ) (y : Y) → slice_get (map f xs) i ≡ Some y → (x : X) × (slice_get xs i ≡ Some x) × (f x ≡ y)
got_mapped f [] i y at = absurd cc
got_mapped f (x ∷ xs) zero y at = (x, refl, same_Some (f x) y at)
got_mapped f (x ∷ xs) (suc i) y at = got_mapped f xs i y at

nothing : {X : Type 0} (xs : List X) → ((x : X) → Among x xs → ⊥) → xs ≡ []
nothing [] none = refl
nothing (x ∷ xs) none = absurd (none x (inl refl))

-- ---- the split of the place

pub not_both : {A : Type 0} (noted : Bool) → noted ≡ true → noted ≡ false → A
not_both noted one other = let both : true ≡ false = sym one ∙ other in absurd cc

split_is : (nodes : List Node) (job : Job) (progress : Progress) (active : ActiveSplit) (split : Split) → slice_get job.splits.items active.split ≡ Some split → (started : IsStarted nodes job progress.store.columns progress.reads.wanted progress.wholes active) → started.split ≡ split
split_is nodes job progress active split at started = same_Some started.split split (sym started.at ∙ at)

-- where rows of it are left, it is active
active_on : (nodes : List Node) (job : Job) (place : ℕ) (progress : Progress) (active : ActiveSplit) (split : Split) → slice_get progress.active.items place ≡ Some active → slice_get job.splits.items active.split ≡ Some split → active.at.done < length split.mask → IsPassing nodes job place progress → ArePassedAt place progress → IsActive nodes job progress.store.columns progress.reads.wanted progress.wholes active
active_on nodes job place progress active split at split_at less is passed =
    let started = is.this active at in
    let rows : active.at.row ≡ active.at.done = started.given.begun (is.begun active at) in
    let inside : active.at.row < length split.mask = omega arith in
    record {
      started = started;
      left = subst (λ (s : Split). active.at.row < length s.mask) (sym (split_is nodes job progress active split split_at started)) inside;
      rest = passed.rest active at;
    }

-- All splits are active then.
pub goes_on : (nodes : List Node) (job : Job) (place : ℕ) (progress : Progress) (active : ActiveSplit) (split : Split) → slice_get progress.active.items place ≡ Some active → slice_get job.splits.items active.split ≡ Some split → active.at.done < length split.mask → IsPassing nodes job place progress → ArePassedAt place progress → IsRunning nodes job progress
goes_on nodes job place progress active split at split_at less is passed = record {
  first = λ noted none. let begun : 0 < progress.next = is.serves.active_after active (got_among progress.active.items place active at) in absurd (omega arith);
  unforgotten = λ not. not_both progress.needed.noted is.noted not;
  going = record {
    ready = λ _. is.ready;
    noted = λ _. is.noted;
    actives = are;
    serves = is.serves;
    keeps = is.keeps;
    needed = λ s holds. ⊎_elim (λ (r : IsReadByRest nodes job (standing_of progress) s). r) (λ (r : SegmentIsRead s (still_reads progress.active.items)). still_needed nodes job progress are s r) (is.needed s holds);
    holds = is.holds;
    came = is.came;
  };
}
  where
    own : IsActive nodes job progress.store.columns progress.reads.wanted progress.wholes active
    own = active_on nodes job place progress active split at split_at less is passed

    are : (a : ActiveSplit) → Among a progress.active.items → IsActive nodes job progress.store.columns progress.reads.wanted progress.wholes a
    are a among =
        let i = among_at progress.active.items a among in
        ⊎_elim
        (λ (e : i.0 ≡ place). subst (λ (x : ActiveSplit). IsActive nodes job progress.store.columns progress.reads.wanted progress.wholes x) (same_Some active a (sym at ∙ (ap (slice_get progress.active.items) (sym e) ∙ i.2))) own)
        (λ (apart : i.0 ≡ place → ⊥). is.others i.0 a i.2 apart)
        (cases_eq i.0 place)

-- ---- no row of it is left

need_within : (nodes : List Node) (job : Job) (split : Split) (need : PlacedRead) → IsPlaced nodes job.given job.plan split.rows.start split.mask need → need.last < length split.mask
need_within nodes job split need (inl d) = slice_get_within split.mask need.last true d.2
need_within nodes job split need (inr i) = slice_get_within split.mask need.last true i.1

need_before : (nodes : List Node) (job : Job) (split : Split) (need : PlacedRead) (done : ℕ) → 0 < done → length split.mask ≤ done → IsPlaced nodes job.given job.plan split.rows.start split.mask need → need.from < done
need_before nodes job split need done begun past (inl d) =
    let inside : need.from < length split.mask = slice_get_within split.mask need.from true d.0 in
    omega arith
need_before nodes job split need done begun past (inr i) =
    let first : need.from ≡ 0 = i.0 in
    omega arith

-- each leaf is kept that a split needs of which no row is left
pub needs_kept : (nodes : List Node) (job : Job) (place : ℕ) (progress : Progress) (active : ActiveSplit) (split : Split) → slice_get progress.active.items place ≡ Some active → slice_get job.splits.items active.split ≡ Some split → length split.mask ≤ active.at.done → IsPassing nodes job place progress →
    (need : PlacedRead) → Among need active.needs.items → kept_at progress.store.columns.all need.leaf ≡ None → ⊥
needs_kept nodes job place progress active split at split_at past is need among none =
    let started = is.this active at in
    let behind : length started.split.mask ≤ active.at.done = subst (λ (s : Split). length s.mask ≤ active.at.done) (sym (split_is nodes job progress active split split_at started)) past in
    let i = among_at active.needs.items need among in
    let early : need.from < active.at.done = need_before nodes job started.split need active.at.done (is.begun active at) behind (started.placed.only need among) in
    not_kept progress.store.columns.all need.leaf none (started.decoded i.0 need (started.given.passed i.0 need i.2 early) i.2)

-- A split of which no row is left has no open need, and each leaf that it needs is kept.
record IsOver (nodes : List Node) (job : Job) (progress : Progress) (active : ActiveSplit) : Type 0 where
  pub rest : active.rest ≡ []
  pub kept : (need : PlacedRead) → Among need active.needs.items → kept_at progress.store.columns.all need.leaf ≡ None → ⊥
  pub none : (split : Split) (read : LeafRead) → slice_get job.splits.items active.split ≡ Some split → ReadsFor nodes job (piece_of split active.at.done (length split.mask)) read → ⊥

over : (nodes : List Node) (job : Job) (place : ℕ) (progress : Progress) (active : ActiveSplit) (split : Split) → slice_get progress.active.items place ≡ Some active → slice_get job.splits.items active.split ≡ Some split → length split.mask ≤ active.at.done → IsPassing nodes job place progress → ArePassedAt place progress → IsOver nodes job progress active
over nodes job place progress active split at split_at past is passed = record {
  rest = nothing active.rest (λ need among.
      let own = (passed.rest active at).only need among in
      let late = own.1 in
      let inside = need_within nodes job started.split need (started.placed.only need own.0) in
      let all : length started.split.mask ≤ active.at.done = behind in
      absurd (omega arith));
  kept = needs_kept nodes job place progress active split at split_at past is;
  none = λ other read other_at reads. no_row (Visits (IsLeafRead read) (handed_by nodes (Some job.given)) (plan_at nodes job.plan)) other (same_Some split other (sym split_at ∙ other_at)) (left_row (Visits (IsLeafRead read) (handed_by nodes (Some job.given)) (plan_at nodes job.plan)) other.rows.start other.mask active.at.done reads);
}
  where
    started : IsStarted nodes job progress.store.columns progress.reads.wanted progress.wholes active
    started = is.this active at

    behind : length started.split.mask ≤ active.at.done
    behind = subst (λ (s : Split). length s.mask ≤ active.at.done) (sym (split_is nodes job progress active split split_at started)) past

    no_row : (F : ℕ → Type 0) (other : Split) → split ≡ other → (row : ℕ) × (active.at.done ≤ row) × (slice_get other.mask row ≡ Some true) × F (other.rows.start + row) → ⊥
    no_row F other same (row, late, chosen, v) =
        let inside : row < length other.mask = slice_get_within other.mask row true chosen in
        let all : length other.mask ≤ active.at.done = subst (λ (s : Split). length s.mask ≤ active.at.done) same past in
        absurd (omega arith)

-- without the split
abbrev pub left_with : Progress → Vec ActiveSplit Global → Progress
left_with old actives = record old { active = actives }

-- All that are left are active then.
pub is_left : (nodes : List Node) (job : Job) (place : ℕ) (old : Progress) (active : ActiveSplit) (split : Split) (actives : Vec ActiveSplit Global) → slice_get old.active.items place ≡ Some active → slice_get job.splits.items active.split ≡ Some split → length split.mask ≤ active.at.done → actives.items ≡ remove old.active.items place → IsPassing nodes job place old → ArePassedAt place old → IsRunning nodes job (left_with old actives)
is_left nodes job place old active split actives at split_at past same is passed = record {
  first = λ noted none.
      let some : 0 < old.next = begun in
      let zero_next : old.next ≡ 0 = none in
      absurd (omega arith);
  unforgotten = λ not. not_both old.needed.noted is.noted not;
  going = record {
    ready = λ _. is.ready;
    noted = λ _. is.noted;
    actives = are;
    serves = record {
      gone_late = is.serves.gone_late;
      passed_late = is.serves.passed_late;
      served = λ a m. is.serves.served a (in_old a m);
      active_after = λ a m. begun;
      gone_after = is.serves.gone_after;
    };
    keeps = record {
      tallies = subst (λ (rs : List LeafRead). IsTallyOf old.needed.still rs) (sym reads_same) is.keeps.tallies;
      unnoted = is.keeps.unnoted;
      later = is.keeps.later;
      noted = is.keeps.noted;
      found = is.keeps.found;
      row = is.keeps.row;
      apart = is.keeps.apart;
      forgotten = λ n all none needed. is.keeps.forgotten n all none (needed.0, left_before needed.0 needed.1, needed.2);
      none_before = is.keeps.none_before;
      bytes = is.keeps.bytes;
      room = is.keeps.room;
      asked = λ s asked none. lacked s (is.keeps.asked s asked none);
    };
    needed = λ s holds. needed s (is.needed s holds);
    holds = λ s bytes came left. is.holds s bytes came (left.0, left_before left.0 left.1, left.2);
    came = is.came;
  };
}
  where
    gone : IsOver nodes job old active
    gone = over nodes job place old active split at split_at past is passed

    begun : 0 < old.next
    begun = is.serves.active_after active (got_among old.active.items place active at)

    in_removed : (a : ActiveSplit) → Among a actives.items → Among a (remove old.active.items place)
    in_removed a m = subst (λ (xs : List ActiveSplit). Among a xs) same m

    in_old : (a : ActiveSplit) → Among a actives.items → Among a old.active.items
    in_old a m =
        let i = removed_at old.active.items place a (in_removed a m) in
        got_among old.active.items i.0 a i.1

    are : (a : ActiveSplit) → Among a actives.items → IsActive nodes job old.store.columns old.reads.wanted old.wholes a
    are a m =
        let i = removed_at old.active.items place a (in_removed a m) in
        is.others i.0 a i.1 i.2

    got_reads : slice_get (map open_reads old.active.items) place ≡ Some []
    got_reads = slice_get-map open_reads old.active.items place ∙ ap (option_map open_reads) at ∙ ap (λ (xs : List PlacedRead). Some (map read_of xs)) gone.rest

    reads_same : still_reads actives.items ≡ still_reads old.active.items
    reads_same = ap still_reads same ∙ ap all_reads (map_removed open_reads old.active.items place) ∙ all_removed (map open_reads old.active.items) place got_reads

    lefts : map split_left actives.items ≡ remove (map split_left old.active.items) place
    lefts = ap (map split_left) same ∙ map_removed split_left old.active.items place

    left_before : (s : SplitLeft) → Among s (left_of job (standing_of (left_with old actives))) → Among s (left_of job (standing_of old))
    left_before s among = by (among_split s (map split_left actives.items) (map none_given (numbers_from old.next (drop old.next job.splits.items))) among)
      where
        by : Among s (map split_left actives.items) ⊎ Among s (map none_given (numbers_from old.next (drop old.next job.splits.items))) → Among s (left_of job (standing_of old))
        by (inl m) =
            let i = removed_at (map split_left old.active.items) place s (subst (λ (xs : List SplitLeft). Among s xs) lefts m) in
            among_front s (map split_left old.active.items) (map none_given (numbers_from old.next (drop old.next job.splits.items))) (got_among (map split_left old.active.items) i.0 s i.1)
        by (inr m) = among_back s (map split_left old.active.items) (map none_given (numbers_from old.next (drop old.next job.splits.items))) m

    lacked : (s : ℕ) → IsLacked old s → IsLacked (left_with old actives) s
    lacked s (b, m, (n, there, e, none)) = ⊎_elim
        (λ (h : Among b (remove old.active.items place)). (b, subst (λ (xs : List ActiveSplit). Among b xs) (sym same) h, (n, there, e, none)))
        (λ (is_it : active ≡ b). absurd (gone.kept n (subst (λ (x : ActiveSplit). Among n x.needs.items) (sym is_it) there) none))
        (among_removed old.active.items place active b at m)

    got_left : slice_get (map split_left old.active.items) place ≡ Some (split_left active)
    got_left = slice_get-map split_left old.active.items place ∙ ap (option_map split_left) at

    still_left : (s : SplitLeft) → (other : Split) (read : LeafRead) → slice_get job.splits.items s.number ≡ Some other → ReadsFor nodes job (piece_of other s.given (length other.mask)) read → Among s (left_of job (standing_of old)) → Among s (left_of job (standing_of (left_with old actives)))
    still_left s other read other_at reads among = by (among_split s (map split_left old.active.items) (map none_given (numbers_from old.next (drop old.next job.splits.items))) among)
      where
        front : Among s (map split_left actives.items) → Among s (left_of job (standing_of (left_with old actives)))
        front m = among_front s (map split_left actives.items) (map none_given (numbers_from old.next (drop old.next job.splits.items))) m

        by : Among s (map split_left old.active.items) ⊎ Among s (map none_given (numbers_from old.next (drop old.next job.splits.items))) → Among s (left_of job (standing_of (left_with old actives)))
        by (inl m) = ⊎_elim
            (λ (h : Among s (remove (map split_left old.active.items) place)). front (subst (λ (xs : List SplitLeft). Among s xs) (sym lefts) h))
            (λ (e : split_left active ≡ s).
            let at_number : slice_get job.splits.items active.split ≡ Some other = ap (λ (x : SplitLeft). slice_get job.splits.items x.number) e ∙ other_at in
            let R : SplitLeft → Type 0 = λ x. ReadsFor nodes job (piece_of other x.given (length other.mask)) read in
            absurd (gone.none other read at_number (subst R (sym e) reads)))
            (among_removed (map split_left old.active.items) place (split_left active) s got_left m)
        by (inr m) = among_back s (map split_left actives.items) (map none_given (numbers_from old.next (drop old.next job.splits.items))) m

    needed : (s : ℕ) → IsReadByRest nodes job (standing_of old) s ⊎ SegmentIsRead s (still_reads old.active.items) → IsReadByRest nodes job (standing_of (left_with old actives)) s
    needed s (inl (left, among, (other, other_at, (read, e, reads)))) = (left, still_left left other read other_at reads among, (other, other_at, (read, e, reads)))
    needed s (inr read) = still_needed nodes job (left_with old actives) are s (subst (λ (rs : List LeafRead). SegmentIsRead s rs) (sym reads_same) read)

-- ---- what came of it

pub same_place : (old mid : Progress) (place : ℕ) → KeepsStanding old mid → place < length old.active.items → place < length mid.active.items
same_place old mid place keeps inside =
    let e : length (map split_left mid.active.items) ≡ length (map split_left old.active.items) = ap (λ (xs : List SplitLeft). length xs) keeps.started in
    omega (arith, e, length-map mid.active.items split_left, length-map old.active.items split_left)

-- its number is one of a split
pub split_inside : (nodes : List Node) (job : Job) (place : ℕ) (progress : Progress) (active : ActiveSplit) → slice_get progress.active.items place ≡ Some active → IsPassing nodes job place progress → active.split < length job.splits.items
split_inside nodes job place progress active at is =
    let started = is.this active at in
    slice_get_within job.splits.items active.split started.split started.at

-- the split that stood at the place before its needs were passed
same_split : (old mid : Progress) (place : ℕ) (active : ActiveSplit) → KeepsStanding old mid → slice_get mid.active.items place ≡ Some active → (before : ActiveSplit) × (slice_get old.active.items place ≡ Some before) × (split_left before ≡ split_left active)
same_split old mid place active keeps at = got_mapped split_left old.active.items place (split_left active) (ap (λ (xs : List SplitLeft). slice_get xs place) (sym keeps.started) ∙ (slice_get-map split_left mid.active.items place ∙ ap (option_map split_left) at))

pub settles_on : (job : Job) (place : ℕ) (old mid : Progress) (active : ActiveSplit) (split : Split) → KeepsStanding old mid → slice_get mid.active.items place ≡ Some active → slice_get job.splits.items active.split ≡ Some split → active.at.done < length split.mask → Settles job place active.split old mid
settles_on job place old mid active split keeps at split_at less =
    let before = same_split old mid place active keeps at in
    let done : before.0.at.done ≡ active.at.done = ap (λ (s : SplitLeft). s.given) before.2 in
    record {
      active = before.0;
      at = before.1;
      number_is = ap (λ (s : SplitLeft). s.number) before.2;
      split = split;
      split_at = split_at;
      started = inl (subst (λ (n : ℕ). n < length split.mask) (sym done) less, keeps.started);
      next = keeps.next;
      wanted = keeps.wanted;
      handed = keeps.handed;
      leaves = keeps.leaves;
      wholes = keeps.wholes;
    }

pub settles_left : (job : Job) (place : ℕ) (old mid : Progress) (active : ActiveSplit) (split : Split) (actives : Vec ActiveSplit Global) → KeepsStanding old mid → slice_get mid.active.items place ≡ Some active → slice_get job.splits.items active.split ≡ Some split → length split.mask ≤ active.at.done → actives.items ≡ remove mid.active.items place → Settles job place active.split old (left_with mid actives)
settles_left job place old mid active split actives keeps at split_at past same =
    let before = same_split old mid place active keeps at in
    let done : before.0.at.done ≡ active.at.done = ap (λ (s : SplitLeft). s.given) before.2 in
    record {
      active = before.0;
      at = before.1;
      number_is = ap (λ (s : SplitLeft). s.number) before.2;
      split = split;
      split_at = split_at;
      started = inr (subst (λ (n : ℕ). length split.mask ≤ n) (sym done) past, ap (map split_left) same ∙ (map_removed split_left mid.active.items place ∙ ap (λ (xs : List SplitLeft). remove xs place) keeps.started));
      next = keeps.next;
      wanted = keeps.wanted;
      handed = keeps.handed;
      leaves = keeps.leaves;
      wholes = keeps.wholes;
    }
