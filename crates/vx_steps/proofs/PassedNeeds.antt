-- What stays true when a need is passed of which no row is left: its segment may be read by nobody any more.
use Rattle.std.proofs.Common.{◌≡◌, Global, Vec, ℕ, zero, suc, ◌<◌, ◌≤◌, ◌⊎◌, inl, inr, ⊎_elim, true, List, [], ◌∷◌, ◌++◌, Some, length, map, set, refl, sym, ap, ◌∙◌, subst, arith}
use Rattle.std.specs.List.{slice_get}
use Rattle.std.specs.Option.{option_map}
use Rattle.std.proofs.lemmas.Option.{slice_get-map, same_Some}
use Rattle.vx_plan.specs.Nodes.{Node}
use Rattle.vx_steps.specs.declared.jobs.ActiveSplit.{ActiveSplit}
use Rattle.vx_steps.specs.declared.jobs.Job.{Job}
use Rattle.vx_steps.specs.declared.jobs.Progress.{Progress}
use Rattle.vx_steps.specs.declared.leaf_reads.LeafRead.{LeafRead}
use Rattle.vx_steps.specs.declared.placed_reads.PlacedRead.{PlacedRead}
use Rattle.vx_steps.specs.declared.still_read.StillRead.{StillRead}
use Rattle.vx_steps.specs.declared.wholes.Wholes.{Wholes}
use Rattle.vx_steps.specs.HeldData.{Holds}
use Rattle.vx_steps.specs.LeavesData.{LeavesData}
use Rattle.vx_steps.specs.LettingGo.{open_count, rest_count, KeepsStanding}
use Rattle.vx_steps.specs.Needed.{open_reads, still_reads, AreOpen, IsLacked, KeepsNeeded, LeafIsNeeded}
use Rattle.vx_steps.specs.Needs.{Among}
use Rattle.vx_steps.specs.OpenNeeds.{EndBehind}
use Rattle.vx_steps.specs.Pieces.{read_of}
use Rattle.vx_steps.specs.ReadTableData.{Wanted}
use Rattle.vx_steps.specs.Releasing.{IsServed, ServesAll}
use Rattle.vx_steps.specs.Running.{ArePassedAt, HeldCame, HoldsWhatIsRead, IsActive, IsPassing, IsSound, IsStarted}
use Rattle.vx_steps.specs.Standings.{split_left, standing_of, SplitLeft, Standing}
use Rattle.vx_steps.specs.Steps.{IsReadByRest}
use Rattle.vx_steps.specs.StillRead.{all_reads, IsTallyOf, SegmentIsRead, TalliesOneLess}
use Rattle.vx_steps.proofs.AllReads.{parts_of_all, Parts}
use Rattle.vx_steps.proofs.Releasing.{got_among}
use Rattle.vx_steps.proofs.Selecting.{among_back, among_front, among_split}
use Rattle.vx_steps.proofs.WantedReads.{map_set, set_there}

-- ---- one element in place of another

got_set : {X : Type 0} (xs : List X) (i : ℕ) (x y : X) → slice_get xs i ≡ Some y → slice_get (set xs i x) i ≡ Some x
got_set [] i x y at = absurd cc
got_set (z ∷ xs) zero x y at = refl
got_set (z ∷ xs) (suc i) x y at = got_set xs i x y at

map_same : {X Y : Type 0} (f : X → Y) (xs : List X) (i : ℕ) (x y : X) → slice_get xs i ≡ Some y → f x ≡ f y → map f (set xs i x) ≡ map f xs
map_same f [] i x y at same = refl
map_same f (z ∷ xs) zero x y at same = ap (λ (v : _). v ∷ map f xs) (same ∙ ap f (sym (same_Some z y at)))
map_same f (z ∷ xs) (suc i) x y at same = ap (λ (vs : List _). f z ∷ vs) (map_same f xs i x y at same)

among_of_set : {X : Type 0} (xs : List X) (i : ℕ) (x z : X) → Among z (set xs i x) → Among z xs ⊎ (x ≡ z)
among_of_set [] i x z among = absurd among
among_of_set (y ∷ xs) zero x z (inl e) = inr e
among_of_set (y ∷ xs) zero x z (inr more) = inl (inr more)
among_of_set (y ∷ xs) (suc i) x z (inl e) = inl (inl e)
among_of_set (y ∷ xs) (suc i) x z (inr more) = ⊎_elim (λ (a : Among z xs). inl (inr a)) (λ (e : x ≡ z). inr e) (among_of_set xs i x z more)

among_in_set : {X : Type 0} (xs : List X) (i : ℕ) (x y z : X) → slice_get xs i ≡ Some y → Among z xs → Among z (set xs i x) ⊎ (y ≡ z)
among_in_set [] i x y z at among = absurd among
among_in_set (v ∷ xs) zero x y z at (inl e) = inr (sym (same_Some v y at) ∙ e)
among_in_set (v ∷ xs) zero x y z at (inr more) = inl (inr more)
among_in_set (v ∷ xs) (suc i) x y z at (inl e) = inl (inl e)
among_in_set (v ∷ xs) (suc i) x y z at (inr more) = ⊎_elim (λ (a : Among z (set xs i x)). inl (inr a)) (λ (e : y ≡ z). inr e) (among_in_set xs i x y z at more)

-- one read less
one_less : {X : Type 0} (r x : X) (before behind : List X) → Among r (before ++ x ∷ behind) → Among r (before ++ behind) ⊎ (x ≡ r)
one_less r x before behind among = ⊎_elim (λ (a : Among r before). inl (among_front r before behind a)) (λ (b : Among r (x ∷ behind)). ⊎_elim (λ (e : x ≡ r). inr e) (λ (m : Among r behind). inl (among_back r before behind m)) b) (among_split r before (x ∷ behind) among)

-- ---- the active split

-- with these needs open
abbrev pub with_rest : ActiveSplit → List PlacedRead → ActiveSplit
with_rest active rest = record { split = active.split; needs = active.needs; at = active.at; rest = rest }

started_rest : (nodes : List Node) (job : Job) (leaves : LeavesData) (wanted : List Wanted) (wholes : Wholes) (active : ActiveSplit) (rest : List PlacedRead) → IsStarted nodes job leaves wanted wholes active → IsStarted nodes job leaves wanted wholes (with_rest active rest)
started_rest nodes job leaves wanted wholes active rest is = record { split = is.split; at = is.at; placed = is.placed; order = is.order; are_leaves = is.are_leaves; asked = is.asked; given = is.given; decoded = is.decoded }

-- ---- the scan

-- It is as while needs are passed, but for the segment, which may be held and read by nobody.
pub record IsPassingBut (nodes : List Node) (job : Job) (place segment : ℕ) (progress : Progress) : Type 0 where
  pub ready : progress.store.columns.ready ≡ true
  pub noted : progress.needed.noted ≡ true
  pub others : (at : ℕ) (active : ActiveSplit) → slice_get progress.active.items at ≡ Some active → (at ≡ place → ⊥) → IsActive nodes job progress.store.columns progress.reads.wanted progress.wholes active
  pub this : (active : ActiveSplit) → slice_get progress.active.items place ≡ Some active → IsStarted nodes job progress.store.columns progress.reads.wanted progress.wholes active
  pub begun : (active : ActiveSplit) → slice_get progress.active.items place ≡ Some active → 0 < active.at.done
  pub rest_only : (active : ActiveSplit) (need : PlacedRead) → slice_get progress.active.items place ≡ Some active → Among need active.rest → Among need active.needs.items
  pub rest_all : (active : ActiveSplit) (need : PlacedRead) → slice_get progress.active.items place ≡ Some active → Among need active.needs.items → active.at.done ≤ need.last → Among need active.rest
  pub serves : ServesAll nodes job progress
  pub keeps : KeepsNeeded nodes job progress
  pub needed : (s : ℕ) → Holds progress.needed.held s → (IsReadByRest nodes job (standing_of progress) s ⊎ SegmentIsRead s (still_reads progress.active.items)) ⊎ (segment ≡ s)
  pub holds : HoldsWhatIsRead nodes job progress
  pub came : HeldCame nodes progress

-- after a need was passed
abbrev pub passed_to : Progress → Vec ActiveSplit Global → StillRead → Progress
passed_to old actives still = record old { active = actives; needed = record old.needed { still = still } }

pub sound_passed : (nodes : List Node) (job : Job) (old : Progress) (actives : Vec ActiveSplit Global) (still : StillRead) → IsSound nodes job old → IsSound nodes job (passed_to old actives still)
sound_passed nodes job old actives still is = record {
  known = is.known;
  inside = is.inside;
  fits = is.fits;
  typed_given = is.typed_given;
  typed_leaves = is.typed_leaves;
  typed_made = is.typed_made;
  apart_made = is.apart_made;
  apart_used = is.apart_used;
  uses = is.uses;
  counted = is.counted;
  behind = is.behind;
}

pub same_lefts : (old : Progress) (place : ℕ) (active : ActiveSplit) (rest : List PlacedRead) (actives : Vec ActiveSplit Global) → slice_get old.active.items place ≡ Some active → actives.items ≡ set old.active.items place (with_rest active rest) → map split_left actives.items ≡ map split_left old.active.items
same_lefts old place active rest actives at same = ap (map split_left) same ∙ map_same split_left old.active.items place (with_rest active rest) active at refl

pub standing_passed : (old : Progress) (place : ℕ) (active : ActiveSplit) (rest : List PlacedRead) (actives : Vec ActiveSplit Global) (still : StillRead) → slice_get old.active.items place ≡ Some active → actives.items ≡ set old.active.items place (with_rest active rest) → KeepsStanding old (passed_to old actives still)
standing_passed old place active rest actives still at same = record { next = refl; started = same_lefts old place active rest actives at same; wanted = refl; handed = refl; leaves = refl; wholes = refl }

-- fewer needs are open
pub fewer_open : (old new : Progress) (place : ℕ) (active : ActiveSplit) (need : PlacedRead) (rest : List PlacedRead) (actives : Vec ActiveSplit Global) → slice_get old.active.items place ≡ Some active → active.rest ≡ need ∷ rest → actives.items ≡ set old.active.items place (with_rest active rest) → new.active ≡ actives → open_count place new < open_count place old
fewer_open old new place active need rest actives at was same is =
    let before : open_count place old ≡ length (need ∷ rest) = ap rest_count at ∙ ap (λ (xs : List PlacedRead). length xs) was in
    let after : open_count place new ≡ length rest = ap (λ (v : Vec ActiveSplit Global). rest_count (slice_get v.items place)) is ∙ ap (λ (xs : List ActiveSplit). rest_count (slice_get xs place)) same ∙ ap rest_count (got_set old.active.items place (with_rest active rest) active at) in
    omega arith

pub need_passed : (nodes : List Node) (job : Job) (place : ℕ) (old : Progress) (active : ActiveSplit) (need : PlacedRead) (rest : List PlacedRead) (actives : Vec ActiveSplit Global) (still : StillRead) → slice_get old.active.items place ≡ Some active → active.rest ≡ need ∷ rest → need.last < active.at.done → actives.items ≡ set old.active.items place (with_rest active rest) → TalliesOneLess (read_of need) old.needed.still still →
    IsPassing nodes job place old → IsPassingBut nodes job place need.segment (passed_to old actives still)
need_passed nodes job place old active need rest actives still at was last same less is = record {
  ready = is.ready;
  noted = is.noted;
  others = λ i a got apart. is.others i a (sym (set_there old.active.items place i (with_rest active rest) (λ e. apart (sym e))) ∙ got_in i a got) apart;
  this = λ a got. let S : ActiveSplit → Type 0 = λ x. IsStarted nodes job old.store.columns old.reads.wanted old.wholes x in subst S (own a got) (started_rest nodes job old.store.columns old.reads.wanted old.wholes active rest (is.this active at));
  begun = λ a got. let B : ActiveSplit → Type 0 = λ x. 0 < x.at.done in subst B (own a got) (is.begun active at);
  rest_only = λ a n got. let O : ActiveSplit → Type 0 = λ x. Among n x.rest → Among n x.needs.items in subst O (own a got) (only n);
  rest_all = λ a n got. let A : ActiveSplit → Type 0 = λ x. Among n x.needs.items → x.at.done ≤ n.last → Among n x.rest in subst A (own a got) (all n);
  serves = record {
    gone_late = is.serves.gone_late;
    passed_late = is.serves.passed_late;
    served = λ a m. served a (among_of_set old.active.items place (with_rest active rest) a (in_set a m));
    active_after = λ a m. is.serves.active_after active there;
    gone_after = is.serves.gone_after;
  };
  keeps = record {
    tallies = tally;
    unnoted = is.keeps.unnoted;
    later = is.keeps.later;
    noted = is.keeps.noted;
    found = is.keeps.found;
    row = is.keeps.row;
    apart = is.keeps.apart;
    forgotten = λ n all none needed. let F : List SplitLeft → Type 0 = λ started. LeafIsNeeded nodes job (standing started) n in is.keeps.forgotten n all none (subst F lefts needed);
    none_before = is.keeps.none_before;
    bytes = is.keeps.bytes;
    room = is.keeps.room;
    asked = λ s asked none. lacked s (is.keeps.asked s asked none);
  };
  needed = λ s holds. ⊎_elim (λ (r : IsReadByRest nodes job (standing_of old) s). let R : List SplitLeft → Type 0 = λ started. IsReadByRest nodes job (standing started) s in inl (inl (subst R (sym lefts) r))) (λ (r : SegmentIsRead s (still_reads old.active.items)). read s r) (is.needed s holds);
  holds = λ s bytes came left. let R : List SplitLeft → Type 0 = λ started. IsReadByRest nodes job (standing started) s in is.holds s bytes came (subst R lefts left);
  came = is.came;
}
  where
    standing : List SplitLeft → Standing
    standing started = record { next = old.next; started = started; reads = old.reads; leaves = old.store.columns.all; wholes = old.wholes; held = old.needed.held.held }

    lefts : map split_left actives.items ≡ map split_left old.active.items
    lefts = same_lefts old place active rest actives at same

    there : Among active old.active.items
    there = got_among old.active.items place active at

    got_in : (i : ℕ) (a : ActiveSplit) → slice_get actives.items i ≡ Some a → slice_get (set old.active.items place (with_rest active rest)) i ≡ Some a
    got_in i a got = ap (λ (xs : List ActiveSplit). slice_get xs i) (sym same) ∙ got

    in_set : (a : ActiveSplit) → Among a actives.items → Among a (set old.active.items place (with_rest active rest))
    in_set a m = subst (λ (xs : List ActiveSplit). Among a xs) same m

    own : (a : ActiveSplit) → slice_get actives.items place ≡ Some a → with_rest active rest ≡ a
    own a got = same_Some (with_rest active rest) a (sym (got_set old.active.items place (with_rest active rest) active at) ∙ got_in place a got)

    only : (n : PlacedRead) → Among n rest → Among n active.needs.items
    only n m = is.rest_only active n at (subst (λ (xs : List PlacedRead). Among n xs) (sym was) (inr m))

    all : (n : PlacedRead) → Among n active.needs.items → active.at.done ≤ n.last → Among n rest
    all n m late = by (subst (λ (xs : List PlacedRead). Among n xs) was (is.rest_all active n at m late))
      where
        by : (need ≡ n) ⊎ Among n rest → Among n rest
        by (inl e) =
            let before : n.last < active.at.done = subst (λ (x : PlacedRead). x.last < active.at.done) e last in
            absurd (omega arith)
        by (inr more) = more

    served : (a : ActiveSplit) → Among a old.active.items ⊎ (with_rest active rest ≡ a) → IsServed old.store.columns.all old.reads (map read_of a.needs.items)
    served a (inl m) = is.serves.served a m
    served a (inr e) = subst (λ (x : ActiveSplit). IsServed old.store.columns.all old.reads (map read_of x.needs.items)) e (is.serves.served active there)

    got_reads : slice_get (map open_reads old.active.items) place ≡ Some (read_of need ∷ map read_of rest)
    got_reads = slice_get-map open_reads old.active.items place ∙ ap (option_map open_reads) at ∙ ap (λ (xs : List PlacedRead). Some (map read_of xs)) was

    parts : Parts (map open_reads old.active.items) place (read_of need) (map read_of rest)
    parts = parts_of_all (map open_reads old.active.items) place (read_of need) (map read_of rest) got_reads

    reads_new : still_reads actives.items ≡ parts.before ++ parts.behind
    reads_new = ap still_reads same ∙ ap all_reads (map_set open_reads old.active.items place (with_rest active rest)) ∙ parts.is

    tally : IsTallyOf still (still_reads actives.items)
    tally = subst (λ (rs : List LeafRead). IsTallyOf still rs) (sym reads_new) (less parts.before parts.behind (subst (λ (rs : List LeafRead). IsTallyOf old.needed.still rs) parts.was is.keeps.tallies))

    lacked : (s : ℕ) → IsLacked old s → IsLacked (passed_to old actives still) s
    lacked s (b, m, (n, among, e, none)) = ⊎_elim
        (λ (h : Among b (set old.active.items place (with_rest active rest))). (b, subst (λ (xs : List ActiveSplit). Among b xs) (sym same) h, (n, among, e, none)))
        (λ (is_it : active ≡ b). (with_rest active rest, subst (λ (xs : List ActiveSplit). Among (with_rest active rest) xs) (sym same) (got_among (set old.active.items place (with_rest active rest)) place (with_rest active rest) (got_set old.active.items place (with_rest active rest) active at)), (n, subst (λ (x : ActiveSplit). Among n x.needs.items) (sym is_it) among, e, none)))
        (among_in_set old.active.items place (with_rest active rest) active b at m)

    read : (s : ℕ) → SegmentIsRead s (still_reads old.active.items) → (IsReadByRest nodes job (standing_of (passed_to old actives still)) s ⊎ SegmentIsRead s (still_reads actives.items)) ⊎ (need.segment ≡ s)
    read s (r, m, e) = ⊎_elim
        (λ (h : Among r (parts.before ++ parts.behind)). inl (inr (r, subst (λ (rs : List LeafRead). Among r rs) (sym reads_new) h, e)))
        (λ (is_it : read_of need ≡ r). inr (ap (λ (x : LeafRead). x.segment) is_it ∙ e))
        (one_less r (read_of need) parts.before parts.behind (subst (λ (rs : List LeafRead). Among r rs) parts.was m))

-- ---- none is left to be passed

set_same : {X : Type 0} (xs : List X) (i : ℕ) (x : X) → slice_get xs i ≡ Some x → set xs i x ≡ xs
set_same [] i x at = refl
set_same (y ∷ xs) zero x at = ap (λ (z : _). z ∷ xs) (sym (same_Some y x at))
set_same (y ∷ xs) (suc i) x at = ap (λ (ys : List _). y ∷ ys) (set_same xs i x at)

abbrev pub with_actives : Progress → Vec ActiveSplit Global → Progress
with_actives old actives = record old { active = actives }

-- the active split at the place stays as it is
pub actives_same : (old : Progress) (place : ℕ) (active : ActiveSplit) (rest : List PlacedRead) (actives : Vec ActiveSplit Global) → slice_get old.active.items place ≡ Some active → rest ≡ active.rest → actives.items ≡ set old.active.items place (with_rest active rest) → actives.items ≡ old.active.items
actives_same old place active rest actives at is same =
    let it : with_rest active rest ≡ active = ap (with_rest active) is in
    same ∙ ap (set old.active.items place) it ∙ set_same old.active.items place active at

pub sound_same : (nodes : List Node) (job : Job) (old : Progress) (actives : Vec ActiveSplit Global) → IsSound nodes job old → IsSound nodes job (with_actives old actives)
sound_same nodes job old actives is = record {
  known = is.known;
  inside = is.inside;
  fits = is.fits;
  typed_given = is.typed_given;
  typed_leaves = is.typed_leaves;
  typed_made = is.typed_made;
  apart_made = is.apart_made;
  apart_used = is.apart_used;
  uses = is.uses;
  counted = is.counted;
  behind = is.behind;
}

pub standing_same : (old : Progress) (actives : Vec ActiveSplit Global) → actives.items ≡ old.active.items → KeepsStanding old (with_actives old actives)
standing_same old actives same = record { next = refl; started = ap (map split_left) same; wanted = refl; handed = refl; leaves = refl; wholes = refl }

pub passing_same : (nodes : List Node) (job : Job) (place : ℕ) (old : Progress) (actives : Vec ActiveSplit Global) → actives.items ≡ old.active.items → IsPassing nodes job place old → IsPassing nodes job place (with_actives old actives)
passing_same nodes job place old actives same is = record {
  ready = is.ready;
  noted = is.noted;
  others = λ i a got apart. is.others i a (got_old i a got) apart;
  this = λ a got. is.this a (got_old place a got);
  begun = λ a got. is.begun a (got_old place a got);
  rest_only = λ a n got among. is.rest_only a n (got_old place a got) among;
  rest_all = λ a n got among late. is.rest_all a n (got_old place a got) among late;
  serves = record {
    gone_late = is.serves.gone_late;
    passed_late = is.serves.passed_late;
    served = λ a m. is.serves.served a (in_old a m);
    active_after = λ a m. is.serves.active_after a (in_old a m);
    gone_after = is.serves.gone_after;
  };
  keeps = record {
    tallies = subst (λ (xs : List ActiveSplit). IsTallyOf old.needed.still (still_reads xs)) (sym same) is.keeps.tallies;
    unnoted = is.keeps.unnoted;
    later = is.keeps.later;
    noted = is.keeps.noted;
    found = is.keeps.found;
    row = is.keeps.row;
    apart = is.keeps.apart;
    forgotten = λ n all none needed. let F : List SplitLeft → Type 0 = λ started. LeafIsNeeded nodes job (standing started) n in is.keeps.forgotten n all none (subst F (ap (map split_left) same) needed);
    none_before = is.keeps.none_before;
    bytes = is.keeps.bytes;
    room = is.keeps.room;
    asked = λ s asked none. let l = is.keeps.asked s asked none in (l.0, subst (λ (xs : List ActiveSplit). Among l.0 xs) (sym same) l.1, l.2);
  };
  needed = λ s holds. let N : List ActiveSplit → Type 0 = λ xs. IsReadByRest nodes job (standing (map split_left xs)) s ⊎ SegmentIsRead s (still_reads xs) in subst N (sym same) (is.needed s holds);
  holds = λ s bytes came left. let R : List SplitLeft → Type 0 = λ started. IsReadByRest nodes job (standing started) s in is.holds s bytes came (subst R (ap (map split_left) same) left);
  came = is.came;
}
  where
    standing : List SplitLeft → Standing
    standing started = record { next = old.next; started = started; reads = old.reads; leaves = old.store.columns.all; wholes = old.wholes; held = old.needed.held.held }

    got_old : (i : ℕ) (a : ActiveSplit) → slice_get actives.items i ≡ Some a → slice_get old.active.items i ≡ Some a
    got_old i a got = ap (λ (xs : List ActiveSplit). slice_get xs i) (sym same) ∙ got

    in_old : (a : ActiveSplit) → Among a actives.items → Among a old.active.items
    in_old a m = subst (λ (xs : List ActiveSplit). Among a xs) same m

-- and all of its needs are passed of which no row is left
pub passed_same : (nodes : List Node) (job : Job) (place : ℕ) (old : Progress) (active : ActiveSplit) (rest : List PlacedRead) (actives : Vec ActiveSplit Global) → slice_get old.active.items place ≡ Some active → rest ≡ active.rest → EndBehind active.at.done rest → actives.items ≡ old.active.items → IsPassing nodes job place old → ArePassedAt place (with_actives old actives)
passed_same nodes job place old active rest actives at same_rest ends same is = record {
  rest = λ a got.
      let O : ActiveSplit → Type 0 = λ x. AreOpen x.needs.items x.rest x.at.done in
      subst O (same_Some active a (sym at ∙ (ap (λ (xs : List ActiveSplit). slice_get xs place) (sym same) ∙ got))) (record {
        only = λ n m. (is.rest_only active n at m, ends n (subst (λ (xs : List PlacedRead). Among n xs) (sym same_rest) m));
        all = λ n m late. is.rest_all active n at m late;
      });
}
