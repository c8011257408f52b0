-- What stays true of a scan when an active split is tried, whether rows of it are given or not.
use Rattle.std.proofs.Common.{◌≡◌, Global, Vec, set, ℕ, zero, suc, ◌+◌, ◌<◌, ◌≤◌, inl, inr, ⊎_elim, Bool, true, false, List, [], ◌∷◌, map, drop, Option, Some, None, length, get_or, refl, sym, ap, ◌∙◌, subst, arith}
use Rattle.std.specs.List.{slice_get, AllByRecursion}
use Rattle.std.proofs.lemmas.Option.{same_Some, slice_get_within}
use Rattle.vx_base.specs.Columns.{ColumnData}
use Rattle.vx_plan.specs.declared.shapes.Shape.TheVariants as shapes
use Rattle.vx_plan.specs.Nodes.{Node}
use Rattle.vx_plan.specs.Plans.{plan_at}
use Rattle.vx_plan.specs.Rules.{node_at}
use Rattle.vx_plan.specs.Shapes.{HasShape}
use Rattle.vx_steps.specs.declared.jobs.ActiveSplit.{ActiveSplit}
use Rattle.vx_steps.specs.declared.jobs.Job.{Job}
use Rattle.vx_steps.specs.declared.jobs.Progress.{Progress}
use Rattle.vx_steps.specs.declared.leaf_reads.LeafRead.{LeafRead}
use Rattle.vx_steps.specs.declared.leaf_stores.LeafStore.{LeafStore}
use Rattle.vx_steps.specs.declared.pieces.GivenRows.{GivenRows}
use Rattle.vx_steps.specs.declared.placed_reads.PlacedRead.{PlacedRead}
use Rattle.vx_steps.specs.declared.splits.Split.{Split}
use Rattle.vx_steps.specs.declared.wholes.Wholes.{Wholes}
use Rattle.vx_steps.specs.Given.{handed_by}
use Rattle.vx_steps.specs.Jobs.{KeepsColumns}
use Rattle.vx_steps.specs.KeptData.{Kept}
use Rattle.vx_steps.specs.Kept.{kept_at, IsKept}
use Rattle.vx_steps.specs.LeafStores.{KeepsHere}
use Rattle.vx_steps.specs.LeavesData.{LeavesData}
use Rattle.vx_steps.specs.Needed.{open_reads, still_reads, AreOpen, IsLacked, KeepsNeeded, LeafIsNeeded}
use Rattle.vx_steps.specs.Needs.{Among, AreLeaves}
use Rattle.vx_steps.specs.OpenSegments.{AreCounted}
use Rattle.vx_steps.specs.Pieces.{read_of, AreInOrder, ArePlaced, IsGivenTo}
use Rattle.vx_steps.specs.ReadTable.{bytes_of, IsGone}
use Rattle.vx_steps.specs.ReadTableData.{ReadsData, Wanted}
use Rattle.vx_steps.specs.Releasing.{IsServed, IsSpent, NoneReads, ServesAll}
use Rattle.vx_steps.specs.Running.{AreDecoded, IsActive, IsLast, IsRunning, IsSound, IsStarted}
use Rattle.vx_steps.specs.Splits.{IsInside}
use Rattle.vx_steps.specs.Standings.{left_of, none_given, numbers_from, split_left, standing_of, SplitLeft}
use Rattle.vx_steps.specs.Steps.{IsReadByRest}
use Rattle.vx_steps.specs.StillRead.{all_reads, IsTallyOf}
use Rattle.vx_steps.specs.Tries.{CanTry, DecodesNeeds, IsOfRest, ReadiesWholes}
use Rattle.vx_steps.specs.Visits.{Visits, IsLeafRead}
use Rattle.vx_steps.specs.Wants.{IsAsked}
use Rattle.vx_steps.specs.Wholes.{IsThere}
use Rattle.vx_steps.proofs.Changed.{changed_among, changed_at, changed_either, changed_same}
use Rattle.vx_steps.proofs.FirstRows.{row_before}
use Rattle.vx_steps.proofs.NextNeeds.{got_read, leaf_got}
use Rattle.vx_steps.proofs.OpenReads.{among_mapped, leaf_left, mapped_from, started_left}
use Rattle.vx_steps.proofs.PieceRows.{among_at}
use Rattle.vx_steps.proofs.Releasing.{got_among, none_before, not_kept, served_let}
use Rattle.vx_steps.proofs.Selecting.{among_back, among_front, among_split}
use Rattle.vx_steps.proofs.Starting.{got_at}
use Rattle.vx_steps.proofs.WholeMaking.{uses_then}

-- ---- the active split at a place

-- the active split at a place, and its split
pub record HasParts (nodes : List Node) (job : Job) (progress : Progress) (place : ℕ) (active : ActiveSplit) (split : Split) : Type 0 where
  pub active_at : slice_get progress.active.items place ≡ Some active
  pub among : Among active progress.active.items
  pub split_at : slice_get job.splits.items active.split ≡ Some split
  pub inside : split.rows.start + length split.mask ≤ (node_at nodes job.plan).rows
  pub placed : ArePlaced nodes job.given job.plan split.rows.start split.mask active.needs.items
  pub order : AreInOrder active.needs.items
  pub are_leaves : AreLeaves nodes (map read_of active.needs.items)
  pub asked : (need : PlacedRead) → Among need active.needs.items → kept_at progress.store.columns.all need.leaf ≡ None → IsAsked progress.reads.wanted need.segment
  pub given : IsGivenTo nodes job.given progress.store.columns.here progress.wholes job.plan split active.needs.items active.at
  pub decoded : AreDecoded progress.store.columns.all active.needs.items active.at.next
  pub left : active.at.row < length split.mask
  pub rest : AreOpen active.needs.items active.rest active.at.done
  pub served : IsServed progress.store.columns.all progress.reads (map read_of active.needs.items)
  pub begun : 0 < progress.next

all_got : {X : Type 0} (P : X → Type 0) (xs : List X) (i : ℕ) (x : X) → AllByRecursion P xs → slice_get xs i ≡ Some x → P x
all_got P [] i x all at = cc
all_got P (y ∷ xs) zero x all at = subst P (same_Some y x at) all.0
all_got P (y ∷ xs) (suc i) x all at = all_got P xs i x all.1 at

split_rows : (rows : ℕ) (split : Split) → IsInside rows split → split.rows.start + length split.mask ≤ rows
split_rows rows split inside = omega arith

pub active_at : (nodes : List Node) (job : Job) (progress : Progress) (place : ℕ) (active : ActiveSplit) → IsRunning nodes job progress → place < length progress.active.items → active ≡ get_or progress.active.items place active → IsActive nodes job progress.store.columns progress.reads.wanted progress.wholes active
active_at nodes job progress place active running inside is = running.going.actives active (got_among progress.active.items place active (got_at progress.active.items place active inside is))

pub split_inside : (nodes : List Node) (job : Job) (progress : Progress) (place : ℕ) (active : ActiveSplit) → IsRunning nodes job progress → place < length progress.active.items → active ≡ get_or progress.active.items place active → active.split < length job.splits.items
split_inside nodes job progress place active running inside is =
    let a = active_at nodes job progress place active running inside is in
    slice_get_within job.splits.items active.split a.started.split a.started.at

pub parts_of : (nodes : List Node) (job : Job) (progress : Progress) (place : ℕ) (active : ActiveSplit) (split : Split) → IsSound nodes job progress → IsRunning nodes job progress → place < length progress.active.items → active ≡ get_or progress.active.items place active → split ≡ get_or job.splits.items active.split split → HasParts nodes job progress place active split
parts_of nodes job progress place active split sound running inside is split_is =
    let a = active_at nodes job progress place active running inside is in
    let own = a.started in
    let here = got_at job.splits.items active.split split (slice_get_within job.splits.items active.split own.split own.at) split_is in
    let at = got_at progress.active.items place active inside is in
    let among = got_among progress.active.items place active at in
    let P : Split → Type 0 = λ s. HasParts nodes job progress place active s in
    subst P (same_Some own.split split (sym own.at ∙ here)) (record {
      active_at = at;
      among = among;
      split_at = own.at;
      inside = split_rows (node_at nodes job.plan).rows own.split (all_got (IsInside (node_at nodes job.plan).rows) job.splits.items active.split own.split sound.inside own.at);
      placed = own.placed;
      order = own.order;
      are_leaves = own.are_leaves;
      asked = own.asked;
      given = own.given;
      decoded = own.decoded;
      left = a.left;
      rest = a.rest;
      served = running.going.serves.served active among;
      begun = running.going.serves.active_after active among;
    })

-- ---- before it is tried

kept_unless : (kept : List Kept) (n : ℕ) → (kept_at kept n ≡ None → ⊥) → IsKept kept n
kept_unless kept n not = by (kept_at kept n) refl
  where
    by : (o : Option ColumnData) → kept_at kept n ≡ o → IsKept kept n
    by None e = absurd (not e)
    by (Some column) e = (column, e)

none_unless : (kept : List Kept) (n : ℕ) → (IsKept kept n → ⊥) → kept_at kept n ≡ None
none_unless kept n not = by (kept_at kept n) refl
  where
    by : (o : Option ColumnData) → kept_at kept n ≡ o → o ≡ None
    by None e = refl
    by (Some column) e = absurd (not (column, e))

pub can_try : (nodes : List Node) (job : Job) (progress : Progress) (place : ℕ) (active : ActiveSplit) (split : Split) → IsSound nodes job progress → IsRunning nodes job progress → HasParts nodes job progress place active split → CanTry nodes job split active.needs.items active.at progress.reads progress.store.columns progress.wholes
can_try nodes job progress place active split sound running parts = record {
  known = sound.known;
  inside = parts.inside;
  fits = sound.fits;
  typed_leaves = sound.typed_leaves;
  typed_given = sound.typed_given;
  typed_made = sound.typed_made;
  placed = parts.placed;
  order = parts.order;
  are_leaves = parts.are_leaves;
  served = parts.served;
  given = parts.given;
  left = parts.left;
  here = λ n rest kept. kept_unless progress.store.columns.here n (λ none. running.going.keeps.forgotten n kept none (needed n rest));
}
  where
    needed : (n : ℕ) → IsOfRest active.needs.items active.at.done n → LeafIsNeeded nodes job (standing_of progress) n
    needed n (need, among, late, is) = leaf_left nodes job (standing_of progress) (read_of need) n is (started_left nodes job progress active (running.going.actives active parts.among).started parts.among need among late)

-- ---- after it was tried

-- the active split, with that many rows given
abbrev pub gave : ActiveSplit → GivenRows → ActiveSplit
gave active at = record { split = active.split; needs = active.needs; at = at; rest = active.rest }

abbrev pub tried : Progress → Vec ActiveSplit Global → ReadsData → LeafStore → Wholes → Progress
tried old actives reads store wholes = record { next = old.next; active = actives; reads = reads; store = store; wholes = wholes; needed = old.needed }

-- what a try of the split changed
pub record TriesSplit (nodes : List Node) (job : Job) (old : Progress) (active : ActiveSplit) (split : Split) (last : Bool) (reads : ReadsData) (store : LeafStore) (wholes : Wholes) : Type 0 where
  pub counted : AreCounted nodes store.columns.all store.segments
  pub here : KeepsHere old.store.columns store.columns
  pub decoded : DecodesNeeds nodes last (map read_of active.needs.items) old.reads reads old.store.columns.all store.columns.all
  pub readies : ReadiesWholes nodes job split store.columns.all old.wholes wholes

pub sound_tried : (nodes : List Node) (job : Job) (old : Progress) (active : ActiveSplit) (split : Split) (last : Bool) (actives : Vec ActiveSplit Global) (reads : ReadsData) (store : LeafStore) (wholes : Wholes) → TriesSplit nodes job old active split last reads store wholes → IsSound nodes job old → IsSound nodes job (tried old actives reads store wholes)
sound_tried nodes job old active split last actives reads store wholes tries sound = record {
  known = sound.known;
  inside = sound.inside;
  fits = sound.fits;
  typed_given = sound.typed_given;
  typed_leaves = tries.decoded.keeps.typed sound.typed_leaves;
  typed_made = tries.readies.made.typed sound.typed_made;
  apart_made = tries.readies.made.apart sound.apart_made;
  apart_used = tries.readies.used.apart sound.apart_used;
  uses = uses_then job.given [] old.wholes.used wholes.used sound.uses tries.readies.used;
  counted = tries.counted;
  behind = λ n read kept. tries.here.here n (sound.behind n read) kept;
}

there_grown : (given : List Kept) (before after : Wholes) → KeepsColumns before.made after.made → KeepsColumns before.used after.used → (n : ℕ) → IsThere given before n → IsThere given after n
there_grown given before after made used n (inl (handed, kept)) = inl (handed, (kept.0, used n kept.0 kept.1))
there_grown given before after made used n (inr (none, kept)) = inr (none, (kept.0, made n kept.0 kept.1))

given_grown : (nodes : List Node) (given here more : List Kept) (before after : Wholes) (number : ℕ) (split : Split) (needs : List PlacedRead) (at : GivenRows) → KeepsColumns here more → KeepsColumns before.made after.made → KeepsColumns before.used after.used → IsGivenTo nodes given here before number split needs at → IsGivenTo nodes given more after number split needs at
given_grown nodes given here more before after number split needs at stays made used is = record {
  row = is.row;
  begun = is.begun;
  kept = λ place need less there late.
      let k = is.kept place need less there late in
      (k.0, stays need.leaf k.0 k.1);
  passed = is.passed;
  first = is.first;
  there = λ so n asks. there_grown given before after made used n (is.there so n asks);
}

-- another active split stays as it was
abbrev started_grown : (nodes : List Node) (job : Job) (old new : LeavesData) (wanted now : List Wanted) (before after : Wholes) (active : ActiveSplit) → KeepsColumns old.all new.all → KeepsColumns old.here new.here → now ≡ wanted → KeepsColumns before.made after.made → KeepsColumns before.used after.used → IsStarted nodes job old wanted before active → IsStarted nodes job new now after active
started_grown nodes job old new wanted now before after active grows stays same made used is = record {
  split = is.split;
  at = is.at;
  placed = is.placed;
  order = is.order;
  are_leaves = is.are_leaves;
  asked = λ need among none. subst (λ (ws : List Wanted). IsAsked ws need.segment) (sym same) (is.asked need among (none_before old.all new.all need.leaf grows none));
  given = given_grown nodes job.given old.here new.here before after job.plan is.split active.needs.items active.at stays made used is.given;
  decoded = λ place need less at.
      let k = is.decoded place need less at in
      (k.0, grows need.leaf k.0 k.1);
}

pub active_grown : (nodes : List Node) (job : Job) (old : Progress) (mine : ActiveSplit) (split : Split) (last : Bool) (reads : ReadsData) (store : LeafStore) (wholes : Wholes) → TriesSplit nodes job old mine split last reads store wholes → (active : ActiveSplit) → IsActive nodes job old.store.columns old.reads.wanted old.wholes active → IsActive nodes job store.columns reads.wanted wholes active
active_grown nodes job old mine split last reads store wholes tries active is = record {
  started = started_grown nodes job old.store.columns store.columns old.reads.wanted reads.wanted old.wholes wholes active tries.decoded.keeps.grows tries.here.stays tries.decoded.wanted tries.readies.made.grows tries.readies.used.grows is.started;
  left = is.left;
  rest = is.rest;
}

-- the split itself has more rows given
abbrev pub started_gave : (nodes : List Node) (job : Job) (old : Progress) (place : ℕ) (active : ActiveSplit) (split : Split) (last : Bool) (reads : ReadsData) (store : LeafStore) (wholes : Wholes) (at : GivenRows) → HasParts nodes job old place active split → TriesSplit nodes job old active split last reads store wholes → IsGivenTo nodes job.given store.columns.here wholes job.plan split active.needs.items at → AreDecoded store.columns.all active.needs.items at.next → IsStarted nodes job store.columns reads.wanted wholes (gave active at)
started_gave nodes job old place active split last reads store wholes at parts tries given decoded = record {
  split = split;
  at = parts.split_at;
  placed = parts.placed;
  order = parts.order;
  are_leaves = parts.are_leaves;
  asked = λ need among none. subst (λ (ws : List Wanted). IsAsked ws need.segment) (sym tries.decoded.wanted) (parts.asked need among (none_before old.store.columns.all store.columns.all need.leaf tries.decoded.keeps.grows none));
  given = given;
  decoded = decoded;
}

-- ---- bytes that are gone

only_one : {X : Type 0} (xs : List X) (i : ℕ) (x y : X) → length xs ≡ 1 → slice_get xs i ≡ Some x → Among y xs → x ≡ y
only_one [] i x y one at among = absurd among
only_one (z ∷ []) zero x y one at (inl e) = sym (same_Some z x at) ∙ e
only_one (z ∷ []) zero x y one at (inr h) = absurd h
only_one (z ∷ []) (suc i) x y one at among = absurd cc
only_one (z ∷ w ∷ zs) i x y one at among = absurd (omega arith)

spent_grown : (nodes : List Node) (old new : List Kept) (segment : ℕ) → KeepsColumns old new → IsSpent nodes old segment → IsSpent nodes new segment
spent_grown nodes old new segment keeps spent n leaf =
    let k = spent n leaf in
    (k.0, keeps n k.0 k.1)

-- where no split is left to be started, none reads
none_left : (nodes : List Node) (job : Job) (next segment : ℕ) → next ≡ length job.splits.items → NoneReads nodes job next segment
none_left nodes job next segment all number split read behind at reads is =
    let less : number < length job.splits.items = slice_get_within job.splits.items number split at in
    omega arith

pub serves_tried : (nodes : List Node) (job : Job) (old : Progress) (place : ℕ) (active : ActiveSplit) (split : Split) (actives : Vec ActiveSplit Global) (reads : ReadsData) (store : LeafStore) (wholes : Wholes) (at : GivenRows) → actives.items ≡ set old.active.items place (gave active at) → HasParts nodes job old place active split → IsRunning nodes job old →
    (last : Bool) → (last ≡ true → IsLast job old) → TriesSplit nodes job old active split last reads store wholes → ServesAll nodes job (tried old actives reads store wholes)
serves_tried nodes job old place active split actives reads store wholes at same parts running true is_last tries =
    let is = is_last refl in
    record {
      gone_late = λ segment gone. inr (none_left nodes job old.next segment is.0);
      passed_late = λ some. is.0;
      served = λ b m. ⊎_elim (λ (e : gave active at ≡ b). subst S e tries.decoded.served) (λ (among : Among b old.active.items). subst S (only_one old.active.items place active b is.1 parts.active_at among) tries.decoded.served) (changed_either old.active.items place (gave active at) b (subst (λ (xs : List ActiveSplit). Among b xs) same m));
      active_after = λ b m. parts.begun;
      gone_after = λ segment gone. parts.begun;
    }
  where
    S : ActiveSplit → Type 0
    S b = IsServed store.columns.all reads (map read_of b.needs.items)
serves_tried nodes job old place active split actives reads store wholes at same parts running false is_last tries =
    let lets = tries.decoded.lets refl in
    let serves = running.going.serves in
    record {
      gone_late = λ segment gone. ⊎_elim
          (λ (g : IsGone old.reads.stored segment). ⊎_elim (λ (spent : IsSpent nodes old.store.columns.all segment). inl (spent_grown nodes old.store.columns.all store.columns.all segment tries.decoded.keeps.grows spent)) (λ (none : NoneReads nodes job old.next segment). inr none) (serves.gone_late segment g))
          (λ (spent : IsSpent nodes store.columns.all segment). inl spent)
          (lets.gone segment gone);
      passed_late = λ some. serves.passed_late (subst (λ (n : ℕ). 0 < n) lets.passed some);
      served = λ b m. ⊎_elim (λ (e : gave active at ≡ b). subst S e tries.decoded.served) (λ (among : Among b old.active.items). served_let nodes old.store.columns.all store.columns.all old.reads reads (map read_of b.needs.items) (running.going.actives b among).started.are_leaves tries.decoded.keeps.grows lets (serves.served b among)) (changed_either old.active.items place (gave active at) b (subst (λ (xs : List ActiveSplit). Among b xs) same m));
      active_after = λ b m. parts.begun;
      gone_after = λ segment gone. parts.begun;
    }
  where
    S : ActiveSplit → Type 0
    S b = IsServed store.columns.all reads (map read_of b.needs.items)

-- ---- what rows that are left need

-- a split that is left was left before, with no more rows given
left_before : (job : Job) (old : Progress) (place : ℕ) (active : ActiveSplit) (actives : Vec ActiveSplit Global) (reads : ReadsData) (store : LeafStore) (wholes : Wholes) (at : GivenRows) → actives.items ≡ set old.active.items place (gave active at) → Among active old.active.items → active.at.done ≤ at.done → (s : SplitLeft) → Among s (left_of job (standing_of (tried old actives reads store wholes))) →
    (t : SplitLeft) × Among t (left_of job (standing_of old)) × (t.number ≡ s.number) × (t.given ≤ s.given)
left_before job old place active actives reads store wholes at same mine more s among = ⊎_elim (λ (m : Among s (map split_left actives.items)). started (mapped_from split_left s actives.items m)) (λ (m : Among s rest). (s, among_back s (map split_left old.active.items) rest m, refl, omega arith)) (among_split s (map split_left actives.items) rest among)
  where
    rest : List SplitLeft
    rest = map none_given (numbers_from old.next (drop old.next job.splits.items))

    front : (a : ActiveSplit) → Among a old.active.items → Among (split_left a) (left_of job (standing_of old))
    front a m = among_front (split_left a) (map split_left old.active.items) rest (among_mapped split_left a old.active.items m)

    own : gave active at ≡ gave active at → split_left (gave active at) ≡ s → (t : SplitLeft) × Among t (left_of job (standing_of old)) × (t.number ≡ s.number) × (t.given ≤ s.given)
    own _ is =
        let given : at.done ≡ s.given = ap (λ (x : SplitLeft). x.given) is in
        (split_left active, front active mine, ap (λ (x : SplitLeft). x.number) is, omega arith)

    other : (a : ActiveSplit) → Among a old.active.items → split_left a ≡ s → (t : SplitLeft) × Among t (left_of job (standing_of old)) × (t.number ≡ s.number) × (t.given ≤ s.given)
    other a m is =
        let given : a.at.done ≡ s.given = ap (λ (x : SplitLeft). x.given) is in
        (split_left a, front a m, ap (λ (x : SplitLeft). x.number) is, omega arith)

    started : (a : ActiveSplit) × Among a actives.items × (split_left a ≡ s) → (t : SplitLeft) × Among t (left_of job (standing_of old)) × (t.number ≡ s.number) × (t.given ≤ s.given)
    started (a, m, is) = ⊎_elim (λ (e : gave active at ≡ a). own refl (ap split_left e ∙ is)) (λ (before : Among a old.active.items). other a before is) (changed_either old.active.items place (gave active at) a (subst (λ (xs : List ActiveSplit). Among a xs) same m))

leaf_before : (nodes : List Node) (job : Job) (old : Progress) (place : ℕ) (active : ActiveSplit) (actives : Vec ActiveSplit Global) (reads : ReadsData) (store : LeafStore) (wholes : Wholes) (at : GivenRows) → actives.items ≡ set old.active.items place (gave active at) → Among active old.active.items → active.at.done ≤ at.done → (leaf : ℕ) → LeafIsNeeded nodes job (standing_of (tried old actives reads store wholes)) leaf → LeafIsNeeded nodes job (standing_of old) leaf
leaf_before nodes job old place active actives reads store wholes at same mine more leaf (s, among, (split, split_at, (read, is, visits))) =
    let t = left_before job old place active actives reads store wholes at same mine more s among in
    let early : (t.0).given ≤ s.given = t.3 in
    (t.0, t.1, (split, ap (slice_get job.splits.items) t.2 ∙ split_at, (read, is, row_before (Visits (IsLeafRead read) (handed_by nodes (Some job.given)) (plan_at nodes job.plan)) split.rows.start split.mask (t.0).given s.given (length split.mask) early visits)))

-- and so is a segment
pub segment_before : (nodes : List Node) (job : Job) (old : Progress) (place : ℕ) (active : ActiveSplit) (actives : Vec ActiveSplit Global) (reads : ReadsData) (store : LeafStore) (wholes : Wholes) (at : GivenRows) → actives.items ≡ set old.active.items place (gave active at) → Among active old.active.items → active.at.done ≤ at.done → (segment : ℕ) → IsReadByRest nodes job (standing_of (tried old actives reads store wholes)) segment → IsReadByRest nodes job (standing_of old) segment
segment_before nodes job old place active actives reads store wholes at same mine more segment (s, among, (split, split_at, (read, is, visits))) =
    let t = left_before job old place active actives reads store wholes at same mine more s among in
    let early : (t.0).given ≤ s.given = t.3 in
    (t.0, t.1, (split, ap (slice_get job.splits.items) t.2 ∙ split_at, (read, is, row_before (Visits (IsLeafRead read) (handed_by nodes (Some job.given)) (plan_at nodes job.plan)) split.rows.start split.mask (t.0).given s.given (length split.mask) early visits)))

leaf_known : (nodes : List Node) (needs : List PlacedRead) (need : PlacedRead) → AreLeaves nodes (map read_of needs) → Among need needs → (need.leaf < length nodes) × HasShape nodes need.leaf (shapes.Leaf need.segment)
leaf_known nodes needs need are among =
    let at = among_at need needs among in
    leaf_got nodes (map read_of needs) at.0 (read_of need) are (got_read needs at.0 need at.1)

-- a leaf whose bytes did not come is lacked as before
lacked_tried : (nodes : List Node) (job : Job) (old : Progress) (place : ℕ) (active : ActiveSplit) (split : Split) (last : Bool) (actives : Vec ActiveSplit Global) (reads : ReadsData) (store : LeafStore) (wholes : Wholes) (at : GivenRows) → actives.items ≡ set old.active.items place (gave active at) → HasParts nodes job old place active split → IsRunning nodes job old → TriesSplit nodes job old active split last reads store wholes →
    (segment : ℕ) → bytes_of old.reads.wanted segment ≡ None → IsLacked old segment → IsLacked (tried old actives reads store wholes) segment
lacked_tried nodes job old place active split last actives reads store wholes at same parts running tries segment missing (a, among, (need, there, is, none)) = ⊎_elim
    (λ (e : active ≡ a). (gave active at, mine, (need, subst (λ (x : ActiveSplit). Among need x.needs.items) (sym e) there, is, still)))
    (λ (m : Among a (set old.active.items place (gave active at))). (a, subst (λ (xs : List ActiveSplit). Among a xs) (sym same) m, (need, there, is, still)))
    (changed_among old.active.items place active (gave active at) a parts.active_at among)
  where
    mine : Among (gave active at) actives.items
    mine = subst (λ (xs : List ActiveSplit). Among (gave active at) xs) (sym same) (got_among (set old.active.items place (gave active at)) place (gave active at) (changed_at old.active.items place active (gave active at) parts.active_at))

    still : kept_at store.columns.all need.leaf ≡ None
    still =
        let leaf = leaf_known nodes a.needs.items need (running.going.actives a among).started.are_leaves there in
        none_unless store.columns.all need.leaf (λ kept. not_kept old.store.columns.all need.leaf none (tries.decoded.keeps.came need.leaf need.segment leaf.0 leaf.1 (ap (bytes_of old.reads.wanted) is ∙ missing) kept))

pub keeps_tried : (nodes : List Node) (job : Job) (old : Progress) (place : ℕ) (active : ActiveSplit) (split : Split) (last : Bool) (actives : Vec ActiveSplit Global) (reads : ReadsData) (store : LeafStore) (wholes : Wholes) (at : GivenRows) → actives.items ≡ set old.active.items place (gave active at) → active.at.done ≤ at.done → HasParts nodes job old place active split → IsRunning nodes job old → TriesSplit nodes job old active split last reads store wholes → KeepsNeeded nodes job (tried old actives reads store wholes)
keeps_tried nodes job old place active split last actives reads store wholes at same more parts running tries =
    let keeps = running.going.keeps in
    let wanted = tries.decoded.wanted in
    let T : List LeafRead → Type 0 = λ still. IsTallyOf old.needed.still still in
    let open_same : still_reads actives.items ≡ still_reads old.active.items = ap still_reads same ∙ ap all_reads (changed_same open_reads old.active.items place active (gave active at) parts.active_at refl) in
    record {
      tallies = subst T (sym open_same) keeps.tallies;
      unnoted = keeps.unnoted;
      later = keeps.later;
      noted = keeps.noted;
      found = keeps.found;
      row = keeps.row;
      apart = keeps.apart;
      forgotten = λ n kept none needed. not_kept store.columns.here n none (tries.here.here n (λ before. kept_unless old.store.columns.here n (λ gone. keeps.forgotten n before gone (leaf_before nodes job old place active actives reads store wholes at same parts.among more n needed))) kept);
      none_before = keeps.none_before;
      bytes = λ s bytes came here. keeps.bytes s bytes (subst (λ (ws : List Wanted). bytes_of ws s ≡ Some bytes) wanted came) (λ gone. here (tries.decoded.still_gone s gone));
      room = λ s asked. keeps.room s (subst (λ (ws : List Wanted). IsAsked ws s) wanted asked);
      asked = λ s asked none.
          let missing = subst (λ (ws : List Wanted). bytes_of ws s ≡ None) wanted none in
          lacked_tried nodes job old place active split last actives reads store wholes at same parts running tries s missing (keeps.asked s (subst (λ (ws : List Wanted). IsAsked ws s) wanted asked) missing);
    }

-- ---- no rows were given

true_not_false : true ≡ false → ⊥
true_not_false same = cc

pub started_same : (old : Progress) (place : ℕ) (active : ActiveSplit) (actives : Vec ActiveSplit Global) (at : GivenRows) → actives.items ≡ set old.active.items place (gave active at) → slice_get old.active.items place ≡ Some active → at.done ≡ active.at.done → map split_left actives.items ≡ map split_left old.active.items
started_same old place active actives at same here done =
    ap (map split_left) same ∙ changed_same split_left old.active.items place active (gave active at) here (ap (λ (given : ℕ). record { number = active.split; given = given }) done)
