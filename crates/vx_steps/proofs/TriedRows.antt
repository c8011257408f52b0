-- What a try of an active split comes to: rows of it are given, or the first of them waits, or the scan is refused.
use Rattle.std.proofs.Common.{◌≡◌, Global, Vec, set, ℕ, ◌+◌, ◌<◌, ◌≤◌, ◌⊎◌, inl, inr, ⊎_elim, Bool, true, false, List, ◌++◌, map, drop, Some, length, refl, sym, ap, ◌∙◌, subst, arith}
use Rattle.std.specs.List.{slice_get}
use Rattle.std.specs.Option.{option_map}
use Rattle.std.proofs.lemmas.Bool.{cases_lt}
use Rattle.std.proofs.lemmas.Option.{same_Some, slice_get-map}
use Rattle.vx_base.specs.Columns.{ColumnData}
use Rattle.vx_plan.specs.Nodes.{Node}
use Rattle.vx_rows.specs.SegmentLeaves.{Bytes, leaves_of}
use Rattle.vx_steps.specs.declared.errors.StepError.{StepError}
use Rattle.vx_steps.specs.declared.errors.StepError.TheVariants.{BadSegment, Unsupported, BadCode, EvalFault, Memory}
use Rattle.vx_steps.specs.declared.jobs.ActiveSplit.{ActiveSplit}
use Rattle.vx_steps.specs.declared.jobs.Job.{Job}
use Rattle.vx_steps.specs.declared.jobs.Progress.{Progress}
use Rattle.vx_steps.specs.declared.leaf_stores.LeafStore.{LeafStore}
use Rattle.vx_steps.specs.declared.pieces.GivenRows.{GivenRows}
use Rattle.vx_steps.specs.declared.placed_reads.PlacedRead.{PlacedRead}
use Rattle.vx_steps.specs.declared.splits.Split.{Split}
use Rattle.vx_steps.specs.declared.wholes.Wholes.{Wholes}
use Rattle.vx_steps.specs.Agreement.{Agrees}
use Rattle.vx_steps.specs.Jobs.{active_of, number_left, AddsLeaves, IsAskedBy, KeepsTold, KeepsWholesFor, OnlyKeeps}
use Rattle.vx_steps.specs.KeptData.{Kept}
use Rattle.vx_steps.specs.Kept.{IsKept}
use Rattle.vx_steps.specs.Needed.{open_reads, still_reads}
use Rattle.vx_steps.specs.Needs.{Among}
use Rattle.vx_steps.specs.Pieces.{read_of, IsGivenTo, IsNextRow, IsStillRead, ReadsDirectly}
use Rattle.vx_steps.specs.ReadTable.{bytes_of}
use Rattle.vx_steps.specs.ReadTableData.{ReadsData, Wanted}
use Rattle.vx_steps.specs.Running.{AreDecoded, HeldCame, HoldsWhatIsRead, IsActive, IsActiveOutput, IsHeldAt, IsLast, IsPassing, IsRunning, IsStarted}
use Rattle.vx_steps.specs.Standings.{none_given, numbers_from, split_left, standing_of, SplitLeft, Standing}
use Rattle.vx_steps.specs.Steps.{FirstReads, HasCame, HasCauseIn, HasSplitCause, IsHeldUpAt, IsMissed, IsReadByRest, IsStepRefusal, LeavesRows}
use Rattle.vx_steps.specs.StillRead.{SegmentIsRead}
use Rattle.vx_steps.specs.Tries.{Finishes, LeavesFirst, Refuses, WaitsForNeed}
use Rattle.vx_steps.specs.Turns.{HasNeedCause}
use Rattle.vx_steps.specs.Wants.{IsNeededLeaf}
use Rattle.vx_steps.specs.Wholes.{AddsOnly, Asks}
use Rattle.vx_steps.proofs.AllReads.{one_of_all}
use Rattle.vx_steps.proofs.Changed.{changed_among, changed_at, changed_either, changed_same}
use Rattle.vx_steps.proofs.FirstRows.{some_forwards}
use Rattle.vx_steps.proofs.MissingBytes.{missing_first}
use Rattle.vx_steps.proofs.OpenReads.{among_mapped, mapped_from, read_of_rest}
use Rattle.vx_steps.proofs.PieceRows.{at_among, needs_are}
use Rattle.vx_steps.proofs.Releasing.{got_among}
use Rattle.vx_steps.proofs.Selecting.{among_back, among_front, among_split}
use Rattle.vx_steps.proofs.StartedNeeds.{read_by_rest_in}
use Rattle.vx_steps.proofs.TriedSplits.{active_grown, gave, keeps_tried, segment_before, serves_tried, started_gave, started_same, tried, HasParts, TriesSplit}
use Rattle.vx_steps.proofs.WantedReads.{map_set, set_there}

-- ---- what is held

-- no more rows are left that read a segment whose bytes came
holds_tried : (nodes : List Node) (job : Job) (old : Progress) (place : ℕ) (active : ActiveSplit) (split : Split) (last : Bool) (actives : Vec ActiveSplit Global) (reads : ReadsData) (store : LeafStore) (wholes : Wholes) (at : GivenRows) → actives.items ≡ set old.active.items place (gave active at) → active.at.done ≤ at.done → HasParts nodes job old place active split → TriesSplit nodes job old active split last reads store wholes → HoldsWhatIsRead nodes job old → HoldsWhatIsRead nodes job (tried old actives reads store wholes)
holds_tried nodes job old place active split last actives reads store wholes at same more parts tries holds s bytes came read =
    holds s bytes (subst (λ (ws : List Wanted). bytes_of ws s ≡ Some bytes) tries.decoded.wanted came) (segment_before nodes job old place active actives reads store wholes at same parts.among more s read)

came_tried : (nodes : List Node) (job : Job) (old : Progress) (active : ActiveSplit) (split : Split) (last : Bool) (actives : Vec ActiveSplit Global) (reads : ReadsData) (store : LeafStore) (wholes : Wholes) → TriesSplit nodes job old active split last reads store wholes → HeldCame nodes old → HeldCame nodes (tried old actives reads store wholes)
came_tried nodes job old active split last actives reads store wholes tries came s holds = by (came s holds)
  where
    by : HasCame nodes old.reads.wanted old.store.columns.all s → HasCame nodes reads.wanted store.columns.all s
    by (inl (place, bytes, at)) = inl (place, bytes, ap (λ (ws : List Wanted). slice_get ws place) tries.decoded.wanted ∙ at)
    by (inr (leaf, over, kept)) = inr (leaf, over, (kept.0, tries.decoded.keeps.grows leaf kept.0 kept.1))

-- ---- no rows were given

-- there is one next row from a place on
next_row : (bits : List Bool) (done one other : ℕ) → IsNextRow bits done one → IsNextRow bits done other → one ≡ other
next_row bits done one other is also = ⊎_elim
    (λ (less : one < other). absurd (also.none one is.behind less (is.here (within one other less also.within))))
    (λ (more : other ≤ one). ⊎_elim
    (λ (less : other < one). absurd (is.none other also.behind less (also.here (within other one less is.within))))
    (λ (same : one ≤ other). both more same)
    (cases_lt other one))
    (cases_lt one other)
  where
    within : (a b : ℕ) → a < b → b ≤ length bits → a < length bits
    within a b less inside = omega arith

    both : other ≤ one → one ≤ other → one ≡ other
    both more same = omega arith

true_not_false : true ≡ false → ⊥
true_not_false same = cc

pub running_tried : (nodes : List Node) (job : Job) (old : Progress) (place : ℕ) (active : ActiveSplit) (split : Split) (last : Bool) (actives : Vec ActiveSplit Global) (reads : ReadsData) (store : LeafStore) (wholes : Wholes) (at : GivenRows) → actives.items ≡ set old.active.items place (gave active at) → HasParts nodes job old place active split → IsRunning nodes job old → (last ≡ true → IsLast job old) → TriesSplit nodes job old active split last reads store wholes →
    IsGivenTo nodes job.given store.columns.here wholes job.plan split active.needs.items at → AreDecoded store.columns.all active.needs.items at.next → at.done ≡ active.at.done → IsRunning nodes job (tried old actives reads store wholes)
running_tried nodes job old place active split last actives reads store wholes at same parts running is_last tries given decoded done =
    let going = running.going in
    let noted = going.noted parts.begun in
    let N : ℕ → Type 0 = λ k. IsNextRow split.mask k at.row in
    let row : at.row ≡ active.at.row = next_row split.mask active.at.done at.row active.at.row (subst N done given.row) parts.given.row in
    let left : at.row < length split.mask = subst (λ (k : ℕ). k < length split.mask) (sym row) parts.left in
    let more : active.at.done ≤ at.done = omega arith in
    record {
      first = running.first;
      unforgotten = λ not. absurd (true_not_false (sym noted ∙ not));
      going = record {
        ready = λ begun. tries.here.ready ∙ going.ready begun;
        noted = going.noted;
        actives = λ b m. ⊎_elim
            (λ (e : gave active at ≡ b). subst A e (record { started = started_gave nodes job old place active split last reads store wholes at parts tries given decoded; left = left; rest = record { only = λ need among. let o = parts.rest.only need among in (o.0, subst (λ (k : ℕ). k ≤ need.last) (sym done) o.1); all = λ need among late. parts.rest.all need among (subst (λ (k : ℕ). k ≤ need.last) done late) } }))
            (λ (among : Among b old.active.items). active_grown nodes job old active split last reads store wholes tries b (going.actives b among))
            (changed_either old.active.items place (gave active at) b (subst (λ (xs : List ActiveSplit). Among b xs) same m));
        serves = serves_tried nodes job old place active split actives reads store wholes at same parts running last is_last tries;
        keeps = keeps_tried nodes job old place active split last actives reads store wholes at same more parts running tries;
        needed = λ s holds. read_by_rest_in nodes job (standing_of old) (standing_of (tried old actives reads store wholes)) s (ap (λ (xs : List SplitLeft). xs ++ map none_given (numbers_from old.next (drop old.next job.splits.items))) (started_same old place active actives at same parts.active_at done)) (going.needed s holds);
        holds = holds_tried nodes job old place active split last actives reads store wholes at same more parts tries going.holds;
        came = came_tried nodes job old active split last actives reads store wholes tries going.came;
      };
    }
  where
    A : ActiveSplit → Type 0
    A b = IsActive nodes job store.columns reads.wanted wholes b

-- ---- rows were given

-- what was needed by rows that are left still is, or an open need is of it
needed_passing : (nodes : List Node) (job : Job) (old : Progress) (place : ℕ) (active : ActiveSplit) (split : Split) (actives : Vec ActiveSplit Global) (reads : ReadsData) (store : LeafStore) (wholes : Wholes) (at : GivenRows) → actives.items ≡ set old.active.items place (gave active at) → HasParts nodes job old place active split → (segment : ℕ) → IsReadByRest nodes job (standing_of old) segment →
    IsReadByRest nodes job (standing_of (tried old actives reads store wholes)) segment ⊎ SegmentIsRead segment (still_reads actives.items)
needed_passing nodes job old place active split actives reads store wholes at same parts segment (t, among, (other, other_at, still)) =
    ⊎_elim (λ (m : Among t (map split_left old.active.items)). started (mapped_from split_left t old.active.items m)) (λ (m : Among t rest). inl (t, among_back t (map split_left actives.items) rest m, (other, other_at, still))) (among_split t (map split_left old.active.items) rest among)
  where
    rest : List SplitLeft
    rest = map none_given (numbers_from old.next (drop old.next job.splits.items))

    mine : Among (gave active at) actives.items
    mine = subst (λ (xs : List ActiveSplit). Among (gave active at) xs) (sym same) (got_among (set old.active.items place (gave active at)) place (gave active at) (changed_at old.active.items place active (gave active at) parts.active_at))

    open_read : split_left active ≡ t → SegmentIsRead segment (still_reads actives.items)
    open_read is =
        let one : split ≡ other = same_Some split other (sym parts.split_at ∙ (ap (λ (x : SplitLeft). slice_get job.splits.items x.number) is ∙ other_at)) in
        let G : SplitLeft → Type 0 = λ x. IsStillRead nodes job other x.given segment in
        let S : Split → Type 0 = λ x. IsStillRead nodes job x active.at.done segment in
        let own : S split = subst S (sym one) (subst G (sym is) still) in
        let there = read_of_rest nodes job split active.needs.items active.rest active.at.done own.0 parts.placed parts.rest.all own.2 in
        (own.0, one_of_all (map open_reads actives.items) (open_reads (gave active at)) own.0 (among_mapped open_reads (gave active at) actives.items mine) there, own.1)

    started : (a : ActiveSplit) × Among a old.active.items × (split_left a ≡ t) → IsReadByRest nodes job (standing_of (tried old actives reads store wholes)) segment ⊎ SegmentIsRead segment (still_reads actives.items)
    started (a, m, is) = ⊎_elim
        (λ (e : active ≡ a). inr (open_read (ap split_left e ∙ is)))
        (λ (among : Among a (set old.active.items place (gave active at))).
        let now = subst (λ (xs : List ActiveSplit). Among a xs) (sym same) among in
        let L : SplitLeft → Type 0 = λ x. Among x (map split_left actives.items) in
        inl (t, among_front t (map split_left actives.items) rest (subst L is (among_mapped split_left a actives.items now)), (other, other_at, still)))
        (changed_among old.active.items place active (gave active at) a parts.active_at m)

pub passing_tried : (nodes : List Node) (job : Job) (old : Progress) (place : ℕ) (active : ActiveSplit) (split : Split) (last : Bool) (actives : Vec ActiveSplit Global) (reads : ReadsData) (store : LeafStore) (wholes : Wholes) (at : GivenRows) → actives.items ≡ set old.active.items place (gave active at) → HasParts nodes job old place active split → IsRunning nodes job old → (last ≡ true → IsLast job old) → TriesSplit nodes job old active split last reads store wholes →
    IsGivenTo nodes job.given store.columns.here wholes job.plan split active.needs.items at → AreDecoded store.columns.all active.needs.items at.next → active.at.done < at.done → IsPassing nodes job place (tried old actives reads store wholes)
passing_tried nodes job old place active split last actives reads store wholes at same parts running is_last tries given decoded less =
    let going = running.going in
    let more : active.at.done ≤ at.done = omega arith in
    record {
      ready = tries.here.ready ∙ going.ready parts.begun;
      noted = going.noted parts.begun;
      others = λ i b got apart.
          let before : slice_get old.active.items i ≡ Some b = sym (set_there old.active.items place i (gave active at) (λ e. apart (sym e))) ∙ (ap (λ (xs : List ActiveSplit). slice_get xs i) (sym same) ∙ got) in
          active_grown nodes job old active split last reads store wholes tries b (going.actives b (got_among old.active.items i b before));
      this = λ b got. subst S (own b got) (started_gave nodes job old place active split last reads store wholes at parts tries given decoded);
      begun = λ b got. subst B (own b got) (some less);
      rest_only = λ b need got. subst O (own b got) (λ need among. (parts.rest.only need among).0) need;
      rest_all = λ b need got. subst R (own b got) (λ need among late. parts.rest.all need among (before need late)) need;
      serves = serves_tried nodes job old place active split actives reads store wholes at same parts running last is_last tries;
      keeps = keeps_tried nodes job old place active split last actives reads store wholes at same more parts running tries;
      needed = λ s holds. needed_passing nodes job old place active split actives reads store wholes at same parts s (going.needed s holds);
      holds = holds_tried nodes job old place active split last actives reads store wholes at same more parts tries going.holds;
      came = came_tried nodes job old active split last actives reads store wholes tries going.came;
    }
  where
    S : ActiveSplit → Type 0
    S b = IsStarted nodes job store.columns reads.wanted wholes b

    B : ActiveSplit → Type 0
    B b = 0 < b.at.done

    O : ActiveSplit → Type 0
    O b = (need : PlacedRead) → Among need b.rest → Among need b.needs.items

    R : ActiveSplit → Type 0
    R b = (need : PlacedRead) → Among need b.needs.items → b.at.done ≤ need.last → Among need b.rest

    some : active.at.done < at.done → 0 < at.done
    some less = omega arith

    before : (need : PlacedRead) → at.done ≤ need.last → active.at.done ≤ need.last
    before need late = omega arith

    own : (b : ActiveSplit) → slice_get actives.items place ≡ Some b → gave active at ≡ b
    own b got = same_Some (gave active at) b (sym (changed_at old.active.items place active (gave active at) parts.active_at) ∙ (ap (λ (xs : List ActiveSplit). slice_get xs place) (sym same) ∙ got))

pub output_tried : (nodes : List Node) (job : Job) (old : Progress) (place : ℕ) (active : ActiveSplit) (split : Split) (actives : Vec ActiveSplit Global) (reads : ReadsData) (store : LeafStore) (wholes : Wholes) (at : GivenRows) → actives.items ≡ set old.active.items place (gave active at) → HasParts nodes job old place active split → IsGivenTo nodes job.given store.columns.here wholes job.plan split active.needs.items at → (column : ColumnData) →
    Finishes nodes job split active.at.done at.done old.reads.wanted old.store.columns.all old.wholes.made wholes store.columns.all column → IsActiveOutput nodes job old (tried old actives reads store wholes) place column
output_tried nodes job old place active split actives reads store wholes at same parts given column gives = record {
  active = active;
  active_at = parts.active_at;
  after = gave active at;
  after_at = ap (λ (xs : List ActiveSplit). slice_get xs place) same ∙ changed_at old.active.items place active (gave active at) parts.active_at;
  same = refl;
  started = ap (map split_left) same ∙ map_set split_left old.active.items place (gave active at);
  split = split;
  split_at = parts.split_at;
  within = gives.within;
  some = gives.some;
  rest = λ less. subst (λ (k : ℕ). slice_get split.mask k ≡ Some true) begun (given.row.here (subst (λ (k : ℕ). k < length split.mask) (sym begun) less));
  output = gives.output;
  there = gives.there;
  leaves = gives.leaves_are;
}
  where
    some : active.at.done < at.done → 0 < at.done
    some less = omega arith

    begun : at.row ≡ at.done
    begun = given.begun (some (some_forwards split.mask active.at.done at.done gives.some))

-- ---- the first row waits

pub held_tried : (nodes : List Node) (job : Job) (old : Progress) (place : ℕ) (active : ActiveSplit) (split : Split) (leaves : List Kept) (wholes : Wholes) (at : GivenRows) → HasParts nodes job old place active split → IsGivenTo nodes job.given leaves wholes job.plan split active.needs.items at → at.done ≡ active.at.done → WaitsForNeed old.reads.wanted old.store.columns.all active.needs.items at → IsHeldAt nodes job old place
held_tried nodes job old place active split leaves wholes at parts given done ((need, there, lacks), (other, other_there, early)) other_active got =
    let P : ActiveSplit → Type 0 = λ a. IsHeldUpAt nodes job old.store.columns.all old.reads.wanted (split_left a) in
    let among = at_among need active.needs.items at.next there in
    let missed : IsMissed old.store.columns.all old.reads.wanted (read_of need) = (lacks.0, missing_first old.reads.wanted need.segment (parts.asked need among lacks.0) lacks.1) in
    let own : P active = (split, parts.split_at, (read_of need, missed, ⊎_elim (λ d. inl (direct d.0 d.1)) (λ i. inr (need.last, i.1, i.2)) (parts.placed.only need among))) in
    subst P (same_Some active other_active (sym parts.active_at ∙ got)) own
  where
    low : at.done ≤ need.from
    low = ⊎_elim (λ (before : need.from < at.done). absurd (let less : at.next < at.next = given.passed at.next need there before in omega arith)) (λ (behind : at.done ≤ need.from). behind) (cases_lt need.from at.done)

    high : need.from ≤ at.row
    high =
        let F : PlacedRead → Type 0 = λ n. n.from ≤ at.row in
        subst F (same_Some other need (sym other_there ∙ there)) early

    is_row : slice_get split.mask need.from ≡ Some true → need.from ≡ at.row
    is_row chosen = ⊎_elim (λ (before : need.from < at.row). absurd (given.row.none need.from low before chosen)) (λ (behind : at.row ≤ need.from). equal behind) (cases_lt need.from at.row)
      where
        equal : at.row ≤ need.from → need.from ≡ at.row
        equal behind =
            let early : need.from ≤ at.row = high in
            omega arith

    direct : slice_get split.mask need.from ≡ Some true → ReadsDirectly nodes job.given job.plan (split.rows.start + need.from) (read_of need) → FirstReads nodes job split active.at.done (read_of need)
    direct chosen reads =
        let e = is_row chosen in
        let N : ℕ → Type 0 = λ k. IsNextRow split.mask k at.row in
        let D : ℕ → Type 0 = λ k. ReadsDirectly nodes job.given job.plan (split.rows.start + k) (read_of need) in
        let C : ℕ → Type 0 = λ k. slice_get split.mask k ≡ Some true in
        (at.row, subst N done given.row, subst C e chosen, subst D e reads)

-- ---- what is kept

pub numbers_same : (old : Progress) (place : ℕ) (active : ActiveSplit) (actives : Vec ActiveSplit Global) (at : GivenRows) → actives.items ≡ set old.active.items place (gave active at) → slice_get old.active.items place ≡ Some active → map number_left (map split_left actives.items) ≡ map number_left (map split_left old.active.items)
numbers_same old place active actives at same here =
    ap (λ (xs : List ActiveSplit). map number_left (map split_left xs)) same
    ∙ (ap (map number_left) (map_set split_left old.active.items place (gave active at)) ∙ changed_same number_left (map split_left old.active.items) place (split_left active) (split_left (gave active at)) (slice_get-map split_left old.active.items place ∙ ap (option_map split_left) here) refl)

number_among : (old : Progress) (place : ℕ) (active : ActiveSplit) → slice_get old.active.items place ≡ Some active → Among active.split (active_of (standing_of old))
number_among old place active here = among_mapped number_left (split_left active) (map split_left old.active.items) (among_mapped split_left active old.active.items (got_among old.active.items place active here))

pub told_tried : (nodes : List Node) (job : Job) (old : Progress) (active : ActiveSplit) (split : Split) (last : Bool) (actives : Vec ActiveSplit Global) (reads : ReadsData) (store : LeafStore) (wholes : Wholes) → TriesSplit nodes job old active split last reads store wholes → KeepsTold nodes job (standing_of old) (standing_of (tried old actives reads store wholes))
told_tried nodes job old active split last actives reads store wholes tries outside is =
    let have = tries.decoded.keeps.right outside is.bytes is.leaves_are in
    record { bytes = subst (λ (ws : List Wanted). Agrees ws outside) (sym tries.decoded.wanted) is.bytes; leaves_are = have; made_are = tries.readies.made.right (leaves_of outside) have is.made_are }

pub leaves_tried : (nodes : List Node) (job : Job) (old : Progress) (place : ℕ) (active : ActiveSplit) (split : Split) (last : Bool) (reads : ReadsData) (store : LeafStore) (wholes : Wholes) → HasParts nodes job old place active split → TriesSplit nodes job old active split last reads store wholes → AddsLeaves nodes job (active_of (standing_of old)) old.store.columns.all store.columns.all
leaves_tried nodes job old place active split last reads store wholes parts tries n kept =
    let are = needs_are nodes job split active.needs.items parts.placed in
    ⊎_elim (λ (k : IsKept old.store.columns.all n). inl k) (λ (l : IsNeededLeaf (map read_of active.needs.items) n). inr (record { number = active.split; among = number_among old place active parts.active_at; split = split; at = parts.split_at; read = l.0; reads = are.only l.0 l.1; leaf_is = l.2 })) (tries.decoded.only n kept)

pub wholes_tried : (nodes : List Node) (job : Job) (old : Progress) (place : ℕ) (active : ActiveSplit) (split : Split) (last : Bool) (reads : ReadsData) (store : LeafStore) (wholes : Wholes) → HasParts nodes job old place active split → TriesSplit nodes job old active split last reads store wholes → KeepsWholesFor nodes job (active_of (standing_of old)) old.wholes wholes
wholes_tried nodes job old place active split last reads store wholes parts tries = record {
  made = tries.readies.made.grows;
  used = tries.readies.used.grows;
  made_only = only_asked old.wholes.made wholes.made tries.readies.asked.made;
  used_only = only_asked old.wholes.used wholes.used tries.readies.asked.used;
}
  where
    only_asked : (before after : List Kept) → AddsOnly (Asks nodes job.given job.plan split.rows.start split.mask) before after → AddsOnly (IsAskedBy nodes job (active_of (standing_of old))) before after
    only_asked before after only n kept = ⊎_elim (λ (k : IsKept before n). inl k) (λ (a : Asks nodes job.given job.plan split.rows.start split.mask n). inr (record { number = active.split; split = split; at = parts.split_at; asks = a }, number_among old place active parts.active_at)) (only n kept)

pub only_keeps_tried : (nodes : List Node) (job : Job) (old : Progress) (place : ℕ) (active : ActiveSplit) (split : Split) (last : Bool) (actives : Vec ActiveSplit Global) (reads : ReadsData) (store : LeafStore) (wholes : Wholes) (at : GivenRows) → actives.items ≡ set old.active.items place (gave active at) → HasParts nodes job old place active split → TriesSplit nodes job old active split last reads store wholes → at.done ≡ active.at.done → OnlyKeeps nodes job (standing_of old) (standing_of (tried old actives reads store wholes))
only_keeps_tried nodes job old place active split last actives reads store wholes at same parts tries done = record {
  next = refl;
  started = started_same old place active actives at same parts.active_at done;
  held = refl;
  wanted = tries.decoded.wanted;
  handed = tries.decoded.handed;
  told = told_tried nodes job old active split last actives reads store wholes tries;
  leaves = tries.decoded.keeps.grows;
  leaves_only = leaves_tried nodes job old place active split last reads store wholes parts tries;
  wholes = wholes_tried nodes job old place active split last reads store wholes parts tries;
}

-- ---- a refusal

rows_left : (nodes : List Node) (job : Job) (split : Split) (old new : Standing) (error : StepError) → LeavesFirst nodes job split old.reads.wanted old.leaves old.wholes.made new.leaves error → LeavesRows nodes job old new split error
rows_left nodes job split old new (BadSegment segment) left = tt
rows_left nodes job split old new (Unsupported list) left = left
rows_left nodes job split old new (BadCode take row) left = left
rows_left nodes job split old new (EvalFault row) left = left
rows_left nodes job split old new Memory left = tt

pub refusal_tried : (nodes : List Node) (job : Job) (old : Progress) (place : ℕ) (active : ActiveSplit) (split : Split) (last : Bool) (actives : Vec ActiveSplit Global) (reads : ReadsData) (store : LeafStore) (wholes : Wholes) (at : GivenRows) → actives.items ≡ set old.active.items place (gave active at) → HasParts nodes job old place active split → TriesSplit nodes job old active split last reads store wholes →
    (error : StepError) → Refuses nodes job split (map read_of active.needs.items) old.reads.wanted old.store.columns.all old.wholes.made wholes store.columns.all error → IsStepRefusal nodes job (standing_of old) (standing_of (tried old actives reads store wholes)) error
refusal_tried nodes job old place active split last actives reads store wholes at same parts tries error refuses = inr (record {
  number = active.split;
  active = subst (λ (ns : List ℕ). Among active.split ns) (sym (numbers_same old place active actives at same parts.active_at)) (number_among old place active parts.active_at);
  split = split;
  at = parts.split_at;
  cause = subst (λ (ws : List Wanted). HasSplitCause nodes job (standing_of old) ws split error) (sym tries.decoded.wanted) (λ outside is. by outside error (refuses.cause outside is));
  left = refuses.left;
  leaves = rows_left nodes job split (standing_of old) (standing_of (tried old actives reads store wholes)) error refuses.left_leaves;
})
  where
    by : (outside : Bytes) (error : StepError) → HasNeedCause nodes job split (map read_of active.needs.items) old.reads.wanted outside error → HasCauseIn nodes job old.reads.wanted split outside error
    by outside (BadSegment segment) (need, among, torn) = (need, (needs_are nodes job split active.needs.items parts.placed).only need among, torn.0, torn.1)
    by outside (Unsupported list) h = h
    by outside (BadCode node row) h = h
    by outside (EvalFault row) h = h
    by outside Memory h = tt
