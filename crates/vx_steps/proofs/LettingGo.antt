-- What stays true when a leaf and a segment are let go that no row to come needs.
use Rattle.std.proofs.Common.{◌≡◌, Global, Vec, ℕ, ◌∷◌, set, ◌<◌, ◌==◌, ◌⊎◌, inl, inr, ⊎_elim, Bool, true, false, List, Option, Some, None, length, map, refl, sym, ap, ◌∙◌, subst, arith}
use Rattle.std.specs.Prelude.{if◌then◌else◌}
use Rattle.std.specs.List.{slice_get}
use Rattle.std.specs.Option.{is_some}
use Rattle.std.proofs.lemmas.Bool.{cases_eq}
use Rattle.std.proofs.lemmas.Option.{slice_get_within}
use Rattle.vx_base.specs.Columns.{ColumnData}
use Rattle.vx_plan.specs.Nodes.{Node}
use Rattle.vx_steps.specs.declared.jobs.ActiveSplit.{ActiveSplit}
use Rattle.vx_steps.specs.declared.jobs.Job.{Job}
use Rattle.vx_steps.specs.declared.jobs.Progress.{Progress}
use Rattle.vx_steps.specs.declared.leaf_reads.LeafRead.{LeafRead}
use Rattle.vx_steps.specs.declared.placed_reads.PlacedRead.{PlacedRead}
use Rattle.vx_steps.specs.declared.still_read.StillRead.{StillRead}
use Rattle.vx_steps.specs.HeldData.{HeldData, Holds, KeepsRoom}
use Rattle.vx_steps.specs.Kept.{kept_at, IsKept}
use Rattle.vx_steps.specs.KeptData.{Kept}
use Rattle.vx_steps.specs.LaterReads.{SplitRead}
use Rattle.vx_steps.specs.LeafColumns.{Forgets}
use Rattle.vx_steps.specs.LeavesData.{LeavesData}
use Rattle.vx_steps.specs.Leavings.{IsReadBehind}
use Rattle.vx_steps.specs.LettingGo.{ForgetsUnneeded, KeepsStanding, LetsGoUnneeded, ReleasesUnneeded}
use Rattle.vx_steps.specs.Needed.{open_reads, still_reads, AreReadsOfSplits, IsNeededBy, KeepsNeeded, LeafIsAhead, LeafIsNeeded, SegmentIsAhead}
use Rattle.vx_steps.specs.Needs.{Among}
use Rattle.vx_steps.specs.Pieces.{read_of}
use Rattle.vx_steps.specs.Places.{place_in}
use Rattle.vx_steps.specs.ReadTable.{bytes_of, IsGone, IsNamed, KeepsGone}
use Rattle.vx_steps.specs.ReadTableData.{ReadsData, Stored}
use Rattle.vx_steps.specs.Releasing.{IsSpent, NoneReads}
use Rattle.vx_steps.specs.Running.{IsPassing, IsSound, IsStarted}
use Rattle.vx_steps.specs.Standings.{standing_of}
use Rattle.vx_steps.specs.Steps.{IsReadByRest}
use Rattle.vx_steps.specs.StillRead.{SegmentIsRead, TalliesOneLess}
use Rattle.vx_steps.proofs.AllReads.{one_of_all}
use Rattle.vx_steps.proofs.OpenReads.{among_mapped, lacked_left, later_needed, leaf_ahead, mapped_from, needed_by, noted_reads, segment_ahead, segment_left, AreCountedOpen}
use Rattle.vx_steps.proofs.PassedNeeds.{need_passed, passed_to, sound_passed, standing_passed, with_rest, IsPassingBut}
use Rattle.vx_steps.proofs.Releasing.{among_at, got_among}

-- ---- what went

-- The leaf and the segment may be gone, if neither is ahead; nothing else is.
pub record LetsOnly (leaf segment : ℕ) (apart : Type 0) (leaf_is segment_is : Type 0) (old : Progress) (here : List Kept) (stored : List Stored) (held : HeldData) : Type 0 where
  pub here_is : (n : ℕ) → (kept_at here n ≡ kept_at old.store.columns.here n) ⊎ ((leaf ≡ n) × apart × (leaf_is → ⊥))
  pub gone : (s : ℕ) → IsGone stored s → IsGone old.reads.stored s ⊎ ((segment ≡ s) × (segment_is → ⊥))
  pub still_gone : KeepsGone old.reads.stored stored
  pub named : (s n : ℕ) → IsNamed old.reads.stored s n → IsNamed stored s n
  pub held_only : (s : ℕ) → Holds held s → Holds old.needed.held s
  pub held_kept : (s : ℕ) → Holds old.needed.held s → Holds held s ⊎ ((segment ≡ s) × ((bytes : List ℕ) → bytes_of old.reads.wanted segment ≡ Some bytes → IsGone stored segment) × (segment_is → ⊥))
  pub ahead : Holds held segment → segment_is
  pub room : KeepsRoom old.needed.held held

-- the leaf is set apart
abbrev IsApart : ℕ → Progress → Type 0
IsApart leaf progress = (place : ℕ) × (place_in progress.needed.apart.places leaf ≡ Some place)

-- what is found there has a place
pub some_place : (o : Option ℕ) → is_some o ≡ true → (place : ℕ) × (o ≡ Some place)
some_place None some = absurd cc
some_place (Some place) some = (place, refl)

column_after : (leaf n : ℕ) (o : Option ColumnData) (b : Bool) → (leaf == n) ≡ b → (b ≡ true → leaf ≡ n) → ((if leaf == n then None else o) ≡ o) ⊎ (leaf ≡ n)
column_after leaf n o true e same = inr (same refl)
column_after leaf n o false e same = inl (ap (λ (b : Bool). if b then None else o) e)

key_same : (leaf n : ℕ) → (leaf == n) ≡ true → leaf ≡ n
key_same leaf n e = grind arith

forgets_only : (leaf splits : ℕ) (old new : Progress) → ForgetsUnneeded leaf splits old new → (still : List LeafRead) (later : List SplitRead) → IsNeededBy old.needed still later old.next splits → (n : ℕ) → (kept_at new.store.columns.here n ≡ kept_at old.store.columns.here n) ⊎ ((leaf ≡ n) × IsApart leaf old × (LeafIsAhead still later old.next splits leaf → ⊥))
forgets_only leaf splits old new (inl same) still later by n = inl (ap (λ (leaves : LeavesData). kept_at leaves.here n) same)
forgets_only leaf splits old new (inr (forgets, apart, not)) still later by n = ⊎_elim
    (λ (e : (if leaf == n then None else kept_at old.store.columns.here n) ≡ kept_at old.store.columns.here n). inl (forgets.here n ∙ e))
    (λ (e : leaf ≡ n). inr (e, apart, not still later by))
    (column_after leaf n (kept_at old.store.columns.here n) (leaf == n) refl (key_same leaf n))

lets_only : (leaf segment splits : ℕ) (old new : Progress) → LetsGoUnneeded leaf segment splits old new → (still : List LeafRead) (later : List SplitRead) → IsNeededBy old.needed still later old.next splits →
    LetsOnly leaf segment (IsApart leaf old) (LeafIsAhead still later old.next splits leaf) (SegmentIsAhead still later old.next splits segment) old new.store.columns.here new.reads.stored new.needed.held
lets_only leaf segment splits old new lets still later by = on lets.segments
  where
    here : (n : ℕ) → (kept_at new.store.columns.here n ≡ kept_at old.store.columns.here n) ⊎ ((leaf ≡ n) × IsApart leaf old × (LeafIsAhead still later old.next splits leaf → ⊥))
    here = forgets_only leaf splits old new lets.leaves still later by

    on : ReleasesUnneeded segment splits old new → LetsOnly leaf segment (IsApart leaf old) (LeafIsAhead still later old.next splits leaf) (SegmentIsAhead still later old.next splits segment) old new.store.columns.here new.reads.stored new.needed.held
    on (inl (reads, held, is)) =
        let stored : new.reads.stored ≡ old.reads.stored = ap (λ (r : ReadsData). r.stored) reads in
        record {
          here_is = here;
          gone = λ s gone. inl (subst (λ (st : List Stored). IsGone st s) stored gone);
          still_gone = λ s gone. subst (λ (st : List Stored). IsGone st s) (sym stored) gone;
          named = λ s n named. subst (λ (st : List Stored). IsNamed st s n) (sym stored) named;
          held_only = λ s holds. subst (λ (h : HeldData). Holds h s) held holds;
          held_kept = λ s holds. inl (subst (λ (h : HeldData). Holds h s) (sym held) holds);
          ahead = λ holds. is still later by;
          room = λ s room. subst (λ (h : HeldData). Among s h.room) (sym held) room;
        }
    on (inr (reads, held, room, not)) = record {
      here_is = here;
      gone = λ s gone. ⊎_elim (λ (g : IsGone old.reads.stored s). inl g) (λ (e : segment ≡ s). inr (e, not still later by)) (reads.gone s gone);
      still_gone = reads.still_gone;
      named = reads.named;
      held_only = λ s holds. ((held s).0 holds).0;
      held_kept = λ s holds. ⊎_elim (λ (e : segment ≡ s). inr (e, reads.let_go, not still later by)) (λ (apart : segment ≡ s → ⊥). inl ((held s).1 (holds, apart))) (cases_eq segment s);
      ahead = λ holds. absurd (((held segment).0 holds).1 refl);
      room = room;
    }

-- first the leaf went, and then the segment
pub lets_unneeded : (leaf segment splits : ℕ) (old mid new : Progress) → ForgetsUnneeded leaf splits old mid → mid ≡ record old { store = record old.store { columns = mid.store.columns } } → ReleasesUnneeded segment splits mid new → new ≡ record mid { reads = new.reads; needed = record mid.needed { held = new.needed.held } } → LetsGoUnneeded leaf segment splits old new
lets_unneeded leaf segment splits old mid new forgets first releases second =
    let F : LeavesData → Type 0 = λ columns. (columns ≡ old.store.columns) ⊎ (Forgets leaf old.store.columns columns × IsApart leaf old × ((still : List LeafRead) (later : List SplitRead) → IsNeededBy old.needed still later old.next splits → LeafIsAhead still later old.next splits leaf → ⊥)) in
    let columns : new.store.columns ≡ mid.store.columns = ap (λ (p : Progress). p.store.columns) second in
    record {
      leaves = subst F (sym columns) forgets;
      segments = subst (λ (p : Progress). ReleasesUnneeded segment splits p new) first releases;
      next = ap (λ (p : Progress). p.next) second ∙ ap (λ (p : Progress). p.next) first;
      active = ap (λ (p : Progress). p.active) second ∙ ap (λ (p : Progress). p.active) first;
      counted = ap (λ (p : Progress). p.store.segments) second ∙ ap (λ (p : Progress). p.store.segments) first;
      wholes = ap (λ (p : Progress). p.wholes) second ∙ ap (λ (p : Progress). p.wholes) first;
      needed = ap (λ (p : Progress). p.needed) second ∙ ap (λ (p : Progress). record p.needed { held = new.needed.held }) first;
    }

-- ---- the scan afterwards

abbrev pub let_go_of : Progress → List Kept → List Stored → HeldData → Progress
let_go_of old here stored held = record {
  next = old.next;
  active = old.active;
  reads = record { wanted = old.reads.wanted; handed = old.reads.handed; stored = stored; passed = old.reads.passed };
  store = record { columns = record { all = old.store.columns.all; here = here; ready = old.store.columns.ready }; segments = old.store.segments };
  wholes = old.wholes;
  needed = record { still = old.needed.still; later = old.needed.later; apart = old.needed.apart; row = old.needed.row; noted = old.needed.noted; held = held };
}

columns_same : (leaf splits : ℕ) (old new : Progress) → ForgetsUnneeded leaf splits old new → new.store.columns ≡ record { all = old.store.columns.all; here = new.store.columns.here; ready = old.store.columns.ready }
columns_same leaf splits old new (inl same) = λ i. record { all = (ap (λ (leaves : LeavesData). leaves.all) same) i; here = new.store.columns.here; ready = (ap (λ (leaves : LeavesData). leaves.ready) same) i }
columns_same leaf splits old new (inr (forgets, apart, not)) = λ i. record { all = forgets.all i; here = new.store.columns.here; ready = forgets.ready i }

reads_same : (segment splits : ℕ) (old new : Progress) → ReleasesUnneeded segment splits old new → new.reads ≡ record { wanted = old.reads.wanted; handed = old.reads.handed; stored = new.reads.stored; passed = old.reads.passed }
reads_same segment splits old new (inl (reads, held, is)) = λ i. record { wanted = (ap (λ (r : ReadsData). r.wanted) reads) i; handed = (ap (λ (r : ReadsData). r.handed) reads) i; stored = new.reads.stored; passed = (ap (λ (r : ReadsData). r.passed) reads) i }
reads_same segment splits old new (inr (reads, held, room, not)) = λ i. record { wanted = reads.wanted i; handed = reads.handed i; stored = new.reads.stored; passed = reads.passed i }

same_let_go : (leaf segment splits : ℕ) (old new : Progress) → LetsGoUnneeded leaf segment splits old new → new ≡ let_go_of old new.store.columns.here new.reads.stored new.needed.held
same_let_go leaf segment splits old new lets =
    let columns = columns_same leaf splits old new lets.leaves in
    let reads = reads_same segment splits old new lets.segments in
    λ i. record { next = lets.next i; active = lets.active i; reads = reads i; store = record { columns = columns i; segments = lets.counted i }; wholes = lets.wholes i; needed = lets.needed i }

pub standing_let_go : (leaf segment splits : ℕ) (old new : Progress) → LetsGoUnneeded leaf segment splits old new → KeepsStanding old new
standing_let_go leaf segment splits old new lets =
    let same = same_let_go leaf segment splits old new lets in
    record {
      next = lets.next;
      started = ap (λ (p : Progress). (standing_of p).started) same;
      wanted = ap (λ (p : Progress). p.reads.wanted) same;
      handed = ap (λ (p : Progress). p.reads.handed) same;
      leaves = ap (λ (p : Progress). p.store.columns.all) same;
      wholes = lets.wholes;
    }

pub standing_then : (old mid new : Progress) → KeepsStanding old mid → KeepsStanding mid new → KeepsStanding old new
standing_then old mid new first second = record {
  next = second.next ∙ first.next;
  started = second.started ∙ first.started;
  wanted = second.wanted ∙ first.wanted;
  handed = second.handed ∙ first.handed;
  leaves = second.leaves ∙ first.leaves;
  wholes = second.wholes ∙ first.wholes;
}

started_at : (nodes : List Node) (job : Job) (place segment : ℕ) (progress : Progress) → IsPassingBut nodes job place segment progress → (active : ActiveSplit) → Among active progress.active.items → IsStarted nodes job progress.store.columns progress.reads.wanted progress.wholes active
started_at nodes job place segment progress is active among =
    let at = among_at progress.active.items active among in
    ⊎_elim (λ (e : at.0 ≡ place). is.this active (ap (slice_get progress.active.items) (sym e) ∙ at.2)) (λ (apart : at.0 ≡ place → ⊥). (is.others at.0 active at.2 apart).started) (cases_eq at.0 place)

-- each started split counts those of its needs as open of which a row is left
passing_open : (nodes : List Node) (job : Job) (place segment : ℕ) (progress : Progress) → IsPassingBut nodes job place segment progress → AreCountedOpen nodes job progress.active.items
passing_open nodes job place segment progress is = record {
  placed = λ active among. let s = started_at nodes job place segment progress is active among in (s.split, s.at, s.placed);
  all = λ active need among there late.
      let at = among_at progress.active.items active among in
      ⊎_elim (λ (e : at.0 ≡ place). is.rest_all active need (ap (slice_get progress.active.items) (sym e) ∙ at.2) there late) (λ (apart : at.0 ≡ place → ⊥). (is.others at.0 active at.2 apart).rest.all need there late) (cases_eq at.0 place);
}

-- what is here of columns serves a started split on, whose open needs are ahead
abbrev started_here : (nodes : List Node) (job : Job) (old : Progress) (here : List Kept) (active : ActiveSplit) → Among active old.active.items → AreCountedOpen nodes job old.active.items → ((need : PlacedRead) → Among (read_of need) (still_reads old.active.items) → IsKept old.store.columns.here need.leaf → IsKept here need.leaf) → IsStarted nodes job old.store.columns old.reads.wanted old.wholes active →
    IsStarted nodes job (record { all = old.store.columns.all; here = here; ready = old.store.columns.ready }) old.reads.wanted old.wholes active
started_here nodes job old here active among open_are stays is = record {
  split = is.split;
  at = is.at;
  placed = is.placed;
  order = is.order;
  are_leaves = is.are_leaves;
  asked = is.asked;
  given = record {
    row = is.given.row;
    begun = is.given.begun;
    kept = λ place need before at late.
        let there = got_among active.needs.items place need at in
        stays need (one_of_all (map open_reads old.active.items) (open_reads active) (read_of need) (among_mapped open_reads active old.active.items among) (among_mapped read_of need active.rest (open_are.all active need among there late))) (is.given.kept place need before at late);
    passed = is.given.passed;
    first = is.given.first;
    there = is.given.there;
  };
  decoded = is.decoded;
}

pub sound_let_go : (nodes : List Node) (job : Job) (leaf segment : ℕ) (leaf_is segment_is : Type 0) (old : Progress) (here : List Kept) (stored : List Stored) (held : HeldData) → LetsOnly leaf segment (IsApart leaf old) leaf_is segment_is old here stored held → KeepsNeeded nodes job old → IsSound nodes job old → IsSound nodes job (let_go_of old here stored held)
sound_let_go nodes job leaf segment leaf_is segment_is old here stored held lets keeps is = record {
  known = is.known;
  inside = is.inside;
  fits = is.fits;
  typed_given = is.typed_given;
  typed_leaves = is.typed_leaves;
  typed_made = is.typed_made;
  apart_made = is.apart_made;
  apart_used = is.apart_used;
  uses = is.uses;
  counted = is.counted;
  behind = λ n read all. by n read (is.behind n read all) (lets.here_is n);
}
  where
    by : (n : ℕ) → IsReadBehind nodes job n → IsKept old.store.columns.here n → (kept_at here n ≡ kept_at old.store.columns.here n) ⊎ ((leaf ≡ n) × IsApart leaf old × (leaf_is → ⊥)) → IsKept here n
    by n read kept (inl e) = (kept.0, e ∙ kept.1)
    by n read kept (inr (e, (place, at), not)) = absurd (keeps.apart n place (subst (λ (m : ℕ). place_in old.needed.apart.places m ≡ Some place) e at) read)

pub passing_let_go : (nodes : List Node) (job : Job) (place leaf segment : ℕ) (old : Progress) (here : List Kept) (stored : List Stored) (held : HeldData) → 0 < old.next → (is : IsPassingBut nodes job place segment old) →
    LetsOnly leaf segment (IsApart leaf old) (LeafIsAhead (still_reads old.active.items) is.keeps.later old.next (length job.splits.items) leaf) (SegmentIsAhead (still_reads old.active.items) is.keeps.later old.next (length job.splits.items) segment) old here stored held → IsPassing nodes job place (let_go_of old here stored held)
passing_let_go nodes job place leaf segment old here stored held first is lets = record {
  ready = is.ready;
  noted = is.noted;
  others = λ i a got apart.
      let one = is.others i a got apart in
      record { started = started_here nodes job old here a (got_among old.active.items i a got) open_are stays one.started; left = one.left; rest = one.rest };
  this = λ a got. started_here nodes job old here a (got_among old.active.items place a got) open_are stays (is.this a got);
  begun = is.begun;
  rest_only = is.rest_only;
  rest_all = is.rest_all;
  serves = record {
    gone_late = λ s gone. late s (lets.gone s gone);
    passed_late = is.serves.passed_late;
    served = λ a m.
        let one = is.serves.served a m in
        record { held = λ read among gone. held_still a m read among (lets.gone read.segment gone); passed = one.passed; named = λ i read at none. lets.named read.segment i (one.named i read at none) };
    active_after = is.serves.active_after;
    gone_after = λ s gone. first;
  };
  keeps = record {
    tallies = is.keeps.tallies;
    unnoted = is.keeps.unnoted;
    later = is.keeps.later;
    noted = is.keeps.noted;
    found = is.keeps.found;
    row = is.keeps.row;
    apart = is.keeps.apart;
    forgotten = λ n all none needed. forgotten n all none needed (lets.here_is n);
    none_before = λ none. absurd (omega arith);
    bytes = λ s bytes came stay. still_held s bytes came stay (lets.held_kept s (is.keeps.bytes s bytes came (λ gone. stay (lets.still_gone s gone))));
    room = λ s asked. lets.room s (is.keeps.room s asked);
    asked = is.keeps.asked;
  };
  needed = λ s holds. still_needed s holds (is.needed s (lets.held_only s holds));
  holds = λ s bytes came left. read_held s left (lets.held_kept s (is.holds s bytes came left));
  came = λ s holds. is.came s (lets.held_only s holds);
}
  where
    later_are : old.next < length job.splits.items → AreReadsOfSplits nodes job is.keeps.later
    later_are less = noted_reads nodes job old is.keeps is.noted (λ _. first) less

    open_are : AreCountedOpen nodes job old.active.items
    open_are = passing_open nodes job place segment old is

    stays : (need : PlacedRead) → Among (read_of need) (still_reads old.active.items) → IsKept old.store.columns.here need.leaf → IsKept here need.leaf
    stays need among kept = by (lets.here_is need.leaf)
      where
        by : (kept_at here need.leaf ≡ kept_at old.store.columns.here need.leaf) ⊎ ((leaf ≡ need.leaf) × IsApart leaf old × (LeafIsAhead (still_reads old.active.items) is.keeps.later old.next (length job.splits.items) leaf → ⊥)) → IsKept here need.leaf
        by (inl e) = (kept.0, e ∙ kept.1)
        by (inr (e, apart, not)) = absurd (not (inl (read_of need, among, sym e)))

    late : (s : ℕ) → IsGone old.reads.stored s ⊎ ((segment ≡ s) × (SegmentIsAhead (still_reads old.active.items) is.keeps.later old.next (length job.splits.items) segment → ⊥)) → IsSpent nodes old.store.columns.all s ⊎ NoneReads nodes job old.next s
    late s (inl gone) = is.serves.gone_late s gone
    late s (inr (e, not)) = inr (λ number split read behind at reads segment_is.
        let less : number < length job.splits.items = slice_get_within job.splits.items number split at in
        let next : old.next < length job.splits.items = omega arith in
        not (inr (next, (record { number = number; read = read }, (later_are next).all number split read at reads, segment_is ∙ sym e, behind))))

    held_still : (a : ActiveSplit) → Among a old.active.items → (read : LeafRead) → Among read (map read_of a.needs.items) → IsGone old.reads.stored read.segment ⊎ ((segment ≡ read.segment) × (SegmentIsAhead (still_reads old.active.items) is.keeps.later old.next (length job.splits.items) segment → ⊥)) → IsKept old.store.columns.all read.leaf
    held_still a m read among (inl gone) = let one = is.serves.served a m in one.held read among gone
    held_still a m read among (inr (e, not)) = by (kept_at old.store.columns.all read.leaf) refl
      where
        by : (o : Option ColumnData) → kept_at old.store.columns.all read.leaf ≡ o → IsKept old.store.columns.all read.leaf
        by (Some column) at = (column, at)
        by None at =
            let n = mapped_from read_of read a.needs.items among in
            let none : kept_at old.store.columns.all n.0.leaf ≡ None = ap (λ (r : LeafRead). kept_at old.store.columns.all r.leaf) n.2 ∙ at in
            let left = lacked_left nodes job old a (started_at nodes job place segment old is a m) m n.0 n.1 none in
            absurd (not (segment_ahead nodes job old open_are is.keeps.later later_are segment (segment_left nodes job (standing_of old) (read_of n.0) segment (ap (λ (r : LeafRead). r.segment) n.2 ∙ sym e) left)))

    forgotten : (n : ℕ) → IsKept old.store.columns.all n → kept_at here n ≡ None → LeafIsNeeded nodes job (standing_of old) n → (kept_at here n ≡ kept_at old.store.columns.here n) ⊎ ((leaf ≡ n) × IsApart leaf old × (LeafIsAhead (still_reads old.active.items) is.keeps.later old.next (length job.splits.items) leaf → ⊥)) → ⊥
    forgotten n all none needed (inl e) = is.keeps.forgotten n all (sym e ∙ none) needed
    forgotten n all none needed (inr (e, apart, not)) = not (subst (λ (m : ℕ). LeafIsAhead (still_reads old.active.items) is.keeps.later old.next (length job.splits.items) m) (sym e) (leaf_ahead nodes job old open_are is.keeps.later later_are n needed))

    still_held : (s : ℕ) (bytes : List ℕ) → bytes_of old.reads.wanted s ≡ Some bytes → (IsGone stored s → ⊥) → Holds held s ⊎ ((segment ≡ s) × ((bytes : List ℕ) → bytes_of old.reads.wanted segment ≡ Some bytes → IsGone stored segment) × (SegmentIsAhead (still_reads old.active.items) is.keeps.later old.next (length job.splits.items) segment → ⊥)) → Holds held s
    still_held s bytes came stay (inl holds) = holds
    still_held s bytes came stay (inr (e, all, not)) = absurd (stay (subst (λ (k : ℕ). IsGone stored k) e (all bytes (ap (bytes_of old.reads.wanted) e ∙ came))))

    read_held : (s : ℕ) → IsReadByRest nodes job (standing_of old) s → Holds held s ⊎ ((segment ≡ s) × ((bytes : List ℕ) → bytes_of old.reads.wanted segment ≡ Some bytes → IsGone stored segment) × (SegmentIsAhead (still_reads old.active.items) is.keeps.later old.next (length job.splits.items) segment → ⊥)) → Holds held s
    read_held s left (inl holds) = holds
    read_held s left (inr (e, all, not)) = absurd (not (subst (λ (k : ℕ). SegmentIsAhead (still_reads old.active.items) is.keeps.later old.next (length job.splits.items) k) (sym e) (segment_ahead nodes job old open_are is.keeps.later later_are s left)))

    still_needed : (s : ℕ) → Holds held s → (IsReadByRest nodes job (standing_of old) s ⊎ SegmentIsRead s (still_reads old.active.items)) ⊎ (segment ≡ s) → IsReadByRest nodes job (standing_of (let_go_of old here stored held)) s ⊎ SegmentIsRead s (still_reads old.active.items)
    still_needed s holds (inl either) = either
    still_needed s holds (inr e) = by (lets.ahead (subst (λ (k : ℕ). Holds held k) (sym e) holds))
      where
        by : SegmentIsAhead (still_reads old.active.items) is.keeps.later old.next (length job.splits.items) segment → IsReadByRest nodes job (standing_of (let_go_of old here stored held)) s ⊎ SegmentIsRead s (still_reads old.active.items)
        by (inl (read, m, same)) = inr (read, m, same ∙ e)
        by (inr (less, from)) = inl (subst (λ (k : ℕ). IsReadByRest nodes job (standing_of old) k) e (later_needed nodes job (standing_of old) is.keeps.later (later_are less) segment from))

let_go_passing : (nodes : List Node) (job : Job) (place leaf segment : ℕ) (old new : Progress) → 0 < old.next → IsSound nodes job old → IsPassingBut nodes job place segment old → LetsGoUnneeded leaf segment (length job.splits.items) old new → IsSound nodes job new × IsPassing nodes job place new
let_go_passing nodes job place leaf segment old new first sound is lets =
    let only = lets_only leaf segment (length job.splits.items) old new lets (still_reads old.active.items) is.keeps.later (needed_by nodes job old is.keeps is.noted (λ _. first)) in
    let F : Progress → Type 0 = λ p. IsSound nodes job p × IsPassing nodes job place p in
    subst F (sym (same_let_go leaf segment (length job.splits.items) old new lets)) (
      sound_let_go nodes job leaf segment (LeafIsAhead (still_reads old.active.items) is.keeps.later old.next (length job.splits.items) leaf) (SegmentIsAhead (still_reads old.active.items) is.keeps.later old.next (length job.splits.items) segment) old new.store.columns.here new.reads.stored new.needed.held only is.keeps sound,
      passing_let_go nodes job place leaf segment old new.store.columns.here new.reads.stored new.needed.held first is only,
    )

-- A need was passed, and what was let go for it.
pub pass_turn : (nodes : List Node) (job : Job) (place : ℕ) (old : Progress) (active : ActiveSplit) (need : PlacedRead) (rest : List PlacedRead) (actives : Vec ActiveSplit Global) (still : StillRead) (new : Progress) → slice_get old.active.items place ≡ Some active → active.rest ≡ need ∷ rest → need.last < active.at.done → actives.items ≡ set old.active.items place (with_rest active rest) → TalliesOneLess (read_of need) old.needed.still still →
    LetsGoUnneeded need.leaf need.segment (length job.splits.items) (passed_to old actives still) new → IsSound nodes job old → IsPassing nodes job place old → IsSound nodes job new × IsPassing nodes job place new
pass_turn nodes job place old active need rest actives still new at was last same less lets sound is = let_go_passing nodes job place need.leaf need.segment (passed_to old actives still) new (is.serves.active_after active (got_among old.active.items place active at)) (sound_passed nodes job old actives still sound) (need_passed nodes job place old active need rest actives still at was last same less is) lets

pub pass_standing : (old : Progress) (place : ℕ) (active : ActiveSplit) (need : PlacedRead) (rest : List PlacedRead) (actives : Vec ActiveSplit Global) (still : StillRead) (new : Progress) (splits : ℕ) → slice_get old.active.items place ≡ Some active → actives.items ≡ set old.active.items place (with_rest active rest) → LetsGoUnneeded need.leaf need.segment splits (passed_to old actives still) new → KeepsStanding old new
pass_standing old place active need rest actives still new splits at same lets = standing_then old (passed_to old actives still) new (standing_passed old place active rest actives still at same) (standing_let_go need.leaf need.segment splits (passed_to old actives still) new lets)
