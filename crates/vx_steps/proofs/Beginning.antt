-- What is true of a scan before its first step stays true whatever is handed in.
use Rattle.std.proofs.Common.{◌≡◌, ℕ, ◌<◌, ◌≤◌, inl, ⊎_elim, Bool, true, false, List, [], ◌∷◌, ◌++◌, map, drop, Some, None, length, refl, sym, ap, ◌∙◌, subst, arith}
use Rattle.std.proofs.lemmas.List.{length-drop, nil_from_length}
use Rattle.std.proofs.lemmas.Option.{none-some}
use Rattle.vx_base.specs.Columns.{ColumnData}
use Rattle.vx_plan.specs.Nodes.{Node}
use Rattle.vx_steps.specs.declared.jobs.ActiveSplit.{ActiveSplit}
use Rattle.vx_steps.specs.declared.jobs.Job.{Job}
use Rattle.vx_steps.specs.declared.jobs.Progress.{Progress}
use Rattle.vx_steps.specs.declared.leaf_stores.LeafStore.{LeafStore}
use Rattle.vx_steps.specs.declared.splits.Split.{Split}
use Rattle.vx_steps.specs.Held.{AreTyped, FitsOffset}
use Rattle.vx_steps.specs.Jobs.{IsUnstarted}
use Rattle.vx_steps.specs.KeptData.{Kept}
use Rattle.vx_steps.specs.Kept.{kept_at, AreOfDistinctPlans, IsKept}
use Rattle.vx_steps.specs.LeavesData.{LeavesData}
use Rattle.vx_steps.specs.Needed.{LeafIsNeeded}
use Rattle.vx_steps.specs.Needs.{Among}
use Rattle.vx_steps.specs.OpenSegments.{AreCounted}
use Rattle.vx_steps.specs.ReadTable.{bytes_of}
use Rattle.vx_steps.specs.ReadTableData.{Wanted}
use Rattle.vx_steps.specs.Running.{IsActive, IsEmptied, IsRunning, IsSound}
use Rattle.vx_steps.specs.ScanData.{ScanData, StaysTold}
use Rattle.vx_steps.specs.Standings.{left_of, none_given, numbers_from, split_left, standing_of, SplitLeft, Standing}
use Rattle.vx_steps.specs.Wants.{IsAsked}
use Rattle.vx_steps.specs.Wholes.{UsesGiven}
use Rattle.vx_steps.proofs.Apart.{apart_empty}
use Rattle.vx_steps.proofs.Fitting.{none_typed}

-- what is true of a scan's parts
abbrev pub IsScan : List Node → Job → Progress → Bool → Type 0
IsScan nodes job progress refused = IsSound nodes job progress × ((refused ≡ false → IsRunning nodes job progress) × (refused ≡ true → IsEmptied progress))

uses_empty : (given : List Kept) → UsesGiven given [] []
uses_empty given = record { grows = λ n column at. at; only = λ n column at. inl at; apart = λ apart. apart }

pub uses_none : (given used : List Kept) → used ≡ [] → UsesGiven given [] used
uses_none given used none = subst (UsesGiven given []) (sym none) (uses_empty given)

-- what was used is typed where what was handed in is
pub used_typed : (nodes : List Node) (given used : List Kept) → UsesGiven given [] used → AreTyped nodes given → AreTyped nodes used
used_typed nodes given used uses typed n column at = ⊎_elim (λ (none : kept_at [] n ≡ Some column). absurd cc) (λ (e : kept_at given n ≡ Some column). typed n column e) (uses.only n column at)

-- ---- nothing was started

pub none_mapped : {X Y : Type 0} (f : X → Y) (xs : List X) → map f xs ≡ [] → xs ≡ []
none_mapped f [] none = refl
none_mapped f (x ∷ xs) none = absurd cc

pub none_among : {X : Type 0} (xs : List X) (x : X) → xs ≡ [] → Among x xs → ⊥
none_among xs x none among = subst (Among x) none among

-- where none is active and none is left to be started, none is left
pub none_left : (job : Job) (standing : Standing) → standing.started ≡ [] → length job.splits.items ≤ standing.next → left_of job standing ≡ []
none_left job standing none past =
    let count = length-drop standing.next job.splits.items in
    let rest : drop standing.next job.splits.items ≡ [] = nil_from_length (drop standing.next job.splits.items) (omega arith) in
    ap (λ (ss : List SplitLeft). ss ++ map none_given (numbers_from standing.next (drop standing.next job.splits.items))) none ∙ ap (λ (ss : List Split). map none_given (numbers_from standing.next ss)) rest

pub not_asked : (wanted : List Wanted) (segment : ℕ) → wanted ≡ [] → IsAsked wanted segment → ⊥
not_asked wanted segment none asked =
    let here : IsAsked [] segment = subst (λ (ws : List Wanted). IsAsked ws segment) none asked in
    here.1

pub no_bytes : (wanted : List Wanted) (segment : ℕ) (bytes : List ℕ) → wanted ≡ [] → bytes_of wanted segment ≡ Some bytes → ⊥
no_bytes wanted segment bytes none came = none-some bytes (sym (ap (λ (ws : List Wanted). bytes_of ws segment) none) ∙ came)

forgotten_none : (nodes : List Node) (job : Job) (standing : Standing) (leaves : LeavesData) (noted : Bool) → standing.started ≡ [] → (noted ≡ true → length job.splits.items ≡ 0) → (noted ≡ false → (n : ℕ) → IsKept leaves.all n → IsKept leaves.here n) →
    (n : ℕ) → IsKept leaves.all n → kept_at leaves.here n ≡ None → LeafIsNeeded nodes job standing n → ⊥
forgotten_none nodes job standing leaves true none empty here n kept gone needed =
    let count = empty refl in
    let past : length job.splits.items ≤ standing.next = omega arith in
    none_among (left_of job standing) needed.0 (none_left job standing none past) needed.1
forgotten_none nodes job standing leaves false none empty here n kept gone needed =
    let is = here refl n kept in
    some_none is.0 (sym is.1 ∙ gone)
  where
    some_none : (column : ColumnData) → Some column ≡ None → ⊥
    some_none column e = cc

-- Nothing is claimed of what is handed in before the first step but that none of it is forgotten.
pub running_unstarted : (nodes : List Node) (job : Job) (progress : Progress) (given : List Kept) (offset : ℕ) (store : LeafStore) (made : List Kept) → IsUnstarted (standing_of progress) →
    (progress.needed.noted ≡ false → (n : ℕ) → IsKept store.columns.all n → IsKept store.columns.here n) → IsRunning nodes job progress →
    IsRunning nodes (record job { given = given; offset = offset }) (record progress { store = store; wholes = record progress.wholes { made = made } })
running_unstarted nodes job progress given offset store made unstarted here running =
    let none : progress.active.items ≡ [] = none_mapped split_left progress.active.items unstarted.started in
    let next = unstarted.next in
    let going = running.going in
    let keeps = going.keeps in
    let not_begun : 0 < progress.next → ⊥ = λ more. absurd (omega arith) in
    let empty : progress.needed.noted ≡ true → length job.splits.items ≡ 0 = λ noted. running.first noted next in
    record {
      first = running.first;
      unforgotten = here;
      going = record {
        ready = λ more. absurd (not_begun more);
        noted = going.noted;
        actives = λ active among. absurd (none_among progress.active.items active none among);
        serves = record {
          gone_late = λ s gone. absurd (not_begun (going.serves.gone_after s gone));
          passed_late = going.serves.passed_late;
          served = λ active among. absurd (none_among progress.active.items active none among);
          active_after = going.serves.active_after;
          gone_after = going.serves.gone_after;
        };
        keeps = record {
          tallies = keeps.tallies;
          unnoted = keeps.unnoted;
          later = keeps.later;
          noted = λ noted more. let count = empty noted in absurd (omega arith);
          found = keeps.found;
          row = keeps.row;
          apart = keeps.apart;
          forgotten = forgotten_none nodes (record job { given = given; offset = offset }) (standing_of progress) store.columns progress.needed.noted unstarted.started empty here;
          none_before = keeps.none_before;
          bytes = keeps.bytes;
          room = keeps.room;
          asked = λ s asked came. absurd (not_asked progress.reads.wanted s unstarted.wanted asked);
        };
        needed = λ s holds. absurd (none_among progress.needed.held.held s (keeps.none_before next) holds);
        holds = λ s bytes came. absurd (no_bytes progress.reads.wanted s bytes unstarted.wanted came);
        came = λ s holds. absurd (none_among progress.needed.held.held s (keeps.none_before next) holds);
      };
    }

-- ---- what is handed in

-- values that are handed in
pub scan_given : (nodes : List Node) (job new : Job) (progress : Progress) (refused : Bool) (given : List Kept) → IsUnstarted (standing_of progress) → AreTyped nodes given → new ≡ record job { given = given } → IsScan nodes job progress refused → IsScan nodes new progress refused
scan_given nodes job new progress refused given unstarted typed is scan =
    let sound = scan.0 in
    subst (λ (j : Job). IsScan nodes j progress refused) (sym is) (
      record {
        known = sound.known;
        inside = sound.inside;
        fits = sound.fits;
        typed_given = typed;
        typed_leaves = sound.typed_leaves;
        typed_made = sound.typed_made;
        apart_made = sound.apart_made;
        apart_used = sound.apart_used;
        uses = uses_none given progress.wholes.used unstarted.used;
        counted = sound.counted;
        behind = sound.behind;
      },
      (λ going. let running = scan.1.0 going in running_unstarted nodes job progress given job.offset progress.store progress.wholes.made unstarted running.unforgotten running, scan.1.1),
    )

-- columns of leaves that are
pub scan_leaves : (nodes : List Node) (job : Job) (progress new : Progress) (refused : Bool) (store : LeafStore) (kept : List Kept) → IsUnstarted (standing_of progress) → store.columns.all ≡ kept → store.columns.here ≡ kept → AreCounted nodes kept store.segments → AreTyped nodes kept → new ≡ record progress { store = store } →
    IsScan nodes job progress refused → IsScan nodes job new refused
scan_leaves nodes job progress new refused store kept unstarted all_is here_is counted typed is scan =
    let sound = scan.0 in
    let here : (n : ℕ) → IsKept store.columns.all n → IsKept store.columns.here n = λ n own. subst (λ (ks : List Kept). IsKept ks n) (all_is ∙ sym here_is) own in
    subst (λ (p : Progress). IsScan nodes job p refused) (sym is) (
      record {
        known = sound.known;
        inside = sound.inside;
        fits = sound.fits;
        typed_given = sound.typed_given;
        typed_leaves = subst (AreTyped nodes) (sym all_is) typed;
        typed_made = sound.typed_made;
        apart_made = sound.apart_made;
        apart_used = sound.apart_used;
        uses = sound.uses;
        counted = subst (λ (ks : List Kept). AreCounted nodes ks store.segments) (sym all_is) counted;
        behind = λ n read own. here n own;
      },
      (λ going. running_unstarted nodes job progress job.given job.offset store progress.wholes.made unstarted (λ noted. here) (scan.1.0 going), scan.1.1),
    )

-- whole values that were made before
pub scan_made : (nodes : List Node) (job : Job) (progress new : Progress) (refused : Bool) (made : List Kept) → IsUnstarted (standing_of progress) → AreTyped nodes made → AreOfDistinctPlans made → new ≡ record progress { wholes = record progress.wholes { made = made } } →
    IsScan nodes job progress refused → IsScan nodes job new refused
scan_made nodes job progress new refused made unstarted typed apart is scan =
    let sound = scan.0 in
    subst (λ (p : Progress). IsScan nodes job p refused) (sym is) (
      record {
        known = sound.known;
        inside = sound.inside;
        fits = sound.fits;
        typed_given = sound.typed_given;
        typed_leaves = sound.typed_leaves;
        typed_made = typed;
        apart_made = apart;
        apart_used = sound.apart_used;
        uses = sound.uses;
        counted = sound.counted;
        behind = sound.behind;
      },
      (λ going. let running = scan.1.0 going in running_unstarted nodes job progress job.given job.offset progress.store made unstarted running.unforgotten running, scan.1.1),
    )

-- ---- an offset

-- While none is active, another offset changes nothing, and no whole values are there that were made.
pub running_offset : (nodes : List Node) (job : Job) (progress : Progress) (offset : ℕ) → progress.active.items ≡ [] → IsRunning nodes job progress → IsRunning nodes (record job { offset = offset }) (record progress { wholes = record progress.wholes { made = [] } })
running_offset nodes job progress offset none running =
    let going = running.going in
    let keeps = going.keeps in
    record {
      first = running.first;
      unforgotten = running.unforgotten;
      going = record {
        ready = going.ready;
        noted = going.noted;
        actives = λ active among. absurd (none_among progress.active.items active none among);
        serves = record { gone_late = going.serves.gone_late; passed_late = going.serves.passed_late; served = going.serves.served; active_after = going.serves.active_after; gone_after = going.serves.gone_after };
        keeps = record {
          tallies = keeps.tallies;
          unnoted = keeps.unnoted;
          later = keeps.later;
          noted = λ noted more. let n = keeps.noted noted more in (n.0, record { only = n.1.only; all = n.1.all });
          found = keeps.found;
          row = keeps.row;
          apart = keeps.apart;
          forgotten = keeps.forgotten;
          none_before = keeps.none_before;
          bytes = keeps.bytes;
          room = keeps.room;
          asked = keeps.asked;
        };
        needed = going.needed;
        holds = going.holds;
        came = going.came;
      };
    }

pub scan_offset : (nodes : List Node) (job : Job) (progress new : Progress) (refused : Bool) (offset : ℕ) → progress.active.items ≡ [] → FitsOffset nodes offset → new ≡ record progress { wholes = record progress.wholes { made = [] } } → IsScan nodes job progress refused → IsScan nodes (record job { offset = offset }) new refused
scan_offset nodes job progress new refused offset none fits is scan =
    let sound = scan.0 in
    subst (λ (p : Progress). IsScan nodes (record job { offset = offset }) p refused) (sym is) (
      record {
        known = sound.known;
        inside = sound.inside;
        fits = fits;
        typed_given = sound.typed_given;
        typed_leaves = sound.typed_leaves;
        typed_made = none_typed nodes;
        apart_made = apart_empty [] refl;
        apart_used = sound.apart_used;
        uses = sound.uses;
        counted = sound.counted;
        behind = sound.behind;
      },
      (λ going. running_offset nodes job progress offset none (scan.1.0 going), scan.1.1),
    )

-- And it is of each outside of which it was.
pub told_with_offset : (scan new : ScanData) (offset : ℕ) → new ≡ record scan { job = record scan.job { offset = offset }; progress = record scan.progress { wholes = record scan.progress.wholes { made = [] } } } → StaysTold scan new
told_with_offset scan new offset is =
    subst (StaysTold scan) (sym is) (λ outside told. record { bytes = told.bytes; leaves_are = told.leaves_are; made_are = λ n column at. absurd (none_kept n column at) })
  where
    none_kept : (n : ℕ) (column : ColumnData) → kept_at [] n ≡ Some column → ⊥
    none_kept n column at = cc

-- ---- how many may be active

active_max : (nodes : List Node) (job : Job) (count : ℕ) (leaves : LeavesData) (progress : Progress) (active : ActiveSplit) → IsActive nodes job leaves progress.reads.wanted progress.wholes active → IsActive nodes (record job { max_active = count }) leaves progress.reads.wanted progress.wholes active
active_max nodes job count leaves progress active is =
    let s = is.started in
    record {
      started = record { split = s.split; at = s.at; placed = s.placed; order = s.order; are_leaves = s.are_leaves; asked = s.asked; given = s.given; decoded = s.decoded };
      left = is.left;
      rest = is.rest;
    }

running_max : (nodes : List Node) (job : Job) (progress : Progress) (count : ℕ) → IsRunning nodes job progress → IsRunning nodes (record job { max_active = count }) progress
running_max nodes job progress count running =
    let going = running.going in
    let keeps = going.keeps in
    record {
      first = running.first;
      unforgotten = running.unforgotten;
      going = record {
        ready = going.ready;
        noted = going.noted;
        actives = λ active among. active_max nodes job count progress.store.columns progress active (going.actives active among);
        serves = record { gone_late = going.serves.gone_late; passed_late = going.serves.passed_late; served = going.serves.served; active_after = going.serves.active_after; gone_after = going.serves.gone_after };
        keeps = record {
          tallies = keeps.tallies;
          unnoted = keeps.unnoted;
          later = keeps.later;
          noted = λ noted more. let n = keeps.noted noted more in (n.0, record { only = n.1.only; all = n.1.all });
          found = keeps.found;
          row = keeps.row;
          apart = keeps.apart;
          forgotten = keeps.forgotten;
          none_before = keeps.none_before;
          bytes = keeps.bytes;
          room = keeps.room;
          asked = keeps.asked;
        };
        needed = going.needed;
        holds = going.holds;
        came = going.came;
      };
    }

pub scan_max : (nodes : List Node) (job : Job) (progress : Progress) (refused : Bool) (count : ℕ) → IsScan nodes job progress refused → IsScan nodes (record job { max_active = count }) progress refused
scan_max nodes job progress refused count scan =
    let sound = scan.0 in (
      record {
        known = sound.known;
        inside = sound.inside;
        fits = sound.fits;
        typed_given = sound.typed_given;
        typed_leaves = sound.typed_leaves;
        typed_made = sound.typed_made;
        apart_made = sound.apart_made;
        apart_used = sound.apart_used;
        uses = sound.uses;
        counted = sound.counted;
        behind = sound.behind;
      },
      (λ going. running_max nodes job progress count (scan.1.0 going), scan.1.1),
    )
