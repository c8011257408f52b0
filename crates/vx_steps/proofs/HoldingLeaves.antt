-- What is true of a scan stays so when a leaf that was handed in is held, or forgotten.
use Rattle.std.proofs.Common.{◌≡◌, ℕ, ◌<◌, ◌≤◌, ◌==◌, ◌⊎◌, inl, inr, ⊎_elim, Global, Vec, Bool, true, false, List, [], ◌∷◌, Some, None, length, map, refl, sym, ap, ◌∙◌, subst, arith}
use Rattle.std.specs.Prelude.{if◌then◌else◌}
use Rattle.std.proofs.lemmas.Bool.{cases_lt, eqb-true}
use Rattle.vx_plan.specs.Nodes.{Node}
use Rattle.vx_steps.specs.declared.jobs.ActiveSplit.{ActiveSplit}
use Rattle.vx_steps.specs.declared.jobs.Job.{Job}
use Rattle.vx_steps.specs.declared.jobs.Progress.{Progress}
use Rattle.vx_steps.specs.declared.leaf_reads.LeafRead.{LeafRead}
use Rattle.vx_steps.specs.declared.leaf_stores.LeafStore.{LeafStore}
use Rattle.vx_steps.specs.declared.needed.Needed.{Needed}
use Rattle.vx_steps.specs.declared.open_segments.OpenSegments.{OpenSegments}
use Rattle.vx_steps.specs.declared.placed_reads.PlacedRead.{PlacedRead}
use Rattle.vx_steps.specs.declared.wholes.Wholes.{Wholes}
use Rattle.vx_steps.specs.HandedLeaves.{HoldsLeaf, IsHolding}
use Rattle.vx_steps.specs.Held.{AreTyped}
use Rattle.vx_steps.specs.HeldData.{HeldData, Holds, KeepsRoom}
use Rattle.vx_steps.specs.Kept.{kept_at, IsKept}
use Rattle.vx_steps.specs.KeptData.{Kept}
use Rattle.vx_steps.specs.LaterReads.{SplitRead}
use Rattle.vx_steps.specs.LeafColumns.{Forgets}
use Rattle.vx_steps.specs.LeavesData.{LeavesData}
use Rattle.vx_steps.specs.Leavings.{IsReadBehind}
use Rattle.vx_steps.specs.LettingGo.{ForgetsUnneeded, HoldsOnlyNeeded, KeepsStanding}
use Rattle.vx_steps.specs.Needed.{open_reads, still_reads, AreReadsOfSplits, IsNeededBy, KeepsNeeded, LeafIsAhead, LeafIsNeeded, SegmentIsAhead}
use Rattle.vx_steps.specs.Needs.{Among}
use Rattle.vx_steps.specs.OpenSegments.{AreCounted, IsLeafOver}
use Rattle.vx_steps.specs.Pieces.{read_of}
use Rattle.vx_steps.specs.Places.{place_in}
use Rattle.vx_steps.specs.ReadTableData.{ReadsData, Wanted}
use Rattle.vx_steps.specs.Releasing.{IsServed, IsSpent, NoneReads, ServesAll}
use Rattle.vx_steps.specs.Running.{IsActive, IsGoing, IsSound}
use Rattle.vx_steps.specs.Standings.{standing_of}
use Rattle.vx_steps.specs.Steps.{HasCame, IsReadByRest}
use Rattle.vx_steps.specs.StillRead.{LeafIsRead}
use Rattle.vx_steps.proofs.AllReads.{all_of_one, one_of_all}
use Rattle.vx_steps.proofs.OpenReads.{actives_open, among_mapped, later_needed, leaf_ahead, mapped_from, needed_by, noted_reads, open_needed}
use Rattle.vx_steps.proofs.PieceRows.{at_among}

-- ---- what is lost of columns

-- Only columns of leaves are gone that are so.
pub record LosesOnly (P : ℕ → Type 0) (old new : LeavesData) : Type 0 where
  pub all : new.all ≡ old.all
  pub ready : new.ready ≡ old.ready
  pub stays : (n : ℕ) → (P n → ⊥) → kept_at new.here n ≡ kept_at old.here n
  pub lost : (n : ℕ) → kept_at new.here n ≡ None → (kept_at old.here n ≡ None) ⊎ P n

-- the leaf is set apart, and no row to come reads it
abbrev pub IsUnneeded : Needed → List LeafRead → List SplitRead → ℕ → ℕ → ℕ → Type 0
IsUnneeded needed still later next splits leaf = ((place : ℕ) × (place_in needed.apart.places leaf ≡ Some place)) × (LeafIsAhead still later next splits leaf → ⊥)

forgets_only : (P : ℕ → Type 0) (leaf : ℕ) (old new : LeavesData) → P leaf → Forgets leaf old new → LosesOnly P old new
forgets_only P leaf old new is forgets = record {
  all = forgets.all;
  ready = forgets.ready;
  stays = λ n other. stays n other (leaf == n) refl;
  lost = λ n none. lost n none (leaf == n) refl;
}
  where
    stays : (n : ℕ) → (P n → ⊥) → (b : Bool) → (leaf == n) ≡ b → kept_at new.here n ≡ kept_at old.here n
    stays n other true e = absurd (other (subst P (eqb-true leaf n e) is))
    stays n other false e = forgets.here n ∙ ap (λ (b : Bool). if b then None else kept_at old.here n) e

    lost : (n : ℕ) → kept_at new.here n ≡ None → (b : Bool) → (leaf == n) ≡ b → (kept_at old.here n ≡ None) ⊎ P n
    lost n none true e = inr (subst P (eqb-true leaf n e) is)
    lost n none false e = inl (sym (forgets.here n ∙ ap (λ (b : Bool). if b then None else kept_at old.here n) e) ∙ none)

same_only : (P : ℕ → Type 0) (old new : LeavesData) → new ≡ old → LosesOnly P old new
same_only P old new same = record {
  all = ap (λ (l : LeavesData). l.all) same;
  ready = ap (λ (l : LeavesData). l.ready) same;
  stays = λ n other. ap (λ (l : LeavesData). kept_at l.here n) same;
  lost = λ n none. inl (sym (ap (λ (l : LeavesData). kept_at l.here n) same) ∙ none);
}

pub loses_unneeded : (leaf splits : ℕ) (old new : Progress) (still : List LeafRead) (later : List SplitRead) → IsNeededBy old.needed still later old.next splits → ForgetsUnneeded leaf splits old new → LosesOnly (IsUnneeded old.needed still later old.next splits) old.store.columns new.store.columns
loses_unneeded leaf splits old new still later is (inl same) = same_only (IsUnneeded old.needed still later old.next splits) old.store.columns new.store.columns same
loses_unneeded leaf splits old new still later is (inr (forgets, there, none)) = forgets_only (IsUnneeded old.needed still later old.next splits) leaf old.store.columns new.store.columns (there, none still later is) forgets

-- ---- what is held

-- More segments are held, of which this is so.
pub record HoldsMore (P : ℕ → Type 0) (old new : HeldData) : Type 0 where
  pub more : (s : ℕ) → Holds old s → Holds new s
  pub only : (s : ℕ) → Holds new s → Holds old s ⊎ P s
  pub room : KeepsRoom old new

-- the segment is this one, and ahead
abbrev pub IsAheadOf : ℕ → List LeafRead → List SplitRead → ℕ → ℕ → ℕ → Type 0
IsAheadOf segment still later next splits s = (segment ≡ s) × SegmentIsAhead still later next splits s

pub holds_needed : (segment splits : ℕ) (old new : Progress) (still : List LeafRead) (later : List SplitRead) → IsNeededBy old.needed still later old.next splits → HoldsOnlyNeeded segment splits old new → HoldsMore (IsAheadOf segment still later old.next splits) old.needed.held new.needed.held
holds_needed segment splits old new still later is (inl same) =
    let H : ℕ → HeldData → Type 0 = λ s h. Holds h s in
    record {
      more = λ s holds. subst (H s) (sym same) holds;
      only = λ s holds. inl (subst (H s) same holds);
      room = λ s has. subst (λ (h : HeldData). Among s h.room) (sym same) has;
    }
holds_needed segment splits old new still later is (inr (one, room, ahead)) =
    let P : ℕ → Type 0 = SegmentIsAhead still later old.next splits in
    record {
      more = λ s holds. (one s).1 (inl holds);
      only = λ s holds. ⊎_elim (λ (was : Holds old.needed.held s). inl was) (λ (e : segment ≡ s). inr (e, subst P e (ahead still later is))) ((one s).0 holds);
      room = room;
    }

nothing : (xs : List ℕ) → ((x : ℕ) → Among x xs → ⊥) → xs ≡ []
nothing [] none = refl
nothing (x ∷ xs) none = absurd (none x (inl refl))

-- ---- what is ahead is needed

-- a read of those that are open is of a need of an active split
pub still_of : (actives : List ActiveSplit) (read : LeafRead) → Among read (still_reads actives) → (active : ActiveSplit) × Among active actives × ((need : PlacedRead) × Among need active.rest × (read_of need ≡ read))
still_of actives read among =
    let one = all_of_one (map open_reads actives) read among in
    let own = mapped_from open_reads one.0 actives one.1 in
    let here : Among read (open_reads own.0) = subst (λ (rs : List LeafRead). Among read rs) (sym own.2) one.2 in
    let need = mapped_from read_of read own.0.rest here in
    (own.0, own.1, (need.0, need.1, need.2))

-- a need of rows that are left is open
pub open_still : (nodes : List Node) (job : Job) (progress : Progress) (active : ActiveSplit) → IsActive nodes job progress.store.columns progress.reads.wanted progress.wholes active → Among active progress.active.items → (need : PlacedRead) → Among need active.needs.items → active.at.done ≤ need.last → LeafIsRead need.leaf (still_reads progress.active.items)
open_still nodes job progress active is among need there late = (read_of need, one_of_all (map open_reads progress.active.items) (open_reads active) (read_of need) (among_mapped open_reads active progress.active.items among) (among_mapped read_of need active.rest (is.rest.all need there late)), refl)

-- a segment that is ahead is needed
pub ahead_needed : (nodes : List Node) (job : Job) (progress : Progress) → IsGoing nodes job progress → (later : List SplitRead) → (progress.next < length job.splits.items → AreReadsOfSplits nodes job later) → (segment : ℕ) → SegmentIsAhead (still_reads progress.active.items) later progress.next (length job.splits.items) segment → IsReadByRest nodes job (standing_of progress) segment
ahead_needed nodes job progress is later are segment (inl (read, among, same)) =
    let own = still_of progress.active.items read among in
    let need = own.2 in
    let e : need.0.segment ≡ segment = ap (λ (r : LeafRead). r.segment) need.2 ∙ same in
    subst (IsReadByRest nodes job (standing_of progress)) e (open_needed nodes job progress own.0 (is.actives own.0 own.1) own.1 need.0 need.1)
ahead_needed nodes job progress is later are segment (inr (less, from)) = later_needed nodes job (standing_of progress) later (are less) segment from

-- ---- all that is true of a scan

-- the scan with other columns of leaves, and other segments that are held
abbrev pub held_as : Progress → LeafStore → HeldData → Progress
held_as old store held = record { next = old.next; active = old.active; reads = old.reads; store = store; wholes = old.wholes; needed = record old.needed { held = held } }

pub held_is : (leaf segment splits : ℕ) (old new : Progress) → HoldsLeaf leaf segment splits old new → new ≡ held_as old new.store new.needed.held
held_is leaf segment splits old new holds =
    let P : ℕ → Vec ActiveSplit Global → ReadsData → Wholes → Needed → Progress = λ next active reads wholes needed. record { next = next; active = active; reads = reads; store = new.store; wholes = wholes; needed = needed } in
    ap (λ (n : ℕ). P n new.active new.reads new.wholes new.needed) holds.next
    ∙ ap (λ (a : Vec ActiveSplit Global). P old.next a new.reads new.wholes new.needed) holds.active
    ∙ ap (λ (r : ReadsData). P old.next old.active r new.wholes new.needed) holds.reads
    ∙ ap (λ (w : Wholes). P old.next old.active old.reads w new.needed) holds.wholes
    ∙ ap (λ (n : Needed). P old.next old.active old.reads old.wholes n) holds.needed

begun : (job : Job) (next : ℕ) → (next ≡ 0 → length job.splits.items ≡ 0) → next < length job.splits.items → 0 < next
begun job next first less = ⊎_elim (λ (more : 0 < next). more) (λ (none : next ≤ 0). absurd (empty none)) (cases_lt 0 next)
  where
    empty : next ≤ 0 → ⊥
    empty none =
        let zero : next ≡ 0 = omega (arith, none) in
        omega (arith, less, first zero)

sound_lost : (nodes : List Node) (job : Job) (old : Progress) (store : LeafStore) (held : HeldData) (P : ℕ → Type 0) → LosesOnly P old.store.columns store.columns → ((n : ℕ) → P n → IsReadBehind nodes job n → ⊥) → store.segments ≡ old.store.segments → IsSound nodes job old → IsSound nodes job (held_as old store held)
sound_lost nodes job old store held P loses apart counted is = record {
  known = is.known;
  inside = is.inside;
  fits = is.fits;
  typed_given = is.typed_given;
  typed_leaves = subst (AreTyped nodes) (sym loses.all) is.typed_leaves;
  typed_made = is.typed_made;
  apart_made = is.apart_made;
  apart_used = is.apart_used;
  uses = is.uses;
  counted = subst (λ (ks : List Kept). AreCounted nodes ks store.segments) (sym loses.all) (subst (λ (segments : OpenSegments). AreCounted nodes old.store.columns.all segments) (sym counted) is.counted);
  behind = λ n behind kept.
      let was = is.behind n behind (subst (λ (ks : List Kept). IsKept ks n) loses.all kept) in
      (was.0, loses.stays n (λ p. apart n p behind) ∙ was.1);
}

active_lost : (nodes : List Node) (job : Job) (old : Progress) (store : LeafStore) (P : ℕ → Type 0) → LosesOnly P old.store.columns store.columns → ((n : ℕ) → P n → LeafIsRead n (still_reads old.active.items) → ⊥) → (active : ActiveSplit) → Among active old.active.items → IsActive nodes job old.store.columns old.reads.wanted old.wholes active → IsActive nodes job store.columns old.reads.wanted old.wholes active
active_lost nodes job old store P loses apart active among is =
    let s = is.started in
    record {
      started = record {
        split = s.split;
        at = s.at;
        placed = s.placed;
        order = s.order;
        are_leaves = s.are_leaves;
        asked = λ need there none. s.asked need there (sym (ap (λ (ks : List Kept). kept_at ks need.leaf) loses.all) ∙ none);
        given = record {
          row = s.given.row;
          begun = s.given.begun;
          kept = λ place need less at late.
              let k = s.given.kept place need less at late in
              (k.0, loses.stays need.leaf (λ p. apart need.leaf p (open_still nodes job old active is among need (at_among need active.needs.items place at) late)) ∙ k.1);
          passed = s.given.passed;
          first = s.given.first;
          there = s.given.there;
        };
        decoded = λ place need less at. subst (λ (ks : List Kept). IsKept ks need.leaf) (sym loses.all) (s.decoded place need less at);
      };
      left = is.left;
      rest = is.rest;
    }

serves_lost : (nodes : List Node) (job : Job) (old : Progress) (store : LeafStore) (held : HeldData) → store.columns.all ≡ old.store.columns.all → ServesAll nodes job old → ServesAll nodes job (held_as old store held)
serves_lost nodes job old store held all serves = record {
  gone_late = λ segment gone. subst (λ (ks : List Kept). IsSpent nodes ks segment ⊎ NoneReads nodes job old.next segment) (sym all) (serves.gone_late segment gone);
  passed_late = serves.passed_late;
  served = λ active among. subst (λ (ks : List Kept). IsServed ks old.reads (map read_of active.needs.items)) (sym all) (serves.served active among);
  active_after = serves.active_after;
  gone_after = serves.gone_after;
}

-- What is held is what rows to come read, and what is forgotten none of them does.
pub record HoldsRight (nodes : List Node) (job : Job) (old : Progress) (store : LeafStore) (held : HeldData) (segment : ℕ) (later : List SplitRead) : Type 0 where
  pub over : (leaf : ℕ) × IsLeafOver nodes segment leaf × IsKept old.store.columns.all leaf
  pub reads : old.next < length job.splits.items → AreReadsOfSplits nodes job later
  pub loses : LosesOnly (IsUnneeded old.needed (still_reads old.active.items) later old.next (length job.splits.items)) old.store.columns store.columns
  pub holds : HoldsMore (IsAheadOf segment (still_reads old.active.items) later old.next (length job.splits.items)) old.needed.held held

keeps_lost : (nodes : List Node) (job : Job) (old : Progress) (store : LeafStore) (held : HeldData) (segment : ℕ) (later : List SplitRead) → HoldsRight nodes job old store held segment later → (old.next ≡ 0 → length job.splits.items ≡ 0) → IsGoing nodes job old → KeepsNeeded nodes job (held_as old store held)
keeps_lost nodes job old store held segment later right first is =
    let keeps = is.keeps in
    let all = right.loses.all in
    record {
      tallies = keeps.tallies;
      unnoted = keeps.unnoted;
      later = keeps.later;
      noted = keeps.noted;
      found = keeps.found;
      row = keeps.row;
      apart = keeps.apart;
      forgotten = λ n kept gone need. forgotten n (subst (λ (ks : List Kept). IsKept ks n) all kept) need (right.loses.lost n gone);
      none_before = λ early. nothing held.held (λ s holds. none early s (right.holds.only s holds));
      bytes = λ s bytes came here. right.holds.more s (keeps.bytes s bytes came here);
      room = λ s asked. right.holds.room s (keeps.room s asked);
      asked = λ s asked none.
          let l = keeps.asked s asked none in
          let need = l.2 in
          (l.0, l.1, (need.0, need.1, need.2, ap (λ (ks : List Kept). kept_at ks need.0.leaf) all ∙ need.3));
    }
  where
    forgotten : (n : ℕ) → IsKept old.store.columns.all n → LeafIsNeeded nodes job (standing_of old) n → (kept_at old.store.columns.here n ≡ None) ⊎ IsUnneeded old.needed (still_reads old.active.items) later old.next (length job.splits.items) n → ⊥
    forgotten n kept need (inl gone) = is.keeps.forgotten n kept gone need
    forgotten n kept need (inr (there, not_ahead)) = not_ahead (leaf_ahead nodes job old (actives_open nodes job old is.actives) later right.reads n need)

    none : old.next ≡ 0 → (s : ℕ) → Holds old.needed.held s ⊎ IsAheadOf segment (still_reads old.active.items) later old.next (length job.splits.items) s → ⊥
    none early s (inl holds) = subst (Among s) (is.keeps.none_before early) holds
    none early s (inr (e, inl (read, among, same))) =
        let own = still_of old.active.items read among in
        omega (arith, early, is.serves.active_after own.0 own.1)
    none early s (inr (e, inr (less, from))) = omega (arith, early, less, first early)

-- where the columns that were kept are the same
came_kept : (nodes : List Node) (wanted : List Wanted) (old new : List Kept) → new ≡ old → (s : ℕ) → HasCame nodes wanted old s → HasCame nodes wanted new s
came_kept nodes wanted old new same s (inl came) = inl came
came_kept nodes wanted old new same s (inr (leaf, over, kept)) = inr (leaf, over, subst (λ (ks : List Kept). IsKept ks leaf) (sym same) kept)

-- So all that is true of a scan stays so.
going_lost : (nodes : List Node) (job : Job) (old : Progress) (store : LeafStore) (held : HeldData) (segment : ℕ) (later : List SplitRead) → HoldsRight nodes job old store held segment later → IsHolding nodes job old → IsHolding nodes job (held_as old store held)
going_lost nodes job old store held segment later right is =
    let going = is.going in
    let ready : store.columns.ready ≡ true = right.loses.ready ∙ is.ready in
    record {
      ready = ready;
      first = is.first;
      noted = is.noted;
      going = record {
        ready = λ after. ready;
        noted = λ after. is.noted;
        actives = λ active among. active_lost nodes job old store (IsUnneeded old.needed (still_reads old.active.items) later old.next (length job.splits.items)) right.loses (λ n p read. p.1 (inl read)) active among (going.actives active among);
        serves = serves_lost nodes job old store held right.loses.all going.serves;
        keeps = keeps_lost nodes job old store held segment later right is.first going;
        needed = λ s holds. ⊎_elim (λ (was : Holds old.needed.held s). going.needed s was) (λ (ahead : IsAheadOf segment (still_reads old.active.items) later old.next (length job.splits.items) s). ahead_needed nodes job old going later right.reads s ahead.1) (right.holds.only s holds);
        holds = λ s bytes came read. right.holds.more s (going.holds s bytes came read);
        came = λ s holds. came_kept nodes old.reads.wanted old.store.columns.all store.columns.all right.loses.all s (⊎_elim (λ (was : Holds old.needed.held s). going.came s was) (λ (ahead : IsAheadOf segment (still_reads old.active.items) later old.next (length job.splits.items) s). inr (right.over.0, subst (λ (k : ℕ). IsLeafOver nodes k right.over.0) ahead.0 right.over.1, right.over.2)) (right.holds.only s holds));
      };
    }

-- What is true while handed-in leaves are looked through.
pub record IsLookedThrough (nodes : List Node) (job : Job) (first now : Progress) : Type 0 where
  pub sound : IsSound nodes job now
  pub holding : IsHolding nodes job now
  pub keeps : KeepsStanding first now

pub looked_none : (nodes : List Node) (job : Job) (progress : Progress) → IsSound nodes job progress → IsHolding nodes job progress → IsLookedThrough nodes job progress progress
looked_none nodes job progress sound holding = record { sound = sound; holding = holding; keeps = record { next = refl; started = refl; wanted = refl; handed = refl; leaves = refl; wholes = refl } }

pub looked_next : (nodes : List Node) (job : Job) (first old new : Progress) (leaf segment : ℕ) → IsLeafOver nodes segment leaf → IsKept old.store.columns.all leaf → HoldsLeaf leaf segment (length job.splits.items) old new → IsLookedThrough nodes job first old → IsLookedThrough nodes job first new
looked_next nodes job first old new leaf segment over kept does is =
    let keeps = is.holding.going.keeps in
    let still = still_reads old.active.items in
    let splits = length job.splits.items in
    let more = begun job old.next is.holding.first in
    let by = needed_by nodes job old keeps is.holding.noted more in
    let loses = loses_unneeded leaf splits old new still keeps.later by does.leaves in
    let right : HoldsRight nodes job old new.store new.needed.held segment keeps.later = record {
      over = (leaf, over, kept);
      reads = noted_reads nodes job old keeps is.holding.noted more;
      loses = loses;
      holds = holds_needed segment splits old new still keeps.later by does.held;
    } in
    subst (IsLookedThrough nodes job first) (sym (held_is leaf segment splits old new does)) (record {
      sound = sound_lost nodes job old new.store new.needed.held (IsUnneeded old.needed still keeps.later old.next splits) loses (λ n p behind. keeps.apart n p.0.0 p.0.1 behind) does.counted is.sound;
      holding = going_lost nodes job old new.store new.needed.held segment keeps.later right is.holding;
      keeps = record {
        next = is.keeps.next;
        started = is.keeps.started;
        wanted = is.keeps.wanted;
        handed = is.keeps.handed;
        leaves = loses.all ∙ is.keeps.leaves;
        wholes = is.keeps.wholes;
      };
    })
