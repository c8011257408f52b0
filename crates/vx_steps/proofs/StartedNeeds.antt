-- What a scan needs and holds stays so when the next split is started, or passed by.
use Rattle.std.proofs.Common.{◌≡◌, ℕ, ◌+◌, ◌<◌, ◌≤◌, ◌==◌, ◌⊎◌, Bool, true, false, inl, inr, ⊎_elim, Global, Vec, List, [], ◌∷◌, ◌++◌, map, Some, None, length, refl, sym, ap, ◌∙◌, subst, arith}
use Rattle.std.specs.List.{slice_get}
use Rattle.std.proofs.lemmas.Bool.{cases_lt}
use Rattle.std.proofs.lemmas.List.{map-append}
use Rattle.std.proofs.lemmas.Option.{slice_get_within}
use Rattle.vx_base.specs.Masks.{true_count}
use Rattle.vx_picking.proofs.SelectedRows.{count_none}
use Rattle.vx_plan.specs.Nodes.{Node}
use Rattle.vx_steps.specs.declared.jobs.ActiveSplit.{ActiveSplit}
use Rattle.vx_steps.specs.declared.jobs.Job.{Job}
use Rattle.vx_steps.specs.declared.jobs.Progress.{Progress}
use Rattle.vx_steps.specs.declared.later_reads.LaterReads.{LaterReads}
use Rattle.vx_steps.specs.declared.leaf_reads.LeafRead.{LeafRead}
use Rattle.vx_steps.specs.declared.needed.Needed.{Needed}
use Rattle.vx_steps.specs.declared.placed_reads.PlacedRead.{PlacedRead}
use Rattle.vx_steps.specs.declared.splits.Split.{Split}
use Rattle.vx_steps.specs.declared.still_read.StillRead.{StillRead}
use Rattle.vx_steps.specs.declared.wholes.Wholes.{Wholes}
use Rattle.vx_steps.specs.HandedLeaves.{AreSetApart, ReadsBehind}
use Rattle.vx_steps.specs.HeldData.{HasRoom, HeldData, KeepsRoom}
use Rattle.vx_steps.specs.Kept.{kept_at, IsKept}
use Rattle.vx_steps.specs.KeptData.{Kept}
use Rattle.vx_steps.specs.LaterReads.{IsNotedOf}
use Rattle.vx_steps.specs.LeavesData.{LeavesData}
use Rattle.vx_steps.specs.Needed.{open_reads, still_reads, AreOpen, IsLacked, KeepsNeeded, LeafIsNeeded}
use Rattle.vx_steps.specs.Needs.{Among}
use Rattle.vx_steps.specs.Pieces.{piece_of, read_of, IsNextRow, IsStillRead}
use Rattle.vx_steps.specs.Places.{place_in}
use Rattle.vx_steps.specs.ReadTable.{bytes_of, IsGone, KeepsStored, NoneCame}
use Rattle.vx_steps.specs.ReadTableData.{ReadsData, Wanted}
use Rattle.vx_steps.specs.Releasing.{AreNamed, IsServed, IsSpent, NoneReads, ServesAll}
use Rattle.vx_steps.specs.Running.{IsActive, IsGoing, IsStarting}
use Rattle.vx_steps.specs.Standings.{left_of, standing_of, SplitLeft, Standing}
use Rattle.vx_steps.specs.Steps.{HasCame, IsReadByRest}
use Rattle.vx_steps.specs.StillRead.{all_reads, IsTallyOf}
use Rattle.vx_steps.specs.Turns.{ReadsFor}
use Rattle.vx_steps.specs.Wants.{Grows, IsAsked, IsNeeded}
use Rattle.vx_steps.proofs.AllReads.{all_pushed}
use Rattle.vx_steps.proofs.Arriving.{none_grow}
use Rattle.vx_steps.proofs.Needing.{among_pushed, asked_grows}
use Rattle.vx_steps.proofs.PieceRows.{need_of, needs_are}
use Rattle.vx_steps.proofs.Releasing.{leaf_among, served_stored}
use Rattle.vx_steps.proofs.Selecting.{among_back, among_front}
use Rattle.vx_steps.proofs.Tallies.{at_key}

-- ---- a split that has been started is active

row_left : (mask : List Bool) (row : ℕ) → (true_count mask == 0) ≡ false → IsNextRow mask 0 row → row < length mask
row_left mask row some is = ⊎_elim (λ (less : row < length mask). less) (λ (past : length mask ≤ row). absurd (nothing past)) (cases_lt row (length mask))
  where
    nothing : length mask ≤ row → ⊥
    nothing past =
        let e : true_count mask ≡ 0 = count_none mask (λ place at. is.none place (omega arith) (omega (arith, past, slice_get_within mask place true at)) at) in
        let zero : (true_count mask == 0) ≡ true = at_key (true_count mask) 0 e in
        let both : true ≡ false = sym zero ∙ some in
        cc

pub active_started : (nodes : List Node) (job : Job) (leaves : LeavesData) (wanted : List Wanted) (wholes : Wholes) (split : Split) (active : ActiveSplit) → slice_get job.splits.items active.split ≡ Some split → (true_count split.mask == 0) ≡ false → IsStarting nodes job split active →
    ((need : PlacedRead) → Among need active.needs.items → kept_at leaves.all need.leaf ≡ None → IsAsked wanted need.segment) → IsActive nodes job leaves wanted wholes active
active_started nodes job leaves wanted wholes split active at some is asked = record {
  started = record {
    split = split;
    at = at;
    placed = is.placed;
    order = is.order;
    are_leaves = is.are_leaves;
    asked = asked;
    given = record {
      row = subst (λ (d : ℕ). IsNextRow split.mask d active.at.row) (sym is.done) is.row;
      begun = λ more. absurd (none_done more);
      kept = λ place need less there late. absurd (none_next place less);
      passed = λ place need there early. absurd (none_early need.from early);
      first = λ not. is.done;
      there = λ made number asks. absurd (is.made made number asks);
    };
    decoded = λ place need less there. absurd (none_next place less);
  };
  left = row_left split.mask active.at.row some is.row;
  rest = subst (AreOpen active.needs.items active.rest) (sym is.done) is.rest;
}
  where
    none_done : 0 < active.at.done → ⊥
    none_done more = omega (arith, more, is.done)

    none_next : (place : ℕ) → place < active.at.next → ⊥
    none_next place less = omega (arith, less, is.next)

    none_early : (from : ℕ) → from < active.at.done → ⊥
    none_early from early = omega (arith, early, is.done)

active_grows : (nodes : List Node) (job : Job) (leaves : LeavesData) (old new : List Wanted) (wholes : Wholes) (active : ActiveSplit) → Grows old new → IsActive nodes job leaves old wholes active → IsActive nodes job leaves new wholes active
active_grows nodes job leaves old new wholes active grows is =
    let s = is.started in
    record {
      started = record { split = s.split; at = s.at; placed = s.placed; order = s.order; are_leaves = s.are_leaves; asked = λ need among none. asked_grows old new grows need.segment (s.asked need among none); given = s.given; decoded = s.decoded };
      left = is.left;
      rest = is.rest;
    }

actives_more : (nodes : List Node) (job : Job) (leaves : LeavesData) (old new : List Wanted) (wholes : Wholes) (actives : List ActiveSplit) (active : ActiveSplit) → Grows old new → ((a : ActiveSplit) → Among a actives → IsActive nodes job leaves old wholes a) → IsActive nodes job leaves new wholes active →
    (a : ActiveSplit) → Among a (actives ++ active ∷ []) → IsActive nodes job leaves new wholes a
actives_more nodes job leaves old new wholes actives active grows before here a among =
    let P : ActiveSplit → Type 0 = λ x. IsActive nodes job leaves new wholes x in
    ⊎_elim (λ (m : Among a actives). active_grows nodes job leaves old new wholes a grows (before a m)) (λ (e : active ≡ a). subst P e here) (among_pushed a active actives among)

-- ---- what is wanted and noted for it

-- What is wanted for a split that is started.
pub record WantsMore (handed : List Kept) (active : ActiveSplit) (old new : ReadsData) : Type 0 where
  pub asked : (need : PlacedRead) → Among need active.needs.items → kept_at handed need.leaf ≡ None → IsAsked new.wanted need.segment
  pub only : (segment : ℕ) → IsAsked new.wanted segment → IsAsked old.wanted segment ⊎ IsNeeded (map read_of active.needs.items) handed segment
  pub grows : Grows old.wanted new.wanted
  pub came : NoneCame old.wanted new.wanted
  pub named : AreNamed handed (map read_of active.needs.items) new.stored
  pub stored : KeepsStored old new

-- What is noted of it.
pub record NotesMore (nodes : List Node) (plan : ℕ) (active : ActiveSplit) (old new : Needed) : Type 0 where
  pub tallies : (before : List LeafRead) → IsTallyOf old.still before → IsTallyOf new.still (before ++ open_reads active)
  pub later : new.later ≡ old.later
  pub row : new.row ≡ old.row
  pub noted : new.noted ≡ old.noted
  pub found : old.apart.found ≡ true → new.apart.found ≡ true
  pub apart : old.apart.found ≡ true → (leaf place : ℕ) → place_in new.apart.places leaf ≡ Some place → ReadsBehind nodes plan old.row leaf → ⊥
  pub room : (need : PlacedRead) → Among need active.needs.items → HasRoom new.held need.segment
  pub kept_room : KeepsRoom old.held new.held
  pub held : new.held.held ≡ old.held.held

-- by what starting it does, and setting its leaves apart
pub notes_more : (nodes : List Node) (plan : ℕ) (active : ActiveSplit) (old mid new : Needed) → ((before : List LeafRead) → IsTallyOf old.still before → IsTallyOf mid.still (before ++ open_reads active)) → ((need : PlacedRead) → Among need active.needs.items → HasRoom mid.held need.segment) →
    KeepsRoom old.held mid.held → mid ≡ record old { still = mid.still; held = mid.held } → mid.held.held ≡ old.held.held → AreSetApart nodes plan active.needs.items mid new → NotesMore nodes plan active old new
notes_more nodes plan active old mid new tallies room kept_room same held sets =
    let row : mid.row ≡ old.row = ap (λ (n : Needed). n.row) same in
    let found : mid.apart.found ≡ old.apart.found = ap (λ (n : Needed). n.apart.found) same in
    let still : new.still ≡ mid.still = ap (λ (n : Needed). n.still) sets.same in
    let holds : new.held ≡ mid.held = ap (λ (n : Needed). n.held) sets.same in
    record {
      tallies = λ before tally. subst (λ (s : StillRead). IsTallyOf s (before ++ open_reads active)) (sym still) (tallies before tally);
      later = ap (λ (n : Needed). n.later) sets.same ∙ ap (λ (n : Needed). n.later) same;
      row = ap (λ (n : Needed). n.row) sets.same ∙ row;
      noted = ap (λ (n : Needed). n.noted) sets.same ∙ ap (λ (n : Needed). n.noted) same;
      found = λ was. sets.found (found ∙ was);
      apart = λ was leaf place at behind. sets.only (found ∙ was) leaf place at (subst (λ (r : ℕ). ReadsBehind nodes plan r leaf) (sym row) behind);
      room = λ need among. subst (λ (h : HeldData). HasRoom h need.segment) (sym holds) (room need among);
      kept_room = λ s has. subst (λ (h : HeldData). HasRoom h s) (sym holds) (kept_room s has);
      held = ap (λ (h : HeldData). h.held) holds ∙ held;
    }

-- ---- what is let go

late_none : (nodes : List Node) (job : Job) (next segment : ℕ) → NoneReads nodes job next segment → NoneReads nodes job (next + 1) segment
late_none nodes job next segment none number split read late at reads is = none number split read (omega arith) at reads is

late_gone : (nodes : List Node) (job : Job) (leaves : List Kept) (next segment : ℕ) → IsSpent nodes leaves segment ⊎ NoneReads nodes job next segment → IsSpent nodes leaves segment ⊎ NoneReads nodes job (next + 1) segment
late_gone nodes job leaves next segment (inl spent) = inl spent
late_gone nodes job leaves next segment (inr none) = inr (late_none nodes job next segment none)

not_late : (job : Job) (next : ℕ) → next < length job.splits.items → next ≡ length job.splits.items → ⊥
not_late job next less e = omega arith

-- the next split is passed by
serves_passed : (nodes : List Node) (job : Job) (old : Progress) → old.next < length job.splits.items → ServesAll nodes job old → ServesAll nodes job (record { next = old.next + 1; active = old.active; reads = old.reads; store = old.store; wholes = old.wholes; needed = old.needed })
serves_passed nodes job old less serves = record {
  gone_late = λ segment gone. late_gone nodes job old.store.columns.all old.next segment (serves.gone_late segment gone);
  passed_late = λ some. absurd (not_late job old.next less (serves.passed_late some));
  served = serves.served;
  active_after = λ a m. omega arith;
  gone_after = λ segment gone. omega arith;
}

-- or started
serves_started : (nodes : List Node) (job : Job) (old : Progress) (actives : Vec ActiveSplit Global) (reads : ReadsData) (needed : Needed) (split : Split) (a : ActiveSplit) → old.next < length job.splits.items → slice_get job.splits.items old.next ≡ Some split → IsStarting nodes job split a → WantsMore old.store.columns.all a old.reads reads → actives.items ≡ old.active.items ++ a ∷ [] → ServesAll nodes job old →
    ServesAll nodes job (record { next = old.next + 1; active = actives; reads = reads; store = old.store; wholes = old.wholes; needed = needed })
serves_started nodes job old actives reads needed split a less at is more pushed serves = record {
  gone_late = λ segment gone. late_gone nodes job old.store.columns.all old.next segment (serves.gone_late segment (more.stored.gone segment gone));
  passed_late = λ some. absurd (none_passed some);
  served = λ b m. ⊎_elim
      (λ (h : Among b old.active.items). served_stored old.store.columns.all old.reads reads (map read_of b.needs.items) more.stored (serves.served b h))
      (λ (e : a ≡ b). subst S e (record { held = held; passed = λ place need before there. absurd (none_passed (omega arith)); named = more.named }))
      (among_pushed b a old.active.items (subst (λ (xs : List ActiveSplit). Among b xs) pushed m));
  active_after = λ b m. omega arith;
  gone_after = λ segment gone. omega arith;
}
  where
    S : ActiveSplit → Type 0
    S b = IsServed old.store.columns.all reads (map read_of b.needs.items)

    none_passed : 0 < reads.passed → ⊥
    none_passed some = not_late job old.next less (serves.passed_late (subst (λ (n : ℕ). 0 < n) more.stored.passed some))

    held : (need : LeafRead) → Among need (map read_of a.needs.items) → IsGone reads.stored need.segment → IsKept old.store.columns.all need.leaf
    held need among gone = ⊎_elim
        (λ (spent : IsSpent nodes old.store.columns.all need.segment). spent need.leaf (leaf_among nodes (map read_of a.needs.items) need is.are_leaves among))
        (λ (none : NoneReads nodes job old.next need.segment). absurd (none old.next split need (omega arith) at ((needs_are nodes job split a.needs.items is.placed).only need among) refl))
        (serves.gone_late need.segment (more.stored.gone need.segment gone))

-- ---- what is needed

-- a split of these reads the leaf, of which rows are left
abbrev LeafIn : List Node → Job → ℕ → List SplitLeft → Type 0
LeafIn nodes job leaf left = (s : SplitLeft) × Among s left × ((split : Split) × (slice_get job.splits.items s.number ≡ Some split) × ((read : LeafRead) × (read.leaf ≡ leaf) × ReadsFor nodes job (piece_of split s.given (length split.mask)) read))

abbrev SegmentIn : List Node → Job → ℕ → List SplitLeft → Type 0
SegmentIn nodes job segment left = (s : SplitLeft) × Among s left × ((split : Split) × (slice_get job.splits.items s.number ≡ Some split) × IsStillRead nodes job split s.given segment)

-- it depends on the splits that are left alone
pub leaf_needed_in : (nodes : List Node) (job : Job) (old new : Standing) (leaf : ℕ) → left_of job new ≡ left_of job old → LeafIsNeeded nodes job new leaf → LeafIsNeeded nodes job old leaf
leaf_needed_in nodes job old new leaf left is = subst (LeafIn nodes job leaf) left is

pub read_by_rest_in : (nodes : List Node) (job : Job) (old new : Standing) (segment : ℕ) → left_of job new ≡ left_of job old → IsReadByRest nodes job old segment → IsReadByRest nodes job new segment
read_by_rest_in nodes job old new segment left is = subst (SegmentIn nodes job segment) (sym left) is

-- and the other way round
read_by_rest_was : (nodes : List Node) (job : Job) (old new : Standing) (segment : ℕ) → left_of job new ≡ left_of job old → IsReadByRest nodes job new segment → IsReadByRest nodes job old segment
read_by_rest_was nodes job old new segment left is = subst (SegmentIn nodes job segment) left is

keeps_passed : (nodes : List Node) (job : Job) (old : Progress) → left_of job (standing_of (record { next = old.next + 1; active = old.active; reads = old.reads; store = old.store; wholes = old.wholes; needed = old.needed })) ≡ left_of job (standing_of old) → KeepsNeeded nodes job old →
    KeepsNeeded nodes job (record { next = old.next + 1; active = old.active; reads = old.reads; store = old.store; wholes = old.wholes; needed = old.needed })
keeps_passed nodes job old left keeps =
    let new : Progress = record { next = old.next + 1; active = old.active; reads = old.reads; store = old.store; wholes = old.wholes; needed = old.needed } in
    record {
      tallies = keeps.tallies;
      unnoted = keeps.unnoted;
      later = keeps.later;
      noted = keeps.noted;
      found = keeps.found;
      row = keeps.row;
      apart = keeps.apart;
      forgotten = λ n kept gone need. keeps.forgotten n kept gone (leaf_needed_in nodes job (standing_of old) (standing_of new) n left need);
      none_before = λ first. absurd (omega arith);
      bytes = keeps.bytes;
      room = keeps.room;
      asked = keeps.asked;
    }

pub going_passed : (nodes : List Node) (job : Job) (old : Progress) → old.next < length job.splits.items → old.store.columns.ready ≡ true → old.needed.noted ≡ true → left_of job (standing_of (record { next = old.next + 1; active = old.active; reads = old.reads; store = old.store; wholes = old.wholes; needed = old.needed })) ≡ left_of job (standing_of old) → IsGoing nodes job old →
    IsGoing nodes job (record { next = old.next + 1; active = old.active; reads = old.reads; store = old.store; wholes = old.wholes; needed = old.needed })
going_passed nodes job old less ready noted left is =
    let new : Progress = record { next = old.next + 1; active = old.active; reads = old.reads; store = old.store; wholes = old.wholes; needed = old.needed } in
    record {
      ready = λ after. ready;
      noted = λ after. noted;
      actives = is.actives;
      serves = serves_passed nodes job old less is.serves;
      keeps = keeps_passed nodes job old left is.keeps;
      needed = λ s holds. read_by_rest_in nodes job (standing_of old) (standing_of new) s left (is.needed s holds);
      holds = λ s bytes came read. is.holds s bytes came (read_by_rest_was nodes job (standing_of old) (standing_of new) s left read);
      came = is.came;
    }

still_more : (actives : List ActiveSplit) (active : ActiveSplit) → still_reads (actives ++ active ∷ []) ≡ still_reads actives ++ open_reads active
still_more actives active = ap all_reads (map-append open_reads actives (active ∷ [])) ∙ all_pushed (map open_reads actives) (open_reads active)

keeps_started : (nodes : List Node) (job : Job) (old : Progress) (actives : Vec ActiveSplit Global) (reads : ReadsData) (needed : Needed) (active : ActiveSplit) → actives.items ≡ old.active.items ++ active ∷ [] → old.needed.noted ≡ true → WantsMore old.store.columns.all active old.reads reads → NotesMore nodes job.plan active old.needed needed →
    left_of job (standing_of (record { next = old.next + 1; active = actives; reads = reads; store = old.store; wholes = old.wholes; needed = needed })) ≡ left_of job (standing_of old) → KeepsNeeded nodes job old →
    KeepsNeeded nodes job (record { next = old.next + 1; active = actives; reads = reads; store = old.store; wholes = old.wholes; needed = needed })
keeps_started nodes job old actives reads needed active pushed noted more notes left keeps = record {
  tallies = subst (IsTallyOf needed.still) (sym (ap still_reads pushed ∙ still_more old.active.items active)) (notes.tallies (still_reads old.active.items) keeps.tallies);
  unnoted = λ not. absurd (let both : true ≡ false = sym (notes.noted ∙ noted) ∙ not in cc);
  later = keeps.later;
  noted = λ is many.
      let r = keeps.noted noted many in
      (subst (λ (l : LaterReads). IsNotedOf l keeps.later) (sym notes.later) r.0, r.1);
  found = notes.found keeps.found;
  row = λ is. notes.row ∙ keeps.row noted;
  apart = λ n place at behind. notes.apart keeps.found n place at (subst (λ (r : ℕ). ReadsBehind nodes job.plan r n) (sym (keeps.row noted)) behind);
  forgotten = λ n kept gone need. keeps.forgotten n kept gone (leaf_needed_in nodes job (standing_of old) new n left need);
  none_before = λ first. absurd (omega arith);
  bytes = λ s bytes came here. subst (Among s) (sym notes.held) (keeps.bytes s bytes (more.came s bytes came) (λ gone. here (more.stored.still_gone s gone)));
  room = λ s asked. room s (more.only s asked);
  asked = λ s asked none. lacked s (none_grow old.reads.wanted reads.wanted more.grows s none) (more.only s asked);
}
  where
    new : Standing
    new = standing_of (record { next = old.next + 1; active = actives; reads = reads; store = old.store; wholes = old.wholes; needed = needed })

    room : (s : ℕ) → IsAsked old.reads.wanted s ⊎ IsNeeded (map read_of active.needs.items) old.store.columns.all s → HasRoom needed.held s
    room s (inl asked) = notes.kept_room s (keeps.room s asked)
    room s (inr (read, among, none, is)) =
        let need = need_of read active.needs.items among in
        subst (HasRoom needed.held) (ap (λ (r : LeafRead). r.segment) need.2 ∙ is) (notes.room need.0 need.1)

    lacked : (s : ℕ) → bytes_of old.reads.wanted s ≡ None → IsAsked old.reads.wanted s ⊎ IsNeeded (map read_of active.needs.items) old.store.columns.all s → IsLacked (record { next = old.next + 1; active = actives; reads = reads; store = old.store; wholes = old.wholes; needed = needed }) s
    lacked s none (inl asked) =
        let l = keeps.asked s asked none in
        (l.0, subst (λ (xs : List ActiveSplit). Among l.0 xs) (sym pushed) (among_front l.0 old.active.items (active ∷ []) l.1), l.2)
    lacked s none (inr (read, among, none_kept, is)) =
        let need = need_of read active.needs.items among in
        let kept : kept_at old.store.columns.all need.0.leaf ≡ None = ap (λ (r : LeafRead). kept_at old.store.columns.all r.leaf) need.2 ∙ none_kept in
        (active, subst (λ (xs : List ActiveSplit). Among active xs) (sym pushed) (among_back active old.active.items (active ∷ []) (inl refl)), (need.0, need.1, ap (λ (r : LeafRead). r.segment) need.2 ∙ is, kept))

-- where more is wanted, what came is there
came_grown : (nodes : List Node) (leaves : List Kept) (old new : List Wanted) → Grows old new → (s : ℕ) → HasCame nodes old leaves s → HasCame nodes new leaves s
came_grown nodes leaves old new grows s (inl (place, bytes, at)) = inl (place, bytes, grows place (record { segment = s; bytes = Some bytes }) at)
came_grown nodes leaves old new grows s (inr kept) = inr kept

pub going_started : (nodes : List Node) (job : Job) (old : Progress) (actives : Vec ActiveSplit Global) (reads : ReadsData) (needed : Needed) (split : Split) (active : ActiveSplit) → old.next < length job.splits.items → slice_get job.splits.items old.next ≡ Some split → (true_count split.mask == 0) ≡ false → active.split ≡ old.next →
    IsStarting nodes job split active → actives.items ≡ old.active.items ++ active ∷ [] → old.store.columns.ready ≡ true → old.needed.noted ≡ true → WantsMore old.store.columns.all active old.reads reads → NotesMore nodes job.plan active old.needed needed →
    left_of job (standing_of (record { next = old.next + 1; active = actives; reads = reads; store = old.store; wholes = old.wholes; needed = needed })) ≡ left_of job (standing_of old) → IsGoing nodes job old →
    IsGoing nodes job (record { next = old.next + 1; active = actives; reads = reads; store = old.store; wholes = old.wholes; needed = needed })
going_started nodes job old actives reads needed split active less at some number starting pushed ready noted more notes left is =
    let new : Progress = record { next = old.next + 1; active = actives; reads = reads; store = old.store; wholes = old.wholes; needed = needed } in
    let at_own : slice_get job.splits.items active.split ≡ Some split = ap (slice_get job.splits.items) number ∙ at in
    let own = active_started nodes job old.store.columns reads.wanted old.wholes split active at_own some starting more.asked in
    let P : List ActiveSplit → Type 0 = λ xs. (a : ActiveSplit) → Among a xs → IsActive nodes job old.store.columns reads.wanted old.wholes a in
    record {
      ready = λ after. ready;
      noted = λ after. notes.noted ∙ noted;
      actives = subst P (sym pushed) (actives_more nodes job old.store.columns old.reads.wanted reads.wanted old.wholes old.active.items active more.grows is.actives own);
      serves = serves_started nodes job old actives reads needed split active less at starting more pushed is.serves;
      keeps = keeps_started nodes job old actives reads needed active pushed noted more notes left is.keeps;
      needed = λ s holds. read_by_rest_in nodes job (standing_of old) (standing_of new) s left (is.needed s (subst (Among s) notes.held holds));
      holds = λ s bytes came read. subst (Among s) (sym notes.held) (is.holds s bytes (more.came s bytes came) (read_by_rest_was nodes job (standing_of old) (standing_of new) s left read));
      came = λ s holds. came_grown nodes old.store.columns.all old.reads.wanted reads.wanted more.grows s (is.came s (subst (Among s) notes.held holds));
    }
