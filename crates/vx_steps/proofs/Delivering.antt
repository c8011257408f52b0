-- What stays true of a scan when bytes come.
use Rattle.std.proofs.Common.{◌≡◌, ℕ, zero, suc, ◌<◌, ◌==◌, ◌⊎◌, inl, inr, ⊎_elim, Bool, true, false, List, [], ◌∷◌, Option, Some, None, set, refl, sym, ap, ◌∙◌, subst, arith}
use Rattle.std.specs.Prelude.{◌↔◌, if◌then◌else◌, IsSomeAnd}
use Rattle.std.specs.List.{slice_get}
use Rattle.std.proofs.lemmas.Bool.{cases_eq}
use Rattle.std.proofs.lemmas.Option.{same_Some}
use Rattle.vx_plan.specs.Nodes.{Node}
use Rattle.vx_steps.specs.declared.jobs.ActiveSplit.{ActiveSplit}
use Rattle.vx_steps.specs.declared.jobs.Job.{Job}
use Rattle.vx_steps.specs.declared.jobs.Progress.{Progress}
use Rattle.vx_steps.specs.declared.reads.ReadId.{ReadId}
use Rattle.vx_steps.specs.declared.wholes.Wholes.{Wholes}
use Rattle.vx_steps.specs.HeldData.{HeldData, Holds, HoldsOneMore, KeepsRoom}
use Rattle.vx_steps.specs.KeptData.{Kept}
use Rattle.vx_steps.specs.LeavesData.{LeavesData}
use Rattle.vx_steps.specs.Needs.{Among}
use Rattle.vx_steps.specs.ReadTable.{bytes_of, Delivers, IsGone, IsNamed, KeepsStored, LetsGo}
use Rattle.vx_steps.specs.ReadTableData.{ReadsData, Stored, Wanted}
use Rattle.vx_steps.specs.Running.{IsEmptied, IsRunning, IsSound, IsStarted}
use Rattle.vx_steps.specs.ScanData.{ScanData, TakesBytes}
use Rattle.vx_steps.specs.Standings.{standing_of}
use Rattle.vx_steps.specs.Steps.{HasCame, IsReadByRest}
use Rattle.vx_steps.specs.Wants.{IsAsked}
use Rattle.vx_steps.proofs.Agreeing.{asked_delivered, of_delivered}
use Rattle.vx_steps.proofs.OpenReads.{lacked_needed}
use Rattle.vx_steps.proofs.Releasing.{served_stored}
use Rattle.vx_steps.proofs.WantedReads.{is_standing, set_there, stands_is}

-- ---- bytes that come

abbrev came_for : ℕ → List ℕ → Wanted
came_for segment bytes = record { segment = segment; bytes = Some bytes }

abbrev none_for : ℕ → Wanted
none_for segment = record { segment = segment; bytes = None }

key_is : (a b : ℕ) → (a == b) ≡ true → a ≡ b
key_is a b e = grind arith

-- the bytes that are there now were there before, or are those of the segment
bytes_then : (wanted : List Wanted) (place segment : ℕ) (bytes : List ℕ) → slice_get wanted place ≡ Some (none_for segment) → (s : ℕ) (there : List ℕ) → bytes_of (set wanted place (came_for segment bytes)) s ≡ Some there → (bytes_of wanted s ≡ Some there) ⊎ (segment ≡ s)
bytes_then [] place segment bytes at s there is = absurd cc
bytes_then (w ∷ wanted) zero segment bytes at s there is = by (segment == s) refl is
  where
    by : (b : Bool) → (segment == s) ≡ b → (if b then Some bytes else bytes_of wanted s) ≡ Some there → (bytes_of (w ∷ wanted) s ≡ Some there) ⊎ (segment ≡ s)
    by true e came = inr (key_is segment s e)
    by false e came =
        let same : w ≡ none_for segment = same_Some w (none_for segment) at in
        let P : Wanted → Type 0 = λ x. (if x.segment == s then x.bytes else bytes_of wanted s) ≡ Some there in
        inl (subst P (sym same) (ap (λ (b : Bool). if b then None else bytes_of wanted s) e ∙ came))
bytes_then (w ∷ wanted) (suc place) segment bytes at s there is = by (w.segment == s) is (bytes_then wanted place segment bytes at s there)
  where
    by : (b : Bool) → (if b then w.bytes else bytes_of (set wanted place (record { segment = segment; bytes = Some bytes })) s) ≡ Some there → (bytes_of (set wanted place (record { segment = segment; bytes = Some bytes })) s ≡ Some there → (bytes_of wanted s ≡ Some there) ⊎ (segment ≡ s)) → ((if b then w.bytes else bytes_of wanted s) ≡ Some there) ⊎ (segment ≡ s)
    by true came rest = inl came
    by false came rest = rest came

-- where none are there now, none were before
none_then : (wanted : List Wanted) (place segment : ℕ) (bytes : List ℕ) → slice_get wanted place ≡ Some (none_for segment) → (s : ℕ) → bytes_of (set wanted place (came_for segment bytes)) s ≡ None → bytes_of wanted s ≡ None
none_then [] place segment bytes at s is = is
none_then (w ∷ wanted) zero segment bytes at s is = by (segment == s) refl is
  where
    some_none : Some bytes ≡ None → ⊥
    some_none e = cc

    by : (b : Bool) → (segment == s) ≡ b → (if b then Some bytes else bytes_of wanted s) ≡ None → bytes_of (w ∷ wanted) s ≡ None
    by true e came = absurd (some_none came)
    by false e came =
        let same : w ≡ none_for segment = same_Some w (none_for segment) at in
        let P : Wanted → Type 0 = λ x. (if x.segment == s then x.bytes else bytes_of wanted s) ≡ None in
        subst P (sym same) (ap (λ (b : Bool). if b then None else bytes_of wanted s) e ∙ came)
none_then (w ∷ wanted) (suc place) segment bytes at s is = by (w.segment == s) is (none_then wanted place segment bytes at s)
  where
    by : (b : Bool) → (if b then w.bytes else bytes_of (set wanted place (record { segment = segment; bytes = Some bytes })) s) ≡ None → (bytes_of (set wanted place (record { segment = segment; bytes = Some bytes })) s ≡ None → bytes_of wanted s ≡ None) → (if b then w.bytes else bytes_of wanted s) ≡ None
    by true came rest = came
    by false came rest = rest came

got_set : (wanted : List Wanted) (place : ℕ) (x y : Wanted) → slice_get wanted place ≡ Some y → slice_get (set wanted place x) place ≡ Some x
got_set [] place x y there = absurd cc
got_set (w ∷ wanted) zero x y there = refl
got_set (w ∷ wanted) (suc place) x y there = got_set wanted place x y there

-- what is wanted was
asked_before : (wanted : List Wanted) (place segment : ℕ) (bytes : List ℕ) → slice_get wanted place ≡ Some (none_for segment) → (s : ℕ) → IsAsked (set wanted place (came_for segment bytes)) s → IsAsked wanted s
asked_before wanted place segment bytes at s (i, stands) = (
  i,
  ⊎_elim
      (λ (same : place ≡ i).
      let G : ℕ → Type 0 = λ k. slice_get (set wanted place (came_for segment bytes)) k ≡ Some (came_for segment bytes) in
      let W : ℕ → Type 0 = λ k. slice_get wanted k ≡ Some (none_for segment) in
      let is : segment ≡ s = stands_is (set wanted place (came_for segment bytes)) s i (came_for segment bytes) (subst G same (got_set wanted place (came_for segment bytes) (none_for segment) at)) stands in
      is_standing wanted i (none_for segment) (subst W same at) s is)
      (λ (apart : place ≡ i → ⊥). subst (λ (o : Option Wanted). IsSomeAnd o (λ w. w.segment ≡ s)) (set_there wanted place i (came_for segment bytes) apart) stands)
      (cases_eq place i),
)

none_some : (segment s : ℕ) (there : List ℕ) → Some (none_for segment) ≡ Some (came_for s there) → ⊥
none_some segment s there e = let both : None ≡ Some there = ap (λ (w : Wanted). w.bytes) (same_Some (none_for segment) (came_for s there) e) in cc

-- what had come is there
came_then : (nodes : List Node) (wanted : List Wanted) (place segment : ℕ) (bytes : List ℕ) → slice_get wanted place ≡ Some (none_for segment) → (leaves : List Kept) (s : ℕ) → HasCame nodes wanted leaves s → HasCame nodes (set wanted place (came_for segment bytes)) leaves s
came_then nodes wanted place segment bytes at leaves s (inr kept) = inr kept
came_then nodes wanted place segment bytes at leaves s (inl (i, there, is)) = inl (
  i,
  there,
  ⊎_elim
      (λ (same : place ≡ i). absurd (none_some segment s there (sym at ∙ (ap (slice_get wanted) same ∙ is))))
      (λ (apart : place ≡ i → ⊥). set_there wanted place i (came_for segment bytes) apart ∙ is)
      (cases_eq place i),
)

-- ---- the scan

-- bytes came, and the segment is held
abbrev pub delivered_to : Progress → ReadsData → HeldData → Progress
delivered_to old reads held = record old { reads = reads; needed = record old.needed { held = held } }

pub sound_delivered : (nodes : List Node) (job : Job) (old : Progress) (reads : ReadsData) (held : HeldData) → IsSound nodes job old → IsSound nodes job (delivered_to old reads held)
sound_delivered nodes job old reads held is = record {
  known = is.known;
  inside = is.inside;
  fits = is.fits;
  typed_given = is.typed_given;
  typed_leaves = is.typed_leaves;
  typed_made = is.typed_made;
  apart_made = is.apart_made;
  apart_used = is.apart_used;
  uses = is.uses;
  counted = is.counted;
  behind = is.behind;
}

-- a segment of which a read is outstanding is wanted
pub asked_outstanding : (read : ReadId) (bytes : List ℕ) (old new : ReadsData) (delivers : Delivers read bytes old new) (segment : ℕ) → delivers.segment ≡ segment → IsAsked old.wanted segment
asked_outstanding read bytes old new delivers segment is = (read.0, is_standing old.wanted read.0 (none_for delivers.segment) delivers.at segment is)

keeps_stored : (old new : ReadsData) → new.stored ≡ old.stored → new.passed ≡ old.passed → KeepsStored old new
keeps_stored old new stored passed = record {
  named = λ segment n named. subst (λ (st : List Stored). IsNamed st segment n) (sym stored) named;
  gone = λ segment gone. subst (λ (st : List Stored). IsGone st segment) stored gone;
  still_gone = λ segment gone. subst (λ (st : List Stored). IsGone st segment) (sym stored) gone;
  passed = passed;
}

abbrev started_wanted : (nodes : List Node) (job : Job) (leaves : LeavesData) (old new : List Wanted) (wholes : Wholes) (active : ActiveSplit) → ((segment : ℕ) → IsAsked old segment → IsAsked new segment) → IsStarted nodes job leaves old wholes active → IsStarted nodes job leaves new wholes active
started_wanted nodes job leaves old new wholes active grows is = record {
  split = is.split;
  at = is.at;
  placed = is.placed;
  order = is.order;
  are_leaves = is.are_leaves;
  asked = λ need among none. grows need.segment (is.asked need among none);
  given = is.given;
  decoded = is.decoded;
}

pub running_delivered : (nodes : List Node) (job : Job) (old : Progress) (read : ReadId) (bytes : List ℕ) (reads : ReadsData) (held : HeldData) (segment : ℕ) (delivers : Delivers read bytes old.reads reads) → delivers.segment ≡ segment → bytes_of old.reads.wanted segment ≡ None → reads.stored ≡ old.reads.stored → reads.passed ≡ old.reads.passed →
    HoldsOneMore segment old.needed.held held → KeepsRoom old.needed.held held → IsRunning nodes job old → IsRunning nodes job (delivered_to old reads held)
running_delivered nodes job old read bytes reads held segment delivers segment_is none stored passed more room is = record {
  first = is.first;
  unforgotten = is.unforgotten;
  going = record {
    ready = is.going.ready;
    noted = is.going.noted;
    actives = λ a m.
        let one = is.going.actives a m in
        record { started = started_wanted nodes job old.store.columns old.reads.wanted reads.wanted old.wholes a (asked_delivered read bytes old.reads reads delivers) one.started; left = one.left; rest = one.rest };
    serves = record {
      gone_late = λ s gone. is.going.serves.gone_late s (keeps.gone s gone);
      passed_late = λ some. is.going.serves.passed_late (subst (λ (n : ℕ). 0 < n) passed some);
      served = λ a m. served_stored old.store.columns.all old.reads reads _ keeps (is.going.serves.served a m);
      active_after = is.going.serves.active_after;
      gone_after = λ s gone. is.going.serves.gone_after s (keeps.gone s gone);
    };
    keeps = record {
      tallies = is.going.keeps.tallies;
      unnoted = is.going.keeps.unnoted;
      later = is.going.keeps.later;
      noted = is.going.keeps.noted;
      found = is.going.keeps.found;
      row = is.going.keeps.row;
      apart = is.going.keeps.apart;
      forgotten = is.going.keeps.forgotten;
      none_before = λ first.
          let none_next : old.next ≡ 0 = first in
          let some : 0 < old.next = begun in
          absurd (omega arith);
      bytes = λ s there came stay. held_then s there stay (bytes_then old.reads.wanted read.0 delivers.segment bytes delivers.at s there (subst (λ (ws : List Wanted). bytes_of ws s ≡ Some there) delivers.taken came));
      room = λ s asked. room s (is.going.keeps.room s (before s asked));
      asked = λ s asked missing. is.going.keeps.asked s (before s asked) (none_then old.reads.wanted read.0 delivers.segment bytes delivers.at s (subst (λ (ws : List Wanted). bytes_of ws s ≡ None) delivers.taken missing));
    };
    needed = λ s holds. needed s ((more s).0 holds);
    holds = λ s there came left. read_held s there left (bytes_then old.reads.wanted read.0 delivers.segment bytes delivers.at s there (subst (λ (ws : List Wanted). bytes_of ws s ≡ Some there) delivers.taken came));
    came = λ s holds. subst (λ (ws : List Wanted). HasCame nodes ws old.store.columns.all s) (sym delivers.taken) (came s ((more s).0 holds));
  };
}
  where
    keeps : KeepsStored old.reads reads
    keeps = keeps_stored old.reads reads stored passed

    asked : IsAsked old.reads.wanted segment
    asked = asked_outstanding read bytes old.reads reads delivers segment segment_is

    begun : 0 < old.next
    begun =
        let lacked = is.going.keeps.asked segment asked none in
        is.going.serves.active_after lacked.0 lacked.1

    before : (s : ℕ) → IsAsked reads.wanted s → IsAsked old.reads.wanted s
    before s h = asked_before old.reads.wanted read.0 delivers.segment bytes delivers.at s (subst (λ (ws : List Wanted). IsAsked ws s) delivers.taken h)

    held_then : (s : ℕ) (there : List ℕ) → (IsGone reads.stored s → ⊥) → (bytes_of old.reads.wanted s ≡ Some there) ⊎ (delivers.segment ≡ s) → Holds held s
    held_then s there stay (inl came) = (more s).1 (inl (is.going.keeps.bytes s there came (λ gone. stay (keeps.still_gone s gone))))
    held_then s there stay (inr e) = (more s).1 (inr (sym segment_is ∙ e))

    read_held : (s : ℕ) (there : List ℕ) → IsReadByRest nodes job (standing_of old) s → (bytes_of old.reads.wanted s ≡ Some there) ⊎ (delivers.segment ≡ s) → Holds held s
    read_held s there left (inl came) = (more s).1 (inl (is.going.holds s there came left))
    read_held s there left (inr e) = (more s).1 (inr (sym segment_is ∙ e))

    came : (s : ℕ) → Holds old.needed.held s ⊎ (segment ≡ s) → HasCame nodes (set old.reads.wanted read.0 (record { segment = delivers.segment; bytes = Some bytes })) old.store.columns.all s
    came s (inl holds) = came_then nodes old.reads.wanted read.0 delivers.segment bytes delivers.at old.store.columns.all s (is.going.came s holds)
    came s (inr e) = inl (read.0, bytes, got_set old.reads.wanted read.0 (came_for delivers.segment bytes) (none_for delivers.segment) delivers.at ∙ ap (λ (k : ℕ). Some (came_for k bytes)) (segment_is ∙ e))

    needed : (s : ℕ) → Holds old.needed.held s ⊎ (segment ≡ s) → IsReadByRest nodes job (standing_of (delivered_to old reads held)) s
    needed s (inl holds) = is.going.needed s holds
    needed s (inr e) = subst (λ (k : ℕ). IsReadByRest nodes job (standing_of old) k) e (lacked_needed nodes job old (λ a m. let one = is.going.actives a m in one.started) segment (is.going.keeps.asked segment asked none))

-- ---- what its caller sees

pub takes_bytes : (read : ReadId) (bytes : List ℕ) (old : ScanData) (reads : ReadsData) (held : List ℕ) (delivers : Delivers read bytes old.progress.reads reads) → (old.refused ≡ false → (s : ℕ) → Among s held ↔ (Among s old.progress.held ⊎ (delivers.segment ≡ s))) → (old.refused ≡ true → held ≡ old.progress.held) → TakesBytes read bytes old (record old { progress = record old.progress { reads = reads; held = held } })
takes_bytes read bytes old reads held delivers more same = record {
  delivers = delivers;
  same = refl;
  held = more;
  let_go = same;
  nodes = refl;
  job = refl;
  left = refl;
  leaves = refl;
  wholes = refl;
  refused = refl;
  told = λ outside told is. of_delivered old.nodes old.job.offset read bytes old.progress.reads reads old.progress.leaves old.progress.wholes.made delivers outside told is;
}

-- the segment that is held is that of the read
pub one_more_of : (read : ReadId) (bytes : List ℕ) (old new : ReadsData) (delivers : Delivers read bytes old new) (segment : ℕ) (before after : HeldData) → delivers.segment ≡ segment → HoldsOneMore segment before after → (s : ℕ) → Among s after.held ↔ (Among s before.held ⊎ (delivers.segment ≡ s))
one_more_of read bytes old new delivers segment before after is more s = (
  λ holds. ⊎_elim (λ (h : Among s before.held). inl h) (λ (e : segment ≡ s). inr (is ∙ e)) ((more s).0 holds),
  λ either. (more s).1 (⊎_elim (λ (h : Among s before.held). inl h) (λ (e : delivers.segment ≡ s). inr (sym is ∙ e)) either),
)

-- after a refusal the bytes are let go at once
pub delivers_gone : (read : ReadId) (bytes : List ℕ) (old mid new : ReadsData) (segment : ℕ) → Delivers read bytes old mid → LetsGo segment mid new → Delivers read bytes old new
delivers_gone read bytes old mid new segment delivers lets = record {
  outstanding = delivers.outstanding;
  segment = delivers.segment;
  at = delivers.at;
  taken = lets.wanted ∙ delivers.taken;
  handed = lets.handed ∙ delivers.handed;
}

-- and all that came are gone then
pub emptied_delivered : (old : Progress) (read : ReadId) (bytes : List ℕ) (mid new : ReadsData) (segment : ℕ) (delivers : Delivers read bytes old.reads mid) → delivers.segment ≡ segment → mid.stored ≡ old.reads.stored → LetsGo segment mid new → IsEmptied old → IsEmptied (delivered_to old new old.needed.held)
emptied_delivered old read bytes mid new segment delivers segment_is stored lets (none, all) = (none, λ s there came. gone s there (ap (λ (ws : List Wanted). bytes_of ws s) (sym lets.wanted) ∙ came))
  where
    gone : (s : ℕ) (there : List ℕ) → bytes_of mid.wanted s ≡ Some there → IsGone new.stored s
    gone s there came = ⊎_elim
        (λ (before : bytes_of old.reads.wanted s ≡ Some there). lets.still_gone s (subst (λ (st : List Stored). IsGone st s) (sym stored) (all s there before)))
        (λ (e : delivers.segment ≡ s).
        let is : segment ≡ s = sym segment_is ∙ e in
        subst (λ (k : ℕ). IsGone new.stored k) is (lets.let_go there (ap (bytes_of mid.wanted) is ∙ came)))
        (bytes_then old.reads.wanted read.0 delivers.segment bytes delivers.at s there (subst (λ (ws : List Wanted). bytes_of ws s ≡ Some there) delivers.taken came))
