-- Which reads were asked for, and how many are in flight, one read after another.
use Rattle.std.proofs.Common.{◌≡◌, ◌≢◌, ℕ, zero, suc, ◌+◌, ◌<◌, ◌≤◌, ◌⊎◌, inl, inr, ⊎_elim, Bool, true, false, List, [], ◌∷◌, ◌++◌, Option, Some, None, length, take, slice_set, refl, sym, ap, ◌∙◌, subst, arith, append-nil, append_assoc}
use Rattle.std.specs.Prelude.{option_map, IfSome}
use Rattle.std.specs.List.{slice_get}
use Rattle.vx_base.specs.declared.locations.SegmentLocation.{SegmentLocation}
use Rattle.vx_base.specs.declared.locations.AskedRange.{AskedRange}
use Rattle.vx_base.specs.Sources.{SourceState, Rose, RoseBy, range_of}
use Rattle.vx_reads.specs.declared.reads.ReadState.{ReadState}
use Rattle.vx_reads.specs.declared.reads.ReadState.TheVariants as states
use Rattle.vx_reads.specs.declared.reads.SegmentRead.{SegmentRead}
use Rattle.vx_reads.specs.Reads.{segments_of, waiting_in, is_waiting, asked_also, located_range, range_to_ask, ranges_to_ask, StartsBy, PollsBy, IsAsked, AreAsked}
use Rattle.std.proofs.lemmas.Bool.{cases_lt}
use Rattle.std.proofs.lemmas.List.{length-map}
use Rattle.std.proofs.lemmas.Option.{slice_get_within}
use Rattle.vx_reads.proofs.Going.{at_set, set_same}

asked_by : (s : ReadState) (locations : List SegmentLocation) (old new : SegmentRead) (before after : SourceState) → old.state ≡ s → StartsBy s locations old new before after → IsAsked new.state
asked_by states.NotAsked locations old new before after e is = subst (λ (r : SegmentRead). IsAsked r.state) (sym is.3) tt
asked_by (states.InFlight ticket) locations old new before after e is = subst (λ (r : SegmentRead). IsAsked r.state) (sym is.0) (subst IsAsked (sym e) tt)
asked_by (states.Came bytes) locations old new before after e is = subst (λ (r : SegmentRead). IsAsked r.state) (sym is.0) (subst IsAsked (sym e) tt)

pub asked_more : (locations : List SegmentLocation) (reads : List SegmentRead) (place : ℕ) (old new : SegmentRead) (before after : SourceState) → slice_get reads place ≡ Some old → StartsBy old.state locations old new before after → AreAsked place reads → AreAsked (place + 1) (slice_set reads place new)
asked_more locations reads place old new before after at is asked j lt = by (at_set reads place j old new at)
  where
    by : ((j ≡ place) × (slice_get (slice_set reads place new) j ≡ Some new)) ⊎ ((j ≢ place) × (slice_get (slice_set reads place new) j ≡ slice_get reads j)) → IfSome (slice_get (slice_set reads place new) j) (λ (read : SegmentRead). IsAsked read.state)
    by (inl (same, e)) = subst (λ (o : Option SegmentRead). IfSome o (λ (read : SegmentRead). IsAsked read.state)) (sym e) (asked_by old.state locations old new before after refl is)
    by (inr (differ, e)) = subst (λ (o : Option SegmentRead). IfSome o (λ (read : SegmentRead). IsAsked read.state)) (sym e) (asked j (below j place lt differ))
      where
        below : (j place : ℕ) → j < place + 1 → j ≢ place → j < place
        below j place lt differ = ⊎_elim (λ (h : j < place). h) (λ (h : place ≤ j). absurd (differ (omega arith))) (cases_lt j place)

still_asked : (s : ReadState) (b : Bool) (old new : SegmentRead) (before after : SourceState) → old.state ≡ s → PollsBy s b old new before after → IsAsked old.state → IsAsked new.state
still_asked states.NotAsked b old new before after e is asked = absurd (subst IsAsked e asked)
still_asked (states.Came bytes) b old new before after e is asked = subst (λ (r : SegmentRead). IsAsked r.state) (sym is.1.0) asked
still_asked (states.InFlight ticket) true old new before after e is asked = subst (λ (r : SegmentRead). IsAsked r.state) (sym is.0) asked
still_asked (states.InFlight ticket) false old new before after e is asked = subst (λ (r : SegmentRead). IsAsked r.state) (sym is.1.0) tt

length_set : {X : Type 0} (xs : List X) (i : ℕ) (x : X) → length (slice_set xs i x) ≡ length xs
length_set [] i x = refl
length_set (y ∷ xs) zero x = refl
length_set (y ∷ xs) (suc i) x = ap suc (length_set xs i x)

pub asked_polled : (reads : List SegmentRead) (place : ℕ) (old new : SegmentRead) (b : Bool) (before after : SourceState) → slice_get reads place ≡ Some old → PollsBy old.state b old new before after → AreAsked (length reads) reads → AreAsked (length (slice_set reads place new)) (slice_set reads place new)
asked_polled reads place old new b before after at is asked j lt = by (at_set reads place j old new at)
  where
    mine : IsAsked old.state
    mine = subst (λ (o : Option SegmentRead). IfSome o (λ (read : SegmentRead). IsAsked read.state)) at (asked place (slice_get_within reads place old at))

    by : ((j ≡ place) × (slice_get (slice_set reads place new) j ≡ Some new)) ⊎ ((j ≢ place) × (slice_get (slice_set reads place new) j ≡ slice_get reads j)) → IfSome (slice_get (slice_set reads place new) j) (λ (read : SegmentRead). IsAsked read.state)
    by (inl (same, e)) = subst (λ (o : Option SegmentRead). IfSome o (λ (read : SegmentRead). IsAsked read.state)) (sym e) (still_asked old.state b old new before after refl is mine)
    by (inr (differ, e)) = subst (λ (o : Option SegmentRead). IfSome o (λ (read : SegmentRead). IsAsked read.state)) (sym e) (asked j (omega (arith, length_set reads place new)))

-- ---- what is asked for

-- a read that was asked for asks for nothing more
asks_no_more : (locations : List SegmentLocation) (segment : ℕ) (s : ReadState) → IsAsked s → range_to_ask locations segment s ≡ []
asks_no_more locations segment states.NotAsked asked = absurd asked
asks_no_more locations segment (states.InFlight ticket) asked = refl
asks_no_more locations segment (states.Came bytes) asked = refl

-- what the reads ask for, of which those before a place were asked for: what the one there does, and what they do without it
left_to_ask : (locations : List SegmentLocation) (reads : List SegmentRead) (place : ℕ) (old new : SegmentRead) → slice_get reads place ≡ Some old → AreAsked place reads → IsAsked new.state → ranges_to_ask locations reads ≡ range_to_ask locations old.segment old.state ++ ranges_to_ask locations (slice_set reads place new)
left_to_ask locations [] place old new at asked is = absurd cc
left_to_ask locations (read ∷ reads) zero old new at asked is =
    let same : read ≡ old = cc in
    let none : range_to_ask locations new.segment new.state ≡ [] = asks_no_more locations new.segment new.state is in
    ap (λ (r : SegmentRead). range_to_ask locations r.segment r.state ++ ranges_to_ask locations reads) same
    ∙ ap (λ (xs : List AskedRange). range_to_ask locations old.segment old.state ++ (xs ++ ranges_to_ask locations reads)) (sym none)
left_to_ask locations (read ∷ reads) (suc place) old new at asked is =
    let none : range_to_ask locations read.segment read.state ≡ [] = asks_no_more locations read.segment read.state (asked 0 (omega arith)) in
    let later : AreAsked place reads = λ j lt. asked (suc j) (omega arith) in
    ap (λ (xs : List AskedRange). xs ++ ranges_to_ask locations reads) none
    ∙ left_to_ask locations reads place old new at later is
    ∙ ap (λ (xs : List AskedRange). range_to_ask locations old.segment old.state ++ (xs ++ ranges_to_ask locations (slice_set reads place new))) (sym none)

also_then : (asked : Option (List AskedRange)) (range : AskedRange) (more whole : List AskedRange) → whole ≡ range ∷ more → option_map (λ (ranges : List AskedRange). ranges ++ more) (option_map (λ (ranges : List AskedRange). ranges ++ range ∷ []) asked) ≡ option_map (λ (ranges : List AskedRange). ranges ++ whole) asked
also_then None range more whole is = refl
also_then (Some ranges) range more whole is = ap Some (append_assoc ranges (range ∷ []) more ∙ ap (λ (xs : List AskedRange). ranges ++ xs) (sym is))

-- one read more is asked for, and so one less is left to ask
pub asks_more : (locations : List SegmentLocation) (reads : List SegmentRead) (place : ℕ) (old new : SegmentRead) (before after : SourceState) → slice_get reads place ≡ Some old → AreAsked place reads → StartsBy old.state locations old new before after → asked_also locations (slice_set reads place new) after.asked ≡ asked_also locations reads before.asked
asks_more locations reads place old new before after at asked starts = by old.state refl starts
  where
    same : (new ≡ old) × (after ≡ before) → asked_also locations (slice_set reads place new) after.asked ≡ asked_also locations reads before.asked
    same is =
        ap (λ (r : SegmentRead). asked_also locations (slice_set reads place r) after.asked) is.0
        ∙ ap (λ (rs : List SegmentRead). asked_also locations rs after.asked) (set_same reads place old at)
        ∙ ap (λ (s : SourceState). asked_also locations reads s.asked) is.1

    by : (s : ReadState) → old.state ≡ s → StartsBy s locations old new before after → asked_also locations (slice_set reads place new) after.asked ≡ asked_also locations reads before.asked
    by states.NotAsked e is =
        let more : List AskedRange = ranges_to_ask locations (slice_set reads place new) in
        let whole : ranges_to_ask locations reads ≡ range_of is.1 ∷ ranges_to_ask locations (slice_set reads place new) =
        left_to_ask locations reads place old new at asked (asked_by old.state locations old new before after refl starts)
        ∙ ap (λ (s : ReadState). range_to_ask locations old.segment s ++ more) e
        ∙ ap (λ (o : Option SegmentLocation). located_range o ++ more) is.2 in
        ap (asked_also locations (slice_set reads place new)) is.4.asked
        ∙ also_then before.asked (range_of is.1) more (ranges_to_ask locations reads) whole
    by (states.InFlight ticket) e is = same is
    by (states.Came bytes) e is = same is

none_to_ask : (locations : List SegmentLocation) (reads : List SegmentRead) → AreAsked (length reads) reads → ranges_to_ask locations reads ≡ []
none_to_ask locations [] asked = refl
none_to_ask locations (read ∷ reads) asked =
    let none : range_to_ask locations read.segment read.state ≡ [] = asks_no_more locations read.segment read.state (asked 0 (omega arith)) in
    ap (λ (xs : List AskedRange). xs ++ ranges_to_ask locations reads) none ∙ none_to_ask locations reads (λ j lt. asked (suc j) (omega arith))

-- where each was asked for, none is left to ask
pub asked_all : (locations : List SegmentLocation) (reads : List SegmentRead) (asked : Option (List AskedRange)) → AreAsked (length reads) reads → asked_also locations reads asked ≡ asked
asked_all locations reads None are = refl
asked_all locations reads (Some ranges) are = ap Some (ap (λ (xs : List AskedRange). ranges ++ xs) (none_to_ask locations reads are) ∙ append-nil ranges)

-- a poll asks for nothing
pub quiet_poll : (old new : SegmentRead) (goes_on : Bool) (before after : SourceState) → PollsBy old.state goes_on old new before after → after.asked ≡ before.asked
quiet_poll old new goes_on before after polls = by old.state goes_on polls
  where
    by : (s : ReadState) (b : Bool) → PollsBy s b old new before after → after.asked ≡ before.asked
    by states.NotAsked b is = ap (λ (s : SourceState). s.asked) is.1.1
    by (states.Came bytes) b is = ap (λ (s : SourceState). s.asked) is.1.1
    by (states.InFlight ticket) true is = is.1.asked
    by (states.InFlight ticket) false is = is.1.1.asked

-- ---- how many wait

-- how many of the first reads are in flight
pub waiting_more : (reads : List SegmentRead) (place next : ℕ) (old new : SegmentRead) → next ≡ place + 1 → slice_get reads place ≡ Some old → waiting_in (take next (slice_set reads place new)) ≡ waiting_in (take place reads) + is_waiting new.state
waiting_more [] place next old new e at = absurd cc
waiting_more (r ∷ reads) zero zero old new e at = absurd (omega arith)
waiting_more (r ∷ reads) zero (suc next) old new e at =
    let none : next ≡ 0 = omega arith in
    rw none (omega arith)
waiting_more (r ∷ reads) (suc place) zero old new e at = absurd (omega arith)
waiting_more (r ∷ reads) (suc place) (suc next) old new e at = omega (arith, waiting_more reads place next old new (omega arith) at)

pub same_count : (ones others : List SegmentRead) → segments_of ones ≡ segments_of others → length ones ≡ length others
same_count ones others same = sym (length-map ones (λ (read : SegmentRead). read.segment)) ∙ ap length same ∙ length-map others (λ (read : SegmentRead). read.segment)

-- whether a read that was polled is in flight
pub waits_by : (s : ReadState) (b : Bool) (old new : SegmentRead) (before after : SourceState) → old.state ≡ s → PollsBy s b old new before after → ((b ≡ true) × (is_waiting new.state ≡ 1) × Rose before.idle after.idle) ⊎ ((b ≡ false) × (is_waiting new.state ≡ 0))
waits_by states.NotAsked b old new before after e is = inr (is.0, ap (λ (r : SegmentRead). is_waiting r.state) is.1.0 ∙ ap is_waiting e)
waits_by (states.Came bytes) b old new before after e is = inr (is.0, ap (λ (r : SegmentRead). is_waiting r.state) is.1.0 ∙ ap is_waiting e)
waits_by (states.InFlight ticket) true old new before after e is = inl (refl, ap (λ (r : SegmentRead). is_waiting r.state) is.0 ∙ ap is_waiting e, is.2)
waits_by (states.InFlight ticket) false old new before after e is = inr (refl, ap (λ (r : SegmentRead). is_waiting r.state) is.1.0)

pub rose_more : (count before middle after : ℕ) → RoseBy count before middle → Rose middle after → RoseBy (count + 1) before after
rose_more count before middle after first second = record { kept = (let a = first.kept in let b = second.kept in omega arith); raised = (let a = first.raised in let b = second.raised in omega arith) }

pub rose_kept : (count before middle after : ℕ) → RoseBy count before middle → middle ≤ after → RoseBy count before after
rose_kept count before middle after first low = record { kept = (let a = first.kept in omega arith); raised = (let a = first.raised in omega arith) }

-- one more read was polled
pub polled_count : (reads : List SegmentRead) (place : ℕ) (old new : SegmentRead) (b : Bool) (start before after : SourceState) → slice_get reads place ≡ Some old → PollsBy old.state b old new before after → (waiting : ℕ) → waiting ≡ waiting_in (take place reads) → RoseBy waiting start.idle before.idle →
    (b ≡ true → (waiting + 1 ≡ waiting_in (take (place + 1) (slice_set reads place new))) × RoseBy (waiting + 1) start.idle after.idle)
    × (b ≡ false → (waiting ≡ waiting_in (take (place + 1) (slice_set reads place new))) × RoseBy waiting start.idle after.idle)
polled_count reads place old new b start before after at is waiting count waited =
    let more = waiting_more reads place (place + 1) old new refl at in
    by more (waits_by old.state b old new before after refl is) (idle_by old.state b refl is)
  where
    idle_by : (s : ReadState) (b : Bool) → old.state ≡ s → PollsBy s b old new before after → before.idle ≤ after.idle
    idle_by states.NotAsked b e is = let same : after.idle ≡ before.idle = ap (λ (s : SourceState). s.idle) is.1.1 in omega arith
    idle_by (states.Came bytes) b e is = let same : after.idle ≡ before.idle = ap (λ (s : SourceState). s.idle) is.1.1 in omega arith
    idle_by (states.InFlight ticket) true e is = is.2.kept
    idle_by (states.InFlight ticket) false e is = let same : after.idle ≡ before.idle = is.1.1.idle in omega arith

    by : waiting_in (take (place + 1) (slice_set reads place new)) ≡ waiting_in (take place reads) + is_waiting new.state → ((b ≡ true) × (is_waiting new.state ≡ 1) × Rose before.idle after.idle) ⊎ ((b ≡ false) × (is_waiting new.state ≡ 0)) → before.idle ≤ after.idle →
        (b ≡ true → (waiting + 1 ≡ waiting_in (take (place + 1) (slice_set reads place new))) × RoseBy (waiting + 1) start.idle after.idle)
        × (b ≡ false → (waiting ≡ waiting_in (take (place + 1) (slice_set reads place new))) × RoseBy waiting start.idle after.idle)
    by more (inl (is_one, one, rose)) low = (λ e. (omega arith, rose_more waiting start.idle before.idle after.idle waited rose), λ e. absurd (let f : true ≡ false = sym is_one ∙ e in cc))
    by more (inr (no_more, none)) low = (λ e. absurd (let f : false ≡ true = sym no_more ∙ e in cc), λ e. (omega arith, rose_kept waiting start.idle before.idle after.idle waited low))
