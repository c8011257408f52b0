-- A session stays sound where nothing is done, and where a fetch ends.
use Rattle.std.proofs.Common.{◌≡◌, ◌≢◌, ℕ, zero, suc, ◌+◌, ◌<◌, ◌==◌, ◌⊎◌, inl, inr, true, false, List, [], ◌∷◌, length, Option, Some, None, refl, sym, ap, ◌∙◌, subst, arith, cond}
use Rattle.std.specs.Prelude.{slice_index_or, remove, option_map, IsSome}
use Rattle.std.specs.List.{All}
use Rattle.std.proofs.lemmas.Bool.{eq-eqb, ne_eqb}
use Rattle.std.proofs.lemmas.Bool.Decides.{eqb_tells}
use Rattle.std.proofs.lemmas.List.Elements.{All-head, All-tail, All-cons}
use Rattle.std.proofs.lemmas.List.Sums.{sum_by-cons, sum_by-remove}
use Rattle.vx_base.specs.declared.locations.SegmentLocation.{SegmentLocation}
use Rattle.vx_base.specs.declared.locations.AskedRange.{AskedRange}
use Rattle.vx_base.specs.Sources.{SourceState, without, location_of, range_of}
use Rattle.vx_io.specs.Ranges.{RangeTable, segment_of}
use Rattle.vx_io.specs.Session.{Flight, SessionState, state_in}
use Rattle.vx_io.specs.Sound.{IsSound, IsFetchRead, times_waiting, times_fetched, times_kept, HasRead, HasWhatIsInFlight}
use Rattle.vx_io.proofs.InFlightReads.{located_without, gone_without}
use Rattle.vx_io.proofs.Places.{all_removed}

-- the same reads are in flight, and the same table holds them
pub sound_same : (ranges : RangeTable) (old new : SessionState) → IsSound ranges old → new.table ≡ old.table → new.source.in_flight ≡ old.source.in_flight → IsSound ranges new
sound_same ranges old new sound same kept = record {
  apart = sound.apart;
  once = rw same sound.once;
  waiting_in_flight = rw (same, kept) sound.waiting_in_flight;
  fetches_in_flight = rw (same, kept) sound.fetches_in_flight;
  in_flight_kept = rw (same, kept) sound.in_flight_kept;
}

-- a ticket that no fetch has is the ticket of none
others_only : (fetches : List Flight) (ticket : ℕ) → times_fetched ticket fetches ≡ 0 → All (λ (fetch : Flight). fetch.ticket ≢ ticket) fetches
others_only [] ticket none = λ k d lt. absurd (omega (arith, lt))
others_only (fetch ∷ fetches) ticket none =
    let cons : times_fetched ticket (fetch ∷ fetches) ≡ cond (fetch.ticket == ticket) 1 0 + times_fetched ticket fetches = sum_by-cons (λ (one : Flight). cond (one.ticket == ticket) 1 0) fetch fetches in
    let rest : times_fetched ticket fetches ≡ 0 = omega (arith, cons, none) in
    All-cons (λ (one : Flight). one.ticket ≢ ticket) fetch fetches
    (λ same. let here : ◌≡◌ {A = ℕ} (cond {A = ℕ} (fetch.ticket == ticket) 1 0) 1 = rw (eq-eqb fetch.ticket ticket same) refl in absurd (omega (arith, cons, none, here)))
    (others_only fetches ticket rest)

-- a session is sound after the end of the fetch at a place
pub sound_end : (ranges : RangeTable) (old : SessionState) (after : SourceState) (place : ℕ) (fetch : Flight) → IsSound ranges old → place < length old.table.fetches → fetch ≡ slice_index_or old.table.fetches place fetch → after.in_flight ≡ without fetch.ticket old.source.in_flight →
    IsSound ranges (state_in old.table.waiting (remove old.table.fetches place) after)
sound_end ranges old after place fetch sound within here left = record {
  apart = sound.apart;
  once = λ segment ticket. let removed = gone ticket in let one = sound.once segment ticket in omega (arith, removed, one);
  waiting_in_flight = λ segment ticket some.
      let differs : ticket ≢ fetch.ticket = not_here segment ticket some in
      rw (left, located_without old.source.in_flight fetch.ticket ticket differs) (sound.waiting_in_flight segment ticket some);
  fetches_in_flight = λ k d lt.
      let differs = others k d lt in
      let there = all_removed (IsFetchRead old.source) fetches place sound.fetches_in_flight k d lt in
      rw (left, located_without old.source.in_flight fetch.ticket (slice_index_or (remove fetches place) k d).ticket differs) there;
  in_flight_kept = λ ticket at located. kept ticket at (eqb_tells ticket fetch.ticket) (rw left at located);
}
  where
    fetches : List Flight
    fetches = old.table.fetches

    gone : (ticket : ℕ) → times_fetched ticket (remove fetches place) + cond (fetch.ticket == ticket) 1 0 ≡ times_fetched ticket fetches
    gone ticket = ap (λ (one : Flight). times_fetched ticket (remove fetches place) + cond (one.ticket == ticket) 1 0) here ∙ sum_by-remove (λ (one : Flight). cond (one.ticket == ticket) 1 0) fetches place fetch within

    itself : ◌≡◌ {A = ℕ} (cond {A = ℕ} (fetch.ticket == fetch.ticket) 1 0) 1
    itself = rw (eq-eqb fetch.ticket fetch.ticket refl) refl

    others : All (λ (one : Flight). one.ticket ≢ fetch.ticket) (remove fetches place)
    others = others_only (remove fetches place) fetch.ticket (let removed = gone fetch.ticket in let one = sound.once 0 fetch.ticket in omega (arith, removed, one, itself))

    not_here : (segment ticket : ℕ) → 0 < times_waiting ticket (old.table.waiting segment) → ticket ≢ fetch.ticket
    not_here segment ticket some same =
        let removed = gone ticket in
        let one = sound.once segment ticket in
        let now : ◌≡◌ {A = ℕ} (cond {A = ℕ} (fetch.ticket == ticket) 1 0) 1 = rw (eq-eqb fetch.ticket ticket (sym same)) refl in
        absurd (omega (arith, removed, one, some, now))

    still : (found : Option ℕ) (ticket : ℕ) → ticket ≢ fetch.ticket → 0 < times_kept found ticket old.table → 0 < times_kept found ticket (record { waiting = old.table.waiting; fetches = remove fetches place })
    still None ticket differ some =
        let removed = gone ticket in
        let other : ◌≡◌ {A = ℕ} (cond {A = ℕ} (fetch.ticket == ticket) 1 0) 0 = rw (ne_eqb fetch.ticket ticket (λ e. differ (sym e))) refl in
        omega (arith, removed, other, some)
    still (Some segment) ticket differ some =
        let removed = gone ticket in
        let other : ◌≡◌ {A = ℕ} (cond {A = ℕ} (fetch.ticket == ticket) 1 0) 0 = rw (ne_eqb fetch.ticket ticket (λ e. differ (sym e))) refl in
        omega (arith, removed, other, some)

    kept : (ticket : ℕ) (at : SegmentLocation) → ((ticket == fetch.ticket ≡ true) × (ticket ≡ fetch.ticket)) ⊎ ((ticket == fetch.ticket ≡ false) × (ticket ≢ fetch.ticket)) → location_of ticket (without fetch.ticket old.source.in_flight) ≡ Some at →
        0 < times_kept (segment_of ranges (range_of at)) ticket (record { waiting = old.table.waiting; fetches = remove fetches place })
    kept ticket at (inl (is, same)) located =
        let none : location_of ticket (without fetch.ticket old.source.in_flight) ≡ None = rw same (gone_without old.source.in_flight fetch.ticket) in
        let never : Some at ≡ None = sym located ∙ none in
        absurd cc
    kept ticket at (inr (is, differ)) located =
        still (segment_of ranges (range_of at)) ticket differ (sound.in_flight_kept ticket at (rw (located_without old.source.in_flight fetch.ticket ticket differ) at located))

-- ---- what is in flight

zero_or_more : (n : ℕ) → (n ≡ 0) ⊎ (0 < n)
zero_or_more zero = inl refl
zero_or_more (suc n) = inr (omega arith)

has_location : (found : Option SegmentLocation) (range : AskedRange) → option_map (λ (at : SegmentLocation). range_of at) found ≡ Some range → IsSome found
has_location None range is = absurd cc
has_location (Some at) range is = refl

fetched_here : (source : SourceState) (fetch : Flight) (fetches : List Flight) (ticket : ℕ) → ((fetch.ticket == ticket ≡ true) × (fetch.ticket ≡ ticket)) ⊎ ((fetch.ticket == ticket ≡ false) × (fetch.ticket ≢ ticket)) →
    IsFetchRead source fetch → 0 < times_fetched ticket (fetch ∷ fetches) → (0 < times_fetched ticket fetches → IsSome (location_of ticket source.in_flight)) → IsSome (location_of ticket source.in_flight)
fetched_here source fetch fetches ticket (inl (is, same)) here some rest =
    subst (λ (t : ℕ). IsSome (location_of t source.in_flight)) same (has_location (location_of fetch.ticket source.in_flight) (range_of fetch.at) here)
fetched_here source fetch fetches ticket (inr (is, differ)) here some rest =
    let cons : times_fetched ticket (fetch ∷ fetches) ≡ cond (fetch.ticket == ticket) 1 0 + times_fetched ticket fetches = sum_by-cons (λ (one : Flight). cond (one.ticket == ticket) 1 0) fetch fetches in
    let other : ◌≡◌ {A = ℕ} (cond {A = ℕ} (fetch.ticket == ticket) 1 0) 0 = rw is refl in
    rest (omega (arith, cons, other, some))

is_fetched : (source : SourceState) (fetches : List Flight) (ticket : ℕ) → All (IsFetchRead source) fetches → 0 < times_fetched ticket fetches → IsSome (location_of ticket source.in_flight)
is_fetched source [] ticket all some = absurd (omega (arith, some))
is_fetched source (fetch ∷ fetches) ticket all some =
    fetched_here source fetch fetches ticket (eqb_tells fetch.ticket ticket) (All-head (IsFetchRead source) fetch fetches all) some (is_fetched source fetches ticket (All-tail (IsFetchRead source) fetch fetches all))

-- what is in flight at the source of a sound session is what its table has
pub sound_has : (ranges : RangeTable) (state : SessionState) → IsSound ranges state → HasWhatIsInFlight state
sound_has ranges state sound ticket = (λ some. has (location_of ticket state.source.in_flight) refl some, is_there)
  where
    by : (segment : ℕ) → 0 < times_kept (Some segment) ticket state.table → (times_waiting ticket (state.table.waiting segment) ≡ 0) ⊎ (0 < times_waiting ticket (state.table.waiting segment)) → HasRead state.table ticket
    by segment some (inl none) = inr (omega (arith, none, some))
    by segment some (inr waits) = inl (segment, waits)

    at : (found : Option ℕ) → 0 < times_kept found ticket state.table → HasRead state.table ticket
    at None some = inr some
    at (Some segment) some = by segment some (zero_or_more (times_waiting ticket (state.table.waiting segment)))

    has : (found : Option SegmentLocation) → location_of ticket state.source.in_flight ≡ found → IsSome found → HasRead state.table ticket
    has None is some = absurd cc
    has (Some place) is some = at (segment_of ranges (range_of place)) (sound.in_flight_kept ticket place is)

    waiting_there : (found : Option SegmentLocation) (segment : ℕ) → option_map (λ (place : SegmentLocation). segment_of ranges (range_of place)) found ≡ Some (Some segment) → IsSome found
    waiting_there None segment is = absurd cc
    waiting_there (Some place) segment is = refl

    is_there : HasRead state.table ticket → IsSome (location_of ticket state.source.in_flight)
    is_there (inl (segment, waits)) = waiting_there (location_of ticket state.source.in_flight) segment (sound.waiting_in_flight segment ticket waits)
    is_there (inr fetched) = is_fetched state.source state.table.fetches ticket sound.fetches_in_flight fetched
