-- A session stays sound where a request is done.
use Rattle.std.proofs.Common.{◌≡◌, ◌≢◌, ℕ, zero, suc, ◌+◌, ◌<◌, ◌≤◌, ◌==◌, ◌⊎◌, inl, inr, Bool, true, false, List, [], ◌∷◌, ◌++◌, Option, Some, None, refl, sym, ap, ◌∙◌, subst, arith, cond}
use Rattle.std.specs.Prelude.{option_map, slice_index_or}
use Rattle.std.specs.List.{All}
use Rattle.std.proofs.lemmas.Bool.{eq-eqb}
use Rattle.std.proofs.lemmas.Bool.Decides.{eqb_tells}
use Rattle.std.proofs.lemmas.List.Elements.{All-head, All-tail, All-append, All-cons}
use Rattle.std.proofs.lemmas.List.Sums.{sum_by-append, sum_by-cons}
use Rattle.vx_base.specs.declared.locations.SegmentLocation.{SegmentLocation}
use Rattle.vx_base.specs.Sources.{SourceState, location_of, range_of}
use Rattle.vx_io.specs.declared.requests.IoIntent.{IoIntent}
use Rattle.vx_io.specs.declared.requests.IoIntent.TheVariants.{Announce, Prefetch, Fetch}
use Rattle.vx_io.specs.declared.requests.IoOwnerId.{IoOwnerId}
use Rattle.vx_base.specs.declared.locations.AskedRange.{AskedRange}
use Rattle.vx_io.specs.declared.requests.IoRequest.{IoRequest}
use Rattle.vx_io.specs.Ranges.{RangeTable, segment_of, HaveOwnSegments}
use Rattle.vx_io.specs.Session.{Waiting, Table, Flight, SessionState, has_none, asks, waiting_after, fetched_read, if_fetch, fetch_of, put_at, requested_at, location_of_target, range_of_target}
use Rattle.vx_io.specs.Sound.{IsSound, IsFetchRead, times, times_waiting, times_fetched, times_kept}
use Rattle.vx_io.specs.Waits.{AsksWhere}
use Rattle.vx_io.proofs.InFlightReads.{asks_keep, map_kept, found_last}
use Rattle.vx_io.proofs.Anys.{all_none}
use Rattle.vx_io.proofs.KnownRanges.{target_range}

-- a table and the state of its source
abbrev pub both : Table → SourceState → SessionState
both table source = record { table = table; source = source }

-- ---- the tickets that a request moves

-- the tickets that a request adds: that of its ask
abbrev asked_tickets : Bool → ℕ → List ℕ
asked_tickets true new = new ∷ []
asked_tickets false new = []

-- what waits and what is fetched afterwards is what waited, and the new ticket
balance : (intent : IoIntent) (owner : IoOwnerId) (request : IoRequest) (announced : List ℕ) (prefetched : Option ℕ) (new ticket : ℕ) →
    times_waiting ticket (waiting_after intent (record { announced = announced; prefetched = prefetched }) new)
    + times_fetched ticket (if_fetch intent (fetch_of owner request (record { announced = announced; prefetched = prefetched }) new))
    ≡ times_waiting ticket (record { announced = announced; prefetched = prefetched }) + times ticket (asked_tickets (asks intent (record { announced = announced; prefetched = prefetched })) new)
balance Announce owner request announced prefetched new ticket =
    let joined = sum_by-append (λ (other : ℕ). cond (other == ticket) 1 0) announced (new ∷ []) in
    omega (arith, joined)
balance Prefetch owner request announced (Some read) new ticket = omega arith
balance Prefetch owner request (read ∷ announced) None new ticket =
    let cons = sum_by-cons (λ (other : ℕ). cond (other == ticket) 1 0) read announced in
    let moved : (times ticket announced + times ticket (read ∷ [])) + 0 ≡ (times ticket (read ∷ announced) + 0) + 0 = omega (arith, cons) in
    moved
balance Prefetch owner request [] None new ticket = omega arith
balance Fetch owner request announced (Some read) new ticket = omega arith
balance Fetch owner request (read ∷ announced) None new ticket =
    let cons = sum_by-cons (λ (other : ℕ). cond (other == ticket) 1 0) read announced in
    let moved : (times ticket announced + 0) + (0 + cond (read == ticket) 1 0) ≡ (times ticket (read ∷ announced) + 0) + 0 = omega (arith, cons) in
    moved
balance Fetch owner request [] None new ticket = omega arith

-- a ticket that is fetched now waited before or is the new one
fetched_before : (intent : IoIntent) (owner : IoOwnerId) (request : IoRequest) (waiting : Waiting) (new ticket : ℕ) →
    times_fetched ticket (if_fetch intent (fetch_of owner request waiting new)) ≤ times_waiting ticket waiting + times ticket (asked_tickets (asks intent waiting) new)
fetched_before intent owner request waiting new ticket =
    let moved = balance intent owner request waiting.announced waiting.prefetched new ticket in
    omega (arith, moved)

waiting_before : (intent : IoIntent) (owner : IoOwnerId) (request : IoRequest) (waiting : Waiting) (new ticket : ℕ) →
    times_waiting ticket (waiting_after intent waiting new) ≤ times_waiting ticket waiting + times ticket (asked_tickets (asks intent waiting) new)
waiting_before intent owner request waiting new ticket =
    let moved = balance intent owner request waiting.announced waiting.prefetched new ticket in
    omega (arith, moved)

-- ---- tickets that are not in flight stand nowhere

zero_unless : (n : ℕ) → (0 < n → ⊥) → n ≡ 0
zero_unless zero never = refl
zero_unless (suc n) never = absurd (never (omega arith))

none_found : {X Y : Type 0} (f : X → Y) (one : Option X) (y : Y) → one ≡ None → option_map f one ≡ Some y → ⊥
none_found f None y none is = absurd cc
none_found f (Some x) y none is = absurd cc

not_waiting : (ranges : RangeTable) (table : Table) (source : SourceState) (segment ticket : ℕ) → IsSound ranges (both table source) → location_of ticket source.in_flight ≡ None → times_waiting ticket (table.waiting segment) ≡ 0
not_waiting ranges table source segment ticket sound none =
    zero_unless (times_waiting ticket (table.waiting segment)) (λ some. none_found (λ (at : SegmentLocation). segment_of ranges (range_of at)) (location_of ticket source.in_flight) (Some segment) none (sound.waiting_in_flight segment ticket some))

one_fetched : (fetch : Flight) (fetches : List Flight) (ticket : ℕ) →
    ((fetch.ticket == ticket ≡ true) × (fetch.ticket ≡ ticket)) ⊎ ((fetch.ticket == ticket ≡ false) × (fetch.ticket ≢ ticket)) →
    (fetch.ticket ≡ ticket → ⊥) → times_fetched ticket fetches ≡ 0 → times_fetched ticket (fetch ∷ fetches) ≡ 0
one_fetched fetch fetches ticket (inl (is, same)) never none = absurd (never same)
one_fetched fetch fetches ticket (inr (is, differ)) never none =
    let cons : times_fetched ticket (fetch ∷ fetches) ≡ cond (fetch.ticket == ticket) 1 0 + times_fetched ticket fetches = sum_by-cons (λ (one : Flight). cond (one.ticket == ticket) 1 0) fetch fetches in
    let here : ◌≡◌ {A = ℕ} (cond {A = ℕ} (fetch.ticket == ticket) 1 0) 0 = rw is refl in
    omega (arith, none, cons, here)

not_fetched : (source : SourceState) (fetches : List Flight) (ticket : ℕ) → All (λ (fetch : Flight). option_map (λ (at : SegmentLocation). range_of at) (location_of fetch.ticket source.in_flight) ≡ Some (range_of fetch.at)) fetches → location_of ticket source.in_flight ≡ None → times_fetched ticket fetches ≡ 0
not_fetched source [] ticket all none = refl
not_fetched source (fetch ∷ fetches) ticket all none =
    let here = All-head (λ (fetch : Flight). option_map (λ (at : SegmentLocation). range_of at) (location_of fetch.ticket source.in_flight) ≡ Some (range_of fetch.at)) fetch fetches all in
    let rest = All-tail (λ (fetch : Flight). option_map (λ (at : SegmentLocation). range_of at) (location_of fetch.ticket source.in_flight) ≡ Some (range_of fetch.at)) fetch fetches all in
    one_fetched fetch fetches ticket (eqb_tells fetch.ticket ticket)
    (λ same. none_found (λ (at : SegmentLocation). range_of at) (location_of fetch.ticket source.in_flight) (range_of fetch.at) (ap (λ (t : ℕ). location_of t source.in_flight) same ∙ none) here)
    (not_fetched source fetches ticket rest none)

-- a ticket that an ask adds stood nowhere before
new_is_fresh : (asking : Bool) (place : SegmentLocation) (new ticket : ℕ) (before after : SourceState) → AsksWhere asking place new before after → 0 < times ticket (asked_tickets asking new) → location_of ticket before.in_flight ≡ None
new_is_fresh false place new ticket before after same some = absurd (omega (arith, some))
new_is_fresh true place new ticket before after started some = fresh (eqb_tells new ticket) started.fresh some
  where
    fresh : ((new == ticket ≡ true) × (new ≡ ticket)) ⊎ ((new == ticket ≡ false) × (new ≢ ticket)) → location_of new before.in_flight ≡ None → 0 < times ticket (new ∷ []) → location_of ticket before.in_flight ≡ None
    fresh (inl (is, same)) none some = ap (λ (t : ℕ). location_of t before.in_flight) (sym same) ∙ none
    fresh (inr (is, differ)) none some = absurd (let zero' : times ticket (new ∷ []) ≡ 0 = rw is refl in omega (arith, zero', some))

-- ---- a session after a request

at_most_one : (asking : Bool) (new ticket : ℕ) → times ticket (asked_tickets asking new) ≤ 1
at_most_one false new ticket = omega arith
at_most_one true new ticket = one_or_none (new == ticket)
  where
    one_or_none : (b : Bool) → 0 + cond b 1 0 ≤ 1
    one_or_none true = omega arith
    one_or_none false = omega arith

-- each ticket still stands at one place, at the segment of the request and elsewhere
once_here : (intent : IoIntent) (owner : IoOwnerId) (request : IoRequest) (waiting : Waiting) (fetches : List Flight) (new ticket : ℕ) →
    times_waiting ticket waiting + times_fetched ticket fetches ≤ 1 →
    (0 < times ticket (asked_tickets (asks intent waiting) new) → times_waiting ticket waiting + times_fetched ticket fetches ≡ 0) →
    times_waiting ticket (waiting_after intent waiting new) + times_fetched ticket (fetches ++ if_fetch intent (fetch_of owner request waiting new)) ≤ 1
once_here intent owner request waiting fetches new ticket once fresh =
    let moved = balance intent owner request waiting.announced waiting.prefetched new ticket in
    let joined : times_fetched ticket (fetches ++ if_fetch intent (fetch_of owner request waiting new)) ≡ times_fetched ticket fetches + times_fetched ticket (if_fetch intent (fetch_of owner request waiting new)) = sum_by-append (λ (fetch : Flight). cond (fetch.ticket == ticket) 1 0) fetches (if_fetch intent (fetch_of owner request waiting new)) in
    added (times_waiting ticket (waiting_after intent waiting new)) (times_fetched ticket fetches) (times_waiting ticket waiting)
    (times_fetched ticket (if_fetch intent (fetch_of owner request waiting new))) (times_fetched ticket (fetches ++ if_fetch intent (fetch_of owner request waiting new)))
    (times ticket (asked_tickets (asks intent waiting) new)) (at_most_one (asks intent waiting) new ticket) moved joined once fresh
  where
    added : (w f m g j n : ℕ) → n ≤ 1 → w + g ≡ m + n → j ≡ f + g → m + f ≤ 1 → (0 < n → m + f ≡ 0) → w + j ≤ 1
    added w f m g j zero le moved joined once fresh = omega (arith, moved, joined, once)
    added w f m g j (suc n) le moved joined once fresh = let none = fresh (omega arith) in omega (arith, moved, joined, le, none)

once_elsewhere : (elsewhere fetched here now asked : ℕ) → elsewhere + fetched ≤ 1 → here + fetched ≤ 1 → now ≤ here + asked → asked ≤ 1 → (0 < elsewhere → 0 < here → ⊥) → (0 < asked → (elsewhere + fetched ≡ 0) × (here ≡ 0)) → elsewhere + (fetched + now) ≤ 1
once_elsewhere elsewhere fetched here now (suc asked) one two le small apart fresh = let none = fresh (omega arith) in omega (arith, le, small, none.0, none.1)
once_elsewhere elsewhere fetched zero now zero one two le small apart fresh = omega (arith, one, le)
once_elsewhere zero fetched (suc here) now zero one two le small apart fresh = omega (arith, two, le)
once_elsewhere (suc elsewhere) fetched (suc here) now zero one two le small apart fresh = absurd (apart (omega arith) (omega arith))

-- a ticket waits at one segment only, since its location has one segment
one_segment : (ranges : RangeTable) (table : Table) (source : SourceState) (one other ticket : ℕ) → IsSound ranges (both table source) → 0 < times_waiting ticket (table.waiting one) → 0 < times_waiting ticket (table.waiting other) → one ≡ other
one_segment ranges table source one other ticket sound here there =
    let p = sound.waiting_in_flight one ticket here in
    let q = sound.waiting_in_flight other ticket there in
    let e : Some (Some one) ≡ Some (Some other) = sym p ∙ q in
    cc

-- ---- where the reads are in flight

-- the read that a fetch takes waited, or is the new one
read_taken : (announced : List ℕ) (prefetched : Option ℕ) (new : ℕ) →
    (0 < times_waiting (fetched_read prefetched announced new) (record { announced = announced; prefetched = prefetched })) ⊎ ((fetched_read prefetched announced new ≡ new) × (has_none prefetched announced ≡ true))
read_taken announced (Some read) new = inl (let one : ◌≡◌ {A = ℕ} (0 + cond {A = ℕ} (read == read) 1 0) 1 = rw (eq-eqb read read refl) refl in omega (arith, one))
read_taken (read ∷ announced) None new =
    inl (let cons = sum_by-cons (λ (other : ℕ). cond (other == read) 1 0) read announced in
    let one : ◌≡◌ {A = ℕ} (cond {A = ℕ} (read == read) 1 0) 1 = rw (eq-eqb read read refl) refl in omega (arith, cons, one))
read_taken [] None new = inr (refl, refl)

-- the location of a read that waits has the range of its segment
same_range : (ranges : RangeTable) → HaveOwnSegments ranges → (one : Option SegmentLocation) (range : AskedRange) (segment : ℕ) → segment_of ranges range ≡ Some segment → option_map (λ (at : SegmentLocation). segment_of ranges (range_of at)) one ≡ Some (Some segment) → option_map (λ (at : SegmentLocation). range_of at) one ≡ Some range
same_range ranges apart None range segment known is = absurd cc
same_range ranges apart (Some at) range segment known is =
    let here : segment_of ranges (range_of at) ≡ Some segment = cc in
    ap Some (apart (range_of at) range segment here known)

-- ---- a session after a request

new_fetch_read : (ranges : RangeTable) (table : Table) (before after : SourceState) (owner : IoOwnerId) (request : IoRequest) (segment new : ℕ) → IsSound ranges (both table before) → segment_of ranges (range_of_target request.target) ≡ Some segment →
    AsksWhere (has_none (table.waiting segment).prefetched (table.waiting segment).announced) (location_of_target request.target) new before after → IsFetchRead after (fetch_of owner request (table.waiting segment) new)
new_fetch_read ranges table before after owner request segment new sound known asked =
    taken (read_taken (table.waiting segment).announced (table.waiting segment).prefetched new)
  where
    asked_for : (asking : Bool) → asking ≡ true → AsksWhere asking (location_of_target request.target) new before after → location_of new after.in_flight ≡ Some (location_of_target request.target)
    asked_for true is started = started.located
    asked_for false is started = absurd cc

    taken : (0 < times_waiting (fetched_read (table.waiting segment).prefetched (table.waiting segment).announced new) (table.waiting segment)) ⊎ ((fetched_read (table.waiting segment).prefetched (table.waiting segment).announced new ≡ new) × (has_none (table.waiting segment).prefetched (table.waiting segment).announced ≡ true)) → IsFetchRead after (fetch_of owner request (table.waiting segment) new)
    taken (inl some) =
        let there = sound.waiting_in_flight segment (fetched_read (table.waiting segment).prefetched (table.waiting segment).announced new) some in
        let ranged = same_range ranges sound.apart (location_of (fetched_read (table.waiting segment).prefetched (table.waiting segment).announced new) before.in_flight) (range_of_target request.target) segment known there in
        rw (target_range request.target) (map_kept (λ (at : SegmentLocation). range_of at) (location_of (fetched_read (table.waiting segment).prefetched (table.waiting segment).announced new) before.in_flight) (location_of (fetched_read (table.waiting segment).prefetched (table.waiting segment).announced new) after.in_flight) (range_of_target request.target)
        (λ at is. asks_keep (has_none (table.waiting segment).prefetched (table.waiting segment).announced) (location_of_target request.target) new before after (fetched_read (table.waiting segment).prefetched (table.waiting segment).announced new) at asked is) ranged)
    taken (inr (is, asks)) = rw (is, asked_for (has_none (table.waiting segment).prefetched (table.waiting segment).announced) asks asked) refl

-- the reads of a fetch list that the source still has
fetches_kept : (before after : SourceState) (fetches : List Flight) → ((ticket : ℕ) (at : SegmentLocation) → location_of ticket before.in_flight ≡ Some at → location_of ticket after.in_flight ≡ Some at) → All (IsFetchRead before) fetches → All (IsFetchRead after) fetches
fetches_kept before after fetches keep all = λ k d lt. map_kept (λ (at : SegmentLocation). range_of at) (location_of (slice_index_or fetches k d).ticket before.in_flight) (location_of (slice_index_or fetches k d).ticket after.in_flight) (range_of (slice_index_or fetches k d).at) (keep (slice_index_or fetches k d).ticket) (all k d lt)

new_fetches : (ranges : RangeTable) (table : Table) (before after : SourceState) (owner : IoOwnerId) (request : IoRequest) (segment new : ℕ) → IsSound ranges (both table before) → segment_of ranges (range_of_target request.target) ≡ Some segment →
    (intent : IoIntent) → AsksWhere (asks intent (table.waiting segment)) (location_of_target request.target) new before after → All (IsFetchRead after) (if_fetch intent (fetch_of owner request (table.waiting segment) new))
new_fetches ranges table before after owner request segment new sound known Announce asked = all_none (IsFetchRead after)
new_fetches ranges table before after owner request segment new sound known Prefetch asked = all_none (IsFetchRead after)
new_fetches ranges table before after owner request segment new sound known Fetch asked =
    All-cons (IsFetchRead after) (fetch_of owner request (table.waiting segment) new) [] (new_fetch_read ranges table before after owner request segment new sound known asked) (all_none (IsFetchRead after))

-- what waits at the segment of the request is in flight there
waiting_still : (ranges : RangeTable) (table : Table) (before after : SourceState) (owner : IoOwnerId) (request : IoRequest) (segment new ticket : ℕ) → IsSound ranges (both table before) → segment_of ranges (range_of_target request.target) ≡ Some segment →
    AsksWhere (asks request.intent (table.waiting segment)) (location_of_target request.target) new before after → 0 < times_waiting ticket (waiting_after request.intent (table.waiting segment) new) →
    option_map (λ (at : SegmentLocation). segment_of ranges (range_of at)) (location_of ticket after.in_flight) ≡ Some (Some segment)
waiting_still ranges table before after owner request segment new ticket sound known asked some =
    placed (asks request.intent (table.waiting segment)) asked (times_waiting ticket (table.waiting segment)) refl (waiting_before request.intent owner request (table.waiting segment) new ticket) (eqb_tells new ticket)
  where
    here : (asking : Bool) → AsksWhere asking (location_of_target request.target) new before after → new ≡ ticket → asking ≡ true → option_map (λ (at : SegmentLocation). segment_of ranges (range_of at)) (location_of ticket after.in_flight) ≡ Some (Some segment)
    here false started same is = absurd cc
    here true started same is =
        let located : location_of ticket after.in_flight ≡ Some (location_of_target request.target) = ap (λ (t : ℕ). location_of t after.in_flight) (sym same) ∙ started.located in
        rw located (ap Some (ap (segment_of ranges) (target_range request.target) ∙ known))

    placed : (asking : Bool) → AsksWhere asking (location_of_target request.target) new before after → (n : ℕ) → times_waiting ticket (table.waiting segment) ≡ n → times_waiting ticket (waiting_after request.intent (table.waiting segment) new) ≤ times_waiting ticket (table.waiting segment) + times ticket (asked_tickets asking new) →
        ((new == ticket ≡ true) × (new ≡ ticket)) ⊎ ((new == ticket ≡ false) × (new ≢ ticket)) → option_map (λ (at : SegmentLocation). segment_of ranges (range_of at)) (location_of ticket after.in_flight) ≡ Some (Some segment)
    placed asking started (suc n) is le tells =
        let there = sound.waiting_in_flight segment ticket (omega (arith, is)) in
        map_kept (λ (at : SegmentLocation). segment_of ranges (range_of at)) (location_of ticket before.in_flight) (location_of ticket after.in_flight) (Some segment) (λ at found. asks_keep asking (location_of_target request.target) new before after ticket at started found) there
    placed true started zero is le (inl (is_new, same)) = here true started same refl
    placed true started zero is le (inr (is_other, differ)) = absurd (let none : ◌≡◌ {A = ℕ} (times ticket (new ∷ [])) 0 = rw is_other refl in omega (arith, some, is, le, none))
    placed false started zero is le tells = absurd (omega (arith, some, is, le))

-- ---- what the table has, it has after a request

added_fetches : (owner : IoOwnerId) (request : IoRequest) (waiting : Waiting) (new ticket : ℕ) (fetches : List Flight) →
    times_fetched ticket (fetches ++ if_fetch request.intent (fetch_of owner request waiting new)) ≡ times_fetched ticket fetches + times_fetched ticket (if_fetch request.intent (fetch_of owner request waiting new))
added_fetches owner request waiting new ticket fetches = sum_by-append (λ (fetch : Flight). cond (fetch.ticket == ticket) 1 0) fetches (if_fetch request.intent (fetch_of owner request waiting new))

-- what waits at the segment of the request and is fetched, and what it asked for
kept_here : (owner : IoOwnerId) (request : IoRequest) (segment new ticket : ℕ) (table : Table) →
    times_waiting ticket (waiting_after request.intent (table.waiting segment) new) + times_fetched ticket (table.fetches ++ if_fetch request.intent (fetch_of owner request (table.waiting segment) new))
    ≡ (times_waiting ticket (table.waiting segment) + times_fetched ticket table.fetches) + times ticket (asked_tickets (asks request.intent (table.waiting segment)) new)
kept_here owner request segment new ticket table =
    let moved = balance request.intent owner request (table.waiting segment).announced (table.waiting segment).prefetched new ticket in
    let added = added_fetches owner request (table.waiting segment) new ticket table.fetches in
    omega (arith, moved, added)

still_kept : (owner : IoOwnerId) (request : IoRequest) (segment new ticket : ℕ) (table : Table) (found : Option ℕ) → 0 < times_kept found ticket table → 0 < times_kept found ticket (requested_at (Some segment) owner request new table)
still_kept owner request segment new ticket table None some =
    let added = added_fetches owner request (table.waiting segment) new ticket table.fetches in
    omega (arith, added, some)
still_kept owner request segment new ticket table (Some other) some = by (eqb_tells other segment)
  where
    by : ((other == segment ≡ true) × (other ≡ segment)) ⊎ ((other == segment ≡ false) × (other ≢ segment)) → 0 < times_kept (Some other) ticket (requested_at (Some segment) owner request new table)
    by (inl (is, same)) =
        let here : 0 < times_kept (Some segment) ticket table = subst (λ (s : ℕ). 0 < times_kept (Some s) ticket table) same some in
        let sum = kept_here owner request segment new ticket table in
        rw is (omega (arith, here, sum))
    by (inr (is, differ)) =
        let added = added_fetches owner request (table.waiting segment) new ticket table.fetches in
        rw is (omega (arith, added, some))

asked_is_kept : (owner : IoOwnerId) (request : IoRequest) (segment new ticket : ℕ) (table : Table) → 0 < times ticket (asked_tickets (asks request.intent (table.waiting segment)) new) → 0 < times_kept (Some segment) ticket (requested_at (Some segment) owner request new table)
asked_is_kept owner request segment new ticket table some =
    let sum = kept_here owner request segment new ticket table in
    let is : segment == segment ≡ true = eq-eqb segment segment refl in
    rw is (omega (arith, some, sum))

-- what is in flight was so before, or was asked for
asked_or_before : (asking : Bool) (place : SegmentLocation) (new : ℕ) (before after : SourceState) (ticket : ℕ) (at : SegmentLocation) → AsksWhere asking place new before after → location_of ticket after.in_flight ≡ Some at →
    (location_of ticket before.in_flight ≡ Some at) ⊎ ((0 < times ticket (asked_tickets asking new)) × (at ≡ place))
asked_or_before true place new before after ticket at started located = found_last before.in_flight new place ticket at (rw started.in_flight at located)
asked_or_before false place new before after ticket at same located = inl (rw same at located)

-- a session is sound after a request whose range is known
pub sound_request : (ranges : RangeTable) (table : Table) (before after : SourceState) (owner : IoOwnerId) (request : IoRequest) (segment new : ℕ) → IsSound ranges (both table before) → segment_of ranges (range_of_target request.target) ≡ Some segment →
    AsksWhere (asks request.intent (table.waiting segment)) (location_of_target request.target) new before after → IsSound ranges (both (requested_at (Some segment) owner request new table) after)
sound_request ranges table before after owner request segment new sound known asked = record {
  apart = sound.apart;
  once = λ other ticket. once other ticket (eqb_tells other segment);
  waiting_in_flight = λ other ticket some. waiting other ticket (eqb_tells other segment) some;
  fetches_in_flight = All-append (IsFetchRead after) table.fetches (if_fetch request.intent (fetch_of owner request (table.waiting segment) new))
      (fetches_kept before after table.fetches (λ ticket at is. asks_keep (asks request.intent (table.waiting segment)) (location_of_target request.target) new before after ticket at asked is) sound.fetches_in_flight)
      (new_fetches ranges table before after owner request segment new sound known request.intent asked);
  in_flight_kept = λ ticket at located. kept ticket at (asked_or_before (asks request.intent (table.waiting segment)) (location_of_target request.target) new before after ticket at asked located);
}
  where
    none_elsewhere : (other ticket : ℕ) → 0 < times ticket (asked_tickets (asks request.intent (table.waiting segment)) new) → times_waiting ticket (table.waiting other) + times_fetched ticket table.fetches ≡ 0
    none_elsewhere other ticket some =
        let none = new_is_fresh (asks request.intent (table.waiting segment)) (location_of_target request.target) new ticket before after asked some in
        let p = not_waiting ranges table before other ticket sound none in
        let q = not_fetched before table.fetches ticket sound.fetches_in_flight none in
        omega (arith, p, q)

    none_here : (ticket : ℕ) → 0 < times ticket (asked_tickets (asks request.intent (table.waiting segment)) new) → times_waiting ticket (table.waiting segment) ≡ 0
    none_here ticket some = not_waiting ranges table before segment ticket sound (new_is_fresh (asks request.intent (table.waiting segment)) (location_of_target request.target) new ticket before after asked some)

    once : (other ticket : ℕ) → ((other == segment ≡ true) × (other ≡ segment)) ⊎ ((other == segment ≡ false) × (other ≢ segment)) →
        times_waiting ticket (put_at table.waiting segment (waiting_after request.intent (table.waiting segment) new) other) + times_fetched ticket (table.fetches ++ if_fetch request.intent (fetch_of owner request (table.waiting segment) new)) ≤ 1
    once other ticket (inl (is, same)) = rw is (once_here request.intent owner request (table.waiting segment) table.fetches new ticket (sound.once segment ticket) (none_elsewhere segment ticket))
    once other ticket (inr (is, differ)) =
        let joined : times_fetched ticket (table.fetches ++ if_fetch request.intent (fetch_of owner request (table.waiting segment) new)) ≡ times_fetched ticket table.fetches + times_fetched ticket (if_fetch request.intent (fetch_of owner request (table.waiting segment) new)) = sum_by-append (λ (fetch : Flight). cond (fetch.ticket == ticket) 1 0) table.fetches (if_fetch request.intent (fetch_of owner request (table.waiting segment) new)) in
        rw is (rw joined (once_elsewhere (times_waiting ticket (table.waiting other)) (times_fetched ticket table.fetches) (times_waiting ticket (table.waiting segment)) (times_fetched ticket (if_fetch request.intent (fetch_of owner request (table.waiting segment) new)))
        (times ticket (asked_tickets (asks request.intent (table.waiting segment)) new)) (sound.once other ticket) (sound.once segment ticket) (fetched_before request.intent owner request (table.waiting segment) new ticket)
        (at_most_one (asks request.intent (table.waiting segment)) new ticket) (λ there here. differ (one_segment ranges table before other segment ticket sound there here)) (λ some. (none_elsewhere other ticket some, none_here ticket some))))

    kept : (ticket : ℕ) (at : SegmentLocation) → (location_of ticket before.in_flight ≡ Some at) ⊎ ((0 < times ticket (asked_tickets (asks request.intent (table.waiting segment)) new)) × (at ≡ location_of_target request.target)) →
        0 < times_kept (segment_of ranges (range_of at)) ticket (requested_at (Some segment) owner request new table)
    kept ticket at (inl located) = still_kept owner request segment new ticket table (segment_of ranges (range_of at)) (sound.in_flight_kept ticket at located)
    kept ticket at (inr (some, same)) =
        let found : segment_of ranges (range_of at) ≡ Some segment = ap (λ (one : SegmentLocation). segment_of ranges (range_of one)) same ∙ ap (segment_of ranges) (target_range request.target) ∙ known in
        rw found (asked_is_kept owner request segment new ticket table some)

    waiting : (other ticket : ℕ) → ((other == segment ≡ true) × (other ≡ segment)) ⊎ ((other == segment ≡ false) × (other ≢ segment)) →
        0 < times_waiting ticket (put_at table.waiting segment (waiting_after request.intent (table.waiting segment) new) other) → option_map (λ (at : SegmentLocation). segment_of ranges (range_of at)) (location_of ticket after.in_flight) ≡ Some (Some other)
    waiting other ticket (inl (is, same)) some =
        let here = waiting_still ranges table before after owner request segment new ticket sound known asked (rw is at some) in
        here ∙ ap (λ (s : ℕ). Some (Some s)) (sym same)
    waiting other ticket (inr (is, differ)) some =
        let there = sound.waiting_in_flight other ticket (rw is at some) in
        map_kept (λ (at : SegmentLocation). segment_of ranges (range_of at)) (location_of ticket before.in_flight) (location_of ticket after.in_flight) (Some other) (λ at found. asks_keep (asks request.intent (table.waiting segment)) (location_of_target request.target) new before after ticket at asked found) there
