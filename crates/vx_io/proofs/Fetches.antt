-- What a session does for an owner that only fetches, from what its calls say of the whole table.
use Rattle.std.proofs.Common.{◌≡◌, ℕ, zero, suc, ◌+◌, ◌⊎◌, inl, inr, Bool, true, false, List, [], ◌∷◌, ◌++◌, Option, Some, None, Ok, Err, map, take, refl, sym, ap, ◌∙◌, subst, arith}
use Rattle.std.specs.Prelude.{slice_get, remove, IsSome, IsSomeAnd, ◌==◌, if◌then◌else◌, Result}
use Rattle.std.specs.List.{All}
use Rattle.std.specs.Option.{option_or}
use Rattle.std.proofs.lemmas.List.{append-nil, append_assoc, map-append}
use Rattle.std.proofs.lemmas.List.Elements.{All-head, All-tail, All-map, All-take}
use Rattle.std.proofs.lemmas.Bool.{eq-eqb}
use Rattle.vx_base.specs.Sources.{IsSegment, range_of, asks_also}
use Rattle.vx_base.specs.declared.locations.SegmentLocation.{SegmentLocation}
use Rattle.vx_base.specs.declared.locations.AskedRange.{AskedRange}
use Rattle.vx_io.specs.declared.requests.IoIntent.{IoIntent}
use Rattle.vx_io.specs.declared.requests.IoIntent.TheVariants.{Fetch}
use Rattle.vx_io.specs.declared.requests.IoOwnerId.{IoOwnerId}
use Rattle.vx_io.specs.declared.requests.IoRequest.{IoRequest}
use Rattle.vx_io.specs.declared.requests.Completion.{Completion}
use Rattle.vx_io.specs.declared.requests.SubmitError.{SubmitError}
use Rattle.vx_io.specs.declared.requests.SubmitError.TheVariants as submit_errors
use Rattle.vx_io.specs.Ranges.{RangeTable, segment_of, has_range, last_with, IsTableOf}
use Rattle.vx_io.specs.Session.{Waiting, Flight, Table, SessionState, Step, requested, ended, nothing_waits, asks, waiting_after, put_at, if_fetch, fetch_of, requested_at, starts_at, table_after, started_by, session_after, starts_of, requests_in, ends_in, location_of_target, range_of_target}
use Rattle.vx_io.specs.Submits.{IsKnown, AsksIn, owned, asked_with, StoppedAt, SubmitGives}
use Rattle.vx_io.specs.Polls.{SessionPollGives}
use Rattle.vx_io.specs.Drive.{Wanted, fetch_for}
use Rattle.vx_io.specs.Fetches.{fetch_in_flight, fetches_of, NothingWaits, place_of, AllFetch, asked_for, FetchedSome, FetchesGive, FetchEnded}
use Rattle.vx_io.proofs.Running.{take_next}

-- ---- one fetch where nothing waits

waits_after : (w : Waiting) (intent : IoIntent) (new : ℕ) → w ≡ nothing_waits → intent ≡ Fetch → waiting_after intent w new ≡ nothing_waits
waits_after w intent new none fetch = rw (none, fetch) refl

put_none : (waiting : ℕ → Waiting) (segment other : ℕ) (now : Waiting) → now ≡ nothing_waits → ((s : ℕ) → waiting s ≡ nothing_waits) → put_at waiting segment now other ≡ nothing_waits
put_none waiting segment other now is none = chosen (other == segment) now (waiting other) is (none other)
  where
    chosen : (b : Bool) (one two : Waiting) → one ≡ nothing_waits → two ≡ nothing_waits → (if b then one else two) ≡ nothing_waits
    chosen true one two p q = p
    chosen false one two p q = q

-- what one requested fetch does
record DoesFetch (owner : IoOwnerId) (request : IoRequest) (table new : Table) (started : List (ℕ × SegmentLocation)) : Type 0 where
  waiting : NothingWaits new
  fetches : fetches_of new ≡ fetches_of table ++ fetch_for owner request ∷ []
  starts : map (λ (read : ℕ × SegmentLocation). read.1) started ≡ place_of request ∷ []

does_at : (found : Option ℕ) (owner : IoOwnerId) (request : IoRequest) (new : ℕ) (table : Table) → IsSome found → request.intent ≡ Fetch → NothingWaits table →
    DoesFetch owner request table (requested_at found owner request new table) (starts_at found request new table)
does_at None owner request new table known fetch none = absurd cc
does_at (Some segment) owner request new table known fetch none = record {
  waiting = λ other. put_none table.waiting segment other (waiting_after request.intent (table.waiting segment) new) (waits_after (table.waiting segment) request.intent new (none segment) fetch) none;
  fetches = map-append fetch_in_flight table.fetches (if_fetch request.intent (fetch_of owner request (table.waiting segment) new))
      ∙ ap (λ (intent : IoIntent). fetches_of table ++ map fetch_in_flight (if_fetch intent (fetch_of owner request (table.waiting segment) new))) fetch;
  starts = ap (map (λ (read : ℕ × SegmentLocation). read.1)) (started_where (asks request.intent (table.waiting segment)) ((new, place_of request) ∷ []) (rw (none segment, fetch) refl));
}
  where
    started_where : (b : Bool) (reads : List (ℕ × SegmentLocation)) → b ≡ true → (if b then reads else []) ≡ reads
    started_where b reads taken = rw taken refl

-- ---- the steps of a batch

abbrev IsKnownFetch : RangeTable → (IoOwnerId × IoRequest) → Type 0
IsKnownFetch ranges one = IsKnown ranges one.1 × (one.1.intent ≡ Fetch)

abbrev wants : (IoOwnerId × IoRequest) → Wanted
wants one = fetch_for one.0 one.1

record DoesFetches (requests : List (IoOwnerId × IoRequest)) (table new : Table) (started : List (ℕ × SegmentLocation)) : Type 0 where
  waiting : NothingWaits new
  fetches : fetches_of new ≡ fetches_of table ++ map wants requests
  starts : map (λ (read : ℕ × SegmentLocation). read.1) started ≡ map (λ (one : IoOwnerId × IoRequest). place_of one.1) requests

does_steps : (ranges : RangeTable) (table : Table) (steps : List Step) → ends_in steps ≡ 0 → All (IsKnownFetch ranges) (requests_in steps) → NothingWaits table →
    DoesFetches (requests_in steps) table (session_after ranges table steps) (starts_of ranges table steps)
does_steps ranges table [] none known nothing = record { waiting = nothing; fetches = sym (append-nil (fetches_of table)); starts = refl }
does_steps ranges table (requested owner request new ∷ steps) none known nothing =
    let first = All-head (IsKnownFetch ranges) (owner, request) (requests_in steps) known in
    let one = does_at (segment_of ranges (range_of_target request.target)) owner request new table first.0 first.1 nothing in
    let middle : Table = table_after ranges table (requested owner request new) in
    let rest = does_steps ranges middle steps none (All-tail (IsKnownFetch ranges) (owner, request) (requests_in steps) known) one.waiting in
    record {
      waiting = rest.waiting;
      fetches = rest.fetches ∙ ap (λ (fs : List Wanted). fs ++ map wants (requests_in steps)) one.fetches ∙ append_assoc (fetches_of table) (fetch_for owner request ∷ []) (map wants (requests_in steps));
      starts = map-append (λ (read : ℕ × SegmentLocation). read.1) (started_by ranges table (requested owner request new)) (starts_of ranges middle steps)
          ∙ ap (λ (ps : List SegmentLocation). ps ++ map (λ (read : ℕ × SegmentLocation). read.1) (starts_of ranges middle steps)) one.starts
          ∙ ap (λ (ps : List SegmentLocation). place_of request ∷ ps) rest.starts;
    }
does_steps ranges table (ended place ∷ steps) none known nothing = absurd (omega (arith, none))

-- ---- a batch of one owner

known_fetches : (ranges : RangeTable) (owner : IoOwnerId) (batch : List IoRequest) → All (IsKnown ranges) batch → AllFetch batch → All (IsKnownFetch ranges) (owned owner batch)
known_fetches ranges owner batch known fetch = All-map (IsKnownFetch ranges) (λ (request : IoRequest). (owner, request)) batch (λ k d lt. (known k d lt, fetch k d lt))

owned_wants : (owner : IoOwnerId) (batch : List IoRequest) → map wants (owned owner batch) ≡ map (fetch_for owner) batch
owned_wants owner [] = refl
owned_wants owner (request ∷ batch) = ap (λ (ws : List Wanted). fetch_for owner request ∷ ws) (owned_wants owner batch)

owned_places : (owner : IoOwnerId) (batch : List IoRequest) → map (λ (one : IoOwnerId × IoRequest). place_of one.1) (owned owner batch) ≡ map place_of batch
owned_places owner [] = refl
owned_places owner (request ∷ batch) = ap (λ (ps : List SegmentLocation). place_of request ∷ ps) (owned_places owner batch)

ranges_started : (started : List (ℕ × SegmentLocation)) → map (λ (read : ℕ × SegmentLocation). range_of read.1) started ≡ map range_of (map (λ (read : ℕ × SegmentLocation). read.1) started)
ranges_started [] = refl
ranges_started (read ∷ started) = ap (λ (rs : List AskedRange). range_of read.1 ∷ rs) (ranges_started started)

-- what was asked for the reads that were started is what was asked for their places
asked_started : (started : List (ℕ × SegmentLocation)) (places : List SegmentLocation) (asked : Option (List AskedRange)) → map (λ (read : ℕ × SegmentLocation). read.1) started ≡ places → asked_with started asked ≡ asked_for places asked
asked_started started places None is = refl
asked_started started places (Some ranges) is = ap (λ (rs : List AskedRange). Some (ranges ++ rs)) (ranges_started started ∙ ap (map range_of) is)

-- the ask of one location more
asked_next : (places : List SegmentLocation) (at : SegmentLocation) (asked : Option (List AskedRange)) → asks_also at (asked_for places asked) ≡ asked_for (places ++ at ∷ []) asked
asked_next places at None = refl
asked_next places at (Some ranges) = ap Some (append_assoc ranges (map range_of places) (range_of at ∷ []) ∙ ap (λ (rs : List AskedRange). ranges ++ rs) (sym (map-append range_of places (at ∷ []))))

-- what a `submit` that stopped did
stopped_some : (ranges : RangeTable) (owner : IoOwnerId) (batch : List IoRequest) (taken : ℕ) (old new : SessionState) → All (IsKnown ranges) batch → AllFetch batch → NothingWaits old.table →
    StoppedAt ranges owner batch taken old new → FetchedSome batch old new
stopped_some ranges owner batch taken old new known fetch nothing stopped = by_cases stopped.asked
  where
    starts : map (λ (read : ℕ × SegmentLocation). read.1) stopped.started ≡ map place_of (take taken batch)
    starts =
        let ran = stopped.ran in
        let all : All (IsKnownFetch ranges) (requests_in ran.steps) = rw ran.requests_done (known_fetches ranges owner (take taken batch) (All-take (IsKnown ranges) taken batch known) (All-take (λ (request : IoRequest). request.intent ≡ Fetch) taken batch fetch)) in
        let did = does_steps ranges old.table ran.steps ran.fetches_ended all nothing in
        ap (map (λ (read : ℕ × SegmentLocation). read.1)) (sym ran.starts) ∙ did.starts ∙ ap (map (λ (one : IoOwnerId × IoRequest). place_of one.1)) ran.requests_done ∙ owned_places owner (take taken batch)

    next : (found : Option IoRequest) → slice_get batch taken ≡ found → IsSomeAnd found (λ request. AsksIn ranges new.table request × (new.source.asked ≡ asks_also (location_of_target request.target) (asked_with stopped.started old.source.asked))) → FetchedSome batch old new
    next None is some = absurd some
    next (Some request) is some = record {
      count = taken + 1;
      within = let p = stopped.within in omega (arith, p);
      asked = some.1 ∙ ap (asks_also (place_of request)) (asked_started stopped.started (map place_of (take taken batch)) old.source.asked starts)
          ∙ asked_next (map place_of (take taken batch)) (place_of request) old.source.asked
          ∙ ap (λ (ps : List SegmentLocation). asked_for ps old.source.asked) (sym (map-append place_of (take taken batch) (request ∷ [])) ∙ ap (map place_of) (sym (take_next batch taken request is)));
    }

    by_cases : (new.source.asked ≡ asked_with stopped.started old.source.asked) ⊎ IsSomeAnd (slice_get batch taken) (λ request. AsksIn ranges new.table request × (new.source.asked ≡ asks_also (location_of_target request.target) (asked_with stopped.started old.source.asked))) → FetchedSome batch old new
    by_cases (inl same) = record {
      count = taken;
      within = let p = stopped.within in omega (arith, p);
      asked = same ∙ asked_started stopped.started (map place_of (take taken batch)) old.source.asked starts;
    }
    by_cases (inr more) = next (slice_get batch taken) refl more

-- A batch of fetches where nothing waits: in flight as before and then the batch, asked for exactly its ranges, or
-- for the first of them where it was refused.
pub fetches_give : (ranges : RangeTable) (owner : IoOwnerId) (batch : List IoRequest) (outcome : Result (Unit {0}) SubmitError) (old new : SessionState) →
    SubmitGives ranges owner batch outcome old new → AllFetch batch → NothingWaits old.table → FetchesGive owner batch outcome old new
fetches_give ranges owner batch (Ok done) old new gives fetch nothing =
    let did = gives.1 in
    let ran = did.ran in
    let all : All (IsKnownFetch ranges) (requests_in ran.steps) = rw ran.requests_done (known_fetches ranges owner batch gives.0 fetch) in
    let done = does_steps ranges old.table ran.steps ran.fetches_ended all nothing in
    record {
      waiting = subst NothingWaits ran.table done.waiting;
      fetches = ap fetches_of (sym ran.table) ∙ done.fetches ∙ ap (λ (ws : List Wanted). fetches_of old.table ++ ws) (ap (map wants) ran.requests_done ∙ owned_wants owner batch);
      asked = did.asked ∙ asked_started did.started (map place_of batch) old.source.asked
          (ap (map (λ (read : ℕ × SegmentLocation). read.1)) (sym ran.starts) ∙ done.starts ∙ ap (map (λ (one : IoOwnerId × IoRequest). place_of one.1)) ran.requests_done ∙ owned_places owner batch);
    }
fetches_give ranges owner batch (Err (submit_errors.UnknownRange place)) old new gives fetch nothing = gives.1
fetches_give ranges owner batch (Err (submit_errors.Source taken)) old new gives fetch nothing = stopped_some ranges owner batch taken old new gives.0 fetch nothing gives.1
fetches_give ranges owner batch (Err (submit_errors.Memory taken)) old new gives fetch nothing = stopped_some ranges owner batch taken old new gives.0 fetch nothing gives.1

-- ---- a poll

map_removed : (fetches : List Flight) (place : ℕ) → map fetch_in_flight (remove fetches place) ≡ remove (map fetch_in_flight fetches) place
map_removed [] zero = refl
map_removed [] (suc place) = refl
map_removed (fetch ∷ fetches) zero = refl
map_removed (fetch ∷ fetches) (suc place) = ap (λ (ws : List Wanted). fetch_in_flight fetch ∷ ws) (map_removed fetches place)

got_mapped : (fetches : List Flight) (place : ℕ) (fetch : Flight) → slice_get fetches place ≡ Some fetch → slice_get (map fetch_in_flight fetches) place ≡ Some (fetch_in_flight fetch)
got_mapped [] place fetch here = absurd cc
got_mapped (one ∷ fetches) zero fetch here = let same : one ≡ fetch = cc in ap (λ (f : Flight). Some (fetch_in_flight f)) same
got_mapped (one ∷ fetches) (suc place) fetch here = got_mapped fetches place fetch here

-- A poll that answered a completion: one fetch ended, and the others are as they were.
pub fetch_ended : (ranges : RangeTable) (completion : Completion) (old new : SessionState) → SessionPollGives ranges (Ok (Some completion)) old new → FetchEnded completion old new
fetch_ended ranges completion old new (place, ends, has, faults) = at (slice_get old.table.fetches place) refl ends.named has
  where
    at : (found : Option Flight) → slice_get old.table.fetches place ≡ found → IsSomeAnd found (λ fetch. (fetch.owner ≡ completion.owner) × (fetch.request ≡ completion.request)) → IsSomeAnd found (λ fetch. IsSegment old.source.file fetch.at completion.bytes.items) → FetchEnded completion old new
    at None is named segment = absurd named
    at (Some fetch) is named segment = record {
      place = place;
      at = fetch.at;
      here = got_mapped old.table.fetches place fetch is ∙ (λ i. Some (record { owner = named.0 i; request = named.1 i; at = fetch.at }));
      segment = segment;
      gone = ap fetches_of ends.table ∙ map_removed old.table.fetches place;
      waiting = λ nothing s. ap (λ (t : Table). t.waiting s) ends.table ∙ nothing s;
    }

-- ---- the ranges of locations are known

found_here : (at : SegmentLocation) (first : ℕ) (rest : Option ℕ) → IsSome (option_or rest (if has_range at (range_of at) then Some first else None))
found_here at first (Some segment) = refl
found_here at first None = rw (eq-eqb at.offset at.offset refl, eq-eqb at.length at.length refl) refl

found_or : (one two : Option ℕ) → IsSome one → IsSome (option_or one two)
found_or None two some = absurd cc
found_or (Some segment) two some = refl

last_known : (locations : List SegmentLocation) (place first : ℕ) (at : SegmentLocation) → slice_get locations place ≡ Some at → IsSome (last_with locations first (range_of at))
last_known [] place first at here = absurd cc
last_known (one ∷ locations) zero first at here =
    let same : one ≡ at = cc in
    subst (λ (a : SegmentLocation). IsSome (last_with (one ∷ locations) first (range_of a))) same (found_here one first (last_with locations (first + 1) (range_of one)))
last_known (one ∷ locations) (suc place) first at here =
    found_or (last_with locations (first + 1) (range_of at)) (if has_range one (range_of at) then Some first else None) (last_known locations place (first + 1) at here)

-- The range of each location has a segment.
pub location_known : (ranges : RangeTable) (locations : List SegmentLocation) (place : ℕ) (at : SegmentLocation) → IsTableOf ranges locations → slice_get locations place ≡ Some at → IsSome (segment_of ranges (range_of at))
location_known ranges locations place at tells here = rw (tells (range_of at)) (last_known locations place 0 at here)
