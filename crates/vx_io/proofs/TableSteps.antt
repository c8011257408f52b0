-- The table of a session after a request, from what its fields became.
use Rattle.std.proofs.Common.{◌≡◌, ℕ, Bool, true, false, List, [], ◌∷◌, ◌++◌, Option, Some, Err, refl, ap, ◌∙◌}
use Rattle.vx_base.specs.declared.locations.SegmentLocation.{SegmentLocation}
use Rattle.vx_base.specs.Sources.{SourceState}
use Rattle.vx_io.specs.declared.requests.IoIntent.{IoIntent}
use Rattle.vx_io.specs.declared.requests.IoIntent.TheVariants.{Announce, Prefetch, Fetch}
use Rattle.vx_io.specs.declared.requests.IoOwnerId.{IoOwnerId}
use Rattle.vx_io.specs.declared.requests.IoRequest.{IoRequest}
use Rattle.vx_io.specs.Ranges.{RangeTable, segment_of}
use Rattle.vx_io.specs.Session.{Waiting, Table, Flight, state_in, asks, waiting_after, fetched_read, if_fetch, fetch_with, fetch_of, put_at, requested_at, location_of_target, range_of_target}
use Rattle.vx_io.specs.Sound.{IsSound}
use Rattle.vx_io.specs.Waits.{AsksWhere, RefusedWhere, IsReadOf, TakesAt}
use Rattle.vx_base.specs.declared.outside.SourceError.{SourceError}
use Rattle.vx_base.specs.declared.outside.SourceError.TheVariants.{Failed, Memory}
use Rattle.vx_io.proofs.SoundSteps.{sound_request}
use Rattle.vx_io.proofs.SoundEnds.{sound_same}

-- two tables are one where the same reads wait at each segment
pub table_same : (old new : ℕ → Waiting) (fetches more : List Flight) → ((segment : ℕ) → new segment ≡ old segment) → more ≡ fetches → ◌≡◌ {A = Table} (record { waiting = new; fetches = more }) (record { waiting = old; fetches = fetches })
table_same old new fetches more same kept = λ i. record { waiting = λ segment. same segment i; fetches = kept i }

fetch_same : (intent : IoIntent) (owner : IoOwnerId) (request : IoRequest) (waiting : Waiting) (at : SegmentLocation) (read : Option ℕ) (new : ℕ) → at ≡ location_of_target request.target → IsReadOf intent read waiting new →
    fetch_with owner request.request at read ≡ if_fetch intent (fetch_of owner request waiting new)
fetch_same Announce owner request waiting at read new place is = rw is refl
fetch_same Prefetch owner request waiting at read new place is = rw is refl
fetch_same Fetch owner request waiting at read new place is = rw is (λ i. record { owner = owner; request = request.request; at = place i; ticket = fetched_read waiting.prefetched waiting.announced new } ∷ [])

-- the table after a request that was done
pub table_done : (old new : ℕ → Waiting) (fetches more : List Flight) (owner : IoOwnerId) (request : IoRequest) (at : SegmentLocation) (segment : ℕ) (read : Option ℕ) (ticket : ℕ) → at ≡ location_of_target request.target →
    ((other : ℕ) → new other ≡ put_at old segment (waiting_after request.intent (old segment) ticket) other) → IsReadOf request.intent read (old segment) ticket →
    more ≡ fetches ++ fetch_with owner request.request at read →
    ◌≡◌ {A = Table} (record { waiting = new; fetches = more }) (requested_at (Some segment) owner request ticket (record { waiting = old; fetches = fetches }))
table_done old new fetches more owner request at segment read ticket place put is added =
    let list : more ≡ fetches ++ if_fetch request.intent (fetch_of owner request (old segment) ticket) = added ∙ ap (λ (l : List Flight). fetches ++ l) (fetch_same request.intent owner request (old segment) at read ticket place is) in
    λ i. record { waiting = λ other. put other i; fetches = list i }

pub sound_done : (ranges : RangeTable) (old new : ℕ → Waiting) (fetches more : List Flight) (before after : SourceState) (owner : IoOwnerId) (request : IoRequest) (at : SegmentLocation) (segment : ℕ) (read : Option ℕ) (ticket : ℕ) →
    IsSound ranges (state_in old fetches before) → segment_of ranges (range_of_target request.target) ≡ Some segment → at ≡ location_of_target request.target →
    AsksWhere (asks request.intent (old segment)) at ticket before after →
    ((other : ℕ) → new other ≡ put_at old segment (waiting_after request.intent (old segment) ticket) other) → IsReadOf request.intent read (old segment) ticket →
    more ≡ fetches ++ fetch_with owner request.request at read →
    IsSound ranges (state_in new more after)
sound_done ranges old new fetches more before after owner request at segment read ticket sound known place asked put is added =
    rw (table_done old new fetches more owner request at segment read ticket place put is added)
    (sound_request ranges (record { waiting = old; fetches = fetches }) before after owner request segment ticket sound known (rw place at asked))

-- where a request was refused, the same reads are in flight
refused_keeps : (asking : Bool) (error : SourceError) (at : SegmentLocation) (before after : SourceState) → RefusedWhere asking error at before after → after.in_flight ≡ before.in_flight
refused_keeps true Failed at before after gives = gives.0.in_flight
refused_keeps true Memory at before after gives = gives.0.in_flight
refused_keeps false error at before after gives = ap (λ (s : SourceState). s.in_flight) gives.1

pub sound_refused : (ranges : RangeTable) (old new : ℕ → Waiting) (fetches more : List Flight) (before after : SourceState) (intent : IoIntent) (segment : ℕ) (at : SegmentLocation) (error : SourceError) →
    IsSound ranges (state_in old fetches before) → TakesAt intent segment at (Err error) old before new after → more ≡ fetches → IsSound ranges (state_in new more after)
sound_refused ranges old new fetches more before after intent segment at error sound taken kept =
    sound_same ranges (state_in old fetches before) (state_in new more after) sound (table_same old new fetches more taken.0 kept) (refused_keeps (asks intent (old segment)) error at before after taken.1)
