-- A fetch that was polled.
use Rattle.std.proofs.Common.{◌≡◌, ℕ, ◌<◌, List, Option, Some, None, length, refl, sym, ap, ◌∙◌, subst, arith}
use Rattle.std.specs.Prelude.{option_map, slice_get, slice_index_or, remove, IfSome}
use Rattle.vx_base.specs.declared.locations.SegmentLocation.{SegmentLocation}
use Rattle.vx_base.specs.declared.locations.AskedRange.{AskedRange}
use Rattle.vx_base.specs.Sources.{SourceState, Ended, IsSegment, bytes_at, location_of, range_of}
use Rattle.vx_io.specs.Ranges.{RangeTable}
use Rattle.vx_io.specs.Session.{Flight, Waiting, SessionState, state_in}
use Rattle.vx_io.specs.Sound.{IsSound, IsFetchRead}
use Rattle.vx_io.specs.Polls.{EndsHere, HasBytes}
use Rattle.vx_io.proofs.Places.{got}

-- the fetch at a place is got there
got_here : (fetches : List Flight) (place : ℕ) (fetch : Flight) → place < length fetches → fetch ≡ slice_index_or fetches place fetch → slice_get fetches place ≡ Some fetch
got_here fetches place fetch within here = got fetches place fetch within ∙ ap Some (sym here)

fetch_sound : (ranges : RangeTable) (state : SessionState) (place : ℕ) (fetch : Flight) → IsSound ranges state → place < length state.table.fetches → fetch ≡ slice_index_or state.table.fetches place fetch → IsFetchRead state.source fetch
fetch_sound ranges state place fetch sound within here = subst (IsFetchRead state.source) (sym here) (sound.fetches_in_flight place fetch within)

pub ends_here : (ranges : RangeTable) (waiting : ℕ → Waiting) (fetches more : List Flight) (before after : SourceState) (place : ℕ) (fetch : Flight) → place < length fetches → fetch ≡ slice_index_or fetches place fetch → more ≡ remove fetches place → Ended fetch.ticket before after →
    EndsHere place fetch.owner fetch.request ranges (state_in waiting fetches before) (state_in waiting more after)
ends_here ranges waiting fetches more before after place fetch within here removed ended = record {
  named = rw (got_here fetches place fetch within here) (refl, refl);
  table = λ i. record { waiting = waiting; fetches = removed i };
  in_flight = rw (got_here fetches place fetch within here) ended.in_flight;
  idle = let same = ended.idle in omega (arith, same);
  keeps = record { file = ended.file; asked = ended.asked };
}

segment_moved : (file : Option (List ℕ)) (one other : SegmentLocation) (bytes : List ℕ) → range_of one ≡ range_of other → IsSegment file one bytes → IsSegment file other bytes
segment_moved file one other bytes same segment = record { length = segment.length ∙ ap (λ (range : AskedRange). range.length) same; told = moved file segment.told }
  where
    at_range : List ℕ → AskedRange → Option (List ℕ)
    at_range told range = bytes_at told (record { offset = range.offset; length = range.length; alignment = 0 })

    moved : (file : Option (List ℕ)) → IfSome file (λ told. bytes_at told one ≡ Some bytes) → IfSome file (λ told. bytes_at told other ≡ Some bytes)
    moved None told = told
    moved (Some bytes_of_file) told = sym (ap (at_range bytes_of_file) same) ∙ told

found_bytes : (file : Option (List ℕ)) (found : Option SegmentLocation) (at : SegmentLocation) (bytes : List ℕ) → option_map (λ (one : SegmentLocation). range_of one) found ≡ Some (range_of at) → IfSome found (λ one. IsSegment file one bytes) → IsSegment file at bytes
found_bytes file None at bytes is has = absurd cc
found_bytes file (Some one) at bytes is has = let same : range_of one ≡ range_of at = cc in segment_moved file one at bytes same has

pub has_bytes : (ranges : RangeTable) (state : SessionState) (place : ℕ) (fetch : Flight) (bytes : List ℕ) → IsSound ranges state → place < length state.table.fetches → fetch ≡ slice_index_or state.table.fetches place fetch →
    IfSome (location_of fetch.ticket state.source.in_flight) (λ at. IsSegment state.source.file at bytes) → HasBytes place state bytes
has_bytes ranges state place fetch bytes sound within here has =
    rw (got_here state.table.fetches place fetch within here) (found_bytes state.source.file (location_of fetch.ticket state.source.in_flight) fetch.at bytes (fetch_sound ranges state place fetch sound within here) has)
