-- Reads as fetches: which fetch the read of a segment becomes.
use Rattle.std.specs.Prelude.{◌≢◌, ℕ, ◌+◌, ◌<◌, List, [], ◌∷◌, length, map, Some, None, slice_index_or}
use Rattle.std.specs.List.{All, AllPairs}
use Rattle.vx_steps.specs.ReadTableData.{Wanted}
use Rattle.vx_io.specs.declared.requests.IoIntent.TheVariants.{Fetch}
use Rattle.vx_io.specs.declared.requests.IoRequest.{IoRequest}
use Rattle.vx_io.specs.declared.requests.IoTarget.TheVariants.{Range}
use Rattle.vx_base.specs.declared.locations.SegmentLocation.{SegmentLocation}

-- the fetch of that number, of the range at a location with its alignment
abbrev pub fetch_at : ℕ → SegmentLocation → IoRequest
fetch_at number at = record { intent = Fetch; request = record { 0 = number }; target = Range at.offset at.length at.alignment }

-- the location of a segment that has one
abbrev pub location_of : List SegmentLocation → ℕ → SegmentLocation
location_of locations segment = slice_index_or locations segment (record { offset = 0; length = 0; alignment = 0 })

-- the fetches of segments at their locations, numbered from the first number on
abbrev pub fetches_from : List SegmentLocation → ℕ → List ℕ → List IoRequest
fetches_from locations number [] = []
fetches_from locations number (segment ∷ segments) = fetch_at number (location_of locations segment) ∷ fetches_from locations (number + 1) segments

-- all segments have a location
abbrev pub AllLocated : List SegmentLocation → List ℕ → Type 0
AllLocated locations segments = All (λ segment. segment < length locations) segments

-- nothing stands twice
abbrev pub AreDistinct : {X : Type 0} → List X → Type 0
AreDistinct {X} xs = AllPairs (λ (one two : X). one ≢ two) xs

-- no number stands twice
abbrev pub AreDistinctNumbers : List ℕ → Type 0
AreDistinctNumbers numbers = AreDistinct numbers

-- a read whose bytes did not come, and one whose bytes came
abbrev pub unread : ℕ → Wanted
unread segment = record { segment = segment; bytes = None }

abbrev pub delivered : ℕ → List ℕ → Wanted
delivered segment bytes = record { segment = segment; bytes = Some bytes }

abbrev pub segments_in : List Wanted → List ℕ
segments_in reads = map (λ (read : Wanted). read.segment) reads
