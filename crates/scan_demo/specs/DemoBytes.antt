-- The bytes of the demo file: the segments of its flats, one after another, without gaps.
use Rattle.std.specs.Prelude.{ℕ, ◌+◌, List, [], ◌∷◌, length, unwrap_or}
use Rattle.std.specs.List.{flat_map}
use Rattle.vx_base.specs.Columns.{ColumnData}
use Rattle.vx_base.specs.declared.locations.SegmentLocation.{SegmentLocation}
use Rattle.vx_base.specs.Segment.{spelling}
use Rattle.scan_demo.specs.Flats.{demo_flats}

-- the bytes that spell a flat; one of no leaf dtype has none
abbrev pub segment_of : ColumnData → List ℕ
segment_of flat = unwrap_or (spelling flat.dtype flat.values) []

-- so many bytes from an offset on
abbrev pub location_of : ℕ → ℕ → SegmentLocation
location_of offset size = record { offset = offset; length = size; alignment = 1 }

abbrev pub location_at : ℕ → List ℕ → SegmentLocation
location_at offset segment = location_of offset (length segment)

-- where the segments of flats lie, the first of them at the offset
abbrev pub locations_from : ℕ → List ColumnData → List SegmentLocation
locations_from offset [] = []
locations_from offset (flat ∷ flats) = location_at offset (segment_of flat) ∷ locations_from (offset + length (segment_of flat)) flats

-- the segments of flats, one after another
abbrev pub bytes_of : List ColumnData → List ℕ
bytes_of flats = flat_map segment_of flats

abbrev pub demo_locations : ℕ → List SegmentLocation
demo_locations number = locations_from 0 (demo_flats number)

abbrev pub demo_bytes : ℕ → List ℕ
demo_bytes number = bytes_of (demo_flats number)
