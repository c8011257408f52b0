-- The form of a location: a list of offset, length and alignment.
use Rattle.std.specs.Prelude.{ℕ, ◌^◌, Option, Some, None}
use Rattle.serde_json.specs.Data.{Data, Items, no_items, item}
use Rattle.serde_json.specs.Find.{as_array}
use Rattle.scan_words.specs.Words.{◌>>=◌}
use Rattle.scan_request.specs.JsonForms.{whole_form}
use Rattle.vx_base.specs.declared.locations.SegmentLocation.{SegmentLocation}

-- of an offset, a length and an alignment, where each is there
abbrev pub location_from : Option ℕ → Option ℕ → Option ℕ → Option SegmentLocation
location_from offset length alignment = offset >>= λ at. length >>= λ bytes. alignment >>= λ boundary. Some (record { offset = at; length = bytes; alignment = boundary })

-- three whole numbers, the first of 64 bits and the others of 32
abbrev pub location_items : Items → Option SegmentLocation
location_items no_items = None
location_items (item a no_items) = None
location_items (item a (item b no_items)) = None
location_items (item a (item b (item c no_items))) = location_from (whole_form (2 ^ 64) a) (whole_form (2 ^ 32) b) (whole_form (2 ^ 32) c)
location_items (item a (item b (item c (item d ds)))) = None

abbrev pub location_form : Data → Option SegmentLocation
location_form d = as_array d >>= location_items
