-- Which segment has a range of the file.
use Rattle.std.specs.Prelude.{◌≡◌, ℕ, ◌+◌, ◌==◌, Bool, ◌&&◌, if◌then◌else◌, List, [], ◌∷◌, Option, Some, None}
use Rattle.std.specs.Option.{option_or}
use Rattle.std.specs.declared.cmp.Ordering.{Ordering}
use Rattle.std.specs.Ordering.{nat_cmp, then_cmp, on}
use Rattle.std.specs.Map.{lookup}
use Rattle.std.specs.BTreeMap.{is_at}
use Rattle.vx_base.specs.declared.locations.SegmentLocation.{SegmentLocation}
use Rattle.vx_base.specs.declared.locations.AskedRange.{AskedRange}

-- the order of the ranges in a table: by offset, then by length
abbrev pub range_cmp : AskedRange → AskedRange → Ordering
range_cmp = then_cmp (on (λ (range : AskedRange). range.offset) nat_cmp) (on (λ (range : AskedRange). range.length) nat_cmp)

abbrev pub range_at : ℕ → ℕ → AskedRange
range_at offset length = record { offset = offset; length = length }

-- the location has the range
abbrev pub has_range : SegmentLocation → AskedRange → Bool
has_range at range = (at.offset == range.offset) && (at.length == range.length)

-- the number of the last location that has the range, where the first location has the number `first`
abbrev pub last_with : List SegmentLocation → ℕ → AskedRange → Option ℕ
last_with [] first range = None
last_with (at ∷ locations) first range = option_or (last_with locations (first + 1) range) (if has_range at range then Some first else None)

-- A table of ranges, as contracts see it: each range that some segment has, with that segment, in the order of
-- the ranges.
abbrev pub RangeTable : Type 0
RangeTable = List (AskedRange × ℕ)

-- the segment that a table tells of a range
abbrev pub segment_of : RangeTable → AskedRange → Option ℕ
segment_of ranges range = lookup (is_at (range_cmp range)) ranges

-- no two ranges have one segment
abbrev pub HaveOwnSegments : RangeTable → Type 0
HaveOwnSegments ranges = (one two : AskedRange) (segment : ℕ) → segment_of ranges one ≡ Some segment → segment_of ranges two ≡ Some segment → one ≡ two

-- the table tells of each range the last location that has it
abbrev pub IsTableOf : RangeTable → List SegmentLocation → Type 0
IsTableOf ranges locations = (range : AskedRange) → segment_of ranges range ≡ last_with locations 0 range
