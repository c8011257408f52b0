-- Requests whose range some segment has.
use Rattle.std.proofs.Common.{◌≡◌, ℕ, ◌+◌, ◌<◌, List, Some, length, take, Option, refl, sym, ap, ◌∙◌, subst}
use Rattle.std.specs.Prelude.{slice_index_or, IsSome}
use Rattle.std.specs.List.{All}
use Rattle.std.proofs.lemmas.List.Elements.{All-more}
use Rattle.vx_base.specs.declared.locations.SegmentLocation.{SegmentLocation}
use Rattle.vx_base.specs.Sources.{range_of}
use Rattle.vx_io.specs.declared.requests.IoTarget.{IoTarget}
use Rattle.vx_io.specs.declared.requests.IoTarget.TheVariants.{Range}
use Rattle.vx_io.specs.declared.requests.IoRequest.{IoRequest}
use Rattle.vx_io.specs.Ranges.{RangeTable, segment_of, range_at}
use Rattle.vx_io.specs.Session.{location_of_target, range_of_target}
use Rattle.vx_io.specs.Submits.{IsKnown}

-- the range of a target's location is that of the target
pub target_range : (target : IoTarget) → range_of (location_of_target target) ≡ range_of_target target
target_range (Range offset len alignment) = refl

-- the segment that was found at a target's location is that of the target
found_is : (ranges : RangeTable) (target : IoTarget) (at : SegmentLocation) (found : Option ℕ) → at ≡ location_of_target target → found ≡ segment_of ranges (range_at at.offset at.length) → found ≡ segment_of ranges (range_of_target target)
found_is ranges target at found place is = is ∙ ap (segment_of ranges) (ap range_of place ∙ target_range target)

pub known_segment : (ranges : RangeTable) (target : IoTarget) (at : SegmentLocation) (found : Option ℕ) (segment : ℕ) → at ≡ location_of_target target → found ≡ segment_of ranges (range_at at.offset at.length) → found ≡ Some segment → segment_of ranges (range_of_target target) ≡ Some segment
known_segment ranges target at found segment place is some = sym (found_is ranges target at found place is) ∙ some

pub known_more : (ranges : RangeTable) (batch : List IoRequest) (place : ℕ) (d : IoRequest) (at : SegmentLocation) (found : Option ℕ) → place < length batch → at ≡ location_of_target (slice_index_or batch place d).target → found ≡ segment_of ranges (range_at at.offset at.length) → IsSome found →
    All (IsKnown ranges) (take place batch) → All (IsKnown ranges) (take (place + 1) batch)
known_more ranges batch place d at found within place_is is some known =
    All-more (IsKnown ranges) batch place d within known (subst (λ (one : Option ℕ). IsSome one) (found_is ranges (slice_index_or batch place d).target at found place_is is) some)
