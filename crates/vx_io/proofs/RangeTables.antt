-- The table of ranges: what one location more puts into it, and that no two ranges have one segment.
use Rattle.std.proofs.Common.{◌≡◌, ℕ, ◌+◌, ◌<◌, ◌≤◌, ◌==◌, Bool, true, false, ◌&&◌, List, [], ◌∷◌, ◌++◌, length, take, Option, Some, None, refl, sym, ap, ◌∙◌, arith, cond, eqb-true}
use Rattle.std.specs.Prelude.{slice_index_or}
use Rattle.std.specs.Option.{option_or}
use Rattle.std.specs.BTreeMap.{BTreeMap, get, is_at}
use Rattle.std.specs.Ordering.{nat_cmp}
use Rattle.std.specs.Cmp.{both_tied, unsigned_ties}
use Rattle.std.proofs.lemmas.List.{take_more, length-take-le}
use Rattle.vx_base.specs.declared.locations.SegmentLocation.{SegmentLocation}
use Rattle.vx_base.specs.declared.locations.AskedRange.{AskedRange}
use Rattle.vx_base.specs.Sources.{range_of}
use Rattle.vx_io.specs.Ranges.{RangeTable, range_cmp, has_range, last_with, HaveOwnSegments, IsTableOf}

-- a key of the table is at a range where its location has the range
is_range : (at : SegmentLocation) (range : AskedRange) → is_at (range_cmp (range_of at)) range ≡ has_range at range
is_range at range =
    sym (both_tied (at.offset == range.offset) (at.length == range.length) (nat_cmp at.offset range.offset) (nat_cmp at.length range.length)
    (unsigned_ties at.offset range.offset) (unsigned_ties at.length range.length))

chosen : (here : Bool) (m n : ℕ) (found first : Option ℕ) → m ≡ n → option_or (cond here (Some m) found) first ≡ cond here (Some n) (option_or found first)
chosen true m n found first same = ap Some same
chosen false m n found first same = refl

-- one location more
last_more : (locations : List SegmentLocation) (at : SegmentLocation) (first : ℕ) (range : AskedRange) →
    last_with (locations ++ at ∷ []) first range ≡ cond (has_range at range) (Some (first + length locations)) (last_with locations first range)
last_more [] at first range = ap (λ (n : ℕ). cond (has_range at range) (Some n) None) (omega arith)
last_more (one ∷ locations) at first range =
    ap (λ (found : Option ℕ). option_or found (cond (has_range one range) (Some first) None)) (last_more locations at (first + 1) range)
    ∙ chosen (has_range at range) ((first + 1) + length locations) (first + length (one ∷ locations)) (last_with locations (first + 1) range) (cond (has_range one range) (Some first) None) (omega arith)

-- the location at a place is put in behind those before it
pub table_more : (old new : BTreeMap AskedRange ℕ) (locations : List SegmentLocation) (number : ℕ) (d : SegmentLocation) → number < length locations → IsTableOf old.entries (take number locations) →
    ((range : AskedRange) → get range_cmp new range ≡ cond (is_at (range_cmp (range_of (slice_index_or locations number d))) range) (Some number) (get range_cmp old range)) → IsTableOf new.entries (take (number + 1) locations)
table_more old new locations number d within table put range =
    let at = slice_index_or locations number d in
    put range
    ∙ ap (λ (b : Bool). cond b (Some number) (get range_cmp old range)) (is_range at range)
    ∙ ap (λ (found : Option ℕ). cond (has_range at range) (Some number) found) (table range)
    ∙ sym (ap (λ (l : List SegmentLocation). last_with l 0 range) (take_more locations number d within)
    ∙ last_more (take number locations) at 0 range
    ∙ ap (λ (n : ℕ). cond (has_range at range) (Some n) (last_with (take number locations) 0 range)) (let count = length-take-le number locations (omega arith) in omega (arith, count)))

-- ---- each range has a segment of its own

both_true : (a b : Bool) → (a && b) ≡ true → (a ≡ true) × (b ≡ true)
both_true true true is = (refl, refl)
both_true true false is = absurd cc
both_true false b is = absurd cc

has_it : (at : SegmentLocation) (range : AskedRange) → has_range at range ≡ true → range_of at ≡ range
has_it at range is =
    let parts = both_true (at.offset == range.offset) (at.length == range.length) is in
    let offset = eqb-true at.offset range.offset parts.0 in
    let len = eqb-true at.length range.length parts.1 in
    λ i. record { offset = offset i; length = len i }

-- the numbers of the locations start at `first`
number_from : (locations : List SegmentLocation) (first number : ℕ) (range : AskedRange) → last_with locations first range ≡ Some number → first ≤ number
number_from [] first number range is = absurd cc
number_from (at ∷ locations) first number range is = by (number_from locations (first + 1) number range) (last_with locations (first + 1) range) refl (has_range at range) is
  where
    by : (last_with locations (first + 1) range ≡ Some number → first + 1 ≤ number) → (found : Option ℕ) → last_with locations (first + 1) range ≡ found → (here : Bool) → option_or found (cond here (Some first) None) ≡ Some number → first ≤ number
    by behind (Some other) found here is = let later = behind (found ∙ is) in omega (arith, later)
    by behind None found true is = let same : first ≡ number = cc in omega (arith, same)
    by behind None found false is = absurd cc

pub number_apart : (locations : List SegmentLocation) (first number : ℕ) (one two : AskedRange) → last_with locations first one ≡ Some number → last_with locations first two ≡ Some number → one ≡ two
number_apart [] first number one two is_one is_two = absurd cc
number_apart (at ∷ locations) first number one two is_one is_two =
    by (number_apart locations (first + 1) number one two) (last_with locations (first + 1) one) (last_with locations (first + 1) two) refl refl (has_range at one) (has_range at two) refl refl is_one is_two
  where
    later : (range : AskedRange) (found : Option ℕ) (other : ℕ) → last_with locations (first + 1) range ≡ found → found ≡ Some other → first < other
    later range found other is same = let low = number_from locations (first + 1) other range (is ∙ same) in omega (arith, low)

    by : (last_with locations (first + 1) one ≡ Some number → last_with locations (first + 1) two ≡ Some number → one ≡ two) → (found_one found_two : Option ℕ) → last_with locations (first + 1) one ≡ found_one → last_with locations (first + 1) two ≡ found_two →
        (here_one here_two : Bool) → has_range at one ≡ here_one → has_range at two ≡ here_two →
        option_or found_one (cond here_one (Some first) None) ≡ Some number → option_or found_two (cond here_two (Some first) None) ≡ Some number → one ≡ two
    by behind (Some m) (Some n) behind_one behind_two here_one here_two has_one has_two is_one is_two = behind (behind_one ∙ is_one) (behind_two ∙ is_two)
    by behind None None behind_one behind_two true true has_one has_two is_one is_two = sym (has_it at one has_one) ∙ has_it at two has_two
    by behind None found_two behind_one behind_two false here_two has_one has_two is_one is_two = absurd cc
    by behind found_one None behind_one behind_two here_one false has_one has_two is_one is_two = absurd cc
    by behind (Some m) None behind_one behind_two here_one true has_one has_two is_one is_two =
        let same : first ≡ number = cc in let low = later one (Some m) number behind_one is_one in absurd (omega (arith, same, low))
    by behind None (Some n) behind_one behind_two true here_two has_one has_two is_one is_two =
        let same : first ≡ number = cc in let low = later two (Some n) number behind_two is_two in absurd (omega (arith, same, low))

-- a table of locations keeps its ranges apart
pub table_apart : (segments : RangeTable) (locations : List SegmentLocation) → IsTableOf segments locations → HaveOwnSegments segments
table_apart segments locations table one two segment is_one is_two = number_apart locations 0 segment one two (sym (table one) ∙ is_one) (sym (table two) ∙ is_two)
