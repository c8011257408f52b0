-- How often sources are asked for one range: at most as often as pairs of a chunk and a segment reach it directly, and
-- pairs of an outermost dictionary and a segment reach it through values.
use Rattle.std.specs.Prelude.{◌≡◌, ℕ, ◌+◌, ◌*◌, ◌≤◌, ◌==◌, cond, Bool, false, List, [], ◌∷◌, length, map, Option, Some, None, option_map}
use Rattle.std.specs.List.{slice_get, flat_map}
use Rattle.vx_base.specs.declared.locations.AskedRange.{AskedRange}
use Rattle.vx_base.specs.Sources.{SourceState, range_of}
use Rattle.vx_rows.specs.Reads.{Way, directly, through, IsAmong}
use Rattle.vx_drive.specs.Fetched.{AreDistinct}
use Rattle.vx_workers.specs.Reasons.{Reason, chunk_and_segment}
use Rattle.vx_scan.specs.Answer.{FileScan, scan_pieces}
use Rattle.vx_scan.specs.Scanned.{AreReasonsFor, GainsAgain, GainsOver, ScanReachesBy, dictionary_and_segment}

abbrev pub is_range : AskedRange → AskedRange → Bool
is_range one other = cond (one.offset == other.offset) (one.length == other.length) false

abbrev pub times_asked : AskedRange → List AskedRange → ℕ
times_asked range [] = 0
times_asked range (other ∷ ranges) = cond (is_range range other) 1 0 + times_asked range ranges

-- how often a source was asked for the range, where it tells what it was asked
abbrev pub times_in : AskedRange → Option (List AskedRange) → ℕ
times_in range None = 0
times_in range (Some ranges) = times_asked range ranges

abbrev pub asked_times : AskedRange → SourceState → ℕ
asked_times range source = times_in range source.asked

-- and how often all sources were
abbrev pub all_asked_times : AskedRange → List SourceState → ℕ
all_asked_times range [] = 0
all_asked_times range (source ∷ sources) = asked_times range source + all_asked_times range sources

-- A row of the piece of that number reaches the segment that way; the segment's location has the range.
pub record PieceReaches (scan : FileScan) (range : AskedRange) (piece segment : ℕ) (way : Way) : Type 0 where
  pub rows : List ℕ
  pub here : slice_get (scan_pieces scan) piece ≡ Some rows
  pub reaches : ScanReachesBy way scan.projection rows segment
  pub location : option_map range_of (slice_get scan.locations segment) ≡ Some range

-- the chunk reaches the range by that segment directly
abbrev pub IsDirectPair : FileScan → AskedRange → ℕ × ℕ → Type 0
IsDirectPair scan range pair = PieceReaches scan range pair.0 pair.1 directly

-- and is one of these chunks
abbrev pub IsDirectPairOf : FileScan → AskedRange → List ℕ → ℕ × ℕ → Type 0
IsDirectPairOf scan range numbers pair = IsAmong pair.0 numbers × IsDirectPair scan range pair

-- some chunk reaches it by that segment, through the values of that dictionary
abbrev pub IsSharedPair : FileScan → AskedRange → ℕ × ℕ → Type 0
IsSharedPair scan range pair = (piece : ℕ) × PieceReaches scan range piece pair.1 (through pair.0)

-- all pairs that are so are among these
abbrev pub AreAllOf : (ℕ × ℕ → Type 0) → List (ℕ × ℕ) → Type 0
AreAllOf P pairs = (pair : ℕ × ℕ) → P pair → IsAmong pair pairs

-- One source is asked for a range at most as often as there are such pairs.
abbrev pub AsksAreCounted : Type 0
AsksAreCounted = (scan : FileScan) (reasons : List Reason) (ranges : List AskedRange) → AreReasonsFor scan reasons ranges
    → AreDistinct (map chunk_and_segment reasons) → AreDistinct (flat_map (dictionary_and_segment scan.projection) reasons)
    → (range : AskedRange) (direct shared : List (ℕ × ℕ)) → AreAllOf (IsDirectPair scan range) direct → AreAllOf (IsSharedPair scan range) shared
    → times_asked range ranges ≤ length direct + length shared

-- The first source is asked again for a range at most as often as there are such pairs of chunks that ran again, and pairs
-- of dictionaries.
abbrev pub AsksAgainAreCounted : Type 0
AsksAgainAreCounted = (scan : FileScan) (reruns : List ℕ) (before after : SourceState) → GainsAgain scan reruns before after
    → (range : AskedRange) (direct shared : List (ℕ × ℕ)) → AreAllOf (IsDirectPairOf scan range reruns) direct → AreAllOf (IsSharedPair scan range) shared
    → asked_times range after ≤ asked_times range before + (length direct + length shared)

-- Where there is one source, it is asked for a range at most as often as there are such pairs.
abbrev pub OneSourceIsCounted : Type 0
OneSourceIsCounted = (scan : FileScan) (befores afters : List SourceState) → GainsOver scan befores afters → length befores ≡ 1
    → (range : AskedRange) (direct shared : List (ℕ × ℕ)) → AreAllOf (IsDirectPair scan range) direct → AreAllOf (IsSharedPair scan range) shared
    → all_asked_times range afters ≤ all_asked_times range befores + (length direct + length shared)

-- All sources together are asked for a range at most twice for each pair of a chunk, and for each pair of a dictionary once
-- more than there are sources.
abbrev pub AllSourcesAreCounted : Type 0
AllSourcesAreCounted = (scan : FileScan) (befores afters : List SourceState) → GainsOver scan befores afters
    → (range : AskedRange) (direct shared : List (ℕ × ℕ)) → AreAllOf (IsDirectPair scan range) direct → AreAllOf (IsSharedPair scan range) shared
    → all_asked_times range afters ≤ all_asked_times range befores + (2 * length direct + (length befores + 1) * length shared)
