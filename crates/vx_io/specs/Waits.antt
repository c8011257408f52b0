-- What a request does to the reads that wait at its segment.
use Rattle.std.specs.Prelude.{◌≡◌, ℕ, Bool, true, false, List, [], ◌∷◌, Option, Some, None, Result, Ok, Err}
use Rattle.vx_base.specs.Sources.{SourceState, Started, RequestGives}
use Rattle.vx_base.specs.declared.locations.SegmentLocation.{SegmentLocation}
use Rattle.vx_base.specs.declared.outside.SourceError.{SourceError}
use Rattle.vx_base.specs.declared.outside.SourceError.TheVariants.{Memory}
use Rattle.vx_io.specs.declared.requests.IoIntent.{IoIntent}
use Rattle.vx_io.specs.declared.requests.IoIntent.TheVariants.{Announce, Prefetch, Fetch}
use Rattle.vx_io.specs.Session.{Waiting, asks, waiting_after, fetched_read, put_at}

-- The source was asked for the location, and gave this ticket, or it wasn't asked at all.
abbrev pub AsksWhere : Bool → SegmentLocation → ℕ → SourceState → SourceState → Type 0
AsksWhere true at ticket before after = Started at ticket before after
AsksWhere false at ticket before after = after ≡ before

-- A request was refused: one that asks the source, as the source refuses it; any other for want of memory alone,
-- and the source is as it was.
abbrev pub RefusedWhere : Bool → SourceError → SegmentLocation → SourceState → SourceState → Type 0
RefusedWhere true error at before after = RequestGives (Err error) at before after
RefusedWhere false error at before after = (error ≡ Memory) × (after ≡ before)

-- An announcement or a prefetch.
abbrev pub TakesRequest : IoIntent → SegmentLocation → Result (Unit {0}) SourceError → Waiting → SourceState → Waiting → SourceState → Type 0
TakesRequest intent at (Ok done) old before new after =
    (ticket : ℕ) × AsksWhere (asks intent old) at ticket before after × (new ≡ waiting_after intent old ticket)
TakesRequest intent at (Err error) old before new after = (new ≡ old) × RefusedWhere (asks intent old) error at before after

-- A fetch, which is given its read.
abbrev pub TakesFetch : SegmentLocation → Result ℕ SourceError → Waiting → SourceState → Waiting → SourceState → Type 0
TakesFetch at (Ok read) old before new after =
    (ticket : ℕ) × AsksWhere (asks Fetch old) at ticket before after
    × (read ≡ fetched_read old.prefetched old.announced ticket) × (new ≡ waiting_after Fetch old ticket)
TakesFetch at (Err error) old before new after = (new ≡ old) × RefusedWhere (asks Fetch old) error at before after

-- The oldest of the announced reads, or a new one where there is none.
abbrev pub TakesOldest : SegmentLocation → List ℕ → ℕ → SourceState → List ℕ → SourceState → Type 0
TakesOldest at [] read before left after = (left ≡ []) × Started at read before after
TakesOldest at (oldest ∷ announced) read before left after = (read ≡ oldest) × (left ≡ announced) × (after ≡ before)

abbrev pub TakesAnnounced : SegmentLocation → Result ℕ SourceError → Waiting → SourceState → Waiting → SourceState → Type 0
TakesAnnounced at (Ok read) old before new after =
    TakesOldest at old.announced read before new.announced after × (new.prefetched ≡ old.prefetched)
TakesAnnounced at (Err error) old before new after = (old.announced ≡ []) × (new ≡ old) × RequestGives (Err error) at before after

-- what is given is the read that a fetch takes
abbrev pub IsReadOf : IoIntent → Option ℕ → Waiting → ℕ → Type 0
IsReadOf Announce read waiting new = read ≡ None
IsReadOf Prefetch read waiting new = read ≡ None
IsReadOf Fetch read waiting new = read ≡ Some (fetched_read waiting.prefetched waiting.announced new)

-- Any request at its segment.
abbrev pub Takes : IoIntent → SegmentLocation → Result (Option ℕ) SourceError → Waiting → SourceState → Waiting → SourceState → Type 0
Takes intent at (Ok read) old before new after =
    (ticket : ℕ) × AsksWhere (asks intent old) at ticket before after × IsReadOf intent read old ticket
    × (new ≡ waiting_after intent old ticket)
Takes intent at (Err error) old before new after = (new ≡ old) × RefusedWhere (asks intent old) error at before after

-- The same over what waits at all segments.
abbrev pub TakesAt : IoIntent → ℕ → SegmentLocation → Result (Option ℕ) SourceError → (ℕ → Waiting) → SourceState → (ℕ → Waiting) → SourceState → Type 0
TakesAt intent segment at (Ok read) old before new after =
    (ticket : ℕ) × AsksWhere (asks intent (old segment)) at ticket before after × IsReadOf intent read (old segment) ticket
    × ((other : ℕ) → new other ≡ put_at old segment (waiting_after intent (old segment) ticket) other)
TakesAt intent segment at (Err error) old before new after =
    ((other : ℕ) → new other ≡ old other) × RefusedWhere (asks intent (old segment)) error at before after
