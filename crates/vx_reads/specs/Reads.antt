-- The reads of a state at its source.
use Rattle.std.specs.Prelude.{◌≡◌, ℕ, ◌+◌, ◌<◌, ◌≤◌, ◌⊎◌, Bool, true, false, List, [], ◌∷◌, ◌++◌, length, map, Option, Some, None, option_and_then, option_map, IfSome, IsSome, IsSomeAnd, Result, Ok, Err}
use Rattle.std.specs.List.{slice_get, AllByRecursion}
use Rattle.std.specs.Global.{Vec}
use Rattle.vx_base.specs.declared.locations.SegmentLocation.{SegmentLocation}
use Rattle.vx_base.specs.declared.locations.AskedRange.{AskedRange}
use Rattle.vx_base.specs.Sources.{SourceState, Rose, RoseBy, Started, NotStarted, Ended, GoesOn, IsSegment, location_of, range_of, bytes_at}
use Rattle.vx_reads.specs.declared.errors.ReaderError.{ReaderError}
use Rattle.vx_reads.specs.declared.errors.ReaderError.TheVariants.{ReadFault, BadSegment, BadCode, EvalFault, NoLocation, Memory}
use Rattle.vx_reads.specs.declared.reads.ReadState.{ReadState}
use Rattle.vx_reads.specs.declared.reads.ReadState.TheVariants as states
use Rattle.vx_reads.specs.declared.reads.SegmentRead.{SegmentRead}

-- ---- one read

-- its ticket, while it is in flight
abbrev pub ticket_in : ReadState → Option ℕ
ticket_in states.NotAsked = None
ticket_in (states.InFlight ticket) = Some ticket
ticket_in (states.Came bytes) = None

-- its bytes, once they came
abbrev pub bytes_in : ReadState → Option (List ℕ)
bytes_in states.NotAsked = None
bytes_in (states.InFlight ticket) = None
bytes_in (states.Came bytes) = Some bytes.items

abbrev pub read_with : ℕ → ReadState → SegmentRead
read_with segment state = record { segment = segment; state = state }

-- ---- all reads of a state

abbrev pub segments_of : List SegmentRead → List ℕ
segments_of reads = map (λ (read : SegmentRead). read.segment) reads

abbrev pub ticket_at : List SegmentRead → ℕ → Option ℕ
ticket_at reads place = option_and_then (λ (read : SegmentRead). ticket_in read.state) (slice_get reads place)

-- the read at a place came
abbrev pub CameAt : List SegmentRead → ℕ → Type 0
CameAt reads place = IsSomeAnd (slice_get reads place) (λ (read : SegmentRead). IsSome (bytes_in read.state))

-- the ticket is that of one of the reads
abbrev pub HasTicket : List SegmentRead → ℕ → Type 0
HasTicket reads ticket = (place : ℕ) × (ticket_at reads place ≡ Some ticket)

-- a read in flight, if it is one, is in flight at the source, for the location of its segment
abbrev pub IsInFlight : List SegmentLocation → List (ℕ × SegmentLocation) → SegmentRead → Type 0
IsInFlight locations in_flight read =
    IfSome (ticket_in read.state) (λ ticket. IsSomeAnd (slice_get locations read.segment) (λ at. location_of ticket in_flight ≡ Some at))

-- Each read that was started and has not ended is in flight at the source, for its location, and no two are one.
pub record AreInFlight (locations : List SegmentLocation) (reads : List SegmentRead) (in_flight : List (ℕ × SegmentLocation)) : Type 0 where
  pub located : (place : ℕ) → IfSome (slice_get reads place) (IsInFlight locations in_flight)
  pub apart : (one other ticket : ℕ) → ticket_at reads one ≡ Some ticket → ticket_at reads other ≡ Some ticket → one ≡ other

-- the bytes of each read that came are the segment's
abbrev pub HasBytes : (ℕ → Option (List ℕ)) → SegmentRead → Type 0
HasBytes bytes read = IfSome (bytes_in read.state) (λ these. bytes read.segment ≡ Some these)

abbrev pub HaveBytes : (ℕ → Option (List ℕ)) → List SegmentRead → Type 0
HaveBytes bytes reads = (place : ℕ) → IfSome (slice_get reads place) (HasBytes bytes)

-- the bytes of a segment, where it has a location inside the file
abbrev pub file_bytes : List ℕ → List SegmentLocation → ℕ → Option (List ℕ)
file_bytes file locations segment = option_and_then (bytes_at file) (slice_get locations segment)

-- ---- what a call does to the source

-- what was asked, where it is told, is what it was, and ranges with P behind it
abbrev pub AsksOnly : (AskedRange → Type 0) → Option (List AskedRange) → Option (List AskedRange) → Type 0
AsksOnly P old new = IfSome old (λ ranges. (more : List AskedRange) × (new ≡ Some (ranges ++ more)) × AllByRecursion P more)

-- the range is the location of one of these segments
abbrev pub IsRangeOf : List SegmentLocation → List ℕ → AskedRange → Type 0
IsRangeOf locations segments range =
    (place : ℕ) × IsSomeAnd (slice_get segments place) (λ segment. IsSomeAnd (slice_get locations segment) (λ at. range_of at ≡ range))

-- Only ranges of these segments are asked for; reads that aren't of these tickets stay in flight; the file stays, and
-- the counts never fall.
pub record Touches (locations : List SegmentLocation) (reads : List SegmentRead) (before after : SourceState) : Type 0 where
  pub file : after.file ≡ before.file
  pub asks : AsksOnly (IsRangeOf locations (segments_of reads)) before.asked after.asked
  pub others : (ticket : ℕ) (at : SegmentLocation) → (HasTicket reads ticket → ⊥) → location_of ticket before.in_flight ≡ Some at → location_of ticket after.in_flight ≡ Some at
  pub faults : before.faults ≤ after.faults
  pub idle : before.idle ≤ after.idle

-- The reads went on, and no call failed: they are of the same segments, those in flight are so at the source, what was in flight
-- is so still, under its ticket, or came, and what came is the file's and stays. Nothing else is in flight but what was so before, and is none of theirs.
pub record GoOn (locations : List SegmentLocation) (old new : List SegmentRead) (before after : SourceState) : Type 0 where
  pub touches : Touches locations old before after
  pub segments : segments_of new ≡ segments_of old
  pub in_flight : AreInFlight locations new after.in_flight
  pub new_ones : (ticket : ℕ) (at : SegmentLocation) → (HasTicket old ticket → ⊥) → location_of ticket before.in_flight ≡ Some at → HasTicket new ticket → ⊥
  pub told : (file : List ℕ) → before.file ≡ Some file → HaveBytes (file_bytes file locations) old → HaveBytes (file_bytes file locations) new
  pub only : (ticket : ℕ) (at : SegmentLocation) → (HasTicket new ticket → ⊥) → location_of ticket after.in_flight ≡ Some at → (HasTicket old ticket → ⊥) × (location_of ticket before.in_flight ≡ Some at)
  pub going : (place ticket : ℕ) → ticket_at old place ≡ Some ticket → (ticket_at new place ≡ Some ticket) ⊎ CameAt new place
  pub kept : (place : ℕ) (read : SegmentRead) → slice_get old place ≡ Some read → IsSome (bytes_in read.state) → slice_get new place ≡ Some read
  pub fine : after.faults ≡ before.faults

-- why they did not
abbrev pub SourceFault : List SegmentLocation → List ℕ → ReaderError → SourceState → SourceState → Type 0
SourceFault locations segments ReadFault before after = Rose before.faults after.faults
SourceFault locations segments (NoLocation segment) before after = (place : ℕ) × (slice_get segments place ≡ Some segment) × (slice_get locations segment ≡ None)
SourceFault locations segments Memory before after = Unit {0}
SourceFault locations segments error before after = ⊥

-- ---- a call for one read

abbrev pub IsStarted : List SegmentLocation → SegmentRead → SegmentRead → SourceState → SourceState → Type 0
IsStarted locations old new before after =
    (ticket : ℕ) × (at : SegmentLocation) × (slice_get locations old.segment ≡ Some at)
    × (new ≡ read_with old.segment (states.InFlight ticket)) × Started at ticket before after

abbrev pub IsSame : SegmentRead → SegmentRead → SourceState → SourceState → Type 0
IsSame old new before after = (new ≡ old) × (after ≡ before)

abbrev pub StartsBy : ReadState → List SegmentLocation → SegmentRead → SegmentRead → SourceState → SourceState → Type 0
StartsBy states.NotAsked locations old new before after = IsStarted locations old new before after
StartsBy (states.InFlight ticket) locations old new before after = IsSame old new before after
StartsBy (states.Came bytes) locations old new before after = IsSame old new before after

-- no read was started for the location of the segment
abbrev pub IsNotStarted : List SegmentLocation → SegmentRead → SourceState → SourceState → Type 0
IsNotStarted locations old before after = IsSomeAnd (slice_get locations old.segment) (λ at. NotStarted at before after)

abbrev pub StartGivesOne : List SegmentLocation → Result (Unit {0}) ReaderError → SegmentRead → SegmentRead → SourceState → SourceState → Type 0
StartGivesOne locations (Ok done) old new before after = StartsBy old.state locations old new before after
StartGivesOne locations (Err ReadFault) old new before after = IsNotStarted locations old before after × Rose before.faults after.faults × (new ≡ old)
StartGivesOne locations (Err Memory) old new before after = IsNotStarted locations old before after × (after.faults ≡ before.faults) × (new ≡ old)
StartGivesOne locations (Err (NoLocation segment)) old new before after = (segment ≡ old.segment) × (slice_get locations old.segment ≡ None) × (after ≡ before) × (new ≡ old)
StartGivesOne locations (Err (BadSegment segment)) old new before after = ⊥
StartGivesOne locations (Err (BadCode node row)) old new before after = ⊥
StartGivesOne locations (Err (EvalFault row)) old new before after = ⊥

abbrev pub IsAtSource : ReadState → SourceState → Type 0
IsAtSource state source = IfSome (ticket_in state) (λ ticket. IsSome (location_of ticket source.in_flight))

-- the bytes are those of the ticket's read, which ended
abbrev pub IsEnded : ℕ → Vec ℕ → SegmentRead → SegmentRead → SourceState → SourceState → Type 0
IsEnded ticket bytes old new before after =
    (new ≡ read_with old.segment (states.Came bytes)) × Ended ticket before after × (after.faults ≡ before.faults)
    × IfSome (location_of ticket before.in_flight) (λ at. IsSegment before.file at bytes.items)

abbrev pub PollsBy : ReadState → Bool → SegmentRead → SegmentRead → SourceState → SourceState → Type 0
PollsBy states.NotAsked goes_on old new before after = (goes_on ≡ false) × IsSame old new before after
PollsBy (states.Came bytes) goes_on old new before after = (goes_on ≡ false) × IsSame old new before after
PollsBy (states.InFlight ticket) true old new before after = (new ≡ old) × GoesOn before after × Rose before.idle after.idle
PollsBy (states.InFlight ticket) false old new before after = (bytes : Vec ℕ) × IsEnded ticket bytes old new before after

abbrev pub PollGivesOne : Result Bool ReaderError → SegmentRead → SegmentRead → SourceState → SourceState → Type 0
PollGivesOne (Ok goes_on) old new before after = PollsBy old.state goes_on old new before after
PollGivesOne (Err ReadFault) old new before after = IsSomeAnd (ticket_in old.state) (λ ticket. Ended ticket before after × Rose before.faults after.faults) × (new ≡ old)
PollGivesOne (Err Memory) old new before after = GoesOn before after × (after.idle ≡ before.idle) × (new ≡ old)
PollGivesOne (Err error) old new before after = ⊥

-- ---- a call that fails

-- of the reads from a place on none came
abbrev pub NoneCame : ℕ → List SegmentRead → List SegmentRead → Type 0
NoneCame first old new = (place : ℕ) → first ≤ place → CameAt new place → CameAt old place

-- the start of the read at a place failed, before any of the reads came
abbrev pub StartFails : List SegmentLocation → ReaderError → List SegmentRead → List SegmentRead → SourceState → SourceState → Type 0
StartFails locations error old new before after =
    (place : ℕ) × NoneCame 0 old new × IsSomeAnd (slice_get new place) (λ (read : SegmentRead). StartGivesOne locations (Err error) read read before after)

-- the poll of the read at a place failed, before that one or one behind it came
abbrev pub PollFails : ReaderError → List SegmentRead → List SegmentRead → SourceState → SourceState → Type 0
PollFails error old new before after =
    (place : ℕ) × NoneCame place old new × IsSomeAnd (slice_get new place) (λ (read : SegmentRead). PollGivesOne (Err error) read read before after)

-- no call failed, and the source is as it was; or a start failed, or a poll
abbrev pub EndsBy : List SegmentLocation → ReaderError → List SegmentRead → List SegmentRead → SourceState → SourceState → Type 0
EndsBy locations error old new before after = (after ≡ before) ⊎ (StartFails locations error old new before after ⊎ PollFails error old new before after)

-- The reads went on up to the call that failed, if one did, and were left so. A start that failed leaves all that is in flight; a poll
-- that failed ends the read that it was for, unless there was no memory, and leaves all others.
pub record LeavesReads (locations : List SegmentLocation) (error : ReaderError) (old : List SegmentRead) (before after : SourceState) : Type 0 where
  pub reads : List SegmentRead
  pub middle : SourceState
  pub went : GoOn locations old reads before middle
  pub ends : EndsBy locations error old reads middle after

pub record Stops (locations : List SegmentLocation) (error : ReaderError) (old : List SegmentRead) (before after : SourceState) : Type 0 where
  pub touches : Touches locations old before after
  pub fault : SourceFault locations (segments_of old) error before after
  pub leaves : LeavesReads locations error old before after

-- and these are the reads as they were left
abbrev pub StopsWith : List SegmentLocation → ReaderError → List SegmentRead → List SegmentRead → SourceState → SourceState → Type 0
StopsWith locations error old new before after = (stops : Stops locations error old before after) × (new ≡ stops.leaves.reads)

-- ---- a call for all of them

abbrev pub IsAsked : ReadState → Type 0
IsAsked states.NotAsked = ⊥
IsAsked (states.InFlight ticket) = Unit {0}
IsAsked (states.Came bytes) = Unit {0}

abbrev pub AreAsked : ℕ → List SegmentRead → Type 0
AreAsked count reads = (place : ℕ) → place < count → IfSome (slice_get reads place) (λ (read : SegmentRead). IsAsked read.state)

abbrev pub is_waiting : ReadState → ℕ
is_waiting states.NotAsked = 0
is_waiting (states.InFlight ticket) = 1
is_waiting (states.Came bytes) = 0

-- how many reads are in flight
abbrev pub waiting_in : List SegmentRead → ℕ
waiting_in [] = 0
waiting_in (read ∷ reads) = is_waiting read.state + waiting_in reads

-- what a read asks for: the location of its segment, where it was not asked for
abbrev pub located_range : Option SegmentLocation → List AskedRange
located_range None = []
located_range (Some at) = range_of at ∷ []

abbrev pub range_to_ask : List SegmentLocation → ℕ → ReadState → List AskedRange
range_to_ask locations segment states.NotAsked = located_range (slice_get locations segment)
range_to_ask locations segment (states.InFlight ticket) = []
range_to_ask locations segment (states.Came bytes) = []

-- what all of them ask for, in order
abbrev pub ranges_to_ask : List SegmentLocation → List SegmentRead → List AskedRange
ranges_to_ask locations [] = []
ranges_to_ask locations (read ∷ reads) = range_to_ask locations read.segment read.state ++ ranges_to_ask locations reads

-- what was asked, where it is told, with that behind it
abbrev pub asked_also : List SegmentLocation → List SegmentRead → Option (List AskedRange) → Option (List AskedRange)
asked_also locations reads asked = option_map (λ ranges. ranges ++ ranges_to_ask locations reads) asked

-- Each read is asked for: those that were not asked for are so now, once each, and nothing else is. None came.
pub record AllStarted (locations : List SegmentLocation) (old new : List SegmentRead) (before after : SourceState) : Type 0 where
  pub goes : GoOn locations old new before after
  pub none : NoneCame 0 old new
  pub asked : AreAsked (length new) new
  pub asks : after.asked ≡ asked_also locations old before.asked

abbrev pub StartsAll : List SegmentLocation → Result (Unit {0}) ReaderError → List SegmentRead → List SegmentRead → SourceState → SourceState → Type 0
StartsAll locations (Ok done) old new before after = AllStarted locations old new before after
StartsAll locations (Err error) old new before after = StopsWith locations error old new before after

-- Each read in flight is polled, and nothing is asked for; so many go on.
pub record AllPolled (locations : List SegmentLocation) (waiting : ℕ) (old new : List SegmentRead) (before after : SourceState) : Type 0 where
  pub goes : GoOn locations old new before after
  pub quiet : after.asked ≡ before.asked
  pub asked : AreAsked (length old) old → AreAsked (length new) new
  pub count : waiting ≡ waiting_in new
  pub waited : RoseBy waiting before.idle after.idle

abbrev pub PollsAll : List SegmentLocation → Result ℕ ReaderError → List SegmentRead → List SegmentRead → SourceState → SourceState → Type 0
PollsAll locations (Ok waiting) old new before after = AllPolled locations waiting old new before after
PollsAll locations (Err error) old new before after = StopsWith locations error old new before after

-- Each read was asked for, those that were not so before and nothing else, and each one in flight was polled; so many go on.
pub record ReadsPolled (locations : List SegmentLocation) (waiting : ℕ) (old new : List SegmentRead) (before after : SourceState) : Type 0 where
  pub goes : GoOn locations old new before after
  pub asks : after.asked ≡ asked_also locations old before.asked
  pub asked : AreAsked (length new) new
  pub count : waiting ≡ waiting_in new
  pub waited : RoseBy waiting before.idle after.idle

abbrev pub PollsReads : List SegmentLocation → Result ℕ ReaderError → List SegmentRead → List SegmentRead → SourceState → SourceState → Type 0
PollsReads locations (Ok waiting) old new before after = ReadsPolled locations waiting old new before after
PollsReads locations (Err error) old new before after = StopsWith locations error old new before after
