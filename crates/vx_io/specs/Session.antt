-- The session table as a machine over pure data: the reads that wait at each segment, the fetches in flight,
-- and what one step does to them.
use Rattle.std.specs.Prelude.{◌≡◌, ℕ, ◌+◌, ◌==◌, Bool, true, false, if◌then◌else◌, List, [], map, ◌∷◌, ◌++◌, remove, Option, Some, None}
use Rattle.std.specs.BTreeMap.{BTreeMap, get}
use Rattle.std.specs.Ordering.{nat_cmp}
use Rattle.vx_base.specs.declared.locations.SegmentLocation.{SegmentLocation}
use Rattle.vx_base.specs.declared.locations.AskedRange.{AskedRange}
use Rattle.vx_base.specs.Sources.{SourceState}
use Rattle.vx_io.specs.declared.requests.IoIntent.{IoIntent}
use Rattle.vx_io.specs.declared.requests.IoIntent.TheVariants.{Announce, Prefetch, Fetch}
use Rattle.vx_io.specs.declared.requests.IoTarget.{IoTarget}
use Rattle.vx_io.specs.declared.requests.IoTarget.TheVariants.{Range}
use Rattle.vx_io.specs.declared.requests.IoOwnerId.{IoOwnerId}
use Rattle.vx_io.specs.declared.requests.IoRequestId.{IoRequestId}
use Rattle.vx_io.specs.declared.requests.IoRequest.{IoRequest}
use Rattle.vx_io.specs.declared.waiting.WaitingReads.{WaitingReads}
use Rattle.vx_io.specs.Ranges.{RangeTable, segment_of}

-- ---- what waits at one segment

-- the tickets of the announced reads, oldest first, and of the prefetched read
pub record Waiting : Type 0 where
  pub announced : List ℕ
  pub prefetched : Option ℕ

abbrev pub nothing_waits : Waiting
nothing_waits = record { announced = []; prefetched = None }

abbrev pub waiting_reads : WaitingReads → Waiting
waiting_reads reads = record { announced = reads.announced.items; prefetched = reads.prefetched }

-- whether there is neither a prefetched nor an announced read
abbrev pub has_none : Option ℕ → List ℕ → Bool
has_none None [] = true
has_none None (read ∷ announced) = false
has_none (Some read) announced = false

-- whether a request asks the source
abbrev pub asks : IoIntent → Waiting → Bool
asks Announce waiting = true
asks Prefetch waiting = has_none waiting.prefetched waiting.announced
asks Fetch waiting = has_none waiting.prefetched waiting.announced

-- the read that a fetch takes: the prefetched one, else the oldest announced one, else the one just asked for
abbrev pub fetched_read : Option ℕ → List ℕ → ℕ → ℕ
fetched_read (Some read) announced new = read
fetched_read None (read ∷ announced) new = read
fetched_read None [] new = new

-- what a fetch leaves
abbrev pub left_by_fetch : Option ℕ → List ℕ → Waiting
left_by_fetch (Some read) announced = record { announced = announced; prefetched = None }
left_by_fetch None (read ∷ announced) = record { announced = announced; prefetched = None }
left_by_fetch None [] = nothing_waits

-- what a prefetch leaves: where a prefetched read waits, it does nothing
abbrev pub left_by_prefetch : Option ℕ → List ℕ → ℕ → Waiting
left_by_prefetch (Some read) announced new = record { announced = announced; prefetched = Some read }
left_by_prefetch None (read ∷ announced) new = record { announced = announced; prefetched = Some read }
left_by_prefetch None [] new = record { announced = []; prefetched = Some new }

-- what a request leaves waiting, where an ask of it gives the read `new`
abbrev pub waiting_after : IoIntent → Waiting → ℕ → Waiting
waiting_after Announce waiting new = record { announced = waiting.announced ++ new ∷ []; prefetched = waiting.prefetched }
waiting_after Prefetch waiting new = left_by_prefetch waiting.prefetched waiting.announced new
waiting_after Fetch waiting new = left_by_fetch waiting.prefetched waiting.announced

-- ---- the table

-- A fetch in flight: whose it is, its number, what it reads, and the ticket of its read.
pub record Flight : Type 0 where
  pub owner : IoOwnerId
  pub request : IoRequestId
  pub at : SegmentLocation
  pub ticket : ℕ

-- what waits at each segment, and the fetches in flight in the order of their submission
pub record Table : Type 0 where
  pub waiting : ℕ → Waiting
  pub fetches : List Flight

abbrev pub empty_table : Table
empty_table = record { waiting = λ segment. nothing_waits; fetches = [] }

abbrev pub waiting_or_none : Option WaitingReads → Waiting
waiting_or_none None = nothing_waits
waiting_or_none (Some reads) = waiting_reads reads

-- what waits at each segment by a map of it
abbrev pub waits : BTreeMap ℕ WaitingReads → ℕ → Waiting
waits waiting segment = waiting_or_none (get nat_cmp waiting segment)

-- a map of what waits keeps nothing of a segment at which nothing waits
abbrev pub KeepsNothingInVain : BTreeMap ℕ WaitingReads → ℕ → Type 0
KeepsNothingInVain waiting segment = waits waiting segment ≡ nothing_waits → get nat_cmp waiting segment ≡ None

-- What a session is to its callers: its table, and the state of its source.
pub record SessionState : Type 0 where
  pub table : Table
  pub source : SourceState

-- the state that a session's fields make
abbrev pub state_in : (ℕ → Waiting) → List Flight → SourceState → SessionState
state_in waiting fetches source = record {
  table = record { waiting = waiting; fetches = fetches };
  source = source;
}

abbrev pub location_of_target : IoTarget → SegmentLocation
location_of_target (Range offset len alignment) = record { offset = offset; length = len; alignment = alignment }

abbrev pub range_of_target : IoTarget → AskedRange
range_of_target (Range offset len alignment) = record { offset = offset; length = len }

-- ---- the steps

-- A request of an owner, with the ticket that an ask of it gives; or the end of the fetch at a place in line.
pub data Step : Type 0 where
  requested : IoOwnerId → IoRequest → ℕ → Step
  ended : ℕ → Step

abbrev pub put_at : (ℕ → Waiting) → ℕ → Waiting → ℕ → Waiting
put_at waiting segment now other = if other == segment then now else waiting other

-- only a fetch adds one to those in flight
abbrev pub if_fetch : IoIntent → Flight → List Flight
if_fetch Announce fetch = []
if_fetch Prefetch fetch = []
if_fetch Fetch fetch = fetch ∷ []

-- the fetch that took a read, if one did
abbrev pub fetch_with : IoOwnerId → IoRequestId → SegmentLocation → Option ℕ → List Flight
fetch_with owner request at None = []
fetch_with owner request at (Some ticket) = record { owner = owner; request = request; at = at; ticket = ticket } ∷ []

-- the fetch that a request makes of what waits at its segment
abbrev pub fetch_of : IoOwnerId → IoRequest → Waiting → ℕ → Flight
fetch_of owner request waiting new =
    record { owner = owner; request = request.request; at = location_of_target request.target; ticket = fetched_read waiting.prefetched waiting.announced new }

-- a request at its segment; one whose range no segment has does nothing
abbrev pub requested_at : Option ℕ → IoOwnerId → IoRequest → ℕ → Table → Table
requested_at None owner request new table = table
requested_at (Some segment) owner request new table = record {
  waiting = put_at table.waiting segment (waiting_after request.intent (table.waiting segment) new);
  fetches = table.fetches ++ if_fetch request.intent (fetch_of owner request (table.waiting segment) new);
}

abbrev pub table_after : RangeTable → Table → Step → Table
table_after ranges table (requested owner request new) = requested_at (segment_of ranges (range_of_target request.target)) owner request new table
table_after ranges table (ended place) = record { waiting = table.waiting; fetches = remove table.fetches place }

-- the reads that a step starts, each with its ticket and the location that the source is asked for: one or none
abbrev pub starts_at : Option ℕ → IoRequest → ℕ → Table → List (ℕ × SegmentLocation)
starts_at None request new table = []
starts_at (Some segment) request new table = if asks request.intent (table.waiting segment) then (new, location_of_target request.target) ∷ [] else []

abbrev pub started_by : RangeTable → Table → Step → List (ℕ × SegmentLocation)
started_by ranges table (requested owner request new) = starts_at (segment_of ranges (range_of_target request.target)) request new table
started_by ranges table (ended place) = []

-- ---- runs of steps

abbrev pub session_after : RangeTable → Table → List Step → Table
session_after ranges table [] = table
session_after ranges table (step ∷ steps) = session_after ranges (table_after ranges table step) steps

-- the reads that a run starts, in order, and what it asks for
abbrev pub starts_of : RangeTable → Table → List Step → List (ℕ × SegmentLocation)
starts_of ranges table [] = []
starts_of ranges table (step ∷ steps) = started_by ranges table step ++ starts_of ranges (table_after ranges table step) steps

abbrev pub asks_of : RangeTable → Table → List Step → List SegmentLocation
asks_of ranges table steps = map (λ read. read.1) (starts_of ranges table steps)

-- the requests of a run, each with its owner, and how many fetches ended in it
abbrev pub requests_in : List Step → List (IoOwnerId × IoRequest)
requests_in [] = []
requests_in (requested owner request new ∷ steps) = (owner, request) ∷ requests_in steps
requests_in (ended place ∷ steps) = requests_in steps

abbrev pub ends_in : List Step → ℕ
ends_in [] = 0
ends_in (requested owner request new ∷ steps) = ends_in steps
ends_in (ended place ∷ steps) = ends_in steps + 1

-- Some run of the machine with these requests and so many ended fetches leads from one table to the other,
-- and starts these reads.
pub record Runs (ranges : RangeTable) (requests : List (IoOwnerId × IoRequest)) (ends : ℕ) (old new : Table) (started : List (ℕ × SegmentLocation)) : Type 0 where
  pub steps : List Step
  pub requests_done : requests_in steps ≡ requests
  pub fetches_ended : ends_in steps ≡ ends
  pub table : session_after ranges old steps ≡ new
  pub starts : starts_of ranges old steps ≡ started

-- What is asked depends on the requests alone: two runs of one list of requests from one table ask for the
-- same locations, whatever tickets the source gives and whichever fetches end in between.
abbrev pub RequestsTellAsks : Type 0
RequestsTellAsks = (ranges : RangeTable) (table : Table) (one two : List Step) → requests_in one ≡ requests_in two → asks_of ranges table one ≡ asks_of ranges table two
