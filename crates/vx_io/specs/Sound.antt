-- What holds of a session between two calls: what is in flight at its source is exactly what its table has, each
-- read at the range of its segment, and at one place only.
use Rattle.std.specs.Prelude.{◌≡◌, ℕ, ◌+◌, ◌<◌, ◌≤◌, ◌==◌, ◌⊎◌, ◌↔◌, List, Option, Some, None, option_map, IsSome}
use Rattle.std.specs.List.{All, count_by}
use Rattle.std.specs.Option.{option_to_list}
use Rattle.vx_base.specs.Sources.{SourceState, location_of, range_of}
use Rattle.vx_base.specs.declared.locations.SegmentLocation.{SegmentLocation}
use Rattle.vx_io.specs.Ranges.{RangeTable, segment_of, HaveOwnSegments}
use Rattle.vx_io.specs.Session.{Waiting, Table, Flight, SessionState}

-- how often a ticket stands in a list
abbrev pub times : ℕ → List ℕ → ℕ
times ticket tickets = count_by (λ other. other == ticket) tickets

-- how often it waits at a segment, and how often it is fetched
abbrev pub times_waiting : ℕ → Waiting → ℕ
times_waiting ticket waiting = times ticket waiting.announced + times ticket (option_to_list waiting.prefetched)

abbrev pub times_fetched : ℕ → List Flight → ℕ
times_fetched ticket fetches = count_by (λ (fetch : Flight). fetch.ticket == ticket) fetches

-- how often the table has it at a segment, if there is one, or among the fetches
abbrev pub times_kept : Option ℕ → ℕ → Table → ℕ
times_kept None ticket table = times_fetched ticket table.fetches
times_kept (Some segment) ticket table = times_waiting ticket (table.waiting segment) + times_fetched ticket table.fetches

-- the read of a fetch is in flight, at the range of the fetch
abbrev pub IsFetchRead : SourceState → Flight → Type 0
IsFetchRead source fetch = option_map (λ at. range_of at) (location_of fetch.ticket source.in_flight) ≡ Some (range_of fetch.at)

pub record IsSound (ranges : RangeTable) (state : SessionState) : Type 0 where
  pub apart : HaveOwnSegments ranges
  pub once : (segment ticket : ℕ) → times_kept (Some segment) ticket state.table ≤ 1
  pub waiting_in_flight : (segment ticket : ℕ) → 0 < times_waiting ticket (state.table.waiting segment) →
      option_map (λ at. segment_of ranges (range_of at)) (location_of ticket state.source.in_flight) ≡ Some (Some segment)
  pub fetches_in_flight : All (IsFetchRead state.source) state.table.fetches
  pub in_flight_kept : (ticket : ℕ) (at : SegmentLocation) → location_of ticket state.source.in_flight ≡ Some at →
      0 < times_kept (segment_of ranges (range_of at)) ticket state.table

-- the table has a read: it waits at some segment, or it is that of a fetch
abbrev pub HasRead : Table → ℕ → Type 0
HasRead table ticket =
    ((segment : ℕ) × (0 < times_waiting ticket (table.waiting segment))) ⊎ (0 < times_fetched ticket table.fetches)

-- a read is in flight at the source exactly where the table has it
abbrev pub HasWhatIsInFlight : SessionState → Type 0
HasWhatIsInFlight state = (ticket : ℕ) → IsSome (location_of ticket state.source.in_flight) ↔ HasRead state.table ticket
