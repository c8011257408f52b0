-- What a poll does to a session and its source.
use Rattle.std.specs.Prelude.{◌≡◌, ℕ, ◌<◌, ◌≤◌, List, length, slice_get, Option, Some, None, IsSomeAnd, Result, Ok, Err}
use Rattle.vx_base.specs.Sources.{SourceState, Rose, RoseBy, IsSegment, without}
use Rattle.vx_io.specs.declared.requests.Completion.{Completion}
use Rattle.vx_io.specs.declared.requests.IoOwnerId.{IoOwnerId}
use Rattle.vx_io.specs.declared.requests.IoRequestId.{IoRequestId}
use Rattle.vx_io.specs.declared.requests.PollError.{PollError}
use Rattle.vx_io.specs.declared.requests.PollError.TheVariants.{NothingInFlight, Source, Memory}
use Rattle.vx_io.specs.Session.{SessionState, table_after, ended}
use Rattle.vx_io.specs.Ranges.{RangeTable}

-- the file and the asks stay
pub record KeepsAsks (before after : SourceState) : Type 0 where
  pub file : after.file ≡ before.file
  pub asked : after.asked ≡ before.asked

-- the read of the fetch at the place is no longer in flight at the source, and nothing else changed there
abbrev pub EndsReadOf : ℕ → SessionState → SessionState → Type 0
EndsReadOf place old new =
    IsSomeAnd (slice_get old.table.fetches place) (λ fetch. new.source.in_flight ≡ without fetch.ticket old.source.in_flight)

-- The fetch at a place ended; those before it were polled and go on.
pub record EndsAt (place : ℕ) (owner : IoOwnerId) (request : IoRequestId) (ranges : RangeTable) (old new : SessionState) : Type 0 where
  pub within : place < length old.table.fetches
  pub named : IsSomeAnd (slice_get old.table.fetches place) (λ fetch. (fetch.owner ≡ owner) × (fetch.request ≡ request))
  pub table : new.table ≡ table_after ranges old.table (ended place)
  pub in_flight : EndsReadOf place old new
  pub waited : RoseBy place old.source.idle new.source.idle
  pub keeps : KeepsAsks old.source new.source

-- The fetch at a place ended, and no other was polled.
pub record EndsHere (place : ℕ) (owner : IoOwnerId) (request : IoRequestId) (ranges : RangeTable) (old new : SessionState) : Type 0 where
  pub named : IsSomeAnd (slice_get old.table.fetches place) (λ fetch. (fetch.owner ≡ owner) × (fetch.request ≡ request))
  pub table : new.table ≡ table_after ranges old.table (ended place)
  pub in_flight : EndsReadOf place old new
  pub idle : old.source.idle ≤ new.source.idle
  pub keeps : KeepsAsks old.source new.source

-- the bytes are those of the fetch at the place
abbrev pub HasBytes : ℕ → SessionState → List ℕ → Type 0
HasBytes place state bytes = IsSomeAnd (slice_get state.table.fetches place) (λ fetch. IsSegment state.source.file fetch.at bytes)

-- All fetches go on, and the same reads are in flight.
pub record AllGoOn (polls : ℕ) (old new : SessionState) : Type 0 where
  pub table : new.table ≡ old.table
  pub in_flight : new.source.in_flight ≡ old.source.in_flight
  pub waited : RoseBy polls old.source.idle new.source.idle
  pub keeps : KeepsAsks old.source new.source
  pub faults : new.source.faults ≡ old.source.faults

abbrev pub SessionPollGives : RangeTable → Result (Option Completion) PollError → SessionState → SessionState → Type 0
SessionPollGives ranges (Ok (Some completion)) old new =
    (place : ℕ) × EndsAt place completion.owner completion.request ranges old new
    × HasBytes place old completion.bytes.items × (new.source.faults ≡ old.source.faults)
SessionPollGives ranges (Ok None) old new = AllGoOn (length old.table.fetches) old new
SessionPollGives ranges (Err (Source owner request)) old new =
    (place : ℕ) × EndsAt place owner request ranges old new × Rose old.source.faults new.source.faults
SessionPollGives ranges (Err Memory) old new = AllGoOn 0 old new
SessionPollGives ranges (Err NothingInFlight) old new = ⊥

-- ---- the poll that wants a fetch

abbrev pub CompletionGives : RangeTable → Result (Option Completion) PollError → SessionState → SessionState → Type 0
CompletionGives ranges (Ok answer) old new = SessionPollGives ranges (Ok answer) old new
CompletionGives ranges (Err NothingInFlight) old new = new ≡ old
CompletionGives ranges (Err (Source owner request)) old new = SessionPollGives ranges (Err (Source owner request)) old new
CompletionGives ranges (Err Memory) old new = SessionPollGives ranges (Err Memory) old new

-- ---- one fetch

-- The poll of the fetch at a place alone.
abbrev pub PollsAt : ℕ → RangeTable → Result (Option Completion) PollError → SessionState → SessionState → Type 0
PollsAt place ranges (Ok (Some completion)) old new =
    EndsHere place completion.owner completion.request ranges old new
    × HasBytes place old completion.bytes.items × (new.source.faults ≡ old.source.faults)
PollsAt place ranges (Ok None) old new = AllGoOn 1 old new
PollsAt place ranges (Err (Source owner request)) old new =
    EndsHere place owner request ranges old new × Rose old.source.faults new.source.faults
PollsAt place ranges (Err Memory) old new = AllGoOn 0 old new
PollsAt place ranges (Err NothingInFlight) old new = ⊥
