-- What `submit` does to a session and its source.
use Rattle.std.specs.Prelude.{◌≡◌, ℕ, ◌<◌, ◌⊎◌, List, ◌++◌, length, map, take, slice_get, Option, None, option_map, IsSome, IsSomeAnd, IsTrue, Result, Ok, Err}
use Rattle.std.specs.List.{All}
use Rattle.vx_base.specs.Sources.{SourceState, Rose, range_of, asks_also}
use Rattle.vx_base.specs.declared.locations.SegmentLocation.{SegmentLocation}
use Rattle.vx_base.specs.declared.locations.AskedRange.{AskedRange}
use Rattle.vx_base.specs.declared.outside.SourceError.{SourceError}
use Rattle.vx_io.specs.declared.requests.IoOwnerId.{IoOwnerId}
use Rattle.vx_io.specs.declared.requests.IoRequest.{IoRequest}
use Rattle.vx_io.specs.declared.requests.SubmitError.{SubmitError}
use Rattle.vx_io.specs.declared.requests.SubmitError.TheVariants.{UnknownRange, Source, Memory}
use Rattle.vx_io.specs.Ranges.{RangeTable, segment_of}
use Rattle.vx_io.specs.Session.{Table, SessionState, Runs, requested, asks, table_after, started_by, range_of_target, location_of_target}
use Rattle.vx_io.specs.Waits.{RefusedWhere}

-- some segment has the range of the request
abbrev pub IsKnown : RangeTable → IoRequest → Type 0
IsKnown ranges request = IsSome (segment_of ranges (range_of_target request.target))

-- the request at the place is the first whose range no segment has
pub record IsFirstUnknown (ranges : RangeTable) (batch : List IoRequest) (place : ℕ) : Type 0 where
  pub here : IsSomeAnd (slice_get batch place) (λ request. segment_of ranges (range_of_target request.target) ≡ None)
  pub before : All (IsKnown ranges) (take place batch)

-- each request of a batch with its owner
abbrev pub owned : IoOwnerId → List IoRequest → List (IoOwnerId × IoRequest)
owned owner batch = map (λ request. (owner, request)) batch

-- what was asked, and behind it the ranges of these reads, where it is told
abbrev pub asked_with : List (ℕ × SegmentLocation) → Option (List AskedRange) → Option (List AskedRange)
asked_with started asked = option_map (λ ranges. ranges ++ map (λ read. range_of read.1) started) asked

-- the request asks the source: some segment has its range, and no read waits there that it takes
abbrev pub AsksIn : RangeTable → Table → IoRequest → Type 0
AsksIn ranges table request =
    IsSomeAnd (segment_of ranges (range_of_target request.target)) (λ segment. IsTrue (asks request.intent (table.waiting segment)))

-- the file and the idle count stay
pub record Stays (old new : SourceState) : Type 0 where
  pub file : new.file ≡ old.file
  pub idle : new.idle ≡ old.idle

-- These requests were done: the machine ran over them, and the source was asked for exactly the reads that it
-- starts.
pub record Did (ranges : RangeTable) (requests : List (IoOwnerId × IoRequest)) (ends : ℕ) (old new : SessionState) : Type 0 where
  pub started : List (ℕ × SegmentLocation)
  pub ran : Runs ranges requests ends old.table new.table started
  pub asked : new.source.asked ≡ asked_with started old.source.asked

-- The same for requests alone: besides, those reads are in flight behind the others.
pub record Submitted (ranges : RangeTable) (requests : List (IoOwnerId × IoRequest)) (old new : SessionState) : Type 0 where
  pub started : List (ℕ × SegmentLocation)
  pub ran : Runs ranges requests 0 old.table new.table started
  pub asked : new.source.asked ≡ asked_with started old.source.asked
  pub in_flight : new.source.in_flight ≡ old.source.in_flight ++ started

-- The first requests of the batch were done, and no later one. The next one may have been asked for, where it asks
-- the source in the table that the first ones left.
pub record StoppedAt (ranges : RangeTable) (owner : IoOwnerId) (batch : List IoRequest) (taken : ℕ) (old new : SessionState) : Type 0 where
  pub within : taken < length batch
  pub started : List (ℕ × SegmentLocation)
  pub ran : Runs ranges (owned owner (take taken batch)) 0 old.table new.table started
  pub asked : (new.source.asked ≡ asked_with started old.source.asked)
      ⊎ IsSomeAnd (slice_get batch taken) (λ request. AsksIn ranges new.table request
      × (new.source.asked ≡ asks_also (location_of_target request.target) (asked_with started old.source.asked)))
  pub in_flight : new.source.in_flight ≡ old.source.in_flight ++ started

-- The source fails only at a request that asks it.
abbrev pub SubmitGives : RangeTable → IoOwnerId → List IoRequest → Result (Unit {0}) SubmitError → SessionState → SessionState → Type 0
SubmitGives ranges owner batch (Ok done) old new =
    All (IsKnown ranges) batch × Submitted ranges (owned owner batch) old new
    × Stays old.source new.source × (new.source.faults ≡ old.source.faults)
SubmitGives ranges owner batch (Err (UnknownRange place)) old new =
    IsFirstUnknown ranges batch place × (new ≡ old)
SubmitGives ranges owner batch (Err (Source taken)) old new =
    All (IsKnown ranges) batch × StoppedAt ranges owner batch taken old new
    × Stays old.source new.source × Rose old.source.faults new.source.faults
    × IsSomeAnd (slice_get batch taken) (AsksIn ranges new.table)
SubmitGives ranges owner batch (Err (Memory taken)) old new =
    All (IsKnown ranges) batch × StoppedAt ranges owner batch taken old new
    × Stays old.source new.source × (new.source.faults ≡ old.source.faults)

-- ---- one request

-- One request was done: a step of the machine, with the read that it starts.
pub record DidOne (ranges : RangeTable) (owner : IoOwnerId) (request : IoRequest) (old new : SessionState) : Type 0 where
  pub ticket : ℕ
  pub table : new.table ≡ table_after ranges old.table (requested owner request ticket)
  pub asked : new.source.asked ≡ asked_with (started_by ranges old.table (requested owner request ticket)) old.source.asked
  pub in_flight : new.source.in_flight ≡ old.source.in_flight ++ started_by ranges old.table (requested owner request ticket)

-- The request was not done: where it asks the source, that refused it.
pub record DidNone (ranges : RangeTable) (request : IoRequest) (error : SourceError) (old new : SessionState) : Type 0 where
  pub table : new.table ≡ old.table
  pub refused : IsSomeAnd (segment_of ranges (range_of_target request.target))
      (λ segment. RefusedWhere (asks request.intent (old.table.waiting segment)) error (location_of_target request.target)
      old.source new.source)

abbrev pub StartGives : RangeTable → IoOwnerId → IoRequest → Result (Unit {0}) SourceError → SessionState → SessionState → Type 0
StartGives ranges owner request (Ok done) old new =
    DidOne ranges owner request old new × Stays old.source new.source × (new.source.faults ≡ old.source.faults)
StartGives ranges owner request (Err error) old new = DidNone ranges request error old new
