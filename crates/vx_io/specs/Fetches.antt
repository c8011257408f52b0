-- What a session does for an owner that only fetches: the fetches in flight without their tickets, and what is
-- asked for them.
use Rattle.std.specs.Prelude.{◌≡◌, ℕ, ◌≤◌, List, ◌++◌, length, map, take, remove, slice_get, Option, Some, option_map, Result, Ok, Err}
use Rattle.std.specs.List.{All}
use Rattle.vx_base.specs.Sources.{IsSegment, range_of}
use Rattle.vx_base.specs.declared.locations.SegmentLocation.{SegmentLocation}
use Rattle.vx_base.specs.declared.locations.AskedRange.{AskedRange}
use Rattle.vx_io.specs.declared.requests.IoIntent.TheVariants.{Fetch}
use Rattle.vx_io.specs.declared.requests.IoOwnerId.{IoOwnerId}
use Rattle.vx_io.specs.declared.requests.IoRequest.{IoRequest}
use Rattle.vx_io.specs.declared.requests.Completion.{Completion}
use Rattle.vx_io.specs.declared.requests.SubmitError.{SubmitError}
use Rattle.vx_io.specs.declared.requests.SubmitError.TheVariants.{UnknownRange, Source, Memory}
use Rattle.vx_io.specs.Session.{Flight, Table, SessionState, nothing_waits, location_of_target}
use Rattle.vx_io.specs.Drive.{Wanted, fetch_for}

-- ---- the table

-- a fetch in flight, and the fetches of a table, without their tickets
abbrev pub fetch_in_flight : Flight → Wanted
fetch_in_flight fetch = record { owner = fetch.owner; request = fetch.request; at = fetch.at }

abbrev pub fetches_of : Table → List Wanted
fetches_of table = map fetch_in_flight table.fetches

-- no read waits at any segment
abbrev pub NothingWaits : Table → Type 0
NothingWaits table = (segment : ℕ) → table.waiting segment ≡ nothing_waits

-- ---- a batch of fetches

abbrev pub place_of : IoRequest → SegmentLocation
place_of request = location_of_target request.target

abbrev pub AllFetch : List IoRequest → Type 0
AllFetch batch = All (λ (request : IoRequest). request.intent ≡ Fetch) batch

-- what was asked, and behind it the ranges of these locations, where it is told
abbrev pub asked_for : List SegmentLocation → Option (List AskedRange) → Option (List AskedRange)
asked_for places asked = option_map (λ ranges. ranges ++ map range_of places) asked

-- ---- what `submit` does to them

-- The batch is in flight behind the others, and exactly its ranges were asked for.
pub record Fetched (owner : IoOwnerId) (batch : List IoRequest) (old new : SessionState) : Type 0 where
  pub waiting : NothingWaits new.table
  pub fetches : fetches_of new.table ≡ fetches_of old.table ++ map (fetch_for owner) batch
  pub asked : new.source.asked ≡ asked_for (map place_of batch) old.source.asked

-- The ranges of the first requests of the batch were asked for, and no other.
pub record FetchedSome (batch : List IoRequest) (old new : SessionState) : Type 0 where
  pub count : ℕ
  pub within : count ≤ length batch
  pub asked : new.source.asked ≡ asked_for (map place_of (take count batch)) old.source.asked

abbrev pub FetchesGive : IoOwnerId → List IoRequest → Result (Unit {0}) SubmitError → SessionState → SessionState → Type 0
FetchesGive owner batch (Ok done) old new = Fetched owner batch old new
FetchesGive owner batch (Err (UnknownRange place)) old new = new ≡ old
FetchesGive owner batch (Err (Source taken)) old new = FetchedSome batch old new
FetchesGive owner batch (Err (Memory taken)) old new = FetchedSome batch old new

-- ---- what a poll does to them

-- One fetch ended with its bytes; it is gone, and the others are as they were.
pub record FetchEnded (completion : Completion) (old new : SessionState) : Type 0 where
  pub place : ℕ
  pub at : SegmentLocation
  pub here : slice_get (fetches_of old.table) place ≡ Some (record { owner = completion.owner; request = completion.request; at = at })
  pub segment : IsSegment old.source.file at completion.bytes.items
  pub gone : fetches_of new.table ≡ remove (fetches_of old.table) place
  pub waiting : NothingWaits old.table → NothingWaits new.table
