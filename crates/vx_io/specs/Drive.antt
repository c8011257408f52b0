-- What a list of commands does to a session and its source: each fetch ends at most once, with its own bytes.
use Rattle.std.specs.Prelude.{◌≡◌, ℕ, zero, suc, ◌⊎◌, ◌+◌, ◌-◌, ◌^◌, ◌<◌, ◌≤◌, ◌==◌, ◌&&◌, Bool, List, [], ◌∷◌, ◌++◌, length, take, drop, Option, Some, None, Result, Ok, Err}
use Rattle.std.specs.List.{All, Any, count_by, flat_map}
use Rattle.vx_base.specs.Sources.{IsSegment}
use Rattle.vx_base.specs.declared.locations.SegmentLocation.{SegmentLocation}
use Rattle.vx_io.specs.declared.requests.IoIntent.{IoIntent}
use Rattle.vx_io.specs.declared.requests.IoIntent.TheVariants.{Announce, Prefetch, Fetch}
use Rattle.vx_io.specs.declared.requests.IoOwnerId.{IoOwnerId}
use Rattle.vx_io.specs.declared.requests.IoRequestId.{IoRequestId}
use Rattle.vx_io.specs.declared.requests.IoRequest.{IoRequest}
use Rattle.vx_io.specs.declared.requests.Completion.{Completion}
use Rattle.vx_io.specs.declared.requests.PollError.TheVariants as poll_errors
use Rattle.vx_io.specs.declared.commands.IoCommand.{IoCommand}
use Rattle.vx_io.specs.declared.commands.IoCommand.TheVariants.{Submit, Poll}
use Rattle.vx_io.specs.declared.commands.Driven.{Driven}
use Rattle.vx_io.specs.declared.commands.DriveError.{DriveError}
use Rattle.vx_io.specs.declared.commands.DriveError.TheVariants as errors
use Rattle.vx_io.specs.Ranges.{RangeTable}
use Rattle.vx_io.specs.Session.{Flight, SessionState, location_of_target}
use Rattle.vx_io.specs.Sound.{HasWhatIsInFlight}
use Rattle.vx_io.specs.Submits.{SubmitGives, Did, owned}
use Rattle.vx_io.specs.Polls.{SessionPollGives, AllGoOn}

-- ---- the fetches of a list of commands

-- a fetch that was submitted: its owner and number, and what it reads
pub record Wanted : Type 0 where
  pub owner : IoOwnerId
  pub request : IoRequestId
  pub at : SegmentLocation

abbrev pub fetch_for : IoOwnerId → IoRequest → Wanted
fetch_for owner request = record { owner = owner; request = request.request; at = location_of_target request.target }

abbrev pub wanted_by : IoIntent → IoOwnerId → IoRequest → List Wanted
wanted_by Announce owner request = []
wanted_by Prefetch owner request = []
wanted_by Fetch owner request = fetch_for owner request ∷ []

-- the fetches among requests, each with its owner
abbrev pub wanted_in : List (IoOwnerId × IoRequest) → List Wanted
wanted_in requests = flat_map (λ (one : IoOwnerId × IoRequest). wanted_by one.1.intent one.0 one.1) requests

-- the requests of a list of commands, and the fetches among them
abbrev pub requests_of_command : IoCommand → List (IoOwnerId × IoRequest)
requests_of_command (Submit owner batch) = owned owner batch.items
requests_of_command Poll = []

abbrev pub wanted_of : IoCommand → List Wanted
wanted_of command = wanted_in (requests_of_command command)

abbrev pub requests_of : List IoCommand → List (IoOwnerId × IoRequest)
requests_of commands = flat_map requests_of_command commands

abbrev pub fetches_in : List IoCommand → List Wanted
fetches_in commands = flat_map wanted_of commands

-- a fetch in flight is one of these
abbrev pub IsFlightOf : Flight → Wanted → Type 0
IsFlightOf fetch wanted = (fetch.owner ≡ wanted.owner) × (fetch.request ≡ wanted.request) × (fetch.at ≡ wanted.at)

abbrev pub IsAmong : List Wanted → Flight → Type 0
IsAmong wanted fetch = Any (IsFlightOf fetch) wanted

-- ---- each at most once

-- how often fetches of this owner and number stand among the wanted ones, those in flight, the completed ones
abbrev pub is_pair : ℕ → ℕ → IoOwnerId → IoRequestId → Bool
is_pair owner request one other = (one.0 == owner) && (other.0 == request)

abbrev pub times_wanted : ℕ → ℕ → List Wanted → ℕ
times_wanted owner request fetches = count_by (λ (fetch : Wanted). is_pair owner request fetch.owner fetch.request) fetches

abbrev pub times_in_flight : ℕ → ℕ → List Flight → ℕ
times_in_flight owner request fetches = count_by (λ (fetch : Flight). is_pair owner request fetch.owner fetch.request) fetches

abbrev pub times_completed : ℕ → ℕ → List Completion → ℕ
times_completed owner request completions = count_by (λ (one : Completion). is_pair owner request one.owner one.request) completions

-- no two fetches share owner and number
abbrev pub AreDistinct : List Wanted → Type 0
AreDistinct fetches = (owner request : ℕ) → times_wanted owner request fetches ≤ 1

-- ---- how many are due

-- how many fetches end in a list of commands where each poll with a fetch in flight ends one, by how many are
-- in flight before
abbrev pub completions_due : ℕ → List IoCommand → ℕ
completions_due in_flight [] = 0
completions_due in_flight (Submit owner batch ∷ commands) = completions_due (in_flight + length (wanted_of (Submit owner batch))) commands
completions_due zero (Poll ∷ commands) = completions_due zero commands
completions_due (suc in_flight) (Poll ∷ commands) = completions_due in_flight commands + 1

-- ---- the command that was refused

abbrev pub Refused : RangeTable → IoCommand → DriveError → SessionState → SessionState → Type 0
Refused ranges (Submit owner batch) (errors.Submit error) old new = SubmitGives ranges owner batch.items (Err error) old new
Refused ranges (Submit owner batch) (errors.Poll error) old new = ⊥
Refused ranges (Submit owner batch) errors.Memory old new = ⊥
Refused ranges Poll (errors.Submit error) old new = ⊥
Refused ranges Poll (errors.Poll (poll_errors.Source owner request)) old new = SessionPollGives ranges (Err (poll_errors.Source owner request)) old new
Refused ranges Poll (errors.Poll poll_errors.NothingInFlight) old new = ⊥
Refused ranges Poll (errors.Poll poll_errors.Memory) old new = ⊥
Refused ranges Poll errors.Memory old new = AllGoOn 0 old new

-- ---- one command

-- a poll, and the completions before and behind it
abbrev pub PollCommandGives : RangeTable → Result (Unit {0}) DriveError → List Completion → List Completion → SessionState → SessionState → Type 0
PollCommandGives ranges (Ok done) completions more old new =
    ((more ≡ completions) × SessionPollGives ranges (Ok None) old new)
    ⊎ ((completion : Completion) × (more ≡ completions ++ completion ∷ []) × SessionPollGives ranges (Ok (Some completion)) old new)
PollCommandGives ranges (Err error) completions more old new = (more ≡ completions) × Refused ranges Poll error old new

abbrev pub CommandGives : RangeTable → IoCommand → Result (Unit {0}) DriveError → List Completion → List Completion → SessionState → SessionState → Type 0
CommandGives ranges (Submit owner batch) (Ok done) completions more old new =
    (more ≡ completions) × SubmitGives ranges owner batch.items (Ok done) old new
CommandGives ranges (Submit owner batch) (Err error) completions more old new =
    (more ≡ completions) × Refused ranges (Submit owner batch) error old new
CommandGives ranges Poll result completions more old new = PollCommandGives ranges result completions more old new

-- ---- the commands that succeeded

-- the completion is that of a wanted fetch, and its bytes are those of the fetch's range
abbrev pub IsCompletionOf : Option (List ℕ) → Completion → Wanted → Type 0
IsCompletionOf file completion fetch =
    (completion.owner ≡ fetch.owner) × (completion.request ≡ fetch.request) × IsSegment file fetch.at completion.bytes.items

-- Each command did what its call does, one after the other: the completions are theirs, in order, and the state
-- behind one is that before the next.
abbrev pub EachGives : RangeTable → List IoCommand → List Completion → SessionState → SessionState → Type 0
EachGives ranges [] completions old new = (completions ≡ []) × (new ≡ old)
EachGives ranges (command ∷ commands) completions old new =
    (first : List Completion) × (rest : List Completion) × (middle : SessionState) × (completions ≡ first ++ rest)
    × CommandGives ranges command (Ok tt) [] first old middle × EachGives ranges commands rest middle new

-- The commands were done.
pub record DidCommands (ranges : RangeTable) (commands : List IoCommand) (completions : List Completion) (old new : SessionState) : Type 0 where
  pub each : EachGives ranges commands completions old new
  -- the machine ran over their requests, and the source was asked for exactly the reads that it starts
  pub did : Did ranges (requests_of commands) (length completions) old new
  -- each completion is that of a submitted fetch, with its bytes
  pub named : All (λ completion. Any (IsCompletionOf old.source.file completion) (fetches_in commands)) completions
  -- each submitted fetch is in flight or completed, and none is so twice
  pub balance : (owner request : ℕ) →
      times_completed owner request completions + times_in_flight owner request new.table.fetches ≡ times_wanted owner request (fetches_in commands)
  -- each fetch in flight was submitted
  pub submitted : All (IsAmong (fetches_in commands)) new.table.fetches
  -- where no poll found nothing, each poll with a fetch in flight completed one
  pub counted : new.source.idle ≡ old.source.idle → old.source.idle < 2 ^ 64 - 1 → length completions ≡ completions_due 0 commands
  pub file : new.source.file ≡ old.source.file
  pub faults : new.source.faults ≡ old.source.faults
  pub idle : old.source.idle ≤ new.source.idle

-- ---- the end
-- no command is left, or the next one was refused
abbrev pub EndsWith : RangeTable → List IoCommand → Option DriveError → SessionState → SessionState → Type 0
EndsWith ranges [] None old new = new ≡ old
EndsWith ranges (command ∷ commands) (Some error) old new = Refused ranges command error old new
EndsWith ranges [] (Some error) old new = ⊥
EndsWith ranges (command ∷ commands) None old new = ⊥

-- ---- the whole list

pub record Drives (ranges : RangeTable) (commands : List IoCommand) (driven : Driven) (old new : SessionState) : Type 0 where
  pub within : driven.done ≤ length commands
  -- no fetch is completed twice
  pub once : (owner request : ℕ) → times_completed owner request driven.completions.items ≤ 1
  -- the state behind the commands that succeeded
  pub between : SessionState
  pub did : DidCommands ranges (take driven.done commands) driven.completions.items old between
  pub ends : EndsWith ranges (drop driven.done commands) driven.error between new
  -- what is in flight at the source is exactly what the table has
  pub in_flight : HasWhatIsInFlight new
