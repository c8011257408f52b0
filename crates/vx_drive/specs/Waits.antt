-- What the helpers of a run do to a session and its source.
use Rattle.std.specs.Prelude.{◌≡◌, ℕ, ◌≤◌, List, Result, Ok, Err}
use Rattle.vx_io.specs.declared.requests.Completion.{Completion}
use Rattle.vx_io.specs.declared.requests.IoOwnerId.{IoOwnerId}
use Rattle.vx_io.specs.declared.requests.IoRequest.{IoRequest}
use Rattle.vx_io.specs.Session.{SessionState}
use Rattle.vx_io.specs.Submits.{Stays}
use Rattle.vx_io.specs.Polls.{KeepsAsks}
use Rattle.vx_io.specs.Fetches.{Fetched, FetchedSome, FetchEnded}
use Rattle.vx_drive.specs.declared.errors.ScanError.{ScanError}
use Rattle.vx_drive.specs.declared.errors.ScanError.TheVariants.{ReadFault, Stalled, Memory}
use Rattle.vx_base.specs.Sources.{SourceState, Rose, RoseBy}

-- the owner of all fetches of a run
abbrev pub owner : IoOwnerId
owner = record { 0 = 0 }

-- ---- a batch

-- It is in flight, or the first of its fetches were asked for and no other.
abbrev pub SendGives : List IoRequest → Result (Unit {0}) ScanError → SessionState → SessionState → Type 0
SendGives batch (Ok done) old new =
    Fetched owner batch old new × Stays old.source new.source × (new.source.faults ≡ old.source.faults)
SendGives batch (Err ReadFault) old new =
    FetchedSome batch old new × Stays old.source new.source × Rose old.source.faults new.source.faults
SendGives batch (Err Memory) old new =
    FetchedSome batch old new × Stays old.source new.source × (new.source.faults ≡ old.source.faults)
SendGives batch (Err error) old new = ⊥

-- ---- the next completion

-- One fetch ended with its bytes.
pub record Completed (completion : Completion) (old new : SessionState) : Type 0 where
  pub ended : FetchEnded completion old new
  pub keeps : KeepsAsks old.source new.source
  pub faults : new.source.faults ≡ old.source.faults
  pub idle : old.source.idle ≤ new.source.idle

-- No fetch ended with its bytes.
abbrev pub WaitFails : ℕ → ScanError → SourceState → SourceState → Type 0
WaitFails limit ReadFault before after = KeepsAsks before after × Rose before.faults after.faults × (before.idle ≤ after.idle)
WaitFails limit Stalled before after = KeepsAsks before after × (after.faults ≡ before.faults) × RoseBy limit before.idle after.idle
WaitFails limit Memory before after = KeepsAsks before after × (after.faults ≡ before.faults) × (before.idle ≤ after.idle)
WaitFails limit error before after = ⊥

abbrev pub WaitGives : ℕ → Result Completion ScanError → SessionState → SessionState → Type 0
WaitGives limit (Ok completion) old new = Completed completion old new
WaitGives limit (Err error) old new = WaitFails limit error old.source new.source
