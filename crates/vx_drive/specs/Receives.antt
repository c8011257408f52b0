-- What waiting for a fetch and handing its bytes to an adaptor does.
use Rattle.std.specs.Prelude.{◌≡◌, ℕ, Result, Ok, Err}
use Rattle.vx_io.specs.declared.requests.Completion.{Completion}
use Rattle.vx_io.specs.Session.{SessionState}
use Rattle.vx_io.specs.Fetches.{FetchEnded}
use Rattle.vx_drive.specs.declared.errors.ScanError.{ScanError}
use Rattle.vx_drive.specs.AdaptorData.{AdaptorData, IsOutstanding}
use Rattle.vx_drive.specs.Computes.{TakesResult}
use Rattle.vx_drive.specs.Waits.{Completed, WaitFails}

-- a fetch of the session is for a read of the adaptor that is outstanding
abbrev pub AreOutstanding : AdaptorData → SessionState → Type 0
AreOutstanding adaptor state =
    (completion : Completion) (later : SessionState) → FetchEnded completion state later → IsOutstanding adaptor completion.request.0

-- One fetch ended, and its read has its bytes.
pub record Received (adaptor next : AdaptorData) (old new : SessionState) : Type 0 where
  pub completion : Completion
  pub done : Completed completion old new
  pub takes : TakesResult completion.request.0 completion.bytes.items adaptor next

abbrev pub ReceiveGives : ℕ → Result (Unit {0}) ScanError → AdaptorData → AdaptorData → SessionState → SessionState → Type 0
ReceiveGives limit (Ok done) adaptor next old new = Received adaptor next old new
ReceiveGives limit (Err error) adaptor next old new = WaitFails limit error old.source new.source × (next ≡ adaptor)
