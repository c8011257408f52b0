-- What a run promises that writes the plan of a request, by its ending.
use Rattle.std.specs.Prelude.{◌≡◌, ℕ, ◌≤◌, ◌⊎◌, ◌++◌, List, length, IfSome, option_map}
use Rattle.vx_base.specs.Sources.{Rose}
use Rattle.vx_scan.specs.PlanTexts.{projection_of, IsPlanText}
use Rattle.scan_request.specs.RequestForms.{Asked, IsRequest}
use Rattle.scan_output.specs.Writing.{WritesFront}
use Rattle.scan_commands.specs.declared.endings.Ending.{Ending}
use Rattle.scan_commands.specs.declared.endings.Ending.TheVariants.{Done, RequestTooLarge, BadRequest, BadLayout, BadProjection, ScanFailed, NotReadable, ReadFailed, WriteFault, RequestFault, OutOfMemory}
use Rattle.scan_commands.specs.LentStreams.{LentStreams, ReadsRequest, IsTooLarge, IsBadRequest, IsBadLayout, IsBadProjection, FailsToRead, RunsOutAtOnce}
use Rattle.scan_commands.specs.Endings.{status_of}
use Rattle.scan_input.specs.Reading.{most_bytes, ReadsPieces}
use Rattle.scan_commands.specs.Statuses.{done_status, memory_status}

-- the text is that of the plan that the request's scan would run
abbrev pub IsTextOfPlan : Asked → List ℕ → Type 0
IsTextOfPlan asked text = IsPlanText (projection_of asked.nodes asked.projection) text

-- ---- by the ending

-- the plan was written
pub record IsDrawn (before after : LentStreams) : Type 0 where
  pub asked : Asked
  pub reads : ReadsRequest asked before.request after.request
  pub text : List ℕ
  pub is : IsTextOfPlan asked text
  pub written : after.sink.written ≡ option_map (λ written. written ++ text) before.sink.written
  pub faults : after.sink.faults ≡ before.sink.faults

-- a front of the plan's text was written
pub record DrawsFront (before after : LentStreams) : Type 0 where
  pub asked : Asked
  pub reads : ReadsRequest asked before.request after.request
  pub text : List ℕ
  pub is : IsTextOfPlan asked text
  pub front : WritesFront text before.sink after.sink

-- the sink failed behind it
pub record FailsToDraw (before after : LentStreams) : Type 0 where
  pub drawn : DrawsFront before after
  pub rose : Rose before.sink.faults after.sink.faults

-- memory ran out before anything was written, or behind a front of the text
abbrev pub LacksDrawing : LentStreams → LentStreams → Type 0
LacksDrawing before after =
    RunsOutAtOnce before after
    ⊎ (DrawsFront before after × (after.request.faults ≡ before.request.faults) × (after.sink.faults ≡ before.sink.faults))

abbrev pub Draws : Ending → LentStreams → LentStreams → Type 0
Draws Done before after = IsDrawn before after
Draws RequestTooLarge before after = IsTooLarge before after
Draws BadRequest before after = IsBadRequest before after
Draws (BadLayout node rule) before after = IsBadLayout node rule before after
Draws BadProjection before after = IsBadProjection before after
Draws (ScanFailed error) before after = ⊥
Draws NotReadable before after = ⊥
Draws (ReadFailed error) before after = ⊥
Draws WriteFault before after = FailsToDraw before after
Draws RequestFault before after = FailsToRead before after
Draws OutOfMemory before after = LacksDrawing before after

-- The status is that of an ending, and the run ended so. At most 16777217 pieces of the request were read.
pub record ServesPlan (status : ℕ) (before after : LentStreams) : Type 0 where
  pub ending : Ending
  pub is : status ≡ status_of ending
  pub draws : Draws ending before after
  pub pieces : ReadsPieces before.request after.request

-- ---- completeness

-- A request of at most 16777216 bytes is drawn, or memory runs out, where neither it nor the sink fails.
abbrev pub IsPlanComplete : ℕ → LentStreams → LentStreams → Type 0
IsPlanComplete status before after = IfSome before.request.rest (λ bytes.
    (length bytes ≤ most_bytes) × ((asked : Asked) × IsRequest bytes asked)
    → (Rose before.request.faults after.request.faults → ⊥) → (Rose before.sink.faults after.sink.faults → ⊥)
    → (status ≡ done_status) ⊎ (status ≡ memory_status))
