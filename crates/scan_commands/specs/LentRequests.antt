-- The request that a run is lent, read and understood, or how the run ends without one.
use Rattle.std.specs.Prelude.{Result, Ok, Err}
use Rattle.vx_base.specs.Streams.{ReadState, WriteState}
use Rattle.scan_request.specs.RequestViews.{asked_of}
use Rattle.scan_request.specs.declared.request_forms.Request.{Request}
use Rattle.scan_commands.specs.declared.endings.Ending.{Ending}
use Rattle.scan_commands.specs.declared.endings.Ending.TheVariants.{RequestTooLarge, BadRequest, BadLayout, BadProjection, RequestFault, OutOfMemory}
use Rattle.scan_commands.specs.LentStreams.{LentStreams, ReadsRequest, IsTooLarge, IsBadRequest, IsBadLayout, IsBadProjection, FailsToRead, RunsOutAtOnce}

-- A run ended so that has no request, and wrote nothing.
abbrev pub EndsAtOnce : Ending → LentStreams → LentStreams → Type 0
EndsAtOnce RequestTooLarge before after = IsTooLarge before after
EndsAtOnce BadRequest before after = IsBadRequest before after
EndsAtOnce (BadLayout node rule) before after = IsBadLayout node rule before after
EndsAtOnce BadProjection before after = IsBadProjection before after
EndsAtOnce RequestFault before after = FailsToRead before after
EndsAtOnce OutOfMemory before after = RunsOutAtOnce before after
EndsAtOnce ending before after = ⊥

-- The request that the bytes are, or how a run ends without one, whatever it would write to.
abbrev pub RequestGives : Result Request Ending → ReadState → ReadState → Type 0
RequestGives (Ok request) old new = ReadsRequest (asked_of request) old new
RequestGives (Err ending) old new = (sink : WriteState) → EndsAtOnce ending (record { request = old; sink = sink }) (record { request = new; sink = sink })
