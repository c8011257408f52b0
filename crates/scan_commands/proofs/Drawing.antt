-- What each way through a run that draws a plan ends in.
use Rattle.std.proofs.Common.{◌≡◌, ℕ, suc, ◌<◌, ◌≤◌, ◌⊎◌, List, length, Option, Some, None, Result, Ok, Err, refl, sym, subst, inl, inr, arith}
use Rattle.std.specs.Prelude.{IfSome, ⊤}
use Rattle.scan_request.specs.RequestForms.{Asked, requested, IsRequest, HasBadLayout, HasBadProjection}
use Rattle.scan_request.proofs.OneRequest.{has_good_layout, has_good_projection}
use Rattle.scan_output.specs.Writing.{WritingGives}
use Rattle.vx_base.specs.Sources.{Rose}
use Rattle.vx_base.specs.Streams.{ReadState, WriteState}
use Rattle.vx_base.specs.declared.outside.StreamError.{StreamError}
use Rattle.vx_base.specs.declared.outside.StreamError.TheVariants as stream
use Rattle.scan_commands.specs.declared.endings.Ending.{Ending}
use Rattle.scan_commands.specs.declared.endings.Ending.TheVariants.{Done, RequestTooLarge, BadRequest, BadLayout, BadProjection, ScanFailed, NotReadable, ReadFailed, WriteFault, RequestFault, OutOfMemory}
use Rattle.scan_commands.specs.LentRequests.{EndsAtOnce}
use Rattle.scan_commands.specs.LentStreams.{LentStreams, ReadsRequest}
use Rattle.scan_commands.specs.Endings.{status_of, writing_ending}
use Rattle.scan_commands.specs.PlanRuns.{Draws, IsPlanComplete, IsTextOfPlan, ServesPlan}
use Rattle.scan_input.specs.Reading.{most_bytes, ReadsPieces}
use Rattle.scan_commands.proofs.LentRequests.{lent_streams}
use Rattle.scan_input.proofs.Pieces.{few_in_all}
use Rattle.scan_commands.proofs.Serving.{large_told, not_both, told_bytes, well_known}

-- there is no request
pub draws_at_once : (ending : Ending) (before after : LentStreams) → EndsAtOnce ending before after → Draws ending before after
draws_at_once RequestTooLarge before after ends = ends
draws_at_once BadRequest before after ends = ends
draws_at_once (BadLayout node rule) before after ends = ends
draws_at_once BadProjection before after ends = ends
draws_at_once RequestFault before after ends = ends
draws_at_once OutOfMemory before after ends = inl ends
draws_at_once Done before after ends = absurd ends
draws_at_once (ScanFailed error) before after ends = absurd ends
draws_at_once NotReadable before after ends = absurd ends
draws_at_once (ReadFailed error) before after ends = absurd ends
draws_at_once WriteFault before after ends = absurd ends

-- there is no memory for the text
pub lacks_text : (asked : Asked) (old new : ReadState) (sink : WriteState) → ReadsRequest asked old new → Draws OutOfMemory (lent_streams old sink) (lent_streams new sink)
lacks_text asked old new sink reads = inl (record { few = few_in_all reads.bytes old new reads.reads; faults = reads.reads.faults; sink = refl })

-- the text was written, or as much of it as could be
pub text_ends : (ending : Ending) (written : Result ⊤ StreamError) (asked : Asked) (text lines : List ℕ) (old new : ReadState) (sink sink_after : WriteState) → ending ≡ writing_ending written → lines ≡ text → ReadsRequest asked old new → IsTextOfPlan asked text → WritingGives written lines sink sink_after
    → Draws ending (lent_streams old sink) (lent_streams new sink_after)
text_ends ending written asked text lines old new sink sink_after ends same reads is wrote =
    subst (λ (e : Ending). Draws e (lent_streams old sink) (lent_streams new sink_after)) (sym ends) (by written (subst (λ (t : List ℕ). WritingGives written t sink sink_after) same wrote))
  where
    by : (written : Result ⊤ StreamError) → WritingGives written text sink sink_after → Draws (writing_ending written) (lent_streams old sink) (lent_streams new sink_after)
    by (Ok done) wrote = record { asked = asked; reads = reads; text = text; is = is; written = wrote.0; faults = wrote.1 }
    by (Err stream.Failed) wrote = record { drawn = record { asked = asked; reads = reads; text = text; is = is; front = wrote.0 }; rose = wrote.1 }
    by (Err stream.Memory) wrote = inr (record { asked = asked; reads = reads; text = text; is = is; front = wrote.0 }, reads.reads.faults, wrote.1)

-- ---- completeness

draws_well : (ending : Ending) (bytes : List ℕ) (before after : LentStreams) → before.request.rest ≡ Some bytes → Draws ending before after → (length bytes < suc most_bytes) → (asked : Asked) → IsRequest bytes asked
    → (Rose before.request.faults after.request.faults → ⊥) → (Rose before.sink.faults after.sink.faults → ⊥) → (ending ≡ Done) ⊎ (ending ≡ OutOfMemory)
draws_well Done bytes before after told draws few asked is request sink = inl refl
draws_well OutOfMemory bytes before after told draws few asked is request sink = inr refl
draws_well RequestTooLarge bytes before after told draws few asked is request sink =
    let more : most_bytes < length bytes = large_told bytes before.request.rest told draws.large.told in
    absurd (omega (arith, more, few))
draws_well BadRequest bytes before after told draws few asked is request sink = absurd (not_both bytes asked is (told_bytes (λ b. requested b ≡ None) bytes before.request after.request told draws.reads))
draws_well (BadLayout node rule) bytes before after told draws few asked is request sink =
    absurd (has_good_layout bytes asked node rule is (told_bytes (λ b. HasBadLayout b node rule) bytes before.request after.request told draws.reads))
draws_well BadProjection bytes before after told draws few asked is request sink =
    absurd (has_good_projection bytes asked draws.error is (told_bytes (λ b. HasBadProjection b draws.error) bytes before.request after.request told draws.reads))
draws_well (ScanFailed error) bytes before after told draws few asked is request sink = absurd draws
draws_well NotReadable bytes before after told draws few asked is request sink = absurd draws
draws_well (ReadFailed error) bytes before after told draws few asked is request sink = absurd draws
draws_well WriteFault bytes before after told draws few asked is request sink = absurd (sink draws.rose)
draws_well RequestFault bytes before after told draws few asked is request sink = absurd (request draws.rose)

pub draws_complete : (status : ℕ) (before after : LentStreams) → ServesPlan status before after → IsPlanComplete status before after
draws_complete status before after serves = by before.request.rest refl
  where
    by : (rest : Option (List ℕ)) → before.request.rest ≡ rest → IfSome rest (λ bytes. (length bytes ≤ most_bytes) × ((asked : Asked) × IsRequest bytes asked)
        → (Rose before.request.faults after.request.faults → ⊥) → (Rose before.sink.faults after.sink.faults → ⊥) → (status ≡ 0) ⊎ (status ≡ 70))
    by None told = tt
    by (Some bytes) told = λ valid request sink.
        let few = valid.0 in
        well_known status serves.ending serves.is (draws_well serves.ending bytes before after told serves.draws (omega (arith, few)) valid.1.0 valid.1.1 request sink)

-- a run that ends so has the status of its ending
pub draws_so : (status : ℕ) (ending : Ending) (before after : LentStreams) → status ≡ status_of ending → ReadsPieces before.request after.request → Draws ending before after → ServesPlan status before after
draws_so status ending before after is pieces draws = record { ending = ending; is = is; draws = draws; pieces = pieces }
