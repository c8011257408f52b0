-- What each way through a run that reads ends in.
use Rattle.std.proofs.Common.{◌≡◌, ℕ, ◌<◌, ◌⊎◌, List, [], ◌∷◌, ◌++◌, length, map, take, Option, Some, None, option_map, Result, Ok, Err, refl, sym, subst, inl, inr, arith}
use Rattle.std.specs.Prelude.{slice_index_or, slice_set, IfSome, ⊤}
use Rattle.std.specs.Global.{Vec}
use Rattle.vx_base.specs.Columns.{ColumnData}
use Rattle.vx_base.specs.Sources.{SourceState, Rose}
use Rattle.vx_base.specs.Streams.{ReadState, WriteState}
use Rattle.vx_base.specs.declared.outside.StreamError.{StreamError}
use Rattle.vx_base.specs.declared.outside.StreamError.TheVariants as stream
use Rattle.vx_layout.specs.Shape.{IsGoodTree}
use Rattle.vx_scan.specs.Plans.{IsQuiet, WhereTold}
use Rattle.scan_input.specs.Reading.{most_bytes, ReadsPieces}
use Rattle.scan_output.specs.RowWriting.{batch_lines}
use Rattle.scan_output.specs.Writing.{WritingGives}
use Rattle.scan_request.specs.RequestForms.{Asked, requested, IsRequest, HasBadLayout, HasBadProjection}
use Rattle.scan_request.proofs.OneRequest.{same_request, has_good_layout, has_good_projection}
use Rattle.scan_commands.specs.declared.endings.Ending.{Ending}
use Rattle.scan_commands.specs.declared.endings.Ending.TheVariants.{Done, RequestTooLarge, BadRequest, BadLayout, BadProjection, ScanFailed, NotReadable, ReadFailed, WriteFault, RequestFault, OutOfMemory}
use Rattle.scan_commands.specs.Commanded.{ReadsBy, ReadsFirst}
use Rattle.scan_commands.specs.Endings.{status_of, writing_ending}
use Rattle.scan_commands.specs.LentRequests.{EndsAtOnce}
use Rattle.scan_commands.specs.LentStreams.{ReadsRequest}
use Rattle.scan_commands.specs.ReadRuns.{LentRead, IsReadComplete, IsValidRead, IsValidToRead, Reads, ReadsFor, ServesRead, WritesFrontOfRows}
use Rattle.scan_commands.specs.Reads.{NoRows, RowsGive}
use Rattle.scan_commands.proofs.LentRequests.{lent_streams}
use Rattle.scan_commands.proofs.ReadValid.{read_invalid}
use Rattle.scan_commands.proofs.Serving.{large_told, lent_io, not_both, told_bytes, well_known}

abbrev pub lent_read : ReadState → SourceState → WriteState → LentRead
lent_read request source sink = record { request = request; source = source; sink = sink }

-- there is no request
pub reads_at_once : (limit : ℕ) (ending : Ending) (old new : ReadState) (sink : WriteState) (source : SourceState) → EndsAtOnce ending (lent_streams old sink) (lent_streams new sink) → Reads limit ending (lent_read old source sink) (lent_read new source sink)
reads_at_once limit RequestTooLarge old new sink source ends = (ends, refl)
reads_at_once limit BadRequest old new sink source ends = (ends, refl)
reads_at_once limit (BadLayout node rule) old new sink source ends = (ends, refl)
reads_at_once limit BadProjection old new sink source ends = (ends, refl)
reads_at_once limit RequestFault old new sink source ends = (ends, refl)
reads_at_once limit OutOfMemory old new sink source ends = inl (ends, refl)
reads_at_once limit Done old new sink source ends = absurd ends
reads_at_once limit (ScanFailed error) old new sink source ends = absurd ends
reads_at_once limit NotReadable old new sink source ends = absurd ends
reads_at_once limit (ReadFailed error) old new sink source ends = absurd ends
reads_at_once limit WriteFault old new sink source ends = absurd ends

-- there are no rows
pub ends_without_rows : (limit : ℕ) (ending : Ending) (asked : Asked) (old new : ReadState) (sink : WriteState) (before after : SourceState) → ReadsRequest asked old new → NoRows limit ending asked before after → Reads limit ending (lent_read old before sink) (lent_read new after sink)
ends_without_rows limit NotReadable asked old new sink before after reads none = record { asked = asked; reads = reads; unreadable = none.0; source = none.1; sink = refl }
ends_without_rows limit (ReadFailed error) asked old new sink before after reads none = record { asked = asked; begun = record { reads = reads; readable = none.0; asks = none.1 }; cause = none.2; sink = refl }
ends_without_rows limit OutOfMemory asked old new sink before after reads none = inr (asked, record { begun = record { reads = reads; readable = none.0; asks = none.1 }; written = inl refl; faults = refl })
ends_without_rows limit Done asked old new sink before after reads none = absurd none
ends_without_rows limit RequestTooLarge asked old new sink before after reads none = absurd none
ends_without_rows limit BadRequest asked old new sink before after reads none = absurd none
ends_without_rows limit (BadLayout node rule) asked old new sink before after reads none = absurd none
ends_without_rows limit BadProjection asked old new sink before after reads none = absurd none
ends_without_rows limit (ScanFailed error) asked old new sink before after reads none = absurd none
ends_without_rows limit WriteFault asked old new sink before after reads none = absurd none
ends_without_rows limit RequestFault asked old new sink before after reads none = absurd none

-- the lines of the columns were written, or as many as could be
pub columns_end : (limit : ℕ) (ending : Ending) (written : Result ⊤ StreamError) (asked : Asked) (columns : Vec ColumnData) (text : List ℕ) (old new : ReadState) (sink sink_after : WriteState) (before after : SourceState) → ending ≡ writing_ending written → text ≡ batch_lines columns.items → ReadsRequest asked old new
    → RowsGive limit asked (Ok columns) before after → WritingGives written text sink sink_after → Reads limit ending (lent_read old before sink) (lent_read new after sink_after)
columns_end limit ending written asked columns text old new sink sink_after before after ends same reads given wrote =
    subst (λ (e : Ending). Reads limit e (lent_read old before sink) (lent_read new after sink_after)) (sym ends) (by written (subst (λ (t : List ℕ). WritingGives written t sink sink_after) same wrote))
  where
    begun : ReadsFor asked (lent_read old before sink) (lent_read new after sink_after)
    begun = record { reads = reads; readable = given.0; asks = given.1 }

    front : (count : ℕ) → sink_after.written ≡ option_map (λ (w : List ℕ). w ++ take count (batch_lines columns.items)) sink.written → WritesFrontOfRows asked (lent_read old before sink) (lent_read new after sink_after)
    front count is = λ file told. (batch_lines columns.items, given.2 file told, (count, is))

    by : (written : Result ⊤ StreamError) → WritingGives written (batch_lines columns.items) sink sink_after → Reads limit (writing_ending written) (lent_read old before sink) (lent_read new after sink_after)
    by (Ok done) wrote = record { asked = asked; begun = begun; writes = record { text = λ file told. (batch_lines columns.items, given.2 file told, wrote.0); faults = wrote.1 } }
    by (Err stream.Failed) wrote = record { asked = asked; begun = begun; front = front wrote.0.0 wrote.0.1; rose = wrote.1 }
    by (Err stream.Memory) wrote = inr (asked, record { begun = begun; written = inr (front wrote.0.0 wrote.0.1); faults = wrote.1 })

-- ---- completeness

-- the request that was read is the one that the bytes are
valid_asked : (bytes file : List ℕ) (asked : Asked) (before after : LentRead) → before.request.rest ≡ Some bytes → ReadsRequest asked before.request after.request → IsValidToRead bytes file → IsValidRead file asked
valid_asked bytes file asked before after told reads valid =
    let is : IsRequest bytes asked = told_bytes (λ b. IsRequest b asked) bytes before.request after.request told reads in
    subst (λ (a : Asked). IsValidRead file a) (same_request bytes valid.1.0 asked valid.1.1 is) valid.1.2

-- its nodes are a layout tree
good_asked : (bytes : List ℕ) (asked : Asked) (before after : LentRead) → before.request.rest ≡ Some bytes → ReadsRequest asked before.request after.request → IsGoodTree asked.nodes
good_asked bytes asked before after told reads =
    let is : IsRequest bytes asked = told_bytes (λ b. IsRequest b asked) bytes before.request after.request told reads in
    is.good

reads_well : (limit : ℕ) (ending : Ending) (bytes file : List ℕ) (before after : LentRead) → before.request.rest ≡ Some bytes → before.source.file ≡ Some file → Reads limit ending before after → IsValidToRead bytes file
    → (Rose before.request.faults after.request.faults → ⊥) → IsQuiet limit before.source after.source → (Rose before.sink.faults after.sink.faults → ⊥) → (ending ≡ Done) ⊎ (ending ≡ OutOfMemory)
reads_well limit Done bytes file before after told file_told ends valid request quiet sink = inl refl
reads_well limit OutOfMemory bytes file before after told file_told ends valid request quiet sink = inr refl
reads_well limit RequestTooLarge bytes file before after told file_told ends valid request quiet sink =
    let more : most_bytes < length bytes = large_told bytes before.request.rest told ends.0.large.told in
    absurd (omega (arith, more, valid.0))
reads_well limit BadRequest bytes file before after told file_told ends valid request quiet sink =
    absurd (not_both bytes valid.1.0 valid.1.1 (told_bytes (λ b. requested b ≡ None) bytes before.request after.request told ends.0.reads))
reads_well limit (BadLayout node rule) bytes file before after told file_told ends valid request quiet sink =
    absurd (has_good_layout bytes valid.1.0 node rule valid.1.1 (told_bytes (λ b. HasBadLayout b node rule) bytes before.request after.request told ends.0.reads))
reads_well limit BadProjection bytes file before after told file_told ends valid request quiet sink =
    absurd (has_good_projection bytes valid.1.0 ends.0.error valid.1.1 (told_bytes (λ b. HasBadProjection b ends.0.error) bytes before.request after.request told ends.0.reads))
reads_well limit (ScanFailed error) bytes file before after told file_told ends valid request quiet sink = absurd ends
reads_well limit NotReadable bytes file before after told file_told ends valid request quiet sink =
    let known : IsValidRead file ends.asked = valid_asked bytes file ends.asked before after told ends.reads valid in
    absurd (ends.unreadable known.readable)
reads_well limit (ReadFailed error) bytes file before after told file_told ends valid request quiet sink =
    let known : IsValidRead file ends.asked = valid_asked bytes file ends.asked before after told ends.begun.reads valid in
    absurd (read_invalid limit ends.asked file error before.source after.source file_told (good_asked bytes ends.asked before after told ends.begun.reads) known quiet ends.cause)
reads_well limit WriteFault bytes file before after told file_told ends valid request quiet sink = absurd (sink ends.rose)
reads_well limit RequestFault bytes file before after told file_told ends valid request quiet sink = absurd (request ends.0.rose)

pub reads_complete : (limit status : ℕ) (before after : LentRead) → ServesRead limit status before after → IsReadComplete limit status before after
reads_complete limit status before after serves = by before.request.rest refl
  where
    by : (rest : Option (List ℕ)) → before.request.rest ≡ rest → IfSome rest (λ bytes. WhereTold before.source (λ file. IsValidToRead bytes file
        → (Rose before.request.faults after.request.faults → ⊥) → IsQuiet limit before.source after.source → (Rose before.sink.faults after.sink.faults → ⊥) → (status ≡ 0) ⊎ (status ≡ 70)))
    by None told = tt
    by (Some bytes) told = λ file file_told valid request quiet sink. well_known status serves.ending serves.is (reads_well limit serves.ending bytes file before after told file_told serves.reads valid request quiet sink)

-- ---- the first of the sources

-- a run over a source that ends so
pub reads_by : (limit status : ℕ) (ending : Ending) (before after : LentRead) → status ≡ status_of ending → ReadsPieces before.request after.request → Reads limit ending before after → ReadsBy limit status before after
reads_by limit status ending before after is pieces reads =
    let serves : ServesRead limit status before after = record { ending = ending; is = is; reads = reads; pieces = pieces } in
    record { serves = serves; complete = reads_complete limit status before after serves }

pub reads_first : {S : Type 0} (f : S → SourceState) (limit status : ℕ) (ending : Ending) (old new : ReadState) (sink sink_after : WriteState) (xs : List S) (first source : S) → 0 < length xs → status ≡ status_of ending → ReadsPieces old new
    → Reads limit ending (lent_read old (f (slice_index_or xs 0 first)) sink) (lent_read new (f source) sink_after) → ReadsFirst limit status (lent_io old (map f xs) sink) (lent_io new (map f (slice_set xs 0 source)) sink_after)
reads_first {S} f limit status ending old new sink sink_after [] first source some is pieces reads = absurd (omega (arith, some))
reads_first {S} f limit status ending old new sink sink_after (x ∷ xs) first source some is pieces reads =
    (reads_by limit status ending (lent_read old (f x) sink) (lent_read new (f source) sink_after) is pieces reads, refl)
