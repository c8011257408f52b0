-- What each way through a run ends in.
use Rattle.std.proofs.Common.{◌≡◌, ℕ, ◌<◌, ◌⊎◌, List, [], ◌++◌, length, map, take, drop, Option, Some, None, option_map, Result, Ok, Err, refl, sym, ap, ◌∙◌, subst, inl, inr, arith}
use Rattle.std.specs.Prelude.{IfSome, ⊤}
use Rattle.std.specs.Global.{Vec}
use Rattle.std.proofs.Math.Seq.{drop-append_seam, take-append_seam}
use Rattle.std.proofs.lemmas.List.{drop-map, take-map}
use Rattle.std.proofs.lemmas.Option.{same_Some}
use Rattle.vx_base.specs.Columns.{ColumnData}
use Rattle.vx_base.specs.Sources.{SourceState, Rose}
use Rattle.vx_base.specs.Streams.{ReadState, WriteState}
use Rattle.vx_base.specs.declared.outside.StreamError.{StreamError}
use Rattle.vx_base.specs.declared.outside.StreamError.TheVariants as stream
use Rattle.vx_layout.specs.Rows.{file_leaves}
use Rattle.vx_scan.specs.declared.errors.ScanError.{ScanError}
use Rattle.vx_scan.specs.declared.errors.ScanError.TheVariants as scan
use Rattle.vx_scan.specs.Admission.{Refuses}
use Rattle.vx_scan.specs.Lent.{AllTell, EachSource, WhereAllTell}
use Rattle.vx_scan.specs.Plans.{IsQuiet}
use Rattle.vx_scan.specs.Scanned.{LowestCause}
use Rattle.vx_scan.specs.Valid.{IsValidScan}
use Rattle.vx_scan.proofs.ScanValid.{no_lowest, valid_begins}
use Rattle.scan_request.specs.RequestForms.{Asked, requested, IsRequest, HasBadLayout, HasBadProjection}
use Rattle.scan_request.proofs.OneRequest.{same_request, projection_is_bound, has_good_layout, has_good_projection}
use Rattle.scan_output.specs.RowWriting.{batch_lines}
use Rattle.scan_output.specs.Writing.{WritingGives}
use Rattle.scan_commands.specs.declared.endings.Ending.{Ending}
use Rattle.scan_commands.specs.declared.endings.Ending.TheVariants.{Done, RequestTooLarge, BadRequest, BadLayout, BadProjection, ScanFailed, NotReadable, ReadFailed, WriteFault, RequestFault, OutOfMemory}
use Rattle.scan_commands.specs.LentRequests.{EndsAtOnce}
use Rattle.scan_commands.specs.LentStreams.{ReadsBytes, ReadsRequest}
use Rattle.scan_commands.specs.Endings.{scan_ending, status_of, writing_ending}
use Rattle.scan_input.specs.Reading.{most_bytes, ReadsPieces}
use Rattle.scan_commands.specs.Runs.{LentIo, Asks, WritesFront, Ends, Serves, IsRefused, RefusesScan, FailsToScan, ScanFails, IsValid, IsComplete}
use Rattle.scan_commands.specs.Scans.{scan_of, ScanGives}
use Rattle.scan_commands.proofs.LentRequests.{lent_streams}

abbrev pub lent_io : ReadState → List SourceState → WriteState → LentIo
lent_io request sources sink = record { request = request; sources = sources; sink = sink }

-- ---- the scan

asks_of : (limit : ℕ) → (asked : Asked) (result : Result (Vec ColumnData) ScanError) (old new : ReadState) (befores afters : List SourceState) (sink sink_after : WriteState) → ScanGives limit (scan_of asked) result befores afters → Asks asked (lent_io old befores sink) (lent_io new afters sink_after)
asks_of limit asked result old new befores afters sink sink_after gives = record { gains = gives.answers.asks; lasts = gives.answers.lasts; in_flight = gives.answers.in_flight }

-- why the scan failed, but for want of memory
abbrev WhyScanFailed : (limit : ℕ) → Asked → ScanError → List SourceState → List SourceState → Type 0
WhyScanFailed limit asked error befores afters = Refuses (scan_of asked) error ⊎ LowestCause (scan_of asked) limit error befores afters

cause_of : (limit : ℕ) → (asked : Asked) (error : ScanError) (befores afters : List SourceState) → (error ≡ scan.Memory → ⊥) → (error ≡ scan.Memory) ⊎ WhyScanFailed limit asked error befores afters → WhyScanFailed limit asked error befores afters
cause_of limit asked error befores afters other (inl memory) = absurd (other memory)
cause_of limit asked error befores afters other (inr cause) = cause

-- it was refused before it began
begins_not : (limit : ℕ) → (error : ScanError) (asked : Asked) (old new : ReadState) (befores afters : List SourceState) (sink : WriteState) → (LowestCause (scan_of asked) limit error befores afters → ⊥) → ReadsRequest asked old new → ScanGives limit (scan_of asked) (Err error) befores afters → WhyScanFailed limit asked error befores afters → RefusesScan error (lent_io old befores sink) (lent_io new afters sink)
begins_not limit error asked old new befores afters sink never reads gives (inl refused) = record { asked = asked; reads = reads; cause = refused; sources = (gives.refused error refused).1; sink = refl }
begins_not limit error asked old new befores afters sink never reads gives (inr lowest) = absurd (never lowest)

lowest : (limit : ℕ) → (asked : Asked) (error : ScanError) (befores afters : List SourceState) → (Refuses (scan_of asked) error → ⊥) → WhyScanFailed limit asked error befores afters → LowestCause (scan_of asked) limit error befores afters
lowest limit asked error befores afters never (inl refused) = absurd (never refused)
lowest limit asked error befores afters never (inr cause) = cause

-- a scan with another error isn't refused
fails_begun : (limit : ℕ) (error : ScanError) (asked : Asked) (befores afters : List SourceState) → (error ≡ scan.Memory → ⊥) → (Refuses (scan_of asked) error → ⊥) → ScanGives limit (scan_of asked) (Err error) befores afters → ¬ (IsRefused asked)
fails_begun limit error asked befores afters other never gives (cause, refuses) = by (Err error) refl (gives.refused cause refuses).0
  where
    by : (result : Result (Vec ColumnData) ScanError) → result ≡ Err error → (result ≡ Err cause) ⊎ (result ≡ Err scan.Memory) → ⊥
    by result is (inl same) = let e : cause ≡ error = cc in never (subst (λ (e : ScanError). Refuses (scan_of asked) e) e refuses)
    by result is (inr memory) = let e : error ≡ scan.Memory = cc in other e

-- nor is one with batches
gives_begun : (limit : ℕ) (asked : Asked) (batches : Vec ColumnData) (befores afters : List SourceState) → ScanGives limit (scan_of asked) (Ok batches) befores afters → ¬ (IsRefused asked)
gives_begun limit asked batches befores afters gives (cause, refuses) = by (Ok batches) refl (gives.refused cause refuses).0
  where
    by : (result : Result (Vec ColumnData) ScanError) → result ≡ Ok batches → (result ≡ Err cause) ⊎ (result ≡ Err scan.Memory) → ⊥
    by result is (inl refused) = absurd cc
    by result is (inr memory) = absurd cc

fails : (limit : ℕ) → (error : ScanError) (asked : Asked) (old new : ReadState) (befores afters : List SourceState) (sink : WriteState) → (error ≡ scan.Memory → ⊥) → (Refuses (scan_of asked) error → ⊥) → ReadsRequest asked old new → ScanGives limit (scan_of asked) (Err error) befores afters → FailsToScan limit error (lent_io old befores sink) (lent_io new afters sink)
fails limit error asked old new befores afters sink other never reads gives = record {
  not_memory = other;
  asked = asked;
  reads = reads;
  not_refused = fails_begun limit error asked befores afters other never gives;
  asks = asks_of limit asked (Err error) old new befores afters sink sink gives;
  cause = lowest limit asked error befores afters never (cause_of limit asked error befores afters other gives.answers.cause);
  invalid = λ file told valid quiet. other (gives.answers.complete file told valid quiet);
  sink = refl;
}

scan_failed : (limit : ℕ) → (error : ScanError) (asked : Asked) (old new : ReadState) (befores afters : List SourceState) (sink : WriteState) → ReadsRequest asked old new → ScanGives limit (scan_of asked) (Err error) befores afters → Ends limit (scan_ending error) (lent_io old befores sink) (lent_io new afters sink)
scan_failed limit scan.OutOfRange asked old new befores afters sink reads gives = begins_not limit scan.OutOfRange asked old new befores afters sink (no_lowest (scan_of asked) limit scan.OutOfRange befores afters (λ told rows before after cause. cause)) reads gives (cause_of limit asked scan.OutOfRange befores afters (λ e. absurd cc) gives.answers.cause)
scan_failed limit scan.OffsetOverflow asked old new befores afters sink reads gives = begins_not limit scan.OffsetOverflow asked old new befores afters sink (no_lowest (scan_of asked) limit scan.OffsetOverflow befores afters (λ told rows before after cause. cause)) reads gives (cause_of limit asked scan.OffsetOverflow befores afters (λ e. absurd cc) gives.answers.cause)
scan_failed limit scan.BadProjection asked old new befores afters sink reads gives = fails limit scan.BadProjection asked old new befores afters sink (λ e. absurd cc) (λ unbound. unbound (projection_is_bound reads.bytes asked reads.are)) reads gives
scan_failed limit (scan.Unsupported list) asked old new befores afters sink reads gives = fails limit (scan.Unsupported list) asked old new befores afters sink (λ e. absurd cc) (λ never. never) reads gives
scan_failed limit (scan.NoLocation segment) asked old new befores afters sink reads gives = fails limit (scan.NoLocation segment) asked old new befores afters sink (λ e. absurd cc) (λ never. never) reads gives
scan_failed limit scan.ReadFault asked old new befores afters sink reads gives = fails limit scan.ReadFault asked old new befores afters sink (λ e. absurd cc) (λ never. never) reads gives
scan_failed limit scan.Stalled asked old new befores afters sink reads gives = fails limit scan.Stalled asked old new befores afters sink (λ e. absurd cc) (λ never. never) reads gives
scan_failed limit (scan.BadSegment segment) asked old new befores afters sink reads gives = fails limit (scan.BadSegment segment) asked old new befores afters sink (λ e. absurd cc) (λ never. never) reads gives
scan_failed limit (scan.BadCode take row) asked old new befores afters sink reads gives = fails limit (scan.BadCode take row) asked old new befores afters sink (λ e. absurd cc) (λ never. never) reads gives
scan_failed limit (scan.EvalFault row) asked old new befores afters sink reads gives = fails limit (scan.EvalFault row) asked old new befores afters sink (λ e. absurd cc) (λ never. never) reads gives
scan_failed limit scan.Memory asked old new befores afters sink reads gives = inr (
  asked,
  record {
    reads = reads;
    refused = λ refused. ((gives.refused refused.0 refused.1).1, refl);
    asks = asks_of limit asked (Err scan.Memory) old new befores afters sink sink gives;
    written = inl refl;
    faults = refl;
  },
)

-- ---- the lines

front_of : (limit : ℕ) → (asked : Asked) (batches : Vec ColumnData) (old new : ReadState) (befores afters : List SourceState) (sink sink_after : WriteState) → ScanGives limit (scan_of asked) (Ok batches) befores afters → (count : ℕ) → sink_after.written ≡ option_map (λ (w : List ℕ). w ++ take count (batch_lines batches.items)) sink.written → WritesFront asked (lent_io old befores sink) (lent_io new afters sink_after)
front_of limit asked batches old new befores afters sink sink_after gives count is = λ file told. (batch_lines batches.items, gives.text file told, (count, is))

all_written : (limit : ℕ) → (asked : Asked) (batches : Vec ColumnData) (old new : ReadState) (befores afters : List SourceState) (sink sink_after : WriteState) → ReadsRequest asked old new → ScanGives limit (scan_of asked) (Ok batches) befores afters → WritingGives (Ok tt) (batch_lines batches.items) sink sink_after → Ends limit Done (lent_io old befores sink) (lent_io new afters sink_after)
all_written limit asked batches old new befores afters sink sink_after reads gives written = record {
  asked = asked;
  reads = reads;
  not_refused = gives_begun limit asked batches befores afters gives;
  asks = asks_of limit asked (Ok batches) old new befores afters sink sink_after gives;
  writes = record { text = λ file told. (batch_lines batches.items, gives.text file told, written.0); faults = written.1 };
}

not_written : (limit : ℕ) → (asked : Asked) (batches : Vec ColumnData) (old new : ReadState) (befores afters : List SourceState) (sink sink_after : WriteState) → ReadsRequest asked old new → ScanGives limit (scan_of asked) (Ok batches) befores afters → WritingGives (Err stream.Failed) (batch_lines batches.items) sink sink_after → Ends limit WriteFault (lent_io old befores sink) (lent_io new afters sink_after)
not_written limit asked batches old new befores afters sink sink_after reads gives ((count, is), rose) = record {
  asked = asked;
  reads = reads;
  not_refused = gives_begun limit asked batches befores afters gives;
  asks = asks_of limit asked (Ok batches) old new befores afters sink sink_after gives;
  front = front_of limit asked batches old new befores afters sink sink_after gives count is;
  rose = rose;
}

lacks_writing : (limit : ℕ) → (asked : Asked) (batches : Vec ColumnData) (old new : ReadState) (befores afters : List SourceState) (sink sink_after : WriteState) → ReadsRequest asked old new → ScanGives limit (scan_of asked) (Ok batches) befores afters → WritingGives (Err stream.Memory) (batch_lines batches.items) sink sink_after → Ends limit OutOfMemory (lent_io old befores sink) (lent_io new afters sink_after)
lacks_writing limit asked batches old new befores afters sink sink_after reads gives ((count, is), same) = inr (
  asked,
  record {
    reads = reads;
    refused = λ refused. absurd (gives_begun limit asked batches befores afters gives refused);
    asks = asks_of limit asked (Ok batches) old new befores afters sink sink_after gives;
    written = inr (front_of limit asked batches old new befores afters sink sink_after gives count is);
    faults = same;
  },
)

-- ---- by what each call gave

-- there is no request
pub ends_at_once : (limit : ℕ) (ending : Ending) (old new : ReadState) (sink : WriteState) (sources : List SourceState) → EndsAtOnce ending (lent_streams old sink) (lent_streams new sink) → Ends limit ending (lent_io old sources sink) (lent_io new sources sink)
ends_at_once limit RequestTooLarge old new sink sources ends = (ends, refl)
ends_at_once limit BadRequest old new sink sources ends = (ends, refl)
ends_at_once limit (BadLayout node rule) old new sink sources ends = (ends, refl)
ends_at_once limit BadProjection old new sink sources ends = (ends, refl)
ends_at_once limit RequestFault old new sink sources ends = (ends, refl)
ends_at_once limit OutOfMemory old new sink sources ends = inl (ends, refl)
ends_at_once limit Done old new sink sources ends = absurd ends
ends_at_once limit (ScanFailed error) old new sink sources ends = absurd ends
ends_at_once limit NotReadable old new sink sources ends = absurd ends
ends_at_once limit (ReadFailed error) old new sink sources ends = absurd ends
ends_at_once limit WriteFault old new sink sources ends = absurd ends

pub scan_fails : (limit : ℕ) → (ending : Ending) (error : ScanError) (asked : Asked) (old new : ReadState) (sink : WriteState) (befores afters : List SourceState) → ending ≡ scan_ending error → ReadsRequest asked old new → ScanGives limit (scan_of asked) (Err error) befores afters
    → Ends limit ending (lent_io old befores sink) (lent_io new afters sink)
scan_fails limit ending error asked old new sink befores afters ends reads gives =
    subst (λ (e : Ending). Ends limit e (lent_io old befores sink) (lent_io new afters sink)) (sym ends) (scan_failed limit error asked old new befores afters sink reads gives)

-- the lines of the batches were written, or as many as could be
pub rows_end : (limit : ℕ) → (ending : Ending) (written : Result ⊤ StreamError) (asked : Asked) (batches : Vec ColumnData) (lines : List ℕ) (old new : ReadState) (sink sink_after : WriteState) (befores afters : List SourceState) → ending ≡ writing_ending written → lines ≡ batch_lines batches.items → ReadsRequest asked old new
    → ScanGives limit (scan_of asked) (Ok batches) befores afters → WritingGives written lines sink sink_after → Ends limit ending (lent_io old befores sink) (lent_io new afters sink_after)
rows_end limit ending written asked batches lines old new sink sink_after befores afters ends same reads gives wrote =
    subst (λ (e : Ending). Ends limit e (lent_io old befores sink) (lent_io new afters sink_after)) (sym ends) (by written (subst (λ (text : List ℕ). WritingGives written text sink sink_after) same wrote))
  where
    by : (written : Result ⊤ StreamError) → WritingGives written (batch_lines batches.items) sink sink_after → Ends limit (writing_ending written) (lent_io old befores sink) (lent_io new afters sink_after)
    by (Ok done) wrote = all_written limit asked batches old new befores afters sink sink_after reads gives wrote
    by (Err stream.Failed) wrote = not_written limit asked batches old new befores afters sink sink_after reads gives wrote
    by (Err stream.Memory) wrote = lacks_writing limit asked batches old new befores afters sink sink_after reads gives wrote

-- ---- completeness

-- the bytes that were read are those that are told
pub told_bytes : (P : List ℕ → Type 0) (bytes : List ℕ) (old new : ReadState) → old.rest ≡ Some bytes → ReadsBytes P old new → P bytes
told_bytes P bytes old new told reads = by old.rest told reads.reads.whole
  where
    by : (rest : Option (List ℕ)) → rest ≡ Some bytes → IfSome rest (λ all. (all ≡ reads.bytes) × (new.rest ≡ Some [])) → P bytes
    by None e whole = absurd cc
    by (Some all) e whole = let same : reads.bytes ≡ bytes = sym whole.0 ∙ same_Some all bytes e in subst P same reads.are

pub not_both : (bytes : List ℕ) (asked : Asked) → IsRequest bytes asked → requested bytes ≡ None → ⊥
not_both bytes asked is none = let form = is.form in cc

pub large_told : (bytes : List ℕ) (rest : Option (List ℕ)) → rest ≡ Some bytes → IfSome rest (λ all. most_bytes < length all) → most_bytes < length bytes
large_told bytes None e large = absurd cc
large_told bytes (Some all) e large = let same : all ≡ bytes = cc in subst (λ (xs : List ℕ). most_bytes < length xs) same large

-- of a scan that failed
refusal_invalid : (error : ScanError) (bytes file : List ℕ) (before after : LentIo) → before.request.rest ≡ Some bytes → RefusesScan error before after → IsValid bytes file → ⊥
refusal_invalid error bytes file before after told refuses valid =
    let is : IsRequest bytes refuses.asked = told_bytes (λ b. IsRequest b refuses.asked) bytes before.request after.request told refuses.reads in
    let same : valid.1.0 ≡ refuses.asked = same_request bytes valid.1.0 refuses.asked valid.1.1 is in
    valid_begins (file_leaves file refuses.asked.locations) (scan_of refuses.asked) error (subst (λ (a : Asked). IsValidScan (file_leaves file a.locations) (scan_of a)) same valid.1.2) refuses.cause

gives_invalid : (limit : ℕ) → (error : ScanError) (bytes file : List ℕ) (before after : LentIo) → before.request.rest ≡ Some bytes → AllTell file before.sources → FailsToScan limit error before after → IsValid bytes file → EachSource (IsQuiet limit) before.sources after.sources → ⊥
gives_invalid limit error bytes file before after told file_told gives valid quiet =
    let is : IsRequest bytes gives.asked = told_bytes (λ b. IsRequest b gives.asked) bytes before.request after.request told gives.reads in
    let same : valid.1.0 ≡ gives.asked = same_request bytes valid.1.0 gives.asked valid.1.1 is in
    gives.invalid file file_told (subst (λ (a : Asked). IsValidScan (file_leaves file a.locations) (scan_of a)) same valid.1.2) quiet

lacking_invalid : (limit : ℕ) → (error : ScanError) (bytes file : List ℕ) (before after : LentIo) → before.request.rest ≡ Some bytes → AllTell file before.sources → ScanFails limit error before after → IsValid bytes file → EachSource (IsQuiet limit) before.sources after.sources → ⊥
lacking_invalid limit scan.OutOfRange bytes file before after told file_told lacks valid quiet = refusal_invalid scan.OutOfRange bytes file before after told lacks valid
lacking_invalid limit scan.OffsetOverflow bytes file before after told file_told lacks valid quiet = refusal_invalid scan.OffsetOverflow bytes file before after told lacks valid
lacking_invalid limit error bytes file before after told file_told lacks valid quiet = gives_invalid limit error bytes file before after told file_told lacks valid quiet

-- a run over a valid request and file, without fault or stall, is done or out of memory
ends_well : (limit : ℕ) → (ending : Ending) (bytes file : List ℕ) (before after : LentIo) → before.request.rest ≡ Some bytes → AllTell file before.sources → Ends limit ending before after → IsValid bytes file
    → (Rose before.request.faults after.request.faults → ⊥) → EachSource (IsQuiet limit) before.sources after.sources → (Rose before.sink.faults after.sink.faults → ⊥) → (ending ≡ Done) ⊎ (ending ≡ OutOfMemory)
ends_well limit Done bytes file before after told file_told ends valid request quiet sink = inl refl
ends_well limit OutOfMemory bytes file before after told file_told ends valid request quiet sink = inr refl
ends_well limit RequestTooLarge bytes file before after told file_told ends valid request quiet sink =
    let more : most_bytes < length bytes = large_told bytes before.request.rest told ends.0.large.told in
    absurd (omega (arith, more, valid.0))
ends_well limit BadRequest bytes file before after told file_told ends valid request quiet sink =
    absurd (not_both bytes valid.1.0 valid.1.1 (told_bytes (λ b. requested b ≡ None) bytes before.request after.request told ends.0.reads))
ends_well limit (BadLayout node rule) bytes file before after told file_told ends valid request quiet sink =
    absurd (has_good_layout bytes valid.1.0 node rule valid.1.1 (told_bytes (λ b. HasBadLayout b node rule) bytes before.request after.request told ends.0.reads))
ends_well limit BadProjection bytes file before after told file_told ends valid request quiet sink =
    absurd (has_good_projection bytes valid.1.0 ends.0.error valid.1.1 (told_bytes (λ b. HasBadProjection b ends.0.error) bytes before.request after.request told ends.0.reads))
ends_well limit (ScanFailed error) bytes file before after told file_told ends valid request quiet sink = absurd (lacking_invalid limit error bytes file before after told file_told ends valid quiet)
ends_well limit NotReadable bytes file before after told file_told ends valid request quiet sink = absurd ends
ends_well limit (ReadFailed error) bytes file before after told file_told ends valid request quiet sink = absurd ends
ends_well limit WriteFault bytes file before after told file_told ends valid request quiet sink = absurd (sink ends.rose)
ends_well limit RequestFault bytes file before after told file_told ends valid request quiet sink = absurd (request ends.0.rose)

pub well_known : (status : ℕ) (ending : Ending) → status ≡ status_of ending → (ending ≡ Done) ⊎ (ending ≡ OutOfMemory) → (status ≡ 0) ⊎ (status ≡ 70)
well_known status ending is (inl done) = inl (is ∙ ap status_of done)
well_known status ending is (inr out) = inr (is ∙ ap status_of out)

pub serves_complete : (limit : ℕ) → (status : ℕ) (before after : LentIo) → Serves limit status before after → IsComplete limit status before after
serves_complete limit status before after serves = by before.request.rest refl
  where
    by : (rest : Option (List ℕ)) → before.request.rest ≡ rest → IfSome rest (λ bytes. WhereAllTell before.sources (λ file. IsValid bytes file
        → (Rose before.request.faults after.request.faults → ⊥) → EachSource (IsQuiet limit) before.sources after.sources → (Rose before.sink.faults after.sink.faults → ⊥) → (status ≡ 0) ⊎ (status ≡ 70)))
    by None told = tt
    by (Some bytes) told = λ file file_told valid request quiet sink. well_known status serves.ending serves.is (ends_well limit serves.ending bytes file before after told file_told serves.ends valid request quiet sink)

-- ---- the first of the sources

-- the first so many, where those were lent apart
pub first_whole : {S : Type 0} (f : S → SourceState) (count : ℕ) (xs first : List S) → first ≡ take count xs → map f first ≡ take count (map f xs)
first_whole {S} f count xs first is = ap (λ (ys : List S). map f ys) is ∙ sym (take-map f count xs)

-- those that came back, before the others
pub first_back : {S : Type 0} (f : S → SourceState) (count : ℕ) (ys rest : List S) → length ys ≡ count → map f ys ≡ take count (map f (ys ++ rest))
first_back {S} f count ys rest are = sym (take-map f count (ys ++ rest) ∙ ap (λ (zs : List S). map f zs) (ap (λ (n : ℕ). take n (ys ++ rest)) (sym are) ∙ take-append_seam ys rest))

pub rest_same : {S : Type 0} (f : S → SourceState) (count : ℕ) (xs ys rest : List S) → length ys ≡ count → rest ≡ drop count xs → drop count (map f (ys ++ rest)) ≡ drop count (map f xs)
rest_same {S} f count xs ys rest are is =
    drop-map f count (ys ++ rest) ∙ ap (λ (zs : List S). map f zs) (ap (λ (n : ℕ). drop n (ys ++ rest)) (sym are) ∙ drop-append_seam ys rest ∙ is) ∙ sym (drop-map f count xs)

-- a run over such lists of sources
pub ends_alike : (limit : ℕ) → (ending : Ending) (old new : ReadState) (sink sink_after : WriteState) (befores befores_too afters afters_too : List SourceState) → befores ≡ befores_too → afters ≡ afters_too → Ends limit ending (lent_io old befores sink) (lent_io new afters sink_after) → Ends limit ending (lent_io old befores_too sink) (lent_io new afters_too sink_after)
ends_alike limit ending old new sink sink_after befores befores_too afters afters_too same same_after ends =
    subst (λ (sources : List SourceState). Ends limit ending (lent_io old befores_too sink) (lent_io new sources sink_after)) same_after
    (subst (λ (sources : List SourceState). Ends limit ending (lent_io old sources sink) (lent_io new afters sink_after)) same ends)

-- a run that ends so serves with the status of its ending
pub serves_so : (limit : ℕ) → (status : ℕ) (ending : Ending) (before after : LentIo) → status ≡ status_of ending → ReadsPieces before.request after.request → Ends limit ending before after → Serves limit status before after
serves_so limit status ending before after is pieces ends = record { ending = ending; is = is; ends = ends; pieces = pieces }
