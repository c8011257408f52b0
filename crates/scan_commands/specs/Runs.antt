-- What a run that scans promises, by its ending. Promises on content speak of what is told: the request's bytes,
-- the file, the ranges asked and the bytes written.
use Rattle.std.specs.Prelude.{◌≡◌, ◌≢◌, ℕ, ◌≤◌, ◌⊎◌, ◌++◌, List, length, take, IfSome, option_map}
use Rattle.vx_base.specs.Sources.{SourceState, Rose}
use Rattle.vx_base.specs.Streams.{ReadState, WriteState}
use Rattle.vx_layout.specs.Rows.{file_leaves}
use Rattle.vx_scan.specs.Asks.{IsLeftClear, Lasts}
use Rattle.vx_scan.specs.Admission.{Refuses}
use Rattle.vx_scan.specs.Lent.{EachSource, WhereAllTell}
use Rattle.vx_scan.specs.Plans.{IsQuiet}
use Rattle.vx_scan.specs.Scanned.{GainsOver, LowestCause}
use Rattle.vx_scan.specs.Valid.{IsValidScan}
use Rattle.vx_scan.specs.declared.errors.ScanError.{ScanError}
use Rattle.vx_scan.specs.declared.errors.ScanError.TheVariants.{OutOfRange, OffsetOverflow, Memory}
use Rattle.scan_request.specs.RequestForms.{Asked, IsRequest}
use Rattle.scan_commands.specs.declared.endings.Ending.{Ending}
use Rattle.scan_commands.specs.declared.endings.Ending.TheVariants.{Done, RequestTooLarge, BadRequest, BadLayout, BadProjection, ScanFailed, NotReadable, ReadFailed, WriteFault, RequestFault, OutOfMemory}
use Rattle.scan_commands.specs.LentStreams.{LentStreams, ReadsRequest, IsTooLarge, IsBadRequest, IsBadLayout, IsBadProjection, FailsToRead, RunsOutAtOnce}
use Rattle.scan_commands.specs.Endings.{status_of}
use Rattle.scan_input.specs.Reading.{most_bytes, ReadsPieces}
use Rattle.scan_commands.specs.Scans.{scan_of, IsText}
use Rattle.scan_commands.specs.Statuses.{done_status, memory_status}

-- What a run reads its request from, the sources that it asks, and what it writes to.
pub record LentIo : Type 0 where
  pub request : ReadState
  pub sources : List SourceState
  pub sink : WriteState

-- the same without the sources
abbrev pub without_sources : LentIo → LentStreams
without_sources lent_io = record { request = lent_io.request; sink = lent_io.sink }

-- ---- what was asked and written

-- the run ended so, and no source was asked
abbrev pub EndsUnasked : (LentStreams → LentStreams → Type 0) → LentIo → LentIo → Type 0
EndsUnasked Ended before after = Ended (without_sources before) (without_sources after) × (after.sources ≡ before.sources)

-- The sources were asked for nothing but locations of segments that the request's rows reach. Nothing is in flight at one
-- of them, if it was asked at all.
pub record Asks (asked : Asked) (before after : LentIo) : Type 0 where
  pub gains : GainsOver (scan_of asked) before.sources after.sources
  pub lasts : EachSource Lasts before.sources after.sources
  pub in_flight : EachSource IsLeftClear before.sources after.sources

-- The sink gained exactly the text of the request's rows by the file that all sources tell.
pub record Writes (asked : Asked) (before after : LentIo) : Type 0 where
  pub text : WhereAllTell before.sources (λ file. (text : List ℕ) × IsText (scan_of asked) file text
      × (after.sink.written ≡ option_map (λ written. written ++ text) before.sink.written))
  pub faults : after.sink.faults ≡ before.sink.faults

-- It gained a front of that text.
abbrev pub WritesFront : Asked → LentIo → LentIo → Type 0
WritesFront asked before after = WhereAllTell before.sources (λ file. (text : List ℕ) × IsText (scan_of asked) file text
    × ((count : ℕ) × (after.sink.written ≡ option_map (λ written. written ++ take count text) before.sink.written)))

-- ---- by the ending

-- The request's scan is refused before it begins: a selected row of its range lies past the last one, or the number of a
-- row could pass 2^64-1. That shows of the request alone, whatever the sources tell.
abbrev pub IsRefused : Asked → Type 0
IsRefused asked = (error : ScanError) × Refuses (scan_of asked) error

-- all rows were printed, of a scan that isn't refused
pub record IsDone (before after : LentIo) : Type 0 where
  pub asked : Asked
  pub reads : ReadsRequest asked before.request after.request
  pub not_refused : ¬ (IsRefused asked)
  pub asks : Asks asked before after
  pub writes : Writes asked before after

-- the scan is refused before it begins, for that cause; nothing was asked or written
pub record RefusesScan (error : ScanError) (before after : LentIo) : Type 0 where
  pub asked : Asked
  pub reads : ReadsRequest asked before.request after.request
  pub cause : Refuses (scan_of asked) error
  pub sources : after.sources ≡ before.sources
  pub sink : after.sink ≡ before.sink

-- The scan isn't refused, and failed for its cause, which no valid scan has without a fault or a stall of a source. Nothing
-- was written.
pub record FailsToScan (limit : ℕ) (error : ScanError) (before after : LentIo) : Type 0 where
  pub not_memory : error ≢ Memory
  pub asked : Asked
  pub reads : ReadsRequest asked before.request after.request
  pub not_refused : ¬ (IsRefused asked)
  pub asks : Asks asked before after
  pub cause : LowestCause (scan_of asked) limit error before.sources after.sources
  pub invalid : WhereAllTell before.sources (λ file. IsValidScan (file_leaves file asked.locations) (scan_of asked) → EachSource (IsQuiet limit) before.sources after.sources → ⊥)
  pub sink : after.sink ≡ before.sink

-- the sink failed behind a front of the text of a scan that isn't refused
pub record FailsToWrite (before after : LentIo) : Type 0 where
  pub asked : Asked
  pub reads : ReadsRequest asked before.request after.request
  pub not_refused : ¬ (IsRefused asked)
  pub asks : Asks asked before after
  pub front : WritesFront asked before after
  pub rose : Rose before.sink.faults after.sink.faults

-- Memory ran out behind the request, when at most a front of the text was written. Where the scan is refused, nothing was
-- asked or written before.
pub record LacksMemory (asked : Asked) (before after : LentIo) : Type 0 where
  pub reads : ReadsRequest asked before.request after.request
  pub refused : IsRefused asked → (after.sources ≡ before.sources) × (after.sink ≡ before.sink)
  pub asks : Asks asked before after
  pub written : (after.sink ≡ before.sink) ⊎ WritesFront asked before after
  pub faults : after.sink.faults ≡ before.sink.faults

-- it ran out before the request was known, or behind it
abbrev pub RunsOut : LentIo → LentIo → Type 0
RunsOut before after = EndsUnasked RunsOutAtOnce before after ⊎ ((asked : Asked) × LacksMemory asked before after)

-- A row past the last one and too great a number of a row refuse a scan, and all else keeps one from its rows. No scan is
-- refused for its projection, since a request's is bound to the root: no piece is without rows for that cause.
abbrev pub ScanFails : ℕ → ScanError → LentIo → LentIo → Type 0
ScanFails limit OutOfRange before after = RefusesScan OutOfRange before after
ScanFails limit OffsetOverflow before after = RefusesScan OffsetOverflow before after
ScanFails limit error before after = FailsToScan limit error before after

abbrev pub Ends : ℕ → Ending → LentIo → LentIo → Type 0
Ends limit Done before after = IsDone before after
Ends limit RequestTooLarge before after = EndsUnasked IsTooLarge before after
Ends limit BadRequest before after = EndsUnasked IsBadRequest before after
Ends limit (BadLayout node rule) before after = EndsUnasked (IsBadLayout node rule) before after
Ends limit BadProjection before after = EndsUnasked IsBadProjection before after
Ends limit (ScanFailed error) before after = ScanFails limit error before after
Ends limit NotReadable before after = ⊥
Ends limit (ReadFailed error) before after = ⊥
Ends limit WriteFault before after = FailsToWrite before after
Ends limit RequestFault before after = EndsUnasked FailsToRead before after
Ends limit OutOfMemory before after = RunsOut before after

-- The status is that of an ending, and the run ended so. At most 16777217 pieces of the request were read.
pub record Serves (limit status : ℕ) (before after : LentIo) : Type 0 where
  pub ending : Ending
  pub is : status ≡ status_of ending
  pub ends : Ends limit ending before after
  pub pieces : ReadsPieces before.request after.request

-- ---- completeness

-- The bytes are a request of at most 16777216 bytes, whose scan is valid by the file.
abbrev pub IsValid : List ℕ → List ℕ → Type 0
IsValid bytes file = (length bytes ≤ most_bytes) × ((asked : Asked) × IsRequest bytes asked × IsValidScan (file_leaves file asked.locations) (scan_of asked))

-- Valid input without fault or stall is answered, or memory runs out.
abbrev pub IsComplete : ℕ → ℕ → LentIo → LentIo → Type 0
IsComplete limit status before after = IfSome before.request.rest (λ bytes. WhereAllTell before.sources (λ file. IsValid bytes file
    → (Rose before.request.faults after.request.faults → ⊥) → EachSource (IsQuiet limit) before.sources after.sources → (Rose before.sink.faults after.sink.faults → ⊥)
    → (status ≡ done_status) ⊎ (status ≡ memory_status)))
