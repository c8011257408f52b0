-- What a run promises that reads the rows of a request by the layout's readers, by its ending. Promises on content speak of
-- what is told: the request's bytes, the file, the ranges asked and the bytes written.
use Rattle.std.specs.Prelude.{◌≡◌, ℕ, ◌<◌, ◌≤◌, ◌⊎◌, ◌++◌, List, length, take, IfSome, IsSome, option_map}
use Rattle.vx_base.specs.Sources.{SourceState, Rose}
use Rattle.vx_base.specs.Streams.{ReadState, WriteState}
use Rattle.vx_layout.specs.Kept.{all}
use Rattle.vx_layout.specs.Rows.{derivation, file_leaves}
use Rattle.vx_layout.specs.Trees.{head_of, subtree}
use Rattle.vx_lower.specs.Projected.{projected_at}
use Rattle.vx_rows.specs.Reads.{directly, reads_of, FindsOnly, IsFine}
use Rattle.vx_readers.specs.declared.reading.ReadRowsError.{ReadRowsError}
use Rattle.vx_readers.specs.WholeReads.{ReadsOnly}
use Rattle.vx_scan.specs.Plans.{IsQuiet, WhereTold}
use Rattle.scan_input.specs.Reading.{most_bytes, ReadsPieces}
use Rattle.scan_request.specs.RequestForms.{Asked, IsRequest}
use Rattle.scan_commands.specs.declared.endings.Ending.{Ending}
use Rattle.scan_commands.specs.declared.endings.Ending.TheVariants.{Done, RequestTooLarge, BadRequest, BadLayout, BadProjection, ScanFailed, NotReadable, ReadFailed, WriteFault, RequestFault, OutOfMemory}
use Rattle.scan_commands.specs.Endings.{status_of}
use Rattle.scan_commands.specs.LentStreams.{LentStreams, ReadsRequest, IsTooLarge, IsBadRequest, IsBadLayout, IsBadProjection, FailsToRead, RunsOutAtOnce}
use Rattle.scan_commands.specs.ReadRequests.{IsReadable, reader_of}
use Rattle.scan_commands.specs.Reads.{ReadCause}
use Rattle.scan_commands.specs.Scans.{scan_of, IsText}
use Rattle.scan_commands.specs.Statuses.{done_status, memory_status}

-- What a run reads its request from, the source that it asks, and what it writes to.
pub record LentRead : Type 0 where
  pub request : ReadState
  pub source : SourceState
  pub sink : WriteState

-- the same without the source
abbrev pub without_source : LentRead → LentStreams
without_source lent_read = record { request = lent_read.request; sink = lent_read.sink }

-- ---- what was asked and written

-- the run ended so, and the source was not asked
abbrev pub EndsUnread : (LentStreams → LentStreams → Type 0) → LentRead → LentRead → Type 0
EndsUnread Ended before after = Ended (without_source before) (without_source after) × (after.source ≡ before.source)

-- The request was read, and is one that the readers answer. The source was asked for nothing but locations of segments that
-- some row reads; nothing is in flight at it, if it was asked at all.
pub record ReadsFor (asked : Asked) (before after : LentRead) : Type 0 where
  pub reads : ReadsRequest asked before.request after.request
  pub readable : IsReadable asked
  pub asks : ReadsOnly (reader_of asked) before.source after.source

-- The sink gained exactly the text of the request's rows by the file that the source tells.
pub record WritesRows (asked : Asked) (before after : LentRead) : Type 0 where
  pub text : WhereTold before.source (λ file. (text : List ℕ) × IsText (scan_of asked) file text
      × (after.sink.written ≡ option_map (λ written. written ++ text) before.sink.written))
  pub faults : after.sink.faults ≡ before.sink.faults

-- It gained a front of that text.
abbrev pub WritesFrontOfRows : Asked → LentRead → LentRead → Type 0
WritesFrontOfRows asked before after = WhereTold before.source (λ file. (text : List ℕ) × IsText (scan_of asked) file text
    × ((count : ℕ) × (after.sink.written ≡ option_map (λ written. written ++ take count text) before.sink.written)))

-- ---- by the ending

-- all rows were printed
pub record PrintsRows (before after : LentRead) : Type 0 where
  pub asked : Asked
  pub begun : ReadsFor asked before after
  pub writes : WritesRows asked before after

-- the readers don't answer the request; nothing was asked or written
pub record IsNotReadable (before after : LentRead) : Type 0 where
  pub asked : Asked
  pub reads : ReadsRequest asked before.request after.request
  pub unreadable : ¬ (IsReadable asked)
  pub source : after.source ≡ before.source
  pub sink : after.sink ≡ before.sink

-- the rows were not read, for that cause; nothing was written
pub record FailsToReadRows (limit : ℕ) (error : ReadRowsError) (before after : LentRead) : Type 0 where
  pub asked : Asked
  pub begun : ReadsFor asked before after
  pub cause : ReadCause limit asked error before.source after.source
  pub sink : after.sink ≡ before.sink

-- the sink failed behind a front of the text
pub record FailsToWriteRows (before after : LentRead) : Type 0 where
  pub asked : Asked
  pub begun : ReadsFor asked before after
  pub front : WritesFrontOfRows asked before after
  pub rose : Rose before.sink.faults after.sink.faults

-- memory ran out behind the request, when at most a front of the text was written
pub record LacksMemoryToRead (asked : Asked) (before after : LentRead) : Type 0 where
  pub begun : ReadsFor asked before after
  pub written : (after.sink ≡ before.sink) ⊎ WritesFrontOfRows asked before after
  pub faults : after.sink.faults ≡ before.sink.faults

-- it ran out before the request was known, or behind it
abbrev pub RunsOutReading : LentRead → LentRead → Type 0
RunsOutReading before after = EndsUnread RunsOutAtOnce before after ⊎ ((asked : Asked) × LacksMemoryToRead asked before after)

abbrev pub Reads : ℕ → Ending → LentRead → LentRead → Type 0
Reads limit Done before after = PrintsRows before after
Reads limit RequestTooLarge before after = EndsUnread IsTooLarge before after
Reads limit BadRequest before after = EndsUnread IsBadRequest before after
Reads limit (BadLayout node rule) before after = EndsUnread (IsBadLayout node rule) before after
Reads limit BadProjection before after = EndsUnread IsBadProjection before after
Reads limit (ScanFailed error) before after = ⊥
Reads limit NotReadable before after = IsNotReadable before after
Reads limit (ReadFailed error) before after = FailsToReadRows limit error before after
Reads limit WriteFault before after = FailsToWriteRows before after
Reads limit RequestFault before after = EndsUnread FailsToRead before after
Reads limit OutOfMemory before after = RunsOutReading before after

-- The status is that of an ending, and the run ended so. At most 16777217 pieces of the request were read.
pub record ServesRead (limit status : ℕ) (before after : LentRead) : Type 0 where
  pub ending : Ending
  pub is : status ≡ status_of ending
  pub reads : Reads limit ending before after
  pub pieces : ReadsPieces before.request after.request

-- ---- completeness

-- the root of the request's layout has so many rows
abbrev pub rows_asked : Asked → ℕ
rows_asked asked = (head_of (subtree asked.nodes 0)).rows

-- The readers answer the request. Each row finds only what is fine, with all its fields, and the projection of none is a
-- fault.
pub record IsValidRead (file : List ℕ) (asked : Asked) : Type 0 where
  pub readable : IsReadable asked
  pub fine : (row : ℕ) → row < rows_asked asked → FindsOnly (IsFine (file_leaves file asked.locations)) (reads_of directly (derivation (subtree asked.nodes 0) all row))
  pub answered : (row : ℕ) → row < rows_asked asked → IsSome (projected_at (file_leaves file asked.locations) (scan_of asked).projection row)

-- The bytes are a request of at most 16777216 bytes, whose read is valid by the file.
abbrev pub IsValidToRead : List ℕ → List ℕ → Type 0
IsValidToRead bytes file = (length bytes ≤ most_bytes) × ((asked : Asked) × IsRequest bytes asked × IsValidRead file asked)

-- Valid input without fault or stall is answered, or memory runs out.
abbrev pub IsReadComplete : ℕ → ℕ → LentRead → LentRead → Type 0
IsReadComplete limit status before after = IfSome before.request.rest (λ bytes. WhereTold before.source (λ file. IsValidToRead bytes file
    → (Rose before.request.faults after.request.faults → ⊥) → IsQuiet limit before.source after.source → (Rose before.sink.faults after.sink.faults → ⊥)
    → (status ≡ done_status) ⊎ (status ≡ memory_status)))
