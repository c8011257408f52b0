-- What reading the rows of a request by the layout's readers gives.
use Rattle.std.specs.Prelude.{◌≡◌, ℕ, Result, Ok, Err}
use Rattle.std.specs.Global.{Vec}
use Rattle.vx_base.specs.Columns.{ColumnData}
use Rattle.vx_base.specs.Sources.{SourceState, RoseBy}
use Rattle.vx_readers.specs.declared.reading.ReadRowsError.{ReadRowsError}
use Rattle.vx_readers.specs.declared.reading.ReadRowsError.TheVariants as read
use Rattle.vx_readers.specs.WholeReads.{ReadsOnly, RowsFault}
use Rattle.vx_scan.specs.Plans.{WhereTold}
use Rattle.scan_output.specs.RowWriting.{batch_lines}
use Rattle.scan_request.specs.RequestForms.{Asked}
use Rattle.scan_commands.specs.declared.endings.Ending.{Ending}
use Rattle.scan_commands.specs.declared.endings.Ending.TheVariants.{NotReadable, ReadFailed, OutOfMemory}
use Rattle.scan_commands.specs.ReadRequests.{IsReadable, reader_of}
use Rattle.scan_commands.specs.Scans.{scan_of, IsText}

-- Why the rows are not read, but for want of memory: a fault of the source or of the rows, or a stall. No words ask for a
-- rule of no rows.
abbrev pub ReadCause : ℕ → Asked → ReadRowsError → SourceState → SourceState → Type 0
ReadCause limit asked (read.Reader error) before after = RowsFault (reader_of asked) asked.projection error before after
ReadCause limit asked read.Stalled before after = RoseBy limit before.idle after.idle
ReadCause limit asked read.ZeroSize before after = ⊥
ReadCause limit asked read.Memory before after = ⊥

-- How a run ends without its rows. The source is left alone where the readers don't answer the request.
abbrev pub NoRows : ℕ → Ending → Asked → SourceState → SourceState → Type 0
NoRows limit NotReadable asked before after = ¬ (IsReadable asked) × (after ≡ before)
NoRows limit (ReadFailed error) asked before after = IsReadable asked × ReadsOnly (reader_of asked) before after × ReadCause limit asked error before after
NoRows limit OutOfMemory asked before after = IsReadable asked × ReadsOnly (reader_of asked) before after
NoRows limit ending asked before after = ⊥

-- Columns whose lines are those of the request's rows by the file, where the source tells it; or how the run ends without.
abbrev pub RowsGive : ℕ → Asked → Result (Vec ColumnData) Ending → SourceState → SourceState → Type 0
RowsGive limit asked (Ok columns) before after =
    IsReadable asked × ReadsOnly (reader_of asked) before after × WhereTold before (λ file. IsText (scan_of asked) file (batch_lines columns.items))
RowsGive limit asked (Err ending) before after = NoRows limit ending asked before after
