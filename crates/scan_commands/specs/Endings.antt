-- The endings of a run, and the status of each.
use Rattle.std.specs.Prelude.{ℕ, Result, Ok, Err, ⊤}
use Rattle.vx_base.specs.declared.outside.StreamError.{StreamError}
use Rattle.vx_base.specs.declared.outside.StreamError.TheVariants as stream
use Rattle.vx_readers.specs.declared.reading.ReadRowsError.{ReadRowsError}
use Rattle.vx_readers.specs.declared.reading.ReadRowsError.TheVariants as read
use Rattle.vx_reads.specs.declared.errors.ReaderError.{ReaderError}
use Rattle.vx_reads.specs.declared.errors.ReaderError.TheVariants as reader
use Rattle.vx_scan.specs.declared.errors.ScanError.{ScanError}
use Rattle.vx_scan.specs.declared.errors.ScanError.TheVariants as scan
use Rattle.scan_request.specs.declared.request_errors.RequestError.{RequestError}
use Rattle.scan_request.specs.declared.request_errors.RequestError.TheVariants as request
use Rattle.scan_input.specs.declared.reading.ReadingError.{ReadingError}
use Rattle.scan_input.specs.declared.reading.ReadingError.TheVariants as reading
use Rattle.scan_commands.specs.declared.endings.Ending.{Ending}
use Rattle.scan_commands.specs.declared.endings.Ending.TheVariants.{Done, RequestTooLarge, BadRequest, BadLayout, BadProjection, ScanFailed, NotReadable, ReadFailed, WriteFault, RequestFault, OutOfMemory}
use Rattle.scan_commands.specs.Statuses.{done_status, usage_status, bad_request_status, bad_layout_status, bad_projection_status, row_out_of_range_status, row_offset_overflow_status, lists_unsupported_status, no_location_status, bad_segment_status, bad_code_status, expression_fault_status, read_fault_status, stalled_status, write_fault_status, request_fault_status, request_too_large_status, not_readable_status, memory_status}

-- the status of a scan that failed
abbrev pub scan_status : ScanError → ℕ
scan_status scan.BadProjection = bad_projection_status
scan_status scan.OffsetOverflow = row_offset_overflow_status
scan_status scan.OutOfRange = row_out_of_range_status
scan_status (scan.Unsupported list) = lists_unsupported_status
scan_status (scan.NoLocation segment) = no_location_status
scan_status scan.ReadFault = read_fault_status
scan_status scan.Stalled = stalled_status
scan_status (scan.BadSegment segment) = bad_segment_status
scan_status (scan.BadCode take row) = bad_code_status
scan_status (scan.EvalFault row) = expression_fault_status
scan_status scan.Memory = memory_status

-- the status of a reader that gave no rows
abbrev pub reader_status : ReaderError → ℕ
reader_status reader.ReadFault = read_fault_status
reader_status (reader.BadSegment segment) = bad_segment_status
reader_status (reader.BadCode node row) = bad_code_status
reader_status (reader.EvalFault row) = expression_fault_status
reader_status (reader.NoLocation segment) = no_location_status
reader_status reader.Memory = memory_status

-- the status of a read that failed; no words ask for a rule of no rows
abbrev pub read_status : ReadRowsError → ℕ
read_status (read.Reader error) = reader_status error
read_status read.Stalled = stalled_status
read_status read.ZeroSize = usage_status
read_status read.Memory = memory_status

abbrev pub status_of : Ending → ℕ
status_of Done = done_status
status_of RequestTooLarge = request_too_large_status
status_of BadRequest = bad_request_status
status_of (BadLayout node rule) = bad_layout_status
status_of BadProjection = bad_projection_status
status_of (ScanFailed error) = scan_status error
status_of NotReadable = not_readable_status
status_of (ReadFailed error) = read_status error
status_of WriteFault = write_fault_status
status_of RequestFault = request_fault_status
status_of OutOfMemory = memory_status

-- how a run ends whose request can't be read
abbrev pub reading_ending : ReadingError → Ending
reading_ending reading.TooLarge = RequestTooLarge
reading_ending reading.Failed = RequestFault
reading_ending reading.Memory = OutOfMemory

-- how a run ends whose request is refused
abbrev pub refused_ending : RequestError → Ending
refused_ending request.BadRequest = BadRequest
refused_ending (request.BadLayout node rule) = BadLayout node rule
refused_ending (request.BadProjection error) = BadProjection
refused_ending request.Memory = OutOfMemory

-- how a run ends whose scan failed
abbrev pub scan_ending : ScanError → Ending
scan_ending scan.Memory = OutOfMemory
scan_ending error = ScanFailed error

-- how a run ends whose read failed
abbrev pub read_ending : ReadRowsError → Ending
read_ending read.Memory = OutOfMemory
read_ending error = ReadFailed error

-- how a run ends that has written all, or as much as it could
abbrev pub writing_ending : Result ⊤ StreamError → Ending
writing_ending (Ok done) = Done
writing_ending (Err stream.Failed) = WriteFault
writing_ending (Err stream.Memory) = OutOfMemory
