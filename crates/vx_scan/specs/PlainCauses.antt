-- Why a scan has no batches, by all of its rows, and by what its sources counted before the call and after it.
use Rattle.std.specs.Prelude.{ℕ, List, Result, IfErr}
use Rattle.std.specs.Global.{Vec}
use Rattle.vx_base.specs.Columns.{ColumnData}
use Rattle.vx_base.specs.Sources.{SourceState, Rose, RoseBy}
use Rattle.vx_layout.specs.Rows.{file_leaves, segment_bytes}
use Rattle.vx_plan.specs.Refs.{number_of}
use Rattle.vx_drive.specs.declared.errors.ScanError.{ScanError}
use Rattle.vx_drive.specs.declared.errors.ScanError.TheVariants.{BadProjection, OffsetOverflow, OutOfRange, Unsupported, NoLocation, ReadFault, Stalled, BadSegment, BadCode, EvalFault, Memory}
use Rattle.vx_chunks.specs.Lent.{SomeSource, WhereAllTell}
use Rattle.vx_scan.specs.Answer.{FileScan, scan_rows}
use Rattle.vx_scan.specs.Admission.{Refuses}
use Rattle.vx_scan.specs.Causes.{LacksLocation, ReadsTorn, FaultsAt}
use Rattle.vx_scan.specs.Scanned.{ReadsListPlan, ReadsBadCodePlan, AnswersScan}

-- A scan is refused before it begins for a reason of its own. Else some row of it reads a list; reaches a segment without a
-- location; by the file that all sources tell, reads a leaf that the bytes of its segment don't spell, or a code that is
-- neither null nor the place of a value, or is the row that is named, whose meaning is a fault over a value that is none. Or
-- in this call some source's faults rose, or its idle polls by the idle limit. Want of memory needs no cause.
abbrev pub PlainCause : FileScan → ℕ → ScanError → List SourceState → List SourceState → Type 0
PlainCause scan limit BadProjection befores afters = Refuses scan BadProjection
PlainCause scan limit OffsetOverflow befores afters = Refuses scan OffsetOverflow
PlainCause scan limit OutOfRange befores afters = Refuses scan OutOfRange
PlainCause scan limit (Unsupported list) befores afters = ReadsListPlan scan.projection (scan_rows scan) (number_of list)
PlainCause scan limit (NoLocation segment) befores afters = LacksLocation scan.locations scan.projection (scan_rows scan) segment
PlainCause scan limit ReadFault befores afters = SomeSource (λ before after. Rose before.faults after.faults) befores afters
PlainCause scan limit Stalled befores afters = SomeSource (λ before after. RoseBy limit before.idle after.idle) befores afters
PlainCause scan limit (BadSegment segment) befores afters =
    WhereAllTell befores (λ file. ReadsTorn (segment_bytes file scan.locations) scan.projection (scan_rows scan) segment)
PlainCause scan limit (BadCode take row) befores afters =
    WhereAllTell befores (λ file. ReadsBadCodePlan (file_leaves file scan.locations) scan.projection (scan_rows scan) (number_of take) row)
PlainCause scan limit (EvalFault row) befores afters =
    WhereAllTell befores (λ file. FaultsAt (file_leaves file scan.locations) scan.projection (scan_rows scan) row)
PlainCause scan limit Memory befores afters = Unit {0}

-- each error of a scan has its plain cause
abbrev pub ErrorsHavePlainCauses : Type 0
ErrorsHavePlainCauses = (scan : FileScan) (limit : ℕ) (result : Result (Vec ColumnData) ScanError) (befores afters : List SourceState)
    → AnswersScan scan limit result befores afters → IfErr result (λ error. PlainCause scan limit error befores afters)
