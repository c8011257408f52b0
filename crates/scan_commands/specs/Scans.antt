-- The scan that a request asks for.
use Rattle.std.specs.Prelude.{◌≡◌, ℕ, ◌⊎◌, if◌then◌else◌, List, Result, Err, IfOk}
use Rattle.std.specs.Global.{Vec}
use Rattle.vx_base.specs.Columns.{ColumnData}
use Rattle.vx_base.specs.Data.{Datum}
use Rattle.vx_base.specs.Sources.{SourceState}
use Rattle.vx_expr.specs.Mentions.{uses_row_number}
use Rattle.vx_layout.specs.Rows.{file_leaves}
use Rattle.vx_layout.specs.Trees.{subtree}
use Rattle.vx_scan.specs.Answer.{FileScan, scan_rows, IsAnswer}
use Rattle.vx_scan.specs.Admission.{Refuses}
use Rattle.vx_scan.specs.Lent.{WhereAllTell}
use Rattle.vx_scan.specs.Scanned.{AnswersScan}
use Rattle.vx_scan.specs.declared.errors.ScanError.{ScanError}
use Rattle.vx_scan.specs.declared.errors.ScanError.TheVariants.{Memory}
use Rattle.scan_request.specs.RequestForms.{Asked}
use Rattle.scan_output.specs.RowText.{lines}
use Rattle.scan_output.specs.RowWriting.{batch_lines}

-- the number of the file's first row, which is left at 0 where the projection doesn't use the row's number
abbrev pub first_row : Asked → ℕ
first_row asked = if uses_row_number asked.projection.term then asked.row_offset else 0

abbrev pub scan_of : Asked → FileScan
scan_of asked = record {
  projection = record { root = subtree asked.nodes 0; expression = asked.projection; offset = first_row asked };
  selection = asked.selection;
  range = asked.range;
  limit = asked.limit;
  locations = asked.locations;
}

-- the text is that of the scan's answer by the file: a line for each row, in the order of the rows
abbrev pub IsText : FileScan → List ℕ → List ℕ → Type 0
IsText scan file text =
    (values : List Datum) × IsAnswer (file_leaves file scan.locations) scan.projection (scan_rows scan) values × (text ≡ lines scan.projection.expression.dtype values)

-- What scanning the sources gives; the lines of the batches are the answer's. A scan that is refused before it begins is
-- answered with the cause of that, or memory runs out before, and it leaves the sources alone.
pub record ScanGives (limit : ℕ) (scan : FileScan) (result : Result (Vec ColumnData) ScanError) (befores afters : List SourceState) : Type 0 where
  pub answers : AnswersScan scan limit result befores afters
  pub text : IfOk result (λ batches. WhereAllTell befores (λ file. IsText scan file (batch_lines batches.items)))
  pub refused : (error : ScanError) → Refuses scan error → ((result ≡ Err error) ⊎ (result ≡ Err Memory)) × (afters ≡ befores)
