-- From what a builder's scan gives to what the scan of a request gives.
use Rattle.std.proofs.Common.{◌≡◌, ℕ, List, [], ◌∷◌, ◌++◌, map, flat_map, ◌⊎◌, Result, Ok, Err, refl, sym, ap, ◌∙◌, inr}
use Rattle.std.specs.Prelude.{IfOk}
use Rattle.std.specs.Global.{Vec}
use Rattle.std.specs.List.{AllByRecursion}
use Rattle.vx_base.specs.Columns.{ColumnData}
use Rattle.vx_base.specs.Data.{DataType}
use Rattle.vx_base.specs.Sources.{SourceState}
use Rattle.vx_layout.specs.Rows.{file_leaves}
use Rattle.vx_scan.specs.declared.errors.ScanError.{ScanError}
use Rattle.vx_scan.specs.declared.errors.ScanError.TheVariants.{Memory}
use Rattle.vx_scan.specs.Answer.{FileScan, scan_rows, size_of}
use Rattle.vx_scan.specs.Admission.{Refuses}
use Rattle.vx_scan.specs.Laws.{PiecesAnswer}
use Rattle.vx_scan.specs.Lent.{WhereAllTell}
use Rattle.vx_scan.specs.Scanned.{AnswersScan}
use Rattle.vx_scan.proofs.Scanning.{memory_answers}
use Rattle.scan_output.specs.RowText.{lines}
use Rattle.scan_output.specs.RowWriting.{batch_lines}
use Rattle.scan_output.proofs.Buffering.{lines_append}
use Rattle.scan_commands.specs.Scans.{IsText, ScanGives}

-- ---- the text of batches

-- the lines of batches of one dtype are the lines of their values, one batch after another
pub lines_joined : (t : DataType) (batches : List ColumnData) → AllByRecursion (λ (batch : ColumnData). batch.dtype ≡ t) batches → batch_lines batches ≡ lines t (flat_map (λ batch. batch) (map (λ (batch : ColumnData). batch.values) batches))
lines_joined t [] typed = refl
lines_joined t (batch ∷ batches) typed =
    ap (λ (d : DataType). lines d batch.values ++ batch_lines batches) typed.0
    ∙ ap (λ (x : List ℕ). lines t batch.values ++ x) (lines_joined t batches typed.1)
    ∙ sym (lines_append t batch.values (flat_map (λ batch. batch) (map (λ (b : ColumnData). b.values) batches)))

pub text_of : (limit : ℕ) → (scan : FileScan) (result : Result (Vec ColumnData) ScanError) (befores afters : List SourceState) → PiecesAnswer → AnswersScan scan limit result befores afters → IfOk result (λ batches. WhereAllTell befores (λ file. IsText scan file (batch_lines batches.items)))
text_of limit scan (Ok batches) befores afters answer gives = λ file told. (
  flat_map (λ batch. batch) (map (λ (b : ColumnData). b.values) batches.items),
  answer (file_leaves file scan.locations) scan.projection (size_of scan) (scan_rows scan) (map (λ (b : ColumnData). b.values) batches.items) (gives.content file told),
  lines_joined scan.projection.expression.dtype batches.items gives.dtype,
)
text_of limit scan (Err error) befores afters answer gives = tt

pub scan_gives : (limit : ℕ) → (scan : FileScan) (result : Result (Vec ColumnData) ScanError) (befores afters : List SourceState) → PiecesAnswer → AnswersScan scan limit result befores afters
    → ((error : ScanError) → Refuses scan error → ((result ≡ Err error) ⊎ (result ≡ Err Memory)) × (afters ≡ befores)) → ScanGives limit scan result befores afters
scan_gives limit scan result befores afters answer gives refused = record { answers = gives; text = text_of limit scan result befores afters answer gives; refused = refused }

-- want of memory before the scan
pub lacks_memory : (limit : ℕ) (scan : FileScan) (sources : List SourceState) → ScanGives limit scan (Err Memory) sources sources
lacks_memory limit scan sources = record { answers = memory_answers scan limit Memory sources refl; text = tt; refused = λ error refuses. (inr refl, refl) }
