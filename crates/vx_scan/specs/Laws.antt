-- What holds of the answers of scans.
use Rattle.std.specs.Prelude.{◌≡◌, ℕ, List}
use Rattle.std.specs.List.{flat_map}
use Rattle.vx_base.specs.Data.{Datum}
use Rattle.vx_lower.specs.Projected.{Projection}
use Rattle.vx_rows.specs.Derivations.{Leaves}
use Rattle.vx_rows.specs.Reads.{IsFaulty}
use Rattle.vx_drive.specs.declared.errors.ScanError.{ScanError}
use Rattle.vx_scan.specs.Answer.{FileScan, scan_rows, IsAnswer, pieces_of, ArePieces}
use Rattle.vx_scan.specs.Admission.{Refuses}
use Rattle.vx_scan.specs.Causes.{ScanFinds, FaultsAt}
use Rattle.vx_scan.specs.PlanTexts.{IsPlanText}
use Rattle.vx_scan.specs.Valid.{IsValidScan}

-- rows have one answer at most
abbrev pub AnswerIsOne : Type 0
AnswerIsOne = (leaves : Leaves) (p : Projection) (rows : List ℕ) (ones others : List Datum)
    → IsAnswer leaves p rows ones → IsAnswer leaves p rows others → ones ≡ others

-- a valid scan has an answer
abbrev pub ValidScanIsAnswered : Type 0
ValidScanIsAnswered = (leaves : Leaves) (scan : FileScan) → IsValidScan leaves scan
    → (values : List Datum) × IsAnswer leaves scan.projection (scan_rows scan) values

-- and is not refused before it begins
abbrev pub ValidScanBegins : Type 0
ValidScanBegins = (leaves : Leaves) (scan : FileScan) (error : ScanError) → IsValidScan leaves scan → ¬ (Refuses scan error)

-- there is none where some row has a faulty read, or its meaning is a fault
abbrev pub FaultyReadIsNoAnswer : Type 0
FaultyReadIsNoAnswer = (leaves : Leaves) (p : Projection) (rows : List ℕ) (values : List Datum)
    → ScanFinds (IsFaulty leaves) p rows → ¬ (IsAnswer leaves p rows values)

abbrev pub FaultIsNoAnswer : Type 0
FaultIsNoAnswer = (leaves : Leaves) (p : Projection) (rows : List ℕ) (row : ℕ) (values : List Datum)
    → FaultsAt leaves p rows row → ¬ (IsAnswer leaves p rows values)

-- the pieces of rows joined are the rows
abbrev pub PiecesJoin : Type 0
PiecesJoin = (size : ℕ) (rows : List ℕ) → flat_map (λ piece. piece) (pieces_of size rows) ≡ rows

-- and batches with the values of the pieces are, joined, the answer of the rows
abbrev pub PiecesAnswer : Type 0
PiecesAnswer = (leaves : Leaves) (p : Projection) (size : ℕ) (rows : List ℕ) (batches : List (List Datum))
    → ArePieces leaves p (pieces_of size rows) batches → IsAnswer leaves p rows (flat_map (λ batch. batch) batches)

-- the plan of a projection has one text at most
abbrev pub PlanTextIsOne : Type 0
PlanTextIsOne = (p : Projection) (text other : List ℕ) → IsPlanText p text → IsPlanText p other → text ≡ other
