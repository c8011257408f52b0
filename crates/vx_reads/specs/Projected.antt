-- What an expression is worth over the selected rows of a range, and why it is not.
use Rattle.std.specs.Prelude.{◌≡◌, ℕ, ◌+◌, Bool, true, List, Option, Some, None, length, option_and_then, IsSomeAnd}
use Rattle.std.specs.List.{slice_get}
use Rattle.vx_base.specs.Data.{DataType, Datum}
use Rattle.vx_expr.specs.Terms.{Term}
use Rattle.vx_rows.specs.SegmentLeaves.{Bytes}
use Rattle.vx_reads.specs.declared.errors.ReaderError.{ReaderError}
use Rattle.vx_reads.specs.declared.errors.ReaderError.TheVariants.{EvalFault}
use Rattle.vx_reads.specs.declared.reads.SegmentRead.{SegmentRead}
use Rattle.vx_reads.specs.Computed.{row_value, RowsBy, HasCause}
use Rattle.vx_reads.specs.Reads.{HaveBytes}
use Rattle.vx_picking.specs.RowFaults.{root_meaning}
use Rattle.vx_picking.specs.Rows.{rows_of, AreOf}

-- what the expression is worth at a row, and a fault where the row's value is one
abbrev pub row_meaning : Bytes → RowsBy → DataType → Term → ℕ → Option Datum
row_meaning bytes r t e row = option_and_then (root_meaning t e) (row_value bytes r row)

-- the row has a value, and the expression is a fault over it
abbrev pub IsFaultAt : Bytes → RowsBy → DataType → Term → ℕ → Type 0
IsFaultAt bytes r t e row = IsSomeAnd (row_value bytes r row) (λ v. root_meaning t e v ≡ None)

-- These are what the expression is worth at the selected rows.
abbrev pub AreProjected : Bytes → RowsBy → DataType → Term → ℕ → List Bool → List Datum → Type 0
AreProjected bytes r t e start bits values = AreOf (row_meaning bytes r t e) (rows_of start bits) values

-- some row of the range reads what the fault names, or the expression is a fault at that selected row
abbrev pub ProjectionCause : Bytes → RowsBy → DataType → Term → ℕ → List Bool → ReaderError → Type 0
ProjectionCause bytes r t e start bits (EvalFault row) = (place : ℕ) × (slice_get bits place ≡ Some true) × (start + place ≡ row) × IsFaultAt bytes r t e row
ProjectionCause bytes r t e start bits fault = HasCause bytes r start (length bits) fault

-- the same by all bytes that the reads have
abbrev pub AreProjectedBy : List SegmentRead → RowsBy → DataType → Term → ℕ → List Bool → List Datum → Type 0
AreProjectedBy reads r t e start bits values = (bytes : Bytes) → HaveBytes bytes reads → AreProjected bytes r t e start bits values

abbrev pub ProjectionFails : List SegmentRead → RowsBy → DataType → Term → ℕ → List Bool → ReaderError → Type 0
ProjectionFails reads r t e start bits fault = (bytes : Bytes) → HaveBytes bytes reads → ProjectionCause bytes r t e start bits fault
