-- At which row of a column an expression is a fault, where a filter works it out.
use Rattle.std.specs.Prelude.{◌≡◌, ℕ, ◌+◌, ◌*◌, ◌≤◌, ◌⊎◌, Bool, true, List, Some, None, length, IsSomeAnd}
use Rattle.std.specs.List.{slice_get}
use Rattle.vx_base.specs.Columns.{ColumnData}
use Rattle.vx_base.specs.Masks.{true_count}
use Rattle.vx_expr.specs.Terms.{Term}
use Rattle.vx_base.specs.Data.{Datum}
use Rattle.vx_picking.specs.declared.errors.LookUpError.TheVariants as looked
use Rattle.vx_picking.specs.RowFaults.{root_meaning, IsCodeFault}
use Rattle.vx_reads.specs.declared.errors.ReaderError.{ReaderError}
use Rattle.vx_reads.specs.declared.errors.ReaderError.TheVariants.{BadCode, EvalFault, Memory}

-- the row of the column is one, and the expression is a fault at its value
abbrev pub IsFaultOf : ColumnData → Term → ℕ → Type 0
IsFaultOf column e row = IsSomeAnd (slice_get column.values row) (λ v. root_meaning column.dtype e v ≡ None)

-- the number is that of a row among these, counted from the first one on, and the expression is a fault there
abbrev pub IsColumnFault : ColumnData → Term → ℕ → ℕ → List Bool → ReaderError → Type 0
IsColumnFault column e start first rows (EvalFault number) = (place : ℕ) × (slice_get rows place ≡ Some true) × (first + place ≡ number) × IsFaultOf column e (start + place)
IsColumnFault column e start first rows Memory = Unit {0}
IsColumnFault column e start first rows fault = ⊥

-- A column is filtered by working the expression out at the selected rows alone where these are less than a fifth of the
-- range, and else at each row of it.
abbrev pub IsWorkedOut : List Bool → ℕ → Type 0
IsWorkedOut bits place = IsSomeAnd (slice_get bits place) (λ bit. (bit ≡ true) ⊎ (length bits ≤ 5 * true_count bits))

-- the same where it is worked out
abbrev pub IsFilterFault : ColumnData → Term → ℕ → ℕ → List Bool → ReaderError → Type 0
IsFilterFault column e start first bits (EvalFault number) = (place : ℕ) × IsWorkedOut bits place × (first + place ≡ number) × IsFaultOf column e (start + place)
IsFilterFault column e start first bits Memory = Unit {0}
IsFilterFault column e start first bits fault = ⊥

-- Of a strict expression over the values of a dictionary: the number is that of a value at which it is a fault, or the code
-- of a selected row is none of the values.
abbrev pub IsPushedFault : ColumnData → Term → List Datum → ℕ → List Bool → ℕ → ReaderError → Type 0
IsPushedFault values e codes start bits dictionary (EvalFault number) = IsFaultOf values e number
IsPushedFault values e codes start bits dictionary (BadCode node row) = (node ≡ dictionary) × IsCodeFault (length values.values) codes start bits (looked.BadCode row)
IsPushedFault values e codes start bits dictionary Memory = Unit {0}
IsPushedFault values e codes start bits dictionary fault = ⊥
