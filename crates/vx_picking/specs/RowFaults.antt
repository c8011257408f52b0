-- Faults at a value of the selected rows.
use Rattle.std.specs.Prelude.{◌≡◌, ℕ, pos, ◌≤ℤ◌, Bool, List, Option, Some, None, IsSomeAnd}
use Rattle.std.specs.List.{slice_get}
use Rattle.vx_base.specs.Data.{DataType, Datum, number}
use Rattle.vx_expr.specs.Meaning.{meaning}
use Rattle.vx_expr.specs.Terms.{Term}
use Rattle.vx_expr.specs.Rows.{no_bound}
use Rattle.vx_expr.specs.declared.applying.ApplyError.{ApplyError}
use Rattle.vx_expr.specs.declared.applying.ApplyError.TheVariants as applied
use Rattle.vx_picking.specs.declared.errors.LookUpError.{LookUpError}
use Rattle.vx_picking.specs.declared.errors.LookUpError.TheVariants as looked
use Rattle.vx_picking.specs.Rows.{rows_of}

-- the row is that of the place among the selected rows
abbrev pub IsRowAt : ℕ → List Bool → ℕ → ℕ → Type 0
IsRowAt start bits place row = (other : ℕ) → slice_get (rows_of start bits) place ≡ Some other → row ≡ other

-- what an expression is worth over a root's value
abbrev pub root_meaning : DataType → Term → Datum → Option Datum
root_meaning t e v = meaning t no_bound e v 0

-- a value at which the expression is a fault, and its row
abbrev pub IsEvalFault : DataType → Term → List Datum → ℕ → List Bool → ApplyError → Type 0
IsEvalFault t e values start bits (applied.EvalFault row) = (place : ℕ) × IsSomeAnd (slice_get values place) (λ v. root_meaning t e v ≡ None) × IsRowAt start bits place row
IsEvalFault t e values start bits applied.Memory = Unit {0}

-- a number that is none of so many values
abbrev pub IsPastCode : ℕ → Datum → Type 0
IsPastCode count (number z) = pos count ≤ℤ z
IsPastCode count code = ⊥

-- a code that is none of so many values, and its row
abbrev pub IsCodeFault : ℕ → List Datum → ℕ → List Bool → LookUpError → Type 0
IsCodeFault count codes start bits (looked.BadCode row) = (place : ℕ) × IsSomeAnd (slice_get codes place) (IsPastCode count) × IsRowAt start bits place row
IsCodeFault count codes start bits looked.Memory = Unit {0}
