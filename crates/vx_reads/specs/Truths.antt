-- At which rows an expression is true, and what a filter makes of a mask.
use Rattle.std.specs.Prelude.{◌≡◌, ℕ, ◌+◌, ◌⊎◌, Bool, true, false, ◌&&◌, List, [], ◌∷◌, map, Option, Some, None, option_and_then, IsSome, IsSomeAnd}
use Rattle.std.specs.List.{slice_get}
use Rattle.vx_base.specs.Columns.{ColumnData}
use Rattle.vx_base.specs.Data.{Datum, null}
use Rattle.vx_base.specs.Slots.{truth_in}
use Rattle.vx_expr.specs.Terms.{Term}
use Rattle.vx_rows.specs.Derivations.{look_up}
use Rattle.vx_picking.specs.RowFaults.{root_meaning}
use Rattle.vx_picking.specs.Rows.{AreOf}

-- whether what is worth so much is true: a null isn't, nor is a fault
abbrev pub is_true : Option Datum → Bool
is_true None = false
is_true (Some v) = truth_in v

-- the selected rows at which f is true, from the first row of the range on
abbrev pub filtered : (ℕ → Option Datum) → ℕ → List Bool → List Bool
filtered f start [] = []
filtered f start (bit ∷ bits) = (bit && is_true (f start)) ∷ filtered f (start + 1) bits

-- P of each selected row, from the first row of the range on
abbrev pub EachRow : (ℕ → Type 0) → ℕ → List Bool → Type 0
EachRow P start [] = Unit {0}
EachRow P start (true ∷ bits) = P start × EachRow P (start + 1) bits
EachRow P start (false ∷ bits) = EachRow P (start + 1) bits

-- f is a fault at none of them
abbrev pub AreWorth : (ℕ → Option Datum) → ℕ → List Bool → Type 0
AreWorth f start bits = EachRow (λ row. IsSome (f row)) start bits

-- there is a value, and f is no fault over it but perhaps where it is null
abbrev pub IsKnown : (Datum → Option Datum) → Option Datum → Type 0
IsKnown f value = IsSomeAnd value (λ v. (v ≡ null) ⊎ IsSome (f v))

-- what the expression is worth at a row of the column
abbrev pub column_meaning : ColumnData → Term → ℕ → Option Datum
column_meaning column e row = option_and_then (root_meaning column.dtype e) (slice_get column.values row)

-- Each of them says whether f is true at its row; none of the rows is a fault.
abbrev pub AreTruths : (ℕ → Option Datum) → List ℕ → List Bool → Type 0
AreTruths f rows truths = (values : List Datum) × AreOf f rows values × (truths ≡ map truth_in values)

-- what the expression is worth over the value at the code of a row
abbrev pub looked_meaning : ColumnData → Term → (ℕ → Option Datum) → ℕ → Option Datum
looked_meaning values e code_at row = option_and_then (root_meaning values.dtype e) (option_and_then (look_up values.values) (code_at row))

-- the code of each selected row looks up a value, over which the expression is no fault but perhaps where it is null
abbrev pub AreLookedUp : ColumnData → Term → (ℕ → Option Datum) → ℕ → List Bool → Type 0
AreLookedUp values e code_at start bits =
    EachRow (λ row. IsKnown (root_meaning values.dtype e) (option_and_then (look_up values.values) (code_at row))) start bits
