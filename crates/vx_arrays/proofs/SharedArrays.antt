-- Arrays that are shared.
use Rattle.std.proofs.Common.{◌≡◌, ℕ, ◌-◌, ◌≤◌, ◌∙◌, length, refl, arith}
use Rattle.vx_types.specs.Columns.{ColumnData}
use Rattle.vx_arrays.specs.ArrayRows.{sliced}
use Rattle.vx_arrays.proofs.PackedRows.{same_column}

-- a range of as many rows as there are is all of them
pub whole_sliced : (from to : ℕ) (rows : ColumnData) → from ≤ to → to ≤ length rows.values → to - from ≡ length rows.values → sliced from to rows ≡ rows
whole_sliced from to rows up inside all =
    let first : from ≡ 0 = omega arith in
    let last : to ≡ length rows.values = omega arith in
    (λ i. sliced (first i) (last i) rows) ∙ same_column (sliced 0 (length rows.values) rows) rows refl refl
