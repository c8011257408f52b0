-- What a scan holds of leaves: their columns, and the segments that still have a leaf without one.
use Rattle.std.specs.Prelude.{◌≡◌, ℕ, Some}
use Rattle.vx_base.specs.Columns.{ColumnData}
use Rattle.vx_steps.specs.Kept.{kept_at, IsKept}
use Rattle.vx_steps.specs.LeavesData.{LeavesData}

-- What was here still is, and so is each column that was kept, where none of its plan was gone before.
pub record KeepsHere (old new : LeavesData) : Type 0 where
  pub ready : new.ready ≡ old.ready
  pub stays : (n : ℕ) (column : ColumnData) → kept_at old.here n ≡ Some column → kept_at new.here n ≡ Some column
  pub here : (n : ℕ) → (IsKept old.all n → IsKept old.here n) → IsKept new.all n → IsKept new.here n
