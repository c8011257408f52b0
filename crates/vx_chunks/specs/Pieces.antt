-- The column of a scan's split as the piece of its chunk.
use Rattle.std.specs.Prelude.{◌≡◌, [], Option, Some, None, Result, Ok, Err}
use Rattle.vx_drive.specs.declared.errors.ScanError.{ScanError}
use Rattle.vx_drive.specs.declared.errors.ScanError.TheVariants.{Memory}
use Rattle.vx_drive.specs.declared.plans.ScanPlans.{ScanPlans}
use Rattle.vx_drive.specs.Plans.{projection_node}
use Rattle.vx_base.specs.Columns.{ColumnData}

-- a column of no rows, of the projection's dtype
pub record IsEmptyPiece (plans : ScanPlans) (column : ColumnData) : Type 0 where
  pub dtype : column.dtype ≡ (projection_node plans).dtype
  pub values : column.values ≡ []

-- The piece is the column; where there is none, it is empty, or memory lacks.
abbrev pub PieceOf : ScanPlans → Result (Option ColumnData) ScanError → Result ColumnData ScanError → Type 0
PieceOf plans (Ok (Some column)) piece = piece ≡ Ok column
PieceOf plans (Ok None) (Ok column) = IsEmptyPiece plans column
PieceOf plans (Ok None) (Err error) = error ≡ Memory
PieceOf plans (Err error) piece = piece ≡ Err error
