-- The columns of the pieces that workers gave.
use Rattle.std.specs.Prelude.{◌≡◌, map, Result, Ok, Err, ◌⊎◌, Some, None}
use Rattle.std.specs.Global.{Vec}
use Rattle.vx_drive.specs.declared.errors.ScanError.{ScanError}
use Rattle.vx_drive.specs.declared.errors.ScanError.TheVariants.{Memory}
use Rattle.vx_workers.specs.declared.worker_states.ChunkError.{ChunkError}
use Rattle.vx_workers.specs.declared.worker_states.Piece.{Piece}
use Rattle.vx_execute.specs.declared.outcomes.Outcome.{Outcome}
use Rattle.vx_base.specs.Columns.{ColumnData}

-- the workers told that error of some chunk
pub record Told (outcome : Outcome) (error : ScanError) : Type 0 where
  pub failed : ChunkError
  pub is : outcome.error ≡ Some failed
  pub why : failed.error ≡ error

-- without an error the columns are those of the pieces, in order
abbrev pub TakesBatches : Outcome → Result (Vec ColumnData) ScanError → Type 0
TakesBatches outcome (Ok batches) = (outcome.error ≡ None) × (batches.items ≡ map (λ (piece : Piece). piece.column) outcome.pieces.items)
TakesBatches outcome (Err error) = (error ≡ Memory) ⊎ Told outcome error
