-- What a column is to its callers, and which value of a list is the first that its dtype doesn't take.
use Rattle.std.specs.Prelude.{ℕ, List, take, IsSomeAnd}
use Rattle.std.specs.List.{AllByRecursion, slice_get}
use Rattle.vx_types.specs.Data.{DataType, Datum}
use Rattle.vx_types.specs.Fits.{Fits}

pub record ColumnData : Type 0 where
  pub dtype : DataType
  pub values : List Datum

-- each value before the row fits, and that of the row doesn't
pub record IsFirstUnfit (t : DataType) (values : List Datum) (row : ℕ) : Type 0 where
  pub unfit : IsSomeAnd (slice_get values row) (λ v. ¬ (Fits t v))
  pub before : AllByRecursion (Fits t) (take row values)
