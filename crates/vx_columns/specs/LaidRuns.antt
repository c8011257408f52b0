-- How a list of rows lies in runs: where a run of rows that are the same ends, and the one way to cut all rows so.
use Rattle.std.specs.Prelude.{◌≡◌, ℕ, ◌<◌, ◌≤◌, List, [], ◌∷◌, length, slice_get}
use Rattle.vx_columns.specs.Runs.{spread}
use Rattle.vx_columns.specs.RunRows.{Rise}

-- the first of the rows, if there is one, is another than this
abbrev pub BeginOther : {X : Type 0} → X → List X → Type 0
BeginOther v [] = Unit {0}
BeginOther v (w ∷ rows) = ¬ (v ≡ w)

-- neighbours are never the same
abbrev pub Differ : {X : Type 0} → List X → Type 0
Differ [] = Unit {0}
Differ (v ∷ rows) = BeginOther v rows × Differ rows

-- The rows are these values, each in the rows from the end before it to its own, and no two neighbours of the values
-- are the same.
pub record AreRunsOf {X : Type 0} (rows values : List X) (ends : List ℕ) : Type 0 where
  pub same : length ends ≡ length values
  pub rise : Rise 0 ends
  pub filled : spread 0 values ends ≡ rows
  pub differ : Differ values

-- from the one row up to the end all rows are the same, and at the end, if there is a row, is another
pub record IsRunEnd {X : Type 0} (rows : List X) (row end : ℕ) : Type 0 where
  pub behind : row < end
  pub inside : end ≤ length rows
  pub alike : (other : ℕ) → row ≤ other → other < end → slice_get rows other ≡ slice_get rows row
  pub ended : end < length rows → ¬ (slice_get rows end ≡ slice_get rows row)

-- all rows are the same
abbrev pub AllAlike : {X : Type 0} → List X → Type 0
AllAlike rows = (row : ℕ) → row < length rows → slice_get rows row ≡ slice_get rows 0

-- the first row that has another value than the first one
pub record IsFirstOther {X : Type 0} (rows : List X) (row : ℕ) : Type 0 where
  pub there : row < length rows
  pub other : ¬ (slice_get rows row ≡ slice_get rows 0)
  pub alike : (earlier : ℕ) → earlier < row → slice_get rows earlier ≡ slice_get rows 0
