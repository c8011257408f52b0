-- Rows that lie in runs, as data.
use Rattle.std.specs.Prelude.{◌≡◌, ℕ, zero, suc, ◌+◌, ◌-◌, ◌<◌, ◌≤◌, Bool, List, [], ◌∷◌, ◌++◌, length, map, take, drop, min, replicate, slice_index}
use Rattle.vx_masks.specs.Masks.{true_count}
use Rattle.vx_masks.specs.Rows.{taken}
use Rattle.vx_types.specs.Columns.{ColumnData}
use Rattle.vx_types.specs.Data.{Datum, null}
use Rattle.vx_columns.specs.Runs.{spread}

-- each end is above the one before it
abbrev pub Rise : ℕ → List ℕ → Type 0
Rise from [] = Unit {0}
Rise from (end ∷ ends) = (from < end) × Rise end ends

-- where the run at a place begins
abbrev pub start_of : ℕ → List ℕ → ℕ → ℕ
start_of from ends zero = from
start_of from [] (suc place) = from
start_of from (end ∷ ends) (suc place) = start_of end ends place

-- the run at that place has the row
pub record HasRow (ends : List ℕ) (row place : ℕ) : Type 0 where
  pub there : place < length ends
  pub from : start_of 0 ends place ≤ row
  pub below : row < slice_index ends place

-- At the places stand the values of the rows, and nothing where there is no such row, whatever values the runs have.
abbrev pub AreRunsAt : List ℕ → List ℕ → List ℕ → Type 0
AreRunsAt ends rows places = (values : List Datum) → length ends ≡ length values → taken null values places ≡ taken null (spread 0 values ends) rows

-- values and the rows that they fill
abbrev pub runs_column : ColumnData → List ℕ → ColumnData
runs_column values ends = record { dtype = values.dtype; values = spread 0 values.values ends }

-- an end for each value, above the one before it
pub record AreRuns (values : ColumnData) (ends : List ℕ) : Type 0 where
  pub same : length ends ≡ length values.values
  pub rise : Rise 0 ends

-- the values, each repeated so often
abbrev pub repeated : {X : Type 0} → List ℕ → List X → List X
repeated [] values = []
repeated (count ∷ counts) [] = []
repeated (count ∷ counts) (v ∷ values) = replicate count v ++ repeated counts values

-- where runs end of which a range of rows has a part, counted from its first row
abbrev pub cut_ends : ℕ → ℕ → List ℕ → List ℕ
cut_ends start stop ends = map (λ end. min stop end - start) ends

-- how many rows of each run the mask chooses
abbrev pub mask_counts : List Bool → ℕ → List ℕ → List ℕ
mask_counts mask from [] = []
mask_counts mask from (end ∷ ends) = true_count (take (end - from) mask) ∷ mask_counts (drop (end - from) mask) end ends

-- the places of the counts that aren't 0
abbrev pub kept_places : ℕ → List ℕ → List ℕ
kept_places place [] = []
kept_places place (zero ∷ counts) = kept_places (suc place) counts
kept_places place (suc more ∷ counts) = place ∷ kept_places (suc place) counts

-- where so many rows of each end, one behind the other
abbrev pub kept_ends : ℕ → List ℕ → List ℕ
kept_ends from [] = []
kept_ends from (zero ∷ counts) = kept_ends from counts
kept_ends from (suc more ∷ counts) = (from + suc more) ∷ kept_ends (from + suc more) counts
