-- What a book keeps: the first column of each plan.
use Rattle.std.specs.Prelude.{◌≡◌, ℕ, List, [], ◌∷◌, ◌++◌, Option, Some, None}
use Rattle.vx_steps.specs.Kept.{kept_at}
use Rattle.vx_steps.specs.KeptData.{Kept}
use Rattle.vx_base.specs.Columns.{ColumnData}

-- where the plan had a column it stays, and is given; else the new one is the last entry, and is given
abbrev pub InsertsBy : Option ColumnData → ℕ → ColumnData → ColumnData → List Kept → List Kept → Type 0
InsertsBy (Some column) node given kept old new = (kept ≡ column) × (new ≡ old)
InsertsBy None node given kept old new = (kept ≡ given) × (new ≡ old ++ record { node = node; column = given } ∷ [])

abbrev pub Inserts : ℕ → ColumnData → ColumnData → List Kept → List Kept → Type 0
Inserts node given kept old new = InsertsBy (kept_at old node) node given kept old new
