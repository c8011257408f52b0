-- A value that is kept behind others.
use Rattle.std.proofs.Common.{◌≡◌, ℕ, ◌⊎◌, inl, inr, Bool, true, false, List, [], ◌∷◌, ◌++◌, Option, Some, None, refl, ap}
use Rattle.std.specs.Prelude.{if◌then◌else◌, ◌==◌}
use Rattle.std.proofs.lemmas.Bool.{eqb-true, eq-eqb}
use Rattle.vx_steps.specs.Kept.{kept_at, IsKept}
use Rattle.vx_steps.specs.KeptData.{Kept}
use Rattle.vx_base.specs.Columns.{ColumnData}

either_behind : (b : Bool) (column : ColumnData) (rest more : Option ColumnData) (found : ColumnData) (Q : Type 0) → (more ≡ Some found → (rest ≡ Some found) ⊎ Q) → (if b then Some column else more) ≡ Some found → ((if b then Some column else rest) ≡ Some found) ⊎ Q
either_behind true column rest more found Q f at = inl at
either_behind false column rest more found Q f at = f at

only_one : (one : Kept) (n : ℕ) (column : ColumnData) (test : Bool) → (one.node == n) ≡ test → (if test then Some one.column else None) ≡ Some column → (one.node ≡ n) × (one.column ≡ column)
only_one one n column true is at = (eqb-true one.node n is, cc)
only_one one n column false is at = absurd cc

-- what is kept was kept before, or is the last one
pub kept_either : (old : List Kept) (last : Kept) (n : ℕ) (column : ColumnData) → kept_at (old ++ last ∷ []) n ≡ Some column → (kept_at old n ≡ Some column) ⊎ ((last.node ≡ n) × (last.column ≡ column))
kept_either [] last n column at = inr (only_one last n column (last.node == n) refl at)
kept_either (one ∷ old) last n column at = either_behind (one.node == n) one.column (kept_at old n) (kept_at (old ++ last ∷ []) n) column ((last.node ≡ n) × (last.column ≡ column)) (kept_either old last n column) at

-- some column is kept for the plan of the last one
kept_test : (b : Bool) (column : ColumnData) (rest : Option ColumnData) → (found : ColumnData) × (rest ≡ Some found) → (found : ColumnData) × ((if b then Some column else rest) ≡ Some found)
kept_test true column rest found = (column, refl)
kept_test false column rest found = found

pub kept_last : (old : List Kept) (last : Kept) → IsKept (old ++ last ∷ []) last.node
kept_last [] last = (last.column, ap (λ (b : Bool). if b then Some last.column else None) (eq-eqb last.node last.node refl))
kept_last (one ∷ old) last = kept_test (one.node == last.node) one.column (kept_at (old ++ last ∷ []) last.node) (kept_last old last)
