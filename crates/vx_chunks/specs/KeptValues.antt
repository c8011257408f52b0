-- A copy of a value that is kept, behind others.
use Rattle.std.specs.Prelude.{◌≡◌, ℕ, List, [], ◌∷◌, ◌++◌, MatchOption}
use Rattle.vx_steps.specs.Kept.{kept_at}
use Rattle.vx_steps.specs.KeptData.{Kept}

-- the right values of the plan stand behind the others, if there are any
abbrev pub Gives : ℕ → List Kept → List Kept → List Kept → Type 0
Gives n right old new = MatchOption (kept_at right n) (new ≡ old) (λ column. new ≡ old ++ record { node = n; column = column } ∷ [])
