-- The rule of the claim word between any two steps.
use Rattle.std.specs.Prelude.{◌≡◌, ℕ, ◌-◌, ◌<◌, ◌≤◌, min, true, false, List, [], ◌∷◌}
use Rattle.std.specs.List.{All, sum_by}
use Rattle.atomic_table.specs.Table.{State}
use Rattle.vx_claims.specs.declared.views.View.{View}
use Rattle.vx_claims.specs.Limits.{most_chunks, all_parts}
use Rattle.vx_claims.specs.Apart.{times, once_below}

-- A view without parts is spent; each other one has the count of the claims.
pub record Fits (count : ℕ) (view : View) : Type 0 where
  pub within : view.over ≤ view.parts
  pub untold : view.told ≡ false → view.over ≡ 0
  pub told : view.told ≡ true → 0 < view.parts → 0 < view.over
  pub counted : 0 < view.parts → view.count ≡ count
  pub spent : view.parts ≡ 0 → view.claimed ≡ []

pub record Rule (count word : ℕ) (views : List View) : Type 0 where
  -- the numbers of all seats differ, and they are those below the word and the count
  pub each : (x : ℕ) → sum_by (λ view. times x view.claimed) views ≡ once_below (min word count) x
  -- the draws over the count are what the word has passed it by
  pub over : sum_by (λ view. view.over) views ≡ word - count
  pub parts : sum_by (λ view. view.parts) views ≡ all_parts
  pub fits : All (Fits count) views
  pub small : count ≤ most_chunks

-- the state has the one word, and it keeps the rule
abbrev pub Kept : ℕ → State (Unit {0}) View → Type 0
Kept count s = (word : ℕ) × (s.words ≡ word ∷ []) × Rule count word s.views
