-- Values that each fill the rows from the end before them to their own.
use Rattle.std.specs.Prelude.{◌≡◌, ℕ, suc, ◌-◌, ◌<◌, ◌⊎◌, List, [], ◌∷◌, ◌++◌, length, replicate, slice_index}
use Rattle.vx_arrays.specs.Texts.{start_in}

-- the values, each in its rows, the first of which is the given one
abbrev pub spread : {X : Type 0} → ℕ → List X → List ℕ → List X
spread from [] ends = []
spread from (v ∷ values) [] = []
spread from (v ∷ values) (end ∷ ends) = replicate (end - from) v ++ spread end values ends

-- there is a value and an end, which is above the one before it
pub record IsGoodEnd (count : ℕ) (ends : List ℕ) (place : ℕ) : Type 0 where
  pub value : place < count
  pub there : place < length ends
  pub above : start_in ends place < slice_index ends place

-- as many ends as values, each above the one before it
pub record AreGoodEnds (count : ℕ) (ends : List ℕ) : Type 0 where
  pub same : length ends ≡ count
  pub good : (place : ℕ) → place < count → IsGoodEnd count ends place

-- The first place where an end isn't above the one before it, or where one of the lists has ended and the other
-- hasn't.
pub record IsFirstBadEnd (count : ℕ) (ends : List ℕ) (place : ℕ) : Type 0 where
  pub there : (place < count) ⊎ (place < length ends)
  pub bad : ¬ (IsGoodEnd count ends place)
  pub before : (earlier : ℕ) → earlier < place → IsGoodEnd count ends earlier

-- the number of the value that each row has
abbrev pub run_places : ℕ → ℕ → List ℕ → List ℕ
run_places run from [] = []
run_places run from (end ∷ ends) = replicate (end - from) run ++ run_places (suc run) end ends
