-- Masks: truth values, one for each row, and what they choose.
use Rattle.std.specs.Prelude.{◌≡◌, ℕ, zero, suc, ◌+◌, ◌<◌, ◌≤◌, Bool, true, false, ◌&&◌, ◌||◌, not, List, [], ◌∷◌, length, slice_get, Some, ◌==◌}
use Rattle.std.specs.List.{count_by, list_any, AllAdjacentBelow}

-- the rows at which the mask is true, in order
abbrev pub chosen : {X : Type 0} → List Bool → List X → List X
chosen [] xs = []
chosen (true ∷ mask) [] = []
chosen (true ∷ mask) (x ∷ xs) = x ∷ chosen mask xs
chosen (false ∷ mask) [] = []
chosen (false ∷ mask) (x ∷ xs) = chosen mask xs

-- The first mask with those of its true rows kept true that the second chooses: the second has a row for
-- each true row of the first.
abbrev pub chosen_of_chosen : List Bool → List Bool → List Bool
chosen_of_chosen [] ranks = []
chosen_of_chosen (false ∷ mask) ranks = false ∷ chosen_of_chosen mask ranks
chosen_of_chosen (true ∷ mask) [] = false ∷ chosen_of_chosen mask []
chosen_of_chosen (true ∷ mask) (bit ∷ ranks) = bit ∷ chosen_of_chosen mask ranks

-- choosing at once is choosing twice
abbrev pub ChoosesTwice : Type 0 → Type 0
ChoosesTwice X = (mask ranks : List Bool) (xs : List X) → chosen (chosen_of_chosen mask ranks) xs ≡ chosen ranks (chosen mask xs)

-- true where both are
abbrev pub both : List Bool → List Bool → List Bool
both [] ys = []
both (x ∷ xs) [] = []
both (x ∷ xs) (y ∷ ys) = (x && y) ∷ both xs ys

-- true where one of them is
abbrev pub either : List Bool → List Bool → List Bool
either [] ys = []
either (x ∷ xs) [] = []
either (x ∷ xs) (y ∷ ys) = (x || y) ∷ either xs ys

-- true where the first is and the second isn't
abbrev pub without : List Bool → List Bool → List Bool
without [] ys = []
without (x ∷ xs) [] = []
without (x ∷ xs) (y ∷ ys) = (x && not y) ∷ without xs ys

-- how many rows are true
abbrev pub true_count : List Bool → ℕ
true_count mask = count_by (λ bit. bit) mask

-- each index is less than the next
abbrev pub Ascend : List ℕ → Type 0
Ascend indices = AllAdjacentBelow (λ one two. one < two) indices (length indices)

-- whether the row is one of these
abbrev pub is_among : List ℕ → ℕ → Bool
is_among indices row = list_any (λ index. index == row) indices

-- no row of this range is true
abbrev pub NoneTrue : List Bool → ℕ → ℕ → Type 0
NoneTrue mask from to = (row : ℕ) → from ≤ row → row < to → slice_get mask row ≡ Some false

pub record IsFirstTrue (mask : List Bool) (row : ℕ) : Type 0 where
  pub here : slice_get mask row ≡ Some true
  pub before : NoneTrue mask 0 row

pub record IsLastTrue (mask : List Bool) (row : ℕ) : Type 0 where
  pub here : slice_get mask row ≡ Some true
  pub after : NoneTrue mask (row + 1) (length mask)

-- the place of the true row that has so many true rows before it
abbrev pub place_of_rank : List Bool → ℕ → ℕ
place_of_rank [] rank = 0
place_of_rank (false ∷ mask) rank = suc (place_of_rank mask rank)
place_of_rank (true ∷ mask) zero = 0
place_of_rank (true ∷ mask) (suc rank) = suc (place_of_rank mask rank)
