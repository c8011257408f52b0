-- The rows of a mask, whatever is kept of them.
use Rattle.std.specs.Prelude.{◌≤◌, ◌<◌, ◌+◌, ℕ, zero, suc, Bool, true, List, [], ◌∷◌, replicate}
use Rattle.vx_masks.specs.declared.masks.Form.{Form}
use Rattle.vx_masks.specs.declared.masks.Form.TheVariants as forms
use Rattle.vx_masks.specs.Masks.{is_among}

-- a truth value for each of so many rows from one on: whether its number is one of these
abbrev pub marks_from : ℕ → ℕ → List ℕ → List Bool
marks_from start zero numbers = []
marks_from start (suc count) numbers = is_among numbers start ∷ marks_from (start + 1) count numbers

-- the numbers ascend, from the lowest on, and are below the highest
abbrev pub Within : ℕ → ℕ → List ℕ → Type 0
Within low high [] = Unit {0}
Within low high (number ∷ numbers) = (low ≤ number) × (number < high) × Within (number + 1) high numbers

-- a truth value for each row
abbrev pub rows_in : Form → List Bool
rows_in (forms.Words words) = words
rows_in (forms.All alloc rows) = replicate rows true
rows_in (forms.Few alloc numbers rows) = marks_from 0 rows numbers.items

-- the numbers of few rows are those of rows, in order
abbrev pub IsForm : Form → Type 0
IsForm (forms.Words words) = Unit {0}
IsForm (forms.All alloc rows) = Unit {0}
IsForm (forms.Few alloc numbers rows) = Within 0 rows numbers.items
