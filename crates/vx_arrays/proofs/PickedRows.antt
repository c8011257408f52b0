-- Rows that are picked out of a list, row by row.
use Rattle.std.proofs.Common.{◌≡◌, ℕ, zero, suc, ◌+◌, ◌<◌, Bool, true, false, List, [], ◌∷◌, ◌++◌, length, get_or, drop, Some, refl, sym, subst, ◌∙◌, arith, append_assoc}
use Rattle.std.specs.Prelude.{slice_get}
use Rattle.std.proofs.lemmas.Option.{slice_get_within, get_or_from_slice_get}
use Rattle.std.proofs.lemmas.List.{append-nil, drop_more}
use Rattle.vx_masks.specs.Masks.{chosen}

-- what was kept of the rows so far
pub record ChosenSoFar {X : Type 0} (bits : List Bool) (rows kept : List X) (row : ℕ) : Type 0 where
  pub kept_all : kept ++ chosen (drop row bits) (drop row rows) ≡ chosen bits rows

pub chosen_more : {X : Type 0} (bits : List Bool) (rows kept : List X) (row : ℕ) (value : X) → length bits ≡ length rows → row < length rows → get_or bits row false ≡ true → value ≡ get_or rows row value
    → ChosenSoFar bits rows kept row → ChosenSoFar bits rows (kept ++ value ∷ []) (row + 1)
chosen_more bits rows kept row value len lt bit is h =
    let one = drop_more bits row false (omega arith) in
    let two = drop_more rows row value (omega arith) in
    let more = rw (one, bit, two, ← is) at h.kept_all in
    record { kept_all = rw (append_assoc kept (value ∷ []) (chosen (drop (row + 1) bits) (drop (row + 1) rows))) more }

pub chosen_skip : {X : Type 0} (bits : List Bool) (rows kept : List X) (row : ℕ) (value : X) → length bits ≡ length rows → row < length rows → get_or bits row false ≡ false → value ≡ get_or rows row value
    → ChosenSoFar bits rows kept row → ChosenSoFar bits rows kept (row + 1)
chosen_skip bits rows kept row value len lt bit is h =
    let one = drop_more bits row false (omega arith) in
    let two = drop_more rows row value (omega arith) in
    let more = rw (one, bit, two) at h.kept_all in
    record { kept_all = more }

pub there_is : {X : Type 0} (xs : List X) (i : ℕ) (x : X) → slice_get xs i ≡ Some x → x ≡ get_or xs i x
there_is xs i x e = sym (get_or_from_slice_get xs i x x e)

pub other_default : {X : Type 0} (xs : List X) (i : ℕ) (x y : X) → i < length xs → get_or xs i x ≡ get_or xs i y
other_default [] i x y h = absurd (omega arith)
other_default (z ∷ xs) zero x y h = refl
other_default (z ∷ xs) (suc i) x y h = other_default xs i x y (omega arith)

-- one more row, kept where it is chosen
step_by : {X : Type 0} (bits : List Bool) (rows kept : List X) (row : ℕ) (value : X) (bit : Bool) → length bits ≡ length rows → row < length rows → value ≡ get_or rows row value → get_or bits row false ≡ bit
    → ChosenSoFar bits rows kept row → ChosenSoFar bits rows (kept ++ chosen (bit ∷ []) (value ∷ [])) (row + 1)
step_by bits rows kept row value true len lt is e h = chosen_more bits rows kept row value len lt e is h
step_by {X} bits rows kept row value false len lt is e h = subst (λ (xs : List X). ChosenSoFar bits rows xs (row + 1)) (sym (append-nil kept)) (chosen_skip bits rows kept row value len lt e is h)

pub chosen_step : {X : Type 0} (bits : List Bool) (rows kept more : List X) (row : ℕ) (bit : Bool) (value : X) → length bits ≡ length rows → slice_get bits row ≡ Some bit → slice_get rows row ≡ Some value → more ≡ kept ++ chosen (bit ∷ []) (value ∷ [])
    → ChosenSoFar bits rows kept row → ChosenSoFar bits rows more (row + 1)
chosen_step {X} bits rows kept more row bit value len here at pushed h =
    let is : get_or bits row false ≡ bit = other_default bits row false bit (slice_get_within bits row bit here) ∙ sym (there_is bits row bit here) in
    subst (λ (xs : List X). ChosenSoFar bits rows xs (row + 1)) (sym pushed) (step_by bits rows kept row value bit len (slice_get_within rows row value at) (there_is rows row value at) is h)
