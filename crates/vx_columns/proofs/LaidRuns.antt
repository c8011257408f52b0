-- Neighbours that differ, row by row.
use Rattle.std.proofs.Common.{◌≡◌, ℕ, zero, suc, ◌+◌, ◌-◌, ◌<◌, ◌≤◌, List, [], ◌∷◌, length, Option, Some, ◌⊎◌, inl, inr, ap, subst, ◌∙◌, arith}
use Rattle.std.specs.Prelude.{slice_get}
use Rattle.std.proofs.lemmas.Bool.{cases_lt}
use Rattle.std.proofs.lemmas.Option.{same_Some}
use Rattle.vx_columns.specs.LaidRuns.{Differ}

-- a row of the list that has the value of the row before it, told by its place
abbrev pub Repeats : {X : Type 0} → List X → ℕ → Type 0
Repeats rows place = slice_get rows place ≡ slice_get rows (suc place)

-- no row up to this one has the value of the row before it
abbrev pub DifferTo : {X : Type 0} → List X → ℕ → Type 0
DifferTo rows row = (place : ℕ) → suc place < row → ¬ (Repeats rows place)

pub record DifferSoFar {X : Type 0} (rows : List X) (row : ℕ) : Type 0 where
  pub low : 1 ≤ row
  pub differ : DifferTo rows row

pub differ_none : {X : Type 0} (rows : List X) → DifferSoFar rows 1
differ_none rows = record { low = omega arith; differ = λ place lt. absurd (omega arith) }

last_or_before : {X : Type 0} (rows : List X) (row place : ℕ) → 1 ≤ row → ¬ (slice_get rows (row - 1) ≡ slice_get rows row) → DifferTo rows row → suc place < row + 1 → Repeats rows place → (suc place < row) ⊎ (row ≤ suc place) → ⊥
last_or_before rows row place low other h lt same (inl before) = h place before same
last_or_before {X} rows row place low other h lt same (inr past) =
    let here : place ≡ row - 1 = omega (arith, lt, past, low) in
    let next : suc place ≡ row = omega (arith, lt, past, low) in
    other (subst (λ (k : ℕ). slice_get rows k ≡ slice_get rows row) here (subst (λ (k : ℕ). slice_get rows place ≡ slice_get rows k) next same))

pub differ_more : {X : Type 0} (rows : List X) (row : ℕ) → ¬ (slice_get rows (row - 1) ≡ slice_get rows row) → DifferSoFar rows row → DifferSoFar rows (row + 1)
differ_more rows row other h = record {
  low = omega arith;
  differ = λ place lt same. last_or_before rows row place h.low other h.differ lt same (cases_lt (suc place) row);
}

abbrev some_of : (X : Type 0) → X → Option X
some_of X x = Some x

all_differ : {X : Type 0} (rows : List X) (row : ℕ) → length rows ≤ row → DifferTo rows row → Differ rows
all_differ [] row past h = tt
all_differ (v ∷ []) row past h = (tt, tt)
all_differ {X} (v ∷ w ∷ rows) row past h = (λ same. h 0 (omega arith) (ap (some_of X) same), all_differ (w ∷ rows) (row - 1) (omega arith) (λ place lt. h (suc place) (omega arith)))

pub differ_all : {X : Type 0} (rows : List X) (row : ℕ) → length rows ≤ row → DifferSoFar rows row → Differ rows
differ_all rows row past h = all_differ rows row past h.differ

pub not_repeated : {X : Type 0} (rows : List X) (place : ℕ) → suc place < length rows → Differ rows → Repeats rows place → ⊥
not_repeated [] place lt d same = omega arith
not_repeated (v ∷ []) place lt d same = omega arith
not_repeated (v ∷ w ∷ rows) zero lt d same = d.0 (same_Some v w same)
not_repeated (v ∷ w ∷ rows) (suc place) lt d same = not_repeated (w ∷ rows) place (omega arith) d.1 same

pub row_repeats : {X : Type 0} (rows : List X) (row : ℕ) → row < length rows → DifferSoFar rows row → slice_get rows (row - 1) ≡ slice_get rows row → ¬ (Differ rows)
row_repeats {X} rows row lt h same d =
    let next : row ≡ suc (row - 1) = omega (arith, h.low) in
    not_repeated rows (row - 1) (omega (arith, lt, h.low)) d (same ∙ ap (slice_get rows) next)
