-- Rows by chunk.
use Rattle.std.proofs.Common.{◌≡◌, ℕ, zero, suc, ◌+◌, ◌/◌, ◌<◌, ◌==◌, Bool, true, false, cond, List, [], ◌∷◌, ◌++◌, map, refl, sym, ap, ◌∙◌, arith, eq-eqb, ne_eqb}
use Rattle.std.specs.List.{AllByRecursion, flat_map, range_with_len}
use Rattle.vx_scan.specs.Answer.{in_front, pieces_of}

-- those of the pieces that have a row
abbrev pub nonempty : List (List ℕ) → List (List ℕ)
nonempty [] = []
nonempty ([] ∷ pieces) = nonempty pieces
nonempty ((row ∷ rows) ∷ pieces) = (row ∷ rows) ∷ nonempty pieces

-- ---- one row in front

-- pieces begin with a row of a later chunk than that of the number
abbrev StartBehind : ℕ → ℕ → List (List ℕ) → Type 0
StartBehind size number [] = Unit {0}
StartBehind size number ([] ∷ pieces) = ⊥
StartBehind size number ((row ∷ rows) ∷ pieces) = number < row / size

front_alone : (size number row : ℕ) (pieces : List (List ℕ)) → row / size ≡ number → StartBehind size number pieces → in_front size row pieces ≡ (row ∷ []) ∷ pieces
front_alone size number row [] here behind = refl
front_alone size number row ([] ∷ pieces) here behind = absurd behind
front_alone size number row ((other ∷ others) ∷ pieces) here behind =
    ap (λ (same : Bool). cond same ((row ∷ other ∷ others) ∷ pieces) ((row ∷ []) ∷ (other ∷ others) ∷ pieces))
    (ne_eqb (row / size) (other / size) (λ (e : row / size ≡ other / size). omega (arith, here, behind, e)))

front_joined : (size number row other : ℕ) (others : List ℕ) (pieces : List (List ℕ)) → row / size ≡ number → other / size ≡ number → in_front size row ((other ∷ others) ∷ pieces) ≡ (row ∷ other ∷ others) ∷ pieces
front_joined size number row other others pieces here there =
    ap (λ (same : Bool). cond same ((row ∷ other ∷ others) ∷ pieces) ((row ∷ []) ∷ (other ∷ others) ∷ pieces))
    (eq-eqb (row / size) (other / size) (here ∙ sym there))

front_starts : (size number row : ℕ) (pieces : List (List ℕ)) → number < row / size → StartBehind size number (in_front size row pieces)
front_starts size number row [] behind = behind
front_starts size number row ([] ∷ pieces) behind = behind
front_starts size number row ((other ∷ others) ∷ pieces) behind = by_chunk (row / size == other / size)
  where
    by_chunk : (same : Bool) → StartBehind size number (cond same ((row ∷ other ∷ others) ∷ pieces) ((row ∷ []) ∷ (other ∷ others) ∷ pieces))
    by_chunk true = behind
    by_chunk false = behind

-- ---- the rows of one chunk in front

abbrev pub LieIn : ℕ → ℕ → List ℕ → Type 0
LieIn size number rows = AllByRecursion (λ row. row / size ≡ number) rows

chunk_in_front : (size number row : ℕ) (rows later : List ℕ) → LieIn size number (row ∷ rows) → StartBehind size number (pieces_of size later) → pieces_of size (row ∷ (rows ++ later)) ≡ (row ∷ rows) ∷ pieces_of size later
chunk_in_front size number row [] later lie behind = front_alone size number row (pieces_of size later) lie.0 behind
chunk_in_front size number row (other ∷ others) later lie behind =
    ap (in_front size row) (chunk_in_front size number other others later lie.1 behind)
    ∙ front_joined size number row other others (pieces_of size later) lie.0 lie.1.0

-- ---- chunks in a row

some_in_front : (size number : ℕ) (rows later : List ℕ) → LieIn size number rows → StartBehind size number (pieces_of size later) → pieces_of size (rows ++ later) ≡ nonempty (rows ∷ []) ++ pieces_of size later
some_in_front size number [] later lie behind = refl
some_in_front size number (row ∷ rows) later lie behind = chunk_in_front size number row rows later lie behind

some_start : (size low number : ℕ) (rows later : List ℕ) → low < number → LieIn size number rows → StartBehind size low (pieces_of size later) → StartBehind size low (pieces_of size (rows ++ later))
some_start size low number [] later lt lie behind = behind
some_start size low number (row ∷ rows) later lt lie behind = front_starts size low row (pieces_of size (rows ++ later)) (let here = lie.0 in omega (arith, lt, here))

starts : (size : ℕ) (f : ℕ → List ℕ) → ((k : ℕ) → LieIn size k (f k)) → (count first low : ℕ) → low < first → StartBehind size low (pieces_of size (flat_map f (range_with_len first count)))
starts size f lie zero first low lt = tt
starts size f lie (suc count) first low lt = some_start size low first (f first) (flat_map f (range_with_len (first + 1) count)) lt (lie first) (starts size f lie count (first + 1) low (omega (arith, lt)))

nonempty_first : (rows : List ℕ) (pieces : List (List ℕ)) → nonempty (rows ∷ pieces) ≡ nonempty (rows ∷ []) ++ nonempty pieces
nonempty_first [] pieces = refl
nonempty_first (row ∷ rows) pieces = refl

pub pieces_by_chunk : (size : ℕ) (f : ℕ → List ℕ) → ((k : ℕ) → LieIn size k (f k)) → (count first : ℕ) → pieces_of size (flat_map f (range_with_len first count)) ≡ nonempty (map f (range_with_len first count))
pieces_by_chunk size f lie zero first = refl
pieces_by_chunk size f lie (suc count) first =
    some_in_front size first (f first) (flat_map f (range_with_len (first + 1) count)) (lie first) (starts size f lie count (first + 1) first (omega arith))
    ∙ (ap (λ (later : List (List ℕ)). nonempty (f first ∷ []) ++ later) (pieces_by_chunk size f lie count (first + 1))
    ∙ sym (nonempty_first (f first) (map f (range_with_len (first + 1) count))))
