-- The first rows of pieces, as many as a limit.
use Rattle.std.proofs.Common.{◌≡◌, ℕ, zero, suc, ◌+◌, ◌-◌, ◌/◌, ◌==◌, ◌≤◌, Bool, true, false, cond, List, [], ◌∷◌, ◌++◌, length, take, refl, sym, ap, ◌∙◌, arith}
use Rattle.vx_scan.specs.Answer.{in_front, pieces_of}
use Rattle.vx_scan.specs.FilePlans.{rows_in}

-- the pieces up to the last of so many rows, none without one
abbrev pub firsts : ℕ → List (List ℕ) → List (List ℕ)
firsts zero pieces = []
firsts (suc limit) [] = []
firsts (suc limit) ([] ∷ pieces) = firsts (suc limit) pieces
firsts (suc limit) ((row ∷ rows) ∷ pieces) = (row ∷ take limit rows) ∷ firsts (limit - length rows) pieces

pub rows_more : (ones : List (List ℕ)) (rows : List ℕ) → rows_in (ones ++ rows ∷ []) ≡ rows_in ones + length rows
rows_more [] rows = omega arith
rows_more (one ∷ ones) rows = let rest = rows_more ones rows in omega (arith, rest)

-- pieces behind enough rows don't count
pub firsts_enough : (limit : ℕ) (ones twos : List (List ℕ)) → limit ≤ rows_in ones → firsts limit (ones ++ twos) ≡ firsts limit ones
firsts_enough zero ones twos enough = refl
firsts_enough (suc limit) [] twos enough = absurd (omega (arith, enough))
firsts_enough (suc limit) ([] ∷ ones) twos enough = firsts_enough (suc limit) ones twos (omega (arith, enough))
firsts_enough (suc limit) ((row ∷ rows) ∷ ones) twos enough =
    ap (λ (pieces : List (List ℕ)). (row ∷ take limit rows) ∷ pieces) (firsts_enough (limit - length rows) ones twos (omega (arith, enough)))

-- ---- the pieces of the first rows

-- the first piece has a row
abbrev BeginsFull : List (List ℕ) → Type 0
BeginsFull [] = Unit {0}
BeginsFull ([] ∷ pieces) = ⊥
BeginsFull ((row ∷ rows) ∷ pieces) = Unit {0}

either_full : (same : Bool) (row other : ℕ) (others : List ℕ) (pieces : List (List ℕ)) → BeginsFull (cond same ((row ∷ other ∷ others) ∷ pieces) ((row ∷ []) ∷ (other ∷ others) ∷ pieces))
either_full true row other others pieces = tt
either_full false row other others pieces = tt

front_full : (size row : ℕ) (pieces : List (List ℕ)) → BeginsFull (in_front size row pieces)
front_full size row [] = tt
front_full size row ([] ∷ pieces) = tt
front_full size row ((other ∷ others) ∷ pieces) = either_full (row / size == other / size) row other others pieces

pieces_full : (size : ℕ) (rows : List ℕ) → BeginsFull (pieces_of size rows)
pieces_full size [] = tt
pieces_full size (row ∷ rows) = front_full size row (pieces_of size rows)

none_taken : (limit : ℕ) → take limit (let none : List ℕ = [] in none) ≡ []
none_taken zero = refl
none_taken (suc limit) = refl

none_first : (limit : ℕ) → firsts limit [] ≡ []
none_first zero = refl
none_first (suc limit) = refl

alone : (limit row : ℕ) (pieces : List (List ℕ)) → firsts (suc limit) ((row ∷ []) ∷ pieces) ≡ (row ∷ []) ∷ firsts limit pieces
alone limit row pieces =
    let e : limit - 0 ≡ limit = omega arith in
    ap (λ (rows : List ℕ). (row ∷ rows) ∷ firsts (limit - 0) pieces) (none_taken limit) ∙ ap (λ (n : ℕ). (row ∷ []) ∷ firsts n pieces) e

-- in front of a piece that is cut
cut_front : (same : Bool) (limit row other : ℕ) (others : List ℕ) (pieces : List (List ℕ))
    → cond same ((row ∷ other ∷ take limit others) ∷ firsts (limit - length others) pieces) ((row ∷ []) ∷ (other ∷ take limit others) ∷ firsts (limit - length others) pieces)
    ≡ firsts (suc (suc limit)) (cond same ((row ∷ other ∷ others) ∷ pieces) ((row ∷ []) ∷ (other ∷ others) ∷ pieces))
cut_front true limit row other others pieces =
    let e : limit - length others ≡ suc limit - suc (length others) = omega arith in
    ap (λ (n : ℕ). (row ∷ other ∷ take limit others) ∷ firsts n pieces) e
cut_front false limit row other others pieces = sym (alone (suc limit) row ((other ∷ others) ∷ pieces))

-- in front of pieces of which none is left
last_front : (same : Bool) (row other : ℕ) (others : List ℕ) (pieces : List (List ℕ)) → (row ∷ []) ∷ [] ≡ firsts 1 (cond same ((row ∷ other ∷ others) ∷ pieces) ((row ∷ []) ∷ (other ∷ others) ∷ pieces))
last_front true row other others pieces =
    let e : 0 ≡ 0 - suc (length others) = omega arith in
    ap (λ (n : ℕ). (row ∷ []) ∷ firsts n pieces) e
last_front false row other others pieces = refl

front_first : (size limit row : ℕ) (pieces : List (List ℕ)) → BeginsFull pieces → in_front size row (firsts limit pieces) ≡ firsts (suc limit) (in_front size row pieces)
front_first size limit row [] full = ap (in_front size row) (none_first limit) ∙ (ap (λ (pieces : List (List ℕ)). (row ∷ []) ∷ pieces) (sym (none_first limit)) ∙ sym (alone limit row []))
front_first size limit row ([] ∷ pieces) full = absurd full
front_first size zero row ((other ∷ others) ∷ pieces) full = last_front (row / size == other / size) row other others pieces
front_first size (suc limit) row ((other ∷ others) ∷ pieces) full = cut_front (row / size == other / size) limit row other others pieces

pub first_pieces : (size limit : ℕ) (rows : List ℕ) → pieces_of size (take limit rows) ≡ firsts limit (pieces_of size rows)
first_pieces size zero rows = refl
first_pieces size (suc limit) [] = refl
first_pieces size (suc limit) (row ∷ rows) = ap (in_front size row) (first_pieces size limit rows) ∙ front_first size limit row (pieces_of size rows) (pieces_full size rows)
