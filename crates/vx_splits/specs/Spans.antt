-- Boundaries of rows with cuts between those that lie too far apart.
use Rattle.std.specs.Prelude.{ℕ, ◌+◌, ◌-◌, ◌*◌, ◌≤◌, List, [], ◌∷◌, ◌++◌, length, map}
use Rattle.std.specs.List.{range_with_len, AllAdjacentBelow}
use Rattle.std.specs.Int.{div_ceil}

-- in how many parts a span is cut, and how many rows each of them but the last has
abbrev pub parts_of : ℕ → ℕ → ℕ
parts_of max_span span = div_ceil span max_span

abbrev pub step_of : ℕ → ℕ → ℕ
step_of max_span span = div_ceil span (parts_of max_span span)

-- the cuts between two boundaries, in order; none where their span is at most the greatest
abbrev pub cuts_between : ℕ → ℕ → ℕ → List ℕ
cuts_between max_span start end =
    map (λ part. start + part * step_of max_span (end - start)) (range_with_len 1 (parts_of max_span (end - start) - 1))

-- how many cuts lie between all boundaries
abbrev pub cut_count : ℕ → List ℕ → ℕ
cut_count max_span [] = 0
cut_count max_span (last ∷ []) = 0
cut_count max_span (start ∷ end ∷ boundaries) = parts_of max_span (end - start) - 1 + cut_count max_span (end ∷ boundaries)

-- the boundaries with those cuts between them
abbrev pub subdivided : ℕ → List ℕ → List ℕ
subdivided max_span [] = []
subdivided max_span (last ∷ []) = last ∷ []
subdivided max_span (start ∷ end ∷ boundaries) = start ∷ (cuts_between max_span start end ++ subdivided max_span (end ∷ boundaries))

-- no two boundaries that follow one another lie further apart than the greatest span
abbrev pub NoGapAbove : ℕ → List ℕ → Type 0
NoGapAbove max_span boundaries = AllAdjacentBelow (λ one two. two - one ≤ max_span) boundaries (length boundaries)
