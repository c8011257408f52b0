-- What is selected of the chunks of a range are the pieces of what is selected of it.
use Rattle.std.proofs.Common.{inl, inr, ◌≡◌, ℕ, zero, suc, ◌+◌, ◌-◌, ◌*◌, ◌/◌, ◌<◌, ◌≤◌, min, max, Bool, List, ◌∷◌, ◌++◌, map, refl, sym, ap, ◌∙◌, arith}
use Rattle.std.specs.List.{filter, flat_map, range_with_len}
use Rattle.std.specs.declared.ops.Range.{Range}
use Rattle.std.proofs.lemmas.Bool.{cases_lt, cond_both, lt-ltb, le-ltb}
use Rattle.vx_splits.specs.Chunks.{clipped_chunk, row_chunks}
use Rattle.vx_splits.specs.Taken.{rows_between}
use Rattle.vx_splits.proofs.ChunkRows.{in_chunk}
use Rattle.vx_scan.specs.Answer.{pieces_of}
use Rattle.vx_scan.proofs.Pieces.{nonempty, pieces_by_chunk, LieIn}

lie_from : (test : ℕ → Bool) (size number : ℕ) → 0 < size → (n low : ℕ) → number * size ≤ low → low + n ≤ number * size + size → LieIn size number (filter test (range_with_len low n))
lie_from test size number some zero low from below = tt
lie_from test size number some (suc n) low from below =
    let rest = lie_from test size number some n (low + 1) (omega (arith, from)) (omega (arith, below)) in
    let rows = filter test (range_with_len (low + 1) n) in
    cond_both (test low) (low ∷ rows) rows (LieIn size number) (λ e. (in_chunk size number low some from (omega (arith, below)), rest)) (λ e. rest)

lie_between : (test : ℕ → Bool) (size number start end : ℕ) → 0 < size → number * size ≤ start → end ≤ number * size + size → LieIn size number (filter test (rows_between start end))
lie_between test size number start end some from below = elim (cases_lt start end) [
  | inl forwards ↦ lie_from test size number some (end - start) start from (omega (arith, forwards, below))
  | inr back ↦ let none : end - start ≡ 0 = omega arith in rw none tt
]

abbrev pub selected_of : (ℕ → Bool) → Range ℕ → List ℕ
selected_of test piece = filter test (rows_between piece.start piece.end)

lie_clipped : (test : ℕ → Bool) (size start end number : ℕ) → 0 < size → LieIn size number (selected_of test (clipped_chunk size start end number))
lie_clipped test size start end number some = lie_between test size number (max start (number * size)) (min end (number * size + size)) some (omega arith) (omega arith)

map_twice : (f : ℕ → Range ℕ) (test : ℕ → Bool) (n first : ℕ) → map (selected_of test) (map f (range_with_len first n)) ≡ map (λ (k : ℕ). selected_of test (f k)) (range_with_len first n)
map_twice f test zero first = refl
map_twice f test (suc n) first = ap (λ (rest : List (List ℕ)). selected_of test (f first) ∷ rest) (map_twice f test n (first + 1))

flat_twice : (f : ℕ → Range ℕ) (test : ℕ → Bool) (n first : ℕ) → flat_map (selected_of test) (map f (range_with_len first n)) ≡ flat_map (λ (k : ℕ). selected_of test (f k)) (range_with_len first n)
flat_twice f test zero first = refl
flat_twice f test (suc n) first = ap (λ (rest : List ℕ). selected_of test (f first) ++ rest) (flat_twice f test n (first + 1))

pub chunk_pieces : (test : ℕ → Bool) (size start end : ℕ) → 0 < size → flat_map (selected_of test) (row_chunks size start end) ≡ filter test (rows_between start end) → pieces_of size (filter test (rows_between start end)) ≡ nonempty (map (selected_of test) (row_chunks size start end))
chunk_pieces test size start end some joined = elim (cases_lt start end) [
  | inl forwards ↦
      let first : ℕ = start / size in
      let count : ℕ = (end - 1) / size + 1 - start / size in
      let f : ℕ → Range ℕ = clipped_chunk size start end in
      let chunks : row_chunks size start end ≡ map f (range_with_len first count) = rw (lt-ltb start end forwards) refl in
      ap (pieces_of size) (sym joined ∙ (ap (flat_map (selected_of test)) chunks ∙ flat_twice f test count first))
      ∙ (pieces_by_chunk size (λ (k : ℕ). selected_of test (f k)) (λ (k : ℕ). lie_clipped test size start end k some) count first
      ∙ (ap nonempty (sym (map_twice f test count first)) ∙ ap (λ (ranges : List (Range ℕ)). nonempty (map (selected_of test) ranges)) (sym chunks)))
  | inr back ↦
      let none : end - start ≡ 0 = omega arith in
      rw (le-ltb start end back, none) refl
]
