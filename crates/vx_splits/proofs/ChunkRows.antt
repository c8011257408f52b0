-- The chunks of a range: they tile it, and they are cut at multiples.
use Rattle.std.proofs.Common.{inl, inr, ◌≡◌, ℕ, zero, suc, ◌+◌, ◌-◌, ◌*◌, ◌/◌, ◌%◌, ◌<◌, ◌≤◌, min, max, Bool, true, false, List, [], ◌∷◌, ◌++◌, length, get_or, map, refl, sym, ap, ◌∙◌, arith}
use Rattle.std.specs.Prelude.{nat_le}
use Rattle.std.specs.List.{flat_map, filter, range_with_len}
use Rattle.std.specs.declared.ops.Range.{Range}
use Rattle.std.proofs.lemmas.Bool.{cases_lt, lt-ltb, le-ltb, cond_both}
use Rattle.std.proofs.lemmas.List.{length-map}
use Rattle.std.proofs.lemmas.Nat.{mod-mul-add, div-add-mod', mod_below, le-div, mul-le}
use Rattle.std.proofs.lemmas.List.FromFn.{map-range_with_len_more, length-range_with_len, get_or-map-range_with_len}
use Rattle.vx_splits.specs.Limits.{most_chunk_rows, block_rows, chunk_bytes}
use Rattle.vx_splits.specs.Chunks.{bytes_per_row, IsChunkSize, ChunkSizes, SharesChunk, clipped_chunk, row_chunks, Tile, CutsAtMultiples, ChunksJoin, ChunksTake, LieInOne, ChunksAreShared}
use Rattle.vx_splits.specs.Taken.{rows_between, selects}
use Rattle.vx_splits.proofs.Between.{filter_at}

-- ---- products
pub next_multiple : (q size : ℕ) → (q + 1) * size ≡ q * size + size
next_multiple q size = grind arith

multiple_behind : (q n size : ℕ) → (q + suc n) * size ≡ (q + 1 + n) * size
multiple_behind q n size = ap (λ (k : ℕ). k * size) (omega arith)

two_behind : (q n size : ℕ) → q * size + size + size ≤ (q + suc (suc n)) * size
two_behind q n size = grind arith

-- ---- the chunks of a range that isn't empty, from the one with number q on
abbrev chunks_from : ℕ → ℕ → ℕ → ℕ → ℕ → List (Range ℕ)
chunks_from size start end q n = map (clipped_chunk size start end) (range_with_len q n)

tiles : (size start end n q low : ℕ) → low ≡ max start (q * size) → low < end → low < q * size + size → end ≤ (q + n) * size → (q + n) * size < end + size → Tile low end (chunks_from size start end q n)
tiles size start end zero q low e inside here reach short = absurd (let same : (q + 0) * size ≡ q * size = ap (λ (k : ℕ). k * size) (omega arith) in omega arith)
tiles size start end (suc zero) q low e inside here reach short =
    let same : (q + 1) * size ≡ q * size + size = next_multiple q size in
    (sym e, omega arith, omega arith)
tiles size start end (suc (suc n)) q low e inside here reach short =
    let same : (q + 1) * size ≡ q * size + size = next_multiple q size in
    let behind : (q + suc (suc n)) * size ≡ (q + 1 + suc n) * size = multiple_behind q (suc n) size in
    let two : q * size + size + size ≤ (q + suc (suc n)) * size = two_behind q n size in
    let low' = min end (q * size + size) in
    (sym e, omega arith, tiles size start end (suc n) (q + 1) low' (omega arith) (omega arith) (omega arith) (omega arith) (omega arith))

cuts : (size start end n q : ℕ) → 0 < size → (q + n) * size < end + size → CutsAtMultiples size (chunks_from size start end q n)
cuts size start end zero q some short = tt
cuts size start end (suc zero) q some short = tt
cuts size start end (suc (suc n)) q some short =
    let same : (q + 1) * size ≡ q * size + size = next_multiple q size in
    let behind : (q + suc (suc n)) * size ≡ (q + 1 + suc n) * size = multiple_behind q (suc n) size in
    let two : q * size + size + size ≤ (q + suc (suc n)) * size = two_behind q n size in
    let cut : min end (q * size + size) ≡ (q + 1) * size + 0 = omega arith in
    (ap (λ (k : ℕ). k % size) cut ∙ mod-mul-add (q + 1) size 0 some, cuts size start end (suc n) (q + 1) some (omega arith))

-- the numbers of the first chunk and of the one behind the last
first_chunk : (size row : ℕ) → 0 < size → (row / size * size ≤ row) × (row < row / size * size + size)
first_chunk size row some = let e = div-add-mod' row size in let below = mod_below row size some in (omega arith, omega arith)

pub first_before_last : (size start end : ℕ) → 0 < size → start < end → start / size ≤ (end - 1) / size
first_before_last size start end some forwards =
    let first = first_chunk size start some in
    le-div (start / size) (end - 1) size some (omega (arith, first))

count_of : (size start end : ℕ) → 0 < size → start < end → (start / size + ((end - 1) / size + 1 - start / size)) * size ≡ (end - 1) / size * size + size
count_of size start end some forwards =
    let up = first_before_last size start end some forwards in
    ap (λ (k : ℕ). k * size) (omega arith) ∙ next_multiple ((end - 1) / size) size

pub row_chunks-tile : (size start end : ℕ) → 0 < size → start < end → Tile start end (row_chunks size start end)
row_chunks-tile size start end some forwards =
    let first = first_chunk size start some in
    let last = first_chunk size (end - 1) some in
    let count = count_of size start end some forwards in
    rw (lt-ltb start end forwards) (tiles size start end ((end - 1) / size + 1 - start / size) (start / size) start (omega (arith, first)) forwards first.1 (omega (arith, last, count)) (omega (arith, last, count)))

pub row_chunks-cuts : (size start end : ℕ) → 0 < size → CutsAtMultiples size (row_chunks size start end)
row_chunks-cuts size start end some = elim (cases_lt start end) [
  | inl forwards ↦
      let last = first_chunk size (end - 1) some in
      let count = count_of size start end some forwards in
      rw (lt-ltb start end forwards) (cuts size start end ((end - 1) / size + 1 - start / size) (start / size) some (omega (arith, last, count)))
  | inr back ↦ rw (le-ltb start end back) tt
]

-- ---- the loop
pub chunks_more : (size start end first number : ℕ) (so_far : List (Range ℕ)) (piece : Range ℕ) → first ≤ number → so_far ≡ chunks_from size start end first (number - first) → piece ≡ clipped_chunk size start end number → so_far ++ piece ∷ [] ≡ chunks_from size start end first (number + 1 - first)
chunks_more size start end first number so_far piece le e here =
    ap (λ (xs : List (Range ℕ)). xs ++ piece ∷ []) e ∙ ap (λ (x : Range ℕ). chunks_from size start end first (number - first) ++ x ∷ []) here
    ∙ sym (map-range_with_len_more (clipped_chunk size start end) first (number - first) number (omega arith)) ∙ ap (λ (n : ℕ). chunks_from size start end first n) (omega arith)

pub chunks_all : (size start end number : ℕ) (so_far : List (Range ℕ)) → start < end → number ≡ (end - 1) / size + 1 → so_far ≡ chunks_from size start end (start / size) (number - start / size) → so_far ≡ row_chunks size start end
chunks_all size start end number so_far forwards e h = rw (lt-ltb start end forwards) (h ∙ ap (λ (n : ℕ). chunks_from size start end (start / size) (n - start / size)) e)

-- ---- what is selected of the chunks
tile_forwards : (pieces : List (Range ℕ)) (start end : ℕ) → Tile start end pieces → start ≤ end
tile_forwards [] start end e = omega arith
tile_forwards (piece ∷ pieces) start end h = let rest = tile_forwards pieces piece.end end h.2 in omega (arith, h.0, h.1)

joined : (test : ℕ → Bool) (pieces : List (Range ℕ)) (start end : ℕ) → Tile start end pieces → flat_map (λ (piece : Range ℕ). filter test (rows_between piece.start piece.end)) pieces ≡ filter test (rows_between start end)
joined test [] start end h =
    let none : end - start ≡ 0 = omega arith in
    rw none refl
joined test (piece ∷ pieces) start end h =
    let behind = tile_forwards pieces piece.end end h.2 in
    let first : filter test (rows_between piece.start piece.end) ≡ filter test (rows_between start piece.end) = ap (λ (k : ℕ). filter test (rows_between k piece.end)) h.0 in
    let rest = joined test pieces piece.end end h.2 in
    let whole = filter_at test start piece.end end (omega (arith, h.0, h.1)) behind in
    ap (λ (xs : List ℕ). xs ++ flat_map (λ (part : Range ℕ). filter test (rows_between part.start part.end)) pieces) first
    ∙ ap (λ (xs : List ℕ). filter test (rows_between start piece.end) ++ xs) rest
    ∙ sym whole

pub joins : ChunksJoin
joins selection size start end some = elim (cases_lt start end) [
  | inl forwards ↦ joined (selects selection) (row_chunks size start end) start end (row_chunks-tile size start end some forwards)
  | inr back ↦ let none : end - start ≡ 0 = omega arith in rw (le-ltb start end back, none) refl
]

-- what is selected of the chunks below the row count
pub takes : ChunksTake
takes selection range size row_count some = joins selection size range.start (min range.end row_count) some

-- ---- the rows of a chunk
blocks_sized : (blocks : ℕ) → IsChunkSize (block_rows * max 1 (min 8 blocks))
blocks_sized blocks =
    let count : ℕ = max 1 (min 8 blocks) in
    let turned : block_rows * count ≡ count * block_rows + 0 = omega arith in
    record {
      blocks = ap (λ (k : ℕ). k % block_rows) turned ∙ mod-mul-add count block_rows 0 (omega arith);
      at_least = omega arith;
      at_most = omega arith;
    }

most_sized : IsChunkSize most_chunk_rows
most_sized = record { blocks = refl; at_least = omega arith; at_most = omega arith }

pub sizes : ChunkSizes
sizes true row_count locations =
    cond_both (nat_le row_count most_chunk_rows) most_chunk_rows (block_rows * max 1 (min 8 (chunk_bytes / bytes_per_row row_count locations / block_rows))) IsChunkSize (λ e. most_sized) (λ e. blocks_sized (chunk_bytes / bytes_per_row row_count locations / block_rows))
sizes false row_count locations = most_sized

-- ---- shared chunks
-- a row lies in one chunk only
pub in_chunk : (size number row : ℕ) → 0 < size → number * size ≤ row → row < number * size + size → row / size ≡ number
in_chunk size number row some low high =
    let here = first_chunk size row some in
    elim (cases_lt (row / size) number) [
      | inl under ↦ absurd (let le = mul-le (row / size + 1) size number size (omega arith) (omega arith) in let e = next_multiple (row / size) size in omega (arith, here))
      | inr over ↦ elim (cases_lt number (row / size)) [
        | inl above ↦ absurd (let le = mul-le (number + 1) size (row / size) size (omega arith) (omega arith) in let e = next_multiple number size in omega (arith, here))
        | inr same ↦ omega arith
      ]
    ]

chunk_at : (size start end q n k number : ℕ) (d : Range ℕ) → k < n → q + k ≡ number → get_or (chunks_from size start end q n) k d ≡ clipped_chunk size start end number
chunk_at size start end q n k number d lt e = get_or-map-range_with_len (clipped_chunk size start end) q n k number d lt e

chunk_count : (size start end q n : ℕ) → length (chunks_from size start end q n) ≡ n
chunk_count size start end q n = length-map (range_with_len q n) (clipped_chunk size start end) ∙ length-range_with_len q n

one_chunk : (size start end q n row other : ℕ) → 0 < size → LieInOne (chunks_from size start end q n) row other → SharesChunk size row other
one_chunk size start end q n row other some h =
    let k : ℕ = h.0 in
    let piece : Range ℕ = h.1 in
    let inside : k < n = omega (arith, h.2, chunk_count size start end q n) in
    let is : piece ≡ clipped_chunk size start end (q + k) = sym h.3 ∙ chunk_at size start end q n k (q + k) piece inside refl in
    let begins : piece.start ≡ max start ((q + k) * size) = ap (λ (p : Range ℕ). p.start) is in
    let ends : piece.end ≡ min end ((q + k) * size + size) = ap (λ (p : Range ℕ). p.end) is in
    in_chunk size (q + k) row some (omega (arith, h.4)) (omega (arith, h.4)) ∙ sym (in_chunk size (q + k) other some (omega (arith, h.4)) (omega (arith, h.4)))

lies_in_one : (size start end row other : ℕ) → 0 < size → start ≤ row → row < end → start ≤ other → other < end → SharesChunk size row other
    → LieInOne (chunks_from size start end (start / size) ((end - 1) / size + 1 - start / size)) row other
lies_in_one size start end row other some from below other_from other_below same =
    let q : ℕ = start / size in
    let n : ℕ = (end - 1) / size + 1 - start / size in
    let number : ℕ = row / size in
    let first = first_chunk size start some in
    let here = first_chunk size row some in
    let there = first_chunk size other some in
    let at : other / size * size ≡ number * size = ap (λ (k : ℕ). k * size) (sym same) in
    let low : q ≤ number = le-div q row size some (omega (arith, first)) in
    let high : number ≤ (end - 1) / size = le-div number (end - 1) size some (omega (arith, here)) in
    let inside : number - q < n = omega arith in
    (number - q, clipped_chunk size start end number, omega (arith, chunk_count size start end q n), chunk_at size start end q n (number - q) number (clipped_chunk size start end number) inside (omega arith), (omega (arith, here), omega (arith, here), omega (arith, there), omega (arith, there)))

pub shared : ChunksAreShared
shared size start end row other some from below other_from other_below =
    let forwards : start < end = omega arith in
    rw (lt-ltb start end forwards)
    (one_chunk size start end (start / size) ((end - 1) / size + 1 - start / size) row other some, lies_in_one size start end row other some from below other_from other_below)

-- ---- the first chunk, and those of the rows behind it
-- from a chunk on that begins behind both starts the pieces are the same
behind_both : (size start other end n q : ℕ) → start ≤ q * size → other ≤ q * size → chunks_from size start end q n ≡ chunks_from size other end q n
behind_both size start other end zero q from other_from = refl
behind_both size start other end (suc n) q from other_from =
    let next : (q + 1) * size ≡ q * size + size = next_multiple q size in
    let starts : max start (q * size) ≡ max other (q * size) = omega arith in
    ap (λ (low : ℕ). record { start = low; end = min end (q * size + size) } ∷ chunks_from size start end (q + 1) n) starts
    ∙ ap (λ (rest : List (Range ℕ)). clipped_chunk size other end q ∷ rest) (behind_both size start other end n (q + 1) (omega arith) (omega arith))

rest_of : (size start end : ℕ) → 0 < size → start < end → chunks_from size start end (start / size + 1) ((end - 1) / size - start / size) ≡ row_chunks size (min end (start / size * size + size)) end
rest_of size start end some forwards =
    let q : ℕ = start / size in
    let last : ℕ = (end - 1) / size in
    let here = first_chunk size start some in
    elim (cases_lt (q * size + size) end) [
      | inl more ↦
          let low : ℕ = q * size + size in
          let next : (q + 1) * size ≡ low = next_multiple q size in
          let cut : min end low ≡ low = omega arith in
          let number : low / size ≡ q + 1 = in_chunk size (q + 1) low some (omega arith) (omega arith) in
          behind_both size start low end (last - q) (q + 1) (omega (arith, here)) (omega arith)
          ∙ ap (λ (n : ℕ). chunks_from size low end (q + 1) n) (omega arith)
          ∙ ap (λ (k : ℕ). chunks_from size low end k (last + 1 - k)) (sym number)
          ∙ rw (lt-ltb low end more) refl
          ∙ ap (λ (k : ℕ). row_chunks size k end) (sym cut)
      | inr all ↦
          let cut : min end (q * size + size) ≡ end = omega arith in
          let number : last ≡ q = in_chunk size q (end - 1) some (omega (arith, here)) (omega arith) in
          let none : last - q ≡ 0 = omega arith in
          ap (λ (n : ℕ). chunks_from size start end (q + 1) n) none
          ∙ rw (le-ltb end end (omega arith)) refl
          ∙ ap (λ (k : ℕ). row_chunks size k end) (sym cut)
    ]

pub chunks_first : (size start end : ℕ) → 0 < size → start < end → row_chunks size start end ≡ clipped_chunk size start end (start / size) ∷ row_chunks size (min end (start / size * size + size)) end
chunks_first size start end some forwards =
    let q : ℕ = start / size in
    let last : ℕ = (end - 1) / size in
    let up : q ≤ last = first_before_last size start end some forwards in
    let count : last + 1 - q ≡ suc (last - q) = omega arith in
    rw (lt-ltb start end forwards) (ap (λ (n : ℕ). chunks_from size start end q n) count)
    ∙ ap (λ (rest : List (Range ℕ)). clipped_chunk size start end q ∷ rest) (rest_of size start end some forwards)
