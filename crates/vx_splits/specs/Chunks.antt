-- Chunks: rows in steps of a size, counted from the first row of the file on.
use Rattle.std.specs.Prelude.{◌≡◌, ℕ, ◌+◌, ◌-◌, ◌*◌, ◌/◌, ◌%◌, ◌<◌, ◌≤◌, ◌↔◌, nat_le, nat_lt, min, max, Bool, true, false, if◌then◌else◌, List, [], ◌∷◌, map, Some}
use Rattle.std.specs.List.{Any, sum_by, flat_map, range_with_len}
use Rattle.std.specs.Int.{div_ceil}
use Rattle.std.specs.declared.ops.Range.{Range}
use Rattle.vx_base.specs.declared.locations.SegmentLocation.{SegmentLocation}
use Rattle.vx_splits.specs.declared.chunks.TheConstants.{MAX_BLOCKS}
use Rattle.vx_splits.specs.declared.selections.Selection.{Selection}
use Rattle.vx_splits.specs.Limits.{most_chunk_rows, block_rows, chunk_bytes}
use Rattle.vx_splits.specs.Taken.{selected_rows, taken_rows}

-- ---- how many rows a chunk has

-- the bytes that a row has, if the bytes of all segments are shared out evenly: at least one
abbrev pub bytes_per_row : ℕ → List SegmentLocation → ℕ
bytes_per_row row_count locations = max 1 (div_ceil (sum_by (λ at. at.length) locations) row_count)

-- Eight MiB of rows, in whole blocks, one block to eight; a small file is one chunk.
abbrev pub rows_per_chunk : ℕ → List SegmentLocation → ℕ
rows_per_chunk row_count locations =
    if nat_le row_count most_chunk_rows then most_chunk_rows
    else block_rows * max 1 (min MAX_BLOCKS (chunk_bytes / bytes_per_row row_count locations / block_rows))

-- the rows of a chunk of a scan, by whether its projection is the bare root
abbrev pub chunk_size : Bool → ℕ → List SegmentLocation → ℕ
chunk_size true row_count locations = rows_per_chunk row_count locations
chunk_size false row_count locations = most_chunk_rows

-- A chunk has whole blocks, one at least, and no more rows than the most.
pub record IsChunkSize (size : ℕ) : Type 0 where
  pub blocks : size % block_rows ≡ 0
  pub at_least : block_rows ≤ size
  pub at_most : size ≤ most_chunk_rows

-- each chunk of a scan is such
abbrev pub ChunkSizes : Type 0
ChunkSizes = (is_root : Bool) (row_count : ℕ) (locations : List SegmentLocation) →
    IsChunkSize (chunk_size is_root row_count locations)

-- two rows lie in one chunk
abbrev pub SharesChunk : ℕ → ℕ → ℕ → Type 0
SharesChunk size row other = row / size ≡ other / size

-- ---- the chunks of a range

-- the rows of the range in the chunk of that number
abbrev pub clipped_chunk : ℕ → ℕ → ℕ → ℕ → Range ℕ
clipped_chunk size start end number = record { start = max start (number * size); end = min end (number * size + size) }

-- the range cut at the multiples of the size; none of an empty range
abbrev pub row_chunks : ℕ → ℕ → ℕ → List (Range ℕ)
row_chunks size start end =
    if nat_lt start end then map (clipped_chunk size start end) (range_with_len (start / size) ((end - 1) / size + 1 - start / size)) else []

-- the pieces follow one another from start to end, and none is empty
abbrev pub Tile : ℕ → ℕ → List (Range ℕ) → Type 0
Tile start end [] = start ≡ end
Tile start end (piece ∷ pieces) = (piece.start ≡ start) × (piece.start < piece.end) × Tile piece.end end pieces

-- each piece but the last ends at a multiple of the size
abbrev pub CutsAtMultiples : ℕ → List (Range ℕ) → Type 0
CutsAtMultiples size [] = Unit {0}
CutsAtMultiples size (piece ∷ []) = Unit {0}
CutsAtMultiples size (piece ∷ next ∷ pieces) = (piece.end % size ≡ 0) × CutsAtMultiples size (next ∷ pieces)

-- what is selected of the chunks of a range, one after the other, is what is selected of the range
abbrev pub ChunksJoin : Type 0
ChunksJoin = (selection : Selection) (size start end : ℕ) → 0 < size →
    flat_map (λ chunk. selected_rows selection chunk.start chunk.end) (row_chunks size start end) ≡ selected_rows selection start end

-- the same of the rows of a scan without a limit: they are those that are selected of the chunks of its range below the
-- row count
abbrev pub ChunksTake : Type 0
ChunksTake = (selection : Selection) (range : Range ℕ) (size row_count : ℕ) → 0 < size →
    flat_map (λ chunk. selected_rows selection chunk.start chunk.end) (row_chunks size range.start (min range.end row_count))
    ≡ taken_rows selection (Some range) row_count

-- one of the pieces has both rows
abbrev pub LieInOne : List (Range ℕ) → ℕ → ℕ → Type 0
LieInOne pieces row other =
    Any (λ piece. (piece.start ≤ row) × (row < piece.end) × (piece.start ≤ other) × (other < piece.end)) pieces

-- two rows of a range lie in one of its chunks exactly where they share a chunk
abbrev pub ChunksAreShared : Type 0
ChunksAreShared = (size start end row other : ℕ) → 0 < size → start ≤ row → row < end → start ≤ other → other < end →
    LieInOne (row_chunks size start end) row other ↔ SharesChunk size row other
