-- The rows of all chunks are the rows of the file.
use Rattle.std.proofs.Common.{◌≡◌, ℕ, zero, suc, ◌+◌, ◌-◌, ◌*◌, ◌<◌, min, List, [], ◌∷◌, ◌++◌, map, refl, sym, ap, ◌∙◌, arith}
use Rattle.std.specs.List.{flat_map, range_with_len}
use Rattle.std.proofs.lemmas.List.{append-nil, map-append}
use Rattle.vx_base.specs.Data.{Datum}
use Rattle.vx_layout.proofs.Joined.{range_split}
use Rattle.scan_demo.specs.declared.stored_columns.StoredColumn.{StoredColumn}
use Rattle.scan_demo.specs.Flats.{chunk_count, chunk_rows, stored_value}

map-flat_map : (f : ℕ → Datum) (rows_of : ℕ → List ℕ) (places : List ℕ) → flat_map (λ place. map f (rows_of place)) places ≡ map f (flat_map rows_of places)
map-flat_map f rows_of [] = refl
map-flat_map f rows_of (place ∷ places) =
    ap (λ (more : List Datum). map f (rows_of place) ++ more) (map-flat_map f rows_of places) ∙ sym (map-append f (rows_of place) (flat_map rows_of places))

-- the rows of the chunks from one on
abbrev rows_left : ℕ → ℕ → ℕ → ℕ
rows_left number from end = min number (end * 8192) - from * 8192

joined : (a b p q k : ℕ) → k ≡ p + q → (0 < q → b ≡ a + p) → range_with_len a p ++ range_with_len b q ≡ range_with_len a k
joined a b p zero k e next = append-nil (range_with_len a p) ∙ ap (range_with_len a) (let same : p ≡ k = omega arith in same)
joined a b p (suc q) k e next = sym (range_split a b p (suc q) k e (next (omega arith)))

rows_joined : (number from count end : ℕ) → end ≡ from + count → flat_map (chunk_rows number) (range_with_len from count) ≡ range_with_len (from * 8192) (rows_left number from end)
rows_joined number from zero end e = ap (range_with_len (from * 8192)) (let none : 0 ≡ rows_left number from end = omega arith in none)
rows_joined number from (suc count) end e =
    ap (λ (more : List ℕ). chunk_rows number from ++ more) (rows_joined number (from + 1) count end (omega arith))
    ∙ joined (from * 8192) ((from + 1) * 8192) (min number (from * 8192 + 8192) - from * 8192) (rows_left number (from + 1) end) (rows_left number from end) (omega arith) (λ some. omega arith)

-- the rows of all chunks
pub rows_are_joined : (number : ℕ) → flat_map (chunk_rows number) (range_with_len 0 (chunk_count number)) ≡ range_with_len 0 number
rows_are_joined number =
    rows_joined number 0 (chunk_count number) (chunk_count number) (omega arith)
    ∙ ap (range_with_len 0) (let all_rows : rows_left number 0 (chunk_count number) ≡ number = omega arith in all_rows)

-- the values of all chunks of a column
pub chunks_joined : (column : StoredColumn) (number : ℕ) → flat_map (λ place. map (stored_value column number) (chunk_rows number place)) (range_with_len 0 (chunk_count number)) ≡ map (stored_value column number) (range_with_len 0 number)
chunks_joined column number =
    map-flat_map (stored_value column number) (chunk_rows number) (range_with_len 0 (chunk_count number)) ∙ ap (map (stored_value column number)) (rows_are_joined number)
