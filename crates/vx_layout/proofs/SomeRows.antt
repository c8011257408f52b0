-- What some row of a child finds, some row of the node finds, whatever it is.
use Rattle.std.proofs.Common.{◌≡◌, ℕ, ◌+◌, ◌<◌, Some, sym, subst, refl, arith}
use Rattle.vx_layout.specs.Trees.{Tree, chunks, fields, dict, zoned, Forest, Validity, valid_by, head_of}
use Rattle.vx_layout.specs.Kept.{KeptFields, all}
use Rattle.vx_rows.specs.Derivations.{Derivation}
use Rattle.vx_rows.specs.Reads.{directly, inside, Found, reads_of, Finds}
use Rattle.vx_rows.specs.Heads.{Head}
use Rattle.vx_rows.specs.Zones.{Zones}
use Rattle.vx_layout.specs.Rows.{struct_members, derivation, derivation_in, rows_in, SomeRowFinds}
use Rattle.vx_layout.specs.Parts.{tree_at, rows_before, IsKeptField}
use Rattle.vx_rows.proofs.ReadRows.{found_anywhere, Meets}
use Rattle.vx_layout.proofs.TreeRows.{row_of_chunk, chunk_inside, read_by_field, read_by_validity, read_by_code, read_by_value}

-- a chunk's
pub some_row_of_chunk : (P : Found → Type 0) (head : Head) (forest : Forest) (place : ℕ) (chunk : Tree) (kept : KeptFields) → rows_in forest ≡ head.rows → tree_at forest place ≡ Some chunk → SomeRowFinds P chunk kept → SomeRowFinds P (chunks head forest) kept
some_row_of_chunk P head forest place chunk kept adds at some =
    let row : ℕ = rows_before forest place + some.0 in
    let same : derivation_in forest kept row ≡ derivation chunk kept some.0 = row_of_chunk forest place chunk kept some.0 row at some.1 refl in
    let within : row < rows_in forest = chunk_inside forest place chunk some.0 at some.1 in
    (row, omega arith, subst (λ (d : Derivation). Finds P (reads_of directly d)) (sym same) some.2)

-- a kept field's, and the validity's
pub some_row_of_field : (P : Found → Type 0) (head : Head) (forest : Forest) (validity : Validity) (i : ℕ) (child : Tree) (kept : KeptFields) → tree_at forest i ≡ Some child → IsKeptField kept (struct_members head.dtype) i → (head_of child).rows ≡ head.rows → SomeRowFinds P child all → SomeRowFinds P (fields head forest validity) kept
some_row_of_field P head forest validity i child kept at is same some = (some.0, omega (arith, some.1), read_by_field (Meets P) head forest validity i child kept directly some.0 at is some.2)

pub some_row_of_validity : (P : Found → Type 0) (head : Head) (forest : Forest) (validity : Tree) (kept : KeptFields) → (head_of validity).rows ≡ head.rows → SomeRowFinds P validity all → SomeRowFinds P (fields head forest (valid_by validity)) kept
some_row_of_validity P head forest validity kept same some = (some.0, omega (arith, some.1), read_by_validity (Meets P) head forest validity kept directly some.0 some.2)

-- a dictionary's codes', and its values' where it has rows
pub some_row_of_codes : (P : Found → Type 0) (head : Head) (values codes : Tree) (kept : KeptFields) → (head_of codes).rows ≡ head.rows → SomeRowFinds P codes all → SomeRowFinds P (dict head values codes) kept
some_row_of_codes P head values codes kept same some = (some.0, omega (arith, some.1), read_by_code (Meets P) head values codes kept directly some.0 some.2)

pub some_row_of_values : (P : Found → Type 0) (head : Head) (values codes : Tree) (kept : KeptFields) → 0 < head.rows → SomeRowFinds P values all → SomeRowFinds P (dict head values codes) kept
some_row_of_values P head values codes kept rows some =
    (0, rows, read_by_value (Meets P) head values codes kept directly 0 some.0 some.1 (found_anywhere P directly (inside head.number directly) (derivation values all some.0) some.2))

-- zoned data's
pub some_row_of_content : (P : Found → Type 0) (head : Head) (zones : Zones) (content table : Tree) (kept : KeptFields) → (head_of content).rows ≡ head.rows → SomeRowFinds P content kept → SomeRowFinds P (zoned head zones content table) kept
some_row_of_content P head zones content table kept same some = (some.0, omega (arith, some.1), some.2)
