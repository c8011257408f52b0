-- How long the segments of the demo file are.
use Rattle.std.proofs.Common.{◌≡◌, ℕ, ◌+◌, ◌-◌, ◌*◌, ◌^◌, ◌<◌, ◌≤◌, min, List, length, map, arith, refl}
use Rattle.std.specs.List.{flat_map}
use Rattle.std.specs.Fmt.{digits}
use Rattle.std.proofs.lemmas.List.{length-append, length-map}
use Rattle.std.proofs.lemmas.List.FromFn.{length-map-range_with_len}
use Rattle.vx_base.specs.Data.{Datum}
use Rattle.vx_base.specs.Leaf.{number_slot}
use Rattle.vx_base.specs.Slots.{is_value, truth_in}
use Rattle.vx_base.specs.Bytes.{packed}
use Rattle.vx_base.specs.declared.dtypes.IntKind.TheVariants.{U8, I64}
use Rattle.vx_base.proofs.Bits.{length-packed}
use Rattle.vx_base.proofs.Decoded.{numbers_len}
use Rattle.vx_base.proofs.Leaves.{validity_len}
use Rattle.scan_demo.specs.declared.stored_columns.StoredColumn.{StoredColumn}
use Rattle.scan_demo.specs.declared.stored_columns.StoredColumn.TheVariants.{Ids, Codes, Flags}
use Rattle.scan_demo.specs.DemoBytes.{segment_of}
use Rattle.scan_demo.specs.Flats.{chunk_flat, name_flat, stored_value}

pub rows_small : (column : StoredColumn) (number place : ℕ) → length (chunk_flat column number place).values ≤ 8192
rows_small column number place =
    let size : length (chunk_flat column number place).values ≡ min number (place * 8192 + 8192) - place * 8192 =
    length-map-range_with_len (stored_value column number) (place * 8192) (min number (place * 8192 + 8192) - place * 8192) in
    omega arith

pub chunk_small : (column : StoredColumn) (number place : ℕ) → length (segment_of (chunk_flat column number place)) < 2 ^ 32
chunk_small Ids number place =
    let rows = rows_small Ids number place in
    omega (arith, rows, numbers_len I64 (chunk_flat Ids number place).values)
chunk_small Codes number place =
    let values : List Datum = (chunk_flat Codes number place).values in
    let rows = rows_small Codes number place in
    omega (arith, rows, validity_len values, numbers_len U8 values, length-append (packed (map is_value values)) (flat_map (number_slot U8) values))
chunk_small Flags number place =
    let values : List Datum = (chunk_flat Flags number place).values in
    let rows = rows_small Flags number place in
    omega (arith, rows, length-packed (map truth_in values), length-map values truth_in)

names_size : length (segment_of name_flat) ≡ 102
unfolding digits
names_size = refl

pub names_small : length (segment_of name_flat) < 2 ^ 32
names_small = omega (arith, names_size)
