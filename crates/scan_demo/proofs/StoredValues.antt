-- The stored values fit their dtypes, and no text among them is long.
use Rattle.std.proofs.Common.{◌≡◌, ℕ, zero, suc, pos, ◌+◌, ◌*◌, ◌%◌, ◌<◌, ◌≤◌, Bool, true, false, List, [], ◌∷◌, ◌++◌, length, map, sym, ap, ap₂, ◌∙◌, arith, codes, length-append, rules}
use Rattle.std.specs.Prelude.{if◌then◌else◌}
use Rattle.std.specs.Fmt.{decimal}
use Rattle.std.specs.List.{AllByRecursion, range_with_len}
use Rattle.std.specs.Str.{IsAscii}
use Rattle.std.proofs.lemmas.Fmt.{IsAscii-decimal, length-decimal-le_succ}
use Rattle.std.proofs.lemmas.Int.{ints}
use Rattle.std.proofs.lemmas.List.{map-append}
use Rattle.std.proofs.lemmas.List.FromFn.{map-range_with_len_more}
use Rattle.std.proofs.lemmas.Str.{IsAscii-append, IsUtf8-from_ascii}
use Rattle.vx_base.specs.ColumnCalls.{natural}
use Rattle.vx_base.specs.Data.{int_type, utf8_type, Datum, null}
use Rattle.vx_base.specs.Fits.{Fits, IsInside}
use Rattle.vx_base.specs.Slots.{IsShort}
use Rattle.vx_base.specs.ValueViews.{datum}
use Rattle.vx_base.specs.declared.values.Value.{Value}
use Rattle.vx_base.specs.declared.dtypes.IntKind.TheVariants.{U8, I64}
use Rattle.vx_base.specs.declared.dtypes.Nullability.TheVariants.{NonNullable, Nullable}
use Rattle.scan_demo.specs.declared.stored_columns.StoredColumn.{StoredColumn}
use Rattle.scan_demo.specs.declared.stored_columns.StoredColumn.TheVariants.{Ids, Codes, Flags}
use Rattle.scan_demo.specs.DemoRows.{lacks_name, name_at}
use Rattle.scan_demo.specs.Flats.{column_type, stored_value}

-- P of each of the values
all_rows : (P : Datum → Type 0) (value_of : ℕ → Datum) (rows : List ℕ) → ((row : ℕ) → P (value_of row)) → AllByRecursion P (map value_of rows)
all_rows P value_of [] each = tt
all_rows P value_of (row ∷ rows) each = (each row, all_rows P value_of rows each)

all_codes : (P : Datum → Type 0) (value_of : ℕ → Datum) (from count : ℕ) → from + count ≤ 16 → ((code : ℕ) → code < 16 → P (value_of code)) → AllByRecursion P (map value_of (range_with_len from count))
all_codes P value_of from zero inside each = tt
all_codes P value_of from (suc count) inside each = (each from (omega arith), all_codes P value_of (from + 1) count (omega arith) each)

-- ---- the columns in chunks
id_fits : (n : ℕ) → n < 1000 → IsInside I64 (pos n)
id_fits n lt = (omega (arith, ints), omega (arith, ints))

code_fits : (lacking : Bool) (n : ℕ) → n < 16 → Fits (int_type U8 Nullable) (if lacking then null else natural n)
code_fits true n lt = tt
code_fits false n lt = (omega (arith, ints), omega (arith, ints))

value_fits : (column : StoredColumn) (number row : ℕ) → Fits (column_type column) (stored_value column number row)
value_fits Ids number row = id_fits ((31 * row + number) % 1000) (omega arith)
value_fits Codes number row = code_fits (lacks_name row) (row % 16) (omega arith)
value_fits Flags number row = tt

pub stored_fit : (column : StoredColumn) (number : ℕ) (rows : List ℕ) → AllByRecursion (Fits (column_type column)) (map (stored_value column number) rows)
stored_fit column number rows = all_rows (Fits (column_type column)) (stored_value column number) rows (value_fits column number)

code_short : (lacking : Bool) (n : ℕ) → IsShort (if lacking then null else natural n)
code_short true n = omega arith
code_short false n = omega arith

value_short : (column : StoredColumn) (number row : ℕ) → IsShort (stored_value column number row)
value_short Ids number row = omega arith
value_short Codes number row = code_short (lacks_name row) (row % 16)
value_short Flags number row = omega arith

pub stored_short : (column : StoredColumn) (number : ℕ) (rows : List ℕ) → AllByRecursion IsShort (map (stored_value column number) rows)
stored_short column number rows = all_rows IsShort (stored_value column number) rows (value_short column number)

-- ---- values that are gathered row by row
pub values_more : (value_of : ℕ → Datum) (values more : List Value) (value : Value) (start count row : ℕ) → start + count ≡ row → datum value ≡ value_of row
    → map datum values ≡ map value_of (range_with_len start count) → more ≡ values ++ value ∷ [] → map datum more ≡ map value_of (range_with_len start (count + 1))
values_more value_of values more value start count row at is so_far pushed =
    ap (map datum) pushed ∙ map-append datum values (value ∷ [])
    ∙ ap₂ (λ (front : List Datum) (v : Datum). front ++ v ∷ []) so_far is ∙ sym (map-range_with_len_more value_of start count row at)

-- ---- the names
letter_ascii : IsAscii (codes "n")
letter_ascii = search rules

name_fits : (code : ℕ) → code < 16 → Fits (utf8_type NonNullable) (name_at code)
name_fits code lt = IsUtf8-from_ascii (codes "n" ++ decimal code) (IsAscii-append (codes "n") (decimal code) letter_ascii (IsAscii-decimal code (omega arith)))

name_short : (code : ℕ) → code < 16 → IsShort (name_at code)
name_short code lt =
    let size : length (decimal code) ≤ code + 1 = length-decimal-le_succ code (omega arith) in
    omega (arith, size, length-append (codes "n") (decimal code))

pub names_fit : AllByRecursion (Fits (utf8_type NonNullable)) (map name_at (range_with_len 0 16))
names_fit = all_codes (Fits (utf8_type NonNullable)) name_at 0 16 (omega arith) name_fits

pub names_short : AllByRecursion IsShort (map name_at (range_with_len 0 16))
names_short = all_codes IsShort name_at 0 16 (omega arith) name_short
