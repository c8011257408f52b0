-- The rows of the demo file: a number, a name that may be lacking, and a truth value.
use Rattle.std.specs.Prelude.{ℕ, ◌+◌, ◌*◌, ◌%◌, ◌==◌, Bool, if◌then◌else◌, codes, List, ◌++◌, map}
use Rattle.std.specs.Fmt.{decimal}
use Rattle.std.specs.List.{range_with_len}
use Rattle.vx_base.specs.ColumnCalls.{natural}
use Rattle.vx_base.specs.Data.{Datum, null, truth, text, structure, no_items, item}

-- the file has no more rows
abbrev pub most_demo_rows : ℕ
most_demo_rows = 1000000

-- the number of a row of a file of so many rows
abbrev pub id_of : ℕ → ℕ → ℕ
id_of number row = (31 * row + number) % 1000

abbrev pub lacks_name : ℕ → Bool
lacks_name row = row % 7 == 3

-- the name of a code: `n0`, `n1` and so on
abbrev pub name_at : ℕ → Datum
name_at code = text (codes "n" ++ decimal code)

abbrev pub name_of : ℕ → Datum
name_of row = if lacks_name row then null else name_at (row % 16)

abbrev pub is_flagged : ℕ → Bool
is_flagged row = row % 3 == 0

-- a row of the file of so many rows
abbrev pub demo_row : ℕ → ℕ → Datum
demo_row number row = structure (item (natural (id_of number row)) (item (name_of row) (item (truth (is_flagged row)) no_items)))

-- all its rows
abbrev pub demo_rows : ℕ → List Datum
demo_rows number = map (demo_row number) (range_with_len 0 number)
