-- The split rules of the command line.
use Rattle.std.specs.Prelude.{ℕ, Bool, if◌then◌else◌, codes, length, take, drop, List, Option, Some, None, option_map}
use Rattle.std.specs.Str.{bytes_eq}
use Rattle.scan_words.specs.Numbers.{number_between}
use Rattle.vx_split_rules.specs.declared.split_rules.SplitBy.{SplitBy}
use Rattle.vx_split_rules.specs.declared.split_rules.SplitBy.TheVariants.{Layout, LayoutSubSplitting, RowCount}

-- a number of rows or of idle polls: it has 64 bits, and is not 0
abbrev pub size : List ℕ → Option ℕ
size = number_between 1 18446744073709551615

abbrev pub begins_with : List ℕ → List ℕ → Bool
begins_with text prefix = bytes_eq (take (length prefix) text) prefix

-- `layout`, `sub:N` or `rows:N`
unfoldable pub split_rule : List ℕ → Option SplitBy
split_rule text =
    if bytes_eq text (codes "layout") then Some Layout
    else (if begins_with text (codes "sub:") then option_map LayoutSubSplitting (size (drop 4 text))
    else (if begins_with text (codes "rows:") then option_map RowCount (size (drop 5 text))
    else None))
