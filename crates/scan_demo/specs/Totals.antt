-- What the summary counts over rows, whatever they are. Counts stop at the greatest number of 64 bits.
use Rattle.std.specs.Prelude.{ℕ, ◌+◌, ◌^◌, pos, nat_lt, Bool, false, not, if◌then◌else◌, List, [], ◌∷◌, count_by}
use Rattle.std.specs.List.{sum_by}
use Rattle.vx_base.specs.Data.{Datum, number}
use Rattle.vx_base.specs.Slots.{is_value, truth_in}
use Rattle.vx_expr.specs.Refusals.{capped}
use Rattle.vx_arrays.specs.Fields.{field_at}
use Rattle.scan_demo.specs.declared.row_totals.FieldFacts.{FieldFacts}
use Rattle.scan_demo.specs.declared.row_totals.Totals.{Totals}

-- a number that is no less than 0 and has 64 bits; 0 stands for anything else
abbrev pub natural_in : Datum → ℕ
natural_in (number (pos n)) = if nat_lt n (2 ^ 64) then n else 0
natural_in v = 0

-- what the summary reads of a value
abbrev pub facts_of : Datum → FieldFacts
facts_of v = record { number = natural_in v; is_value = is_value v; truth = truth_in v }

-- the same of a value that is neither a number nor true, or of none
abbrev pub facts_without_number : Bool → FieldFacts
facts_without_number is_value = record { number = 0; is_value = is_value; truth = false }

-- what it reads of a row: the number of the first field, whether the second lacks, and whether the third is true
abbrev pub id_in : Datum → ℕ
id_in row = natural_in (field_at 0 row)

abbrev pub lacks_name_in : Datum → Bool
lacks_name_in row = not (is_value (field_at 1 row))

abbrev pub is_flagged_in : Datum → Bool
is_flagged_in row = truth_in (field_at 2 row)

abbrev pub one_where : Bool → ℕ
one_where told = if told then 1 else 0

-- of rows: the sum of their numbers, how many lack a name, and how many are flagged
abbrev pub totals_of : List Datum → Totals
totals_of rows = record {
  id_sum = capped (sum_by id_in rows);
  name_nulls = capped (count_by lacks_name_in rows);
  flag_true = capped (count_by is_flagged_in rows);
}

-- ---- the same, one row after another

abbrev pub no_totals : Totals
no_totals = record { id_sum = 0; name_nulls = 0; flag_true = 0 }

-- the totals with one row more
abbrev pub with_row : Totals → Datum → Totals
with_row totals row = record {
  id_sum = capped (totals.id_sum + id_in row);
  name_nulls = capped (totals.name_nulls + one_where (lacks_name_in row));
  flag_true = capped (totals.flag_true + one_where (is_flagged_in row));
}

-- the totals with more rows, one after another
abbrev pub with_rows : Totals → List Datum → Totals
with_rows totals [] = totals
with_rows totals (row ∷ rows) = with_rows (with_row totals row) rows
