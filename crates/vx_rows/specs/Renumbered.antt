-- Derivations and reads with other numbers for dictionaries and lists, as a table of plans has them.
use Rattle.std.specs.Prelude.{ℕ}
use Rattle.vx_rows.specs.Derivations.{Derivation, nothing, of_leaf, list_row, given, packed, valid_where, looked_up, worked_out, read_whole, concluded, Derivations, no_more, also}
use Rattle.vx_rows.specs.Reads.{Way, directly, through, CodeRow, Found, a_leaf_row, a_code, a_list_row, Read}

abbrev mutual
  pub renumbered : (ℕ → ℕ) → Derivation → Derivation
  renumbered number_of nothing = nothing
  renumbered number_of (of_leaf at) = of_leaf at
  renumbered number_of (list_row list row) = list_row (number_of list) row
  renumbered number_of (given v) = given v
  renumbered number_of (packed ds) = packed (each_renumbered number_of ds)
  renumbered number_of (valid_where d validity) = valid_where (renumbered number_of d) (renumbered number_of validity)
  renumbered number_of (looked_up dictionary row code values) =
      looked_up (number_of dictionary) row (renumbered number_of code) (each_renumbered number_of values)
  renumbered number_of (worked_out t e d) = worked_out t e (renumbered number_of d)
  renumbered number_of (read_whole share row d ds) =
      read_whole (number_of share) row (renumbered number_of d) (each_renumbered number_of ds)
  renumbered number_of (concluded rule ds) = concluded rule (each_renumbered number_of ds)

  pub each_renumbered : (ℕ → ℕ) → Derivations → Derivations
  each_renumbered number_of no_more = no_more
  each_renumbered number_of (also d ds) = also (renumbered number_of d) (each_renumbered number_of ds)

abbrev pub way_renumbered : (ℕ → ℕ) → Way → Way
way_renumbered number_of directly = directly
way_renumbered number_of (through dictionary) = through (number_of dictionary)

abbrev pub code_renumbered : (ℕ → ℕ) → CodeRow → CodeRow
code_renumbered number_of at =
    record { dictionary = number_of at.dictionary; row = at.row; code = renumbered number_of at.code; count = at.count }

abbrev pub found_renumbered : (ℕ → ℕ) → Found → Found
found_renumbered number_of (a_leaf_row at) = a_leaf_row at
found_renumbered number_of (a_code at) = a_code (code_renumbered number_of at)
found_renumbered number_of (a_list_row list row) = a_list_row (number_of list) row

abbrev pub read_renumbered : (ℕ → ℕ) → Read → Read
read_renumbered number_of read = record { way = way_renumbered number_of read.way; found = found_renumbered number_of read.found }
