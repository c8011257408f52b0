-- Derivations in which nothing is amiss, whatever the leaves.
use Rattle.std.specs.Prelude.{◌≡◌, ℕ, ◌<◌, List, Option, length, IfSome, IsSome}
use Rattle.std.specs.List.{AllByRecursion}
use Rattle.vx_base.specs.declared.codings.Coding.{Coding}
use Rattle.vx_base.specs.Data.{DataType, Datum}
use Rattle.vx_base.specs.Fits.{Fits}
use Rattle.vx_rows.specs.Derivations.{Derivation, nothing, of_leaf, list_row, given, packed, valid_where, looked_up, worked_out, read_whole, concluded, Derivations, no_more, also, derivation_count, Leaves}
use Rattle.vx_rows.specs.Reads.{Found, a_leaf_row, a_code, a_list_row}

-- from so many values the rule concludes one, whatever they are
abbrev pub Concludes : (List Datum → Option Datum) → ℕ → Type 0
Concludes rule count = (values : List Datum) → length values ≡ count → IsSome (rule values)

-- No node is missing, each cell's row is one of its leaf, no expression is worked out, which may be a fault, and a rule
-- concludes from whatever values its rows have.
abbrev mutual
  pub IsWhole : Derivation → Type 0
  IsWhole nothing = ⊥
  IsWhole (of_leaf at) = at.row < at.rows
  IsWhole (list_row list row) = Unit {0}
  IsWhole (given v) = Unit {0}
  IsWhole (packed ds) = AreWhole ds
  IsWhole (valid_where d validity) = IsWhole d × IsWhole validity
  IsWhole (looked_up dictionary row code values) = IsWhole code × AreWhole values
  IsWhole (worked_out t e d) = ⊥
  IsWhole (read_whole share row d ds) = IsWhole d
  IsWhole (concluded rule ds) = Concludes rule (derivation_count ds) × AreWhole ds

  pub AreWhole : Derivations → Type 0
  AreWhole no_more = Unit {0}
  AreWhole (also d ds) = IsWhole d × AreWhole ds

-- No row is read beside the one that is asked for but a dictionary's values, and those that a rule concludes from: whatever
-- is read counts.
abbrev mutual
  pub IsStrict : Derivation → Type 0
  IsStrict nothing = Unit {0}
  IsStrict (of_leaf at) = Unit {0}
  IsStrict (list_row list row) = Unit {0}
  IsStrict (given v) = Unit {0}
  IsStrict (packed ds) = AreStrict ds
  IsStrict (valid_where d validity) = IsStrict d × IsStrict validity
  IsStrict (looked_up dictionary row code values) = IsStrict code × AreStrict values
  IsStrict (worked_out t e d) = IsStrict d
  IsStrict (read_whole share row d ds) = ⊥
  IsStrict (concluded rule ds) = AreStrict ds

  pub AreStrict : Derivations → Type 0
  AreStrict no_more = Unit {0}
  AreStrict (also d ds) = IsStrict d × AreStrict ds

-- a leaf that has values has one for each row
abbrev pub GiveEachRow : Leaves → Type 0
GiveEachRow leaves = (t : DataType) (coding : Coding) (rows segment : ℕ) → IfSome (leaves t coding rows segment) (λ values. length values ≡ rows)

-- two families of leaves have the same values for what was found
abbrev pub AgreeOn : Leaves → Leaves → Found → Type 0
AgreeOn ones others (a_leaf_row at) = ones at.dtype at.coding at.rows at.segment ≡ others at.dtype at.coding at.rows at.segment
AgreeOn ones others (a_code at) = Unit {0}
AgreeOn ones others (a_list_row list row) = Unit {0}

-- the values of each leaf fit its dtype
abbrev pub GiveFitting : Leaves → Type 0
GiveFitting leaves = (t : DataType) (coding : Coding) (rows segment : ℕ) → IfSome (leaves t coding rows segment) (AllByRecursion (Fits t))
