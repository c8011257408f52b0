-- Whole values that are handed in, and what a row is with them in place of those that would be read.
use Rattle.std.specs.Prelude.{◌≡◌, ℕ, List, [], ◌∷◌, Option, Some, None, IfSome}
use Rattle.std.specs.List.{slice_get}
use Rattle.vx_base.specs.Data.{Datum}
use Rattle.vx_rows.specs.Derivations.{Derivation, nothing, of_leaf, list_row, given, packed, valid_where, looked_up, worked_out, read_whole, concluded, Derivations, no_more, also, Leaves, derived, derived_each}

-- the values that are handed in for a dictionary or a share of a number, if any
abbrev pub GivenValues : Type 0
GivenValues = ℕ → Option (List Datum)

abbrev pub all_given : List Datum → Derivations
all_given [] = no_more
all_given (v ∷ vs) = also (given v) (all_given vs)

-- the values of a dictionary: those that are handed in, where there are any
abbrev pub values_with : Option (List Datum) → Derivations → Derivations
values_with None values = values
values_with (Some vs) values = all_given vs

abbrev pub given_row : Option Datum → Derivation
given_row None = nothing
given_row (Some v) = given v

-- the row of a share: that of the values that are handed in, where there are any
abbrev pub share_with : Option (List Datum) → ℕ → Derivation → Derivation
share_with None row d = d
share_with (Some vs) row d = given_row (slice_get vs row)

-- A row with the values that are handed in for outermost dictionaries and for shares. Below values that are
-- read none is used.
abbrev mutual
  pub with_given : GivenValues → Derivation → Derivation
  with_given values_for nothing = nothing
  with_given values_for (of_leaf at) = of_leaf at
  with_given values_for (list_row list row) = list_row list row
  with_given values_for (given v) = given v
  with_given values_for (packed ds) = packed (each_with_given values_for ds)
  with_given values_for (valid_where d validity) = valid_where (with_given values_for d) (with_given values_for validity)
  with_given values_for (looked_up dictionary row code values) =
      looked_up dictionary row (with_given values_for code) (values_with (values_for dictionary) values)
  with_given values_for (worked_out t e d) = worked_out t e (with_given values_for d)
  with_given values_for (read_whole share row d ds) = share_with (values_for share) row (read_whole share row d ds)
  with_given values_for (concluded rule ds) = concluded rule (each_with_given values_for ds)

  pub each_with_given : GivenValues → Derivations → Derivations
  each_with_given values_for no_more = no_more
  each_with_given values_for (also d ds) = also (with_given values_for d) (each_with_given values_for ds)

-- what is handed in are the values that would be read
abbrev mutual
  pub AreCertified : Leaves → GivenValues → Derivation → Type 0
  AreCertified leaves values_for nothing = Unit {0}
  AreCertified leaves values_for (of_leaf at) = Unit {0}
  AreCertified leaves values_for (list_row list row) = Unit {0}
  AreCertified leaves values_for (given v) = Unit {0}
  AreCertified leaves values_for (packed ds) = EachCertified leaves values_for ds
  AreCertified leaves values_for (valid_where d validity) = AreCertified leaves values_for d × AreCertified leaves values_for validity
  AreCertified leaves values_for (looked_up dictionary row code values) =
      AreCertified leaves values_for code × IfSome (values_for dictionary) (λ vs. derived_each leaves values ≡ Some vs)
  AreCertified leaves values_for (worked_out t e d) = AreCertified leaves values_for d
  AreCertified leaves values_for (read_whole share row d ds) = IfSome (values_for share) (λ vs. derived leaves d ≡ slice_get vs row)
  AreCertified leaves values_for (concluded rule ds) = EachCertified leaves values_for ds

  pub EachCertified : Leaves → GivenValues → Derivations → Type 0
  EachCertified leaves values_for no_more = Unit {0}
  EachCertified leaves values_for (also d ds) = AreCertified leaves values_for d × EachCertified leaves values_for ds
