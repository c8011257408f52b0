-- Leaves, reads and values by hand, on which the definitions of derived rows are checked, and those of trees and of plans.
use Rattle.std.specs.Prelude.{ℕ, ◌==◌, if◌then◌else◌, true, false, List, [], ◌∷◌, ◌++◌, map, Option, Some, None, slice_get}
use Rattle.vx_base.specs.declared.codings.Coding.TheVariants.{Plain}
use Rattle.vx_base.specs.declared.dtypes.IntKind.TheVariants.{I64, U64}
use Rattle.vx_base.specs.declared.dtypes.Nullability.TheVariants.{NonNullable, Nullable}
use Rattle.vx_base.specs.ColumnCalls.{natural}
use Rattle.vx_base.specs.Data.{DataType, Datum, null, truth, int_type}
use Rattle.vx_rows.specs.Derivations.{LeafRow, Derivation, of_leaf, Leaves}
use Rattle.vx_rows.specs.Given.{GivenValues}
use Rattle.vx_rows.specs.Reads.{Way, Found, a_leaf_row, a_code, a_list_row, Read, read_by}

abbrev pub i64 : DataType
i64 = int_type I64 NonNullable

abbrev pub u64 : DataType
u64 = int_type U64 NonNullable

abbrev pub naturals : List ℕ → List Datum
naturals numbers = map natural numbers

-- a row of a leaf of three rows in a segment
abbrev pub leaf_row_at : ℕ → ℕ → LeafRow
leaf_row_at segment row = record { dtype = int_type I64 Nullable; coding = Plain; rows = 3; segment = segment; row = row }

abbrev pub leaf_row : ℕ → ℕ → Derivation
leaf_row segment row = of_leaf (leaf_row_at segment row)

-- the values of each segment, in their order; behind them no segment has any
abbrev pub leaves_in : List (List Datum) → Leaves
leaves_in segments t coding rows segment = slice_get segments segment

-- each segment has these values
abbrev pub all_have : List Datum → Leaves
all_have values t coding rows segment = Some values

-- numbers in segment 0, of which one is null, and truth values in segment 1
abbrev pub two_leaves : Leaves
two_leaves = leaves_in ((natural 5 ∷ null ∷ natural 7 ∷ []) ∷ (truth true ∷ truth false ∷ null ∷ []) ∷ [])

-- the second of some values
abbrev pub second : List Datum → Option Datum
second values = slice_get values 1

abbrev pub leaf_row_read : Way → ℕ → ℕ → Read
leaf_row_read way segment row = read_by way (a_leaf_row (leaf_row_at segment row))

-- the code of a row of a dictionary, among so many values
abbrev pub code_read : Way → ℕ → ℕ → Derivation → ℕ → Read
code_read way dictionary row code count = read_by way (a_code (record { dictionary = dictionary; row = row; code = code; count = count }))

abbrev segment_in : Way → Found → List (Way × ℕ)
segment_in way (a_leaf_row found) = (way, found.segment) ∷ []
segment_in way (a_code found) = []
segment_in way (a_list_row list row) = []

-- the segments whose cells are read, each with the way to it
abbrev pub segments_in : List Read → List (Way × ℕ)
segments_in [] = []
segments_in (read ∷ reads) = segment_in read.way read.found ++ segments_in reads

-- these values are handed in for the number, and none for others
abbrev pub handed_for : ℕ → List Datum → GivenValues
handed_for number values n = if n == number then Some values else None
