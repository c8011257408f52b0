-- Bytes of a segment that spell the rows of a leaf, and stand for them.
use Rattle.std.specs.Prelude.{◌≡◌, ℕ, List, [], Option, Some, None}
use Rattle.vx_types.specs.Data.{DataType, Datum}
use Rattle.vx_types.specs.Leaf.{IsLeaf}
use Rattle.vx_segments.specs.CodingsRead.{decoded_as}
use Rattle.vx_segments.specs.declared.codings.Coding.{Coding}

abbrev pub values_in : Option (List Datum) → List Datum
values_in None = []
values_in (Some values) = values

-- the bytes spell values of the leaf dtype
pub record AreSpelled (t : DataType) (coding : Coding) (rows : ℕ) (bytes : List ℕ) : Type 0 where
  pub leaf : IsLeaf t
  pub all : List Datum
  pub spelled : decoded_as coding t rows bytes ≡ Some all
