-- Buffers fit the dtype of their kind.
use Rattle.std.proofs.Common.{Bool, List, [], ◌∷◌, ℤ, map}
use Rattle.std.specs.List.{AllByRecursion}
use Rattle.vx_types.specs.declared.dtypes.IntKind.{IntKind}
use Rattle.vx_types.specs.declared.dtypes.Nullability.{Nullability}
use Rattle.vx_types.specs.Data.{bool_type, int_type, truth, number}
use Rattle.vx_types.specs.Fits.{Fits, IsInside}

pub truths_fit : (n : Nullability) (bits : List Bool) → AllByRecursion (Fits (bool_type n)) (map truth bits)
truths_fit n [] = tt
truths_fit n (bit ∷ bits) = (tt, truths_fit n bits)

pub numbers_fit : (n : Nullability) (kind : IntKind) (zs : List ℤ) → AllByRecursion (IsInside kind) zs → AllByRecursion (Fits (int_type kind n)) (map number zs)
numbers_fit n kind [] h = tt
numbers_fit n kind (z ∷ zs) h = (h.0, numbers_fit n kind zs h.1)
