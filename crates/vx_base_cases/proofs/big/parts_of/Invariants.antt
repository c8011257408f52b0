use Rattle.std.proofs.Common.{◌≡◌}
use Rattle.std.specs.List.{AllByRecursion}
use Rattle.vx_base.specs.Data.{utf8_type}
use Rattle.vx_base.specs.declared.dtypes.Nullability.TheVariants.{Nullable}
use Rattle.vx_base_cases.proofs.big.parts_of.Given as goal

abbrev pub invariant-loop-part : goal.invariant-loop-part
invariant-loop-part l = AllByRecursion (λ part. part.dtype ≡ utf8_type Nullable) l.parts.items
