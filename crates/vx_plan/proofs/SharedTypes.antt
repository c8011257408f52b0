-- Dtypes that take nulls already.
use Rattle.std.proofs.Common.{◌≡◌, true, refl}
use Rattle.vx_base.specs.declared.dtypes.Nullability.TheVariants.{NonNullable, Nullable}
use Rattle.vx_base.specs.Data.{DataType, bool_type, int_type, utf8_type, struct_type, list_type}
use Rattle.vx_base.specs.ColumnCalls.{made_nullable}
use Rattle.vx_base.specs.Fits.{nullability_of, takes_null}

pub nullable_already : (t : DataType) → takes_null (nullability_of t) ≡ true → made_nullable t ≡ t
nullable_already (bool_type Nullable) h = refl
nullable_already (int_type kind Nullable) h = refl
nullable_already (utf8_type Nullable) h = refl
nullable_already (struct_type ms Nullable) h = refl
nullable_already (list_type t Nullable) h = refl
nullable_already (bool_type NonNullable) h = absurd cc
nullable_already (int_type kind NonNullable) h = absurd cc
nullable_already (utf8_type NonNullable) h = absurd cc
nullable_already (struct_type ms NonNullable) h = absurd cc
nullable_already (list_type t NonNullable) h = absurd cc
