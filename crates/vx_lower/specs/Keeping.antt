-- What is worked out once of the fields that are kept of the root.
use Rattle.std.specs.Prelude.{◌≡◌, ℕ, Bool, if◌then◌else◌, List, [], ◌∷◌, map}
use Rattle.std.specs.Arc.{arc_value}
use Rattle.vx_base.specs.Data.{DataType}
use Rattle.vx_base.specs.Names.{names_in}
use Rattle.vx_base.specs.Views.{data_type}
use Rattle.vx_expr.specs.Bound.{Bound}
use Rattle.vx_layout.specs.Kept.{KeptFields, only, is_kept}
use Rattle.vx_layout.specs.Rows.{struct_members}
use Rattle.vx_lower.specs.declared.keeping.Keeping.{Keeping}
use Rattle.vx_lower.specs.KeptRows.{kept_type, kept_pack, MayKeep}

-- which fields of a dtype are kept, one after another
abbrev pub flags_of : KeptFields → DataType → List Bool
flags_of kept t = map (is_kept kept) (names_in (struct_members t))

-- the elements whose flag is set
abbrev pub chosen : List Bool → List ℕ → List ℕ
chosen [] ns = []
chosen (flag ∷ flags) [] = []
chosen (flag ∷ flags) (n ∷ ns) = if flag then n ∷ chosen flags ns else chosen flags ns

-- the expression that packs the kept fields of the dtype
abbrev pub bound_pack : KeptFields → DataType → Bound
bound_pack kept t = record { term = kept_pack kept t; root = t; dtype = kept_type kept t }

abbrev pub kept_of : Keeping → KeptFields
kept_of keeping = only keeping.names.now

-- of a root of the dtype
pub record IsKeeping (t : DataType) (keeping : Keeping) : Type 0 where
  pub may : MayKeep (kept_of keeping) t
  pub flags_are : keeping.flags.items ≡ flags_of (kept_of keeping) t
  pub dtype_is : data_type (arc_value keeping.dtype) ≡ kept_type (kept_of keeping) t
  pub pack_is : keeping.pack ≡ bound_pack (kept_of keeping) t
