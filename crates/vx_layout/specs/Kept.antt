-- Which fields of a struct at the root are looked at.
use Rattle.std.specs.Prelude.{ℕ, Bool, true, if◌then◌else◌, filter, List, Option, Some, None}
use Rattle.std.specs.List.{list_any}
use Rattle.std.specs.Str.{bytes_eq}
use Rattle.vx_base.specs.declared.dtypes.Nullability.TheVariants.{NonNullable}
use Rattle.vx_base.specs.Data.{DataType, struct_type, Members}
use Rattle.vx_base.specs.Names.{names_in}
use Rattle.vx_expr.specs.Terms.{Term}
use Rattle.vx_expr.specs.Mentions.{uses_root, root_fields}
use Rattle.vx_layout.specs.declared.kept_fields.Kept.{Kept}
use Rattle.vx_layout.specs.declared.kept_fields.Kept.TheVariants as variants

-- all fields, or those of these names
pub data KeptFields : Type 0 where
  all : KeptFields
  only : List (List ℕ) → KeptFields

abbrev pub kept_data : Kept → KeptFields
kept_data variants.All = all
kept_data (variants.Fields names) = only names.items

-- whether a field of that name is kept
abbrev pub is_kept : KeptFields → List ℕ → Bool
is_kept all name = true
is_kept (only names) name = list_any (λ other. bytes_eq other name) names

-- the names of the fields that are among these names, in the fields' order
abbrev pub names_among : Members → List (List ℕ) → List (List ℕ)
names_among ms names = filter (is_kept (only names)) (names_in ms)

-- the fields of these names, and all where there is no list of names
abbrev pub kept_among : Members → Option (List (List ℕ)) → KeptFields
kept_among ms None = all
kept_among ms (Some names) = only (names_among ms names)

-- The fields that an expression gets from the root, where the root is a struct that takes no nulls and occurs
-- in the expression, but never bare. Else all are kept.
abbrev pub kept_fields : DataType → Term → KeptFields
kept_fields (struct_type ms NonNullable) e = if uses_root e then kept_among ms (root_fields e) else all
kept_fields t e = all
