-- Dtypes, values and rows without the fields of the root that aren't kept.
use Rattle.std.specs.Prelude.{◌≡◌, ℕ, true, if◌then◌else◌, IsSomeAnd, List, Option}
use Rattle.std.specs.List.{AllByRecursion}
use Rattle.vx_base.specs.declared.dtypes.Nullability.TheVariants.{NonNullable}
use Rattle.vx_base.specs.Data.{DataType, struct_type, Members, no_members, member, Datum, structure, Items, no_items, item}
use Rattle.vx_expr.specs.Terms.{Term, root, get_field, pack, Terms, no_terms, named}
use Rattle.vx_layout.specs.Kept.{KeptFields, all, only, is_kept}

abbrev pub kept_members : KeptFields → Members → Members
kept_members kept no_members = no_members
kept_members kept (member name t ms) = if is_kept kept name then member name t (kept_members kept ms) else kept_members kept ms

abbrev pub kept_type : KeptFields → DataType → DataType
kept_type all t = t
kept_type (only names) (struct_type ms n) = struct_type (kept_members (only names) ms) n
kept_type (only names) t = t

abbrev pub kept_items : KeptFields → Members → Items → Items
kept_items kept no_members vs = no_items
kept_items kept (member name t ms) no_items = no_items
kept_items kept (member name t ms) (item v vs) = if is_kept kept name then item v (kept_items kept ms vs) else kept_items kept ms vs

-- a value of the dtype without the fields that aren't kept
abbrev pub kept_value : KeptFields → DataType → Datum → Datum
kept_value all t v = v
kept_value (only names) (struct_type ms n) (structure vs) = structure (kept_items (only names) ms vs)
kept_value (only names) t v = v

-- the expression that packs the kept fields of a struct
abbrev pub kept_terms : KeptFields → Members → Terms
kept_terms kept no_members = no_terms
kept_terms kept (member name t ms) = if is_kept kept name then named name (get_field name root) (kept_terms kept ms) else kept_terms kept ms

abbrev pub kept_pack : KeptFields → DataType → Term
kept_pack kept (struct_type ms n) = pack (kept_terms kept ms)
kept_pack kept t = root

-- All fields are kept, or the dtype is a struct that takes no nulls.
abbrev pub MayKeep : KeptFields → DataType → Type 0
MayKeep all t = Unit {0}
MayKeep (only names) (struct_type ms NonNullable) = Unit {0}
MayKeep (only names) t = ⊥

-- Each field that an expression gets from the root is kept, and the expression uses the root no other way.
abbrev pub KeepsFieldsOf : KeptFields → Option (List (List ℕ)) → Type 0
KeepsFieldsOf kept names = IsSomeAnd names (AllByRecursion (λ name. is_kept kept name ≡ true))
