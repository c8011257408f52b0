-- The form of a dtype: the name of a leaf dtype, or an object of one member, with a `?` at the end of the name
-- where nulls are taken.
use Rattle.std.specs.Prelude.{ℕ, ◌-◌, ◌==◌, codes, if◌then◌else◌, List, [], ◌∷◌, length, take, Bool, false, Option, Some, None}
use Rattle.std.specs.Map.{lookup}
use Rattle.std.specs.Str.{bytes_eq}
use Rattle.serde_json.specs.Data.{Data, null, boolean, number, string, array, object, Items, no_items, item, Members, no_members, member}
use Rattle.serde_json.specs.Find.{as_str, get}
use Rattle.scan_words.specs.Words.{◌>>=◌}
use Rattle.vx_base.specs.declared.dtypes.IntKind.{IntKind}
use Rattle.vx_base.specs.declared.dtypes.IntKind.TheVariants.{U8, U16, U32, U64, I8, I16, I32, I64}
use Rattle.vx_base.specs.declared.dtypes.Nullability.{Nullability}
use Rattle.vx_base.specs.declared.dtypes.Nullability.TheVariants.{NonNullable, Nullable}
use Rattle.vx_base.specs.Data.{DataType, bool_type, int_type, utf8_type, struct_type, list_type}
use Rattle.vx_base.specs.Views.{FieldData, members_from}

-- ---- names

-- whether a name ends in `?`, which is 63
abbrev pub is_marked : List ℕ → Bool
is_marked [] = false
is_marked (c ∷ []) = c == 63
is_marked (c ∷ d ∷ name) = is_marked (d ∷ name)

-- a name without the `?` at its end, and whether nulls are taken
abbrev pub unmarked : List ℕ → List ℕ × Nullability
unmarked name = if is_marked name then (take (length name - 1) name, Nullable) else (name, NonNullable)

-- the kinds of whole numbers by their names
abbrev pub kind_names : List (List ℕ × IntKind)
kind_names = (codes "u8", U8) ∷ (codes "u16", U16) ∷ (codes "u32", U32) ∷ (codes "u64", U64) ∷ (codes "i8", I8) ∷ (codes "i16", I16) ∷ (codes "i32", I32) ∷ (codes "i64", I64) ∷ []

-- a leaf dtype by its name
abbrev pub leaf_named : List ℕ → Nullability → Option DataType
leaf_named name n = if bytes_eq name (codes "bool") then Some (bool_type n) else (if bytes_eq name (codes "utf8") then Some (utf8_type n) else (lookup (bytes_eq name) kind_names >>= λ kind. Some (int_type kind n)))

abbrev pub leaf_form : List ℕ → Option DataType
leaf_form name = leaf_named (unmarked name).0 (unmarked name).1

-- a struct of these fields or a list of this element, by its name
abbrev pub nested_named : List ℕ → Nullability → Option (List FieldData) → Option DataType → Option DataType
nested_named name n fields element = if bytes_eq name (codes "struct") then (fields >>= λ all. Some (struct_type (members_from all) n)) else (if bytes_eq name (codes "list") then (element >>= λ t. Some (list_type t n)) else None)

-- a field of a name and a dtype, where both are there
abbrev pub field_from : Option (List ℕ) → Option DataType → Option FieldData
field_from name dtype = name >>= λ text. dtype >>= λ t. Some (record { name = text; dtype = t })

-- ---- dtypes

abbrev mutual
  pub dtype_form : Data → Option DataType
  dtype_form null = None
  dtype_form (boolean b) = None
  dtype_form (number n) = None
  dtype_form (string name) = leaf_form name
  dtype_form (array ds) = None
  dtype_form (object ms) = nested_form ms

  -- exactly one member: `struct` with the fields, or `list` with the dtype of the elements
  pub nested_form : Members → Option DataType
  nested_form no_members = None
  nested_form (member name d no_members) = nested_named (unmarked name).0 (unmarked name).1 (fields_form d) (dtype_form d)
  nested_form (member name d (member other e ms)) = None

  -- a list of fields
  pub fields_form : Data → Option (List FieldData)
  fields_form null = None
  fields_form (boolean b) = None
  fields_form (number n) = None
  fields_form (string s) = None
  fields_form (array ds) = each_field ds
  fields_form (object ms) = None

  pub each_field : Items → Option (List FieldData)
  each_field no_items = Some []
  each_field (item d ds) = field_form d >>= λ field. each_field ds >>= λ fields. Some (field ∷ fields)

  -- a field is a list of its name and its dtype
  pub field_form : Data → Option FieldData
  field_form null = None
  field_form (boolean b) = None
  field_form (number n) = None
  field_form (string s) = None
  field_form (array ds) = field_items ds
  field_form (object ms) = None

  pub field_items : Items → Option FieldData
  field_items no_items = None
  field_items (item a no_items) = None
  field_items (item a (item b no_items)) = field_from (as_str a) (dtype_form b)
  field_items (item a (item b (item c ds))) = None

-- the dtype that a member of that name tells, where it is the only one
abbrev pub nested_value : List ℕ → Data → Option DataType
nested_value name d = nested_named (unmarked name).0 (unmarked name).1 (fields_form d) (dtype_form d)

-- the dtype that the member of that name is
abbrev pub dtype_under : List ℕ → Data → Option DataType
dtype_under name d = get name d >>= dtype_form
