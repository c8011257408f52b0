-- An expression that gets only kept fields from its root is worth the same without the others.
use Rattle.std.proofs.Common.{◌≡◌, ℕ, Bool, true, false, cond, List, [], ◌∷◌, ◌++◌, Option, Some, None, refl, sym, ap}
use Rattle.std.specs.Prelude.{option_and_then, option_map}
use Rattle.std.specs.List.{AllByRecursion}
use Rattle.std.specs.Str.{bytes_eq}
use Rattle.std.proofs.lemmas.Slice.Eq.{bytes_eq-Decides}
use Rattle.vx_base.specs.declared.dtypes.Nullability.{Nullability}
use Rattle.vx_base.specs.Data.{DataType, struct_type, Members, no_members, member, Datum, null, truth, number, text, structure, Items, no_items, item}
use Rattle.vx_base.specs.ColumnCalls.{nullable_where}
use Rattle.vx_expr.specs.Terms.{Term, root, literal, get_field, pack, negation, conjunction, disjunction, comparison, null_test, value_test, arithmetic, row_number, bound_test, Terms, no_terms, named}
use Rattle.vx_expr.specs.Types.{on_both, type_in, field_type, type_of, types_in}
use Rattle.vx_expr.specs.Meaning.{meaning, meanings_in, item_in, field_of}
use Rattle.vx_expr.specs.Mentions.{joined, root_fields, root_fields_in}
use Rattle.vx_layout.specs.Kept.{KeptFields, only, is_kept}
use Rattle.vx_lower.specs.KeptRows.{kept_members, kept_type, kept_items, kept_value, KeepsFieldsOf}

-- ---- one field

other_name : (kept : KeptFields) (other name : List ℕ) (b : Bool) → bytes_eq other name ≡ b → is_kept kept other ≡ false → is_kept kept name ≡ true → b ≡ false
other_name kept other name false e f g = refl
other_name kept other name true e f g = let same : other ≡ name = (bytes_eq-Decides other name).0 e in absurd cc

item_of_none : (ms : Members) (name : List ℕ) → item_in ms name no_items ≡ None
item_of_none no_members name = refl
item_of_none (member other t ms) name = refl

item_kept_by : (b : Bool) (kept : KeptFields) (other name : List ℕ) (t : DataType) (ms : Members) (v : Datum) (vs : Items) → is_kept kept other ≡ b → is_kept kept name ≡ true → item_in ms name vs ≡ item_in (kept_members kept ms) name (kept_items kept ms vs) → item_in (member other t ms) name (item v vs) ≡ item_in (cond b (member other t (kept_members kept ms)) (kept_members kept ms)) name (cond b (item v (kept_items kept ms vs)) (kept_items kept ms vs))
item_kept_by true kept other name t ms v vs e f more = ap (cond (bytes_eq other name) (Some v)) more
item_kept_by false kept other name t ms v vs e f more = rw (other_name kept other name (bytes_eq other name) refl e f) more

item_kept : (kept : KeptFields) (name : List ℕ) (ms : Members) (vs : Items) → is_kept kept name ≡ true → item_in ms name vs ≡ item_in (kept_members kept ms) name (kept_items kept ms vs)
item_kept kept name no_members vs e = refl
item_kept kept name (member other t ms) no_items e = sym (item_of_none (kept_members kept (member other t ms)) name)
item_kept kept name (member other t ms) (item v vs) e = item_kept_by (is_kept kept other) kept other name t ms v vs refl e (item_kept kept name ms vs e)

type_kept_by : (b : Bool) (kept : KeptFields) (other name : List ℕ) (t : DataType) (ms : Members) → is_kept kept other ≡ b → is_kept kept name ≡ true → type_in ms name ≡ type_in (kept_members kept ms) name → type_in (member other t ms) name ≡ type_in (cond b (member other t (kept_members kept ms)) (kept_members kept ms)) name
type_kept_by true kept other name t ms e f more = ap (cond (bytes_eq other name) (Some t)) more
type_kept_by false kept other name t ms e f more = rw (other_name kept other name (bytes_eq other name) refl e f) more

type_kept : (kept : KeptFields) (name : List ℕ) (ms : Members) → is_kept kept name ≡ true → type_in ms name ≡ type_in (kept_members kept ms) name
type_kept kept name no_members e = refl
type_kept kept name (member other t ms) e = type_kept_by (is_kept kept other) kept other name t ms refl e (type_kept kept name ms e)

field_kept : (names : List (List ℕ)) (name : List ℕ) (ms : Members) (n : Nullability) (v : Datum) → is_kept (only names) name ≡ true → field_of (Some (struct_type ms n)) name v ≡ field_of (Some (kept_type (only names) (struct_type ms n))) name (kept_value (only names) (struct_type ms n) v)
field_kept names name ms n null e = refl
field_kept names name ms n (truth b) e = refl
field_kept names name ms n (number z) e = refl
field_kept names name ms n (text bytes) e = refl
field_kept names name ms n (structure vs) e = item_kept (only names) name ms vs e

field_same : (name : List ℕ) (s t : Option DataType) (v w : Option Datum) → s ≡ t → v ≡ w → option_and_then (field_of s name) v ≡ option_and_then (field_of t name) w
field_same name s t v w e f = cc

-- ---- the fields of parts

abbrev EachKept : KeptFields → List (List ℕ) → Type 0
EachKept kept names = AllByRecursion (λ name. is_kept kept name ≡ true) names

kept_front : (kept : KeptFields) (xs ys : List (List ℕ)) → EachKept kept (xs ++ ys) → EachKept kept xs
kept_front kept [] ys each = tt
kept_front kept (x ∷ xs) ys each = (each.0, kept_front kept xs ys each.1)

kept_back : (kept : KeptFields) (xs ys : List (List ℕ)) → EachKept kept (xs ++ ys) → EachKept kept ys
kept_back kept [] ys each = each
kept_back kept (x ∷ xs) ys each = kept_back kept xs ys each.1

keeps_left : (kept : KeptFields) (xs ys : Option (List (List ℕ))) → KeepsFieldsOf kept (on_both joined xs ys) → KeepsFieldsOf kept xs
keeps_left kept None ys each = absurd each
keeps_left kept (Some xs) None each = absurd each
keeps_left kept (Some xs) (Some ys) each = kept_front kept xs ys each

keeps_right : (kept : KeptFields) (xs ys : Option (List (List ℕ))) → KeepsFieldsOf kept (on_both joined xs ys) → KeepsFieldsOf kept ys
keeps_right kept None ys each = absurd each
keeps_right kept (Some xs) None each = absurd each
keeps_right kept (Some xs) (Some ys) each = kept_back kept xs ys each

-- ---- expressions

mutual
  pub type_of_kept : (names : List (List ℕ)) (ms : Members) (n : Nullability) (e : Term) → KeepsFieldsOf (only names) (root_fields e) → type_of (struct_type ms n) e ≡ type_of (kept_type (only names) (struct_type ms n)) e
  type_of_kept names ms n root each = absurd each
  type_of_kept names ms n (literal v s) each = refl
  type_of_kept names ms n (get_field name root) each = ap (option_map (nullable_where n)) (type_kept (only names) name ms each.0)
  type_of_kept names ms n (get_field name e) each = ap (option_and_then (field_type name)) (type_of_kept names ms n e each)
  type_of_kept names ms n (pack es) each = rw (types_in_kept names ms n es each) refl
  type_of_kept names ms n (negation e) each = rw (type_of_kept names ms n e each) refl
  type_of_kept names ms n (conjunction a b) each = rw (type_of_kept names ms n a (keeps_left (only names) (root_fields a) (root_fields b) each), type_of_kept names ms n b (keeps_right (only names) (root_fields a) (root_fields b) each)) refl
  type_of_kept names ms n (disjunction a b) each = rw (type_of_kept names ms n a (keeps_left (only names) (root_fields a) (root_fields b) each), type_of_kept names ms n b (keeps_right (only names) (root_fields a) (root_fields b) each)) refl
  type_of_kept names ms n (comparison op a b) each = rw (type_of_kept names ms n a (keeps_left (only names) (root_fields a) (root_fields b) each), type_of_kept names ms n b (keeps_right (only names) (root_fields a) (root_fields b) each)) refl
  type_of_kept names ms n (null_test e) each = rw (type_of_kept names ms n e each) refl
  type_of_kept names ms n (value_test e) each = rw (type_of_kept names ms n e each) refl
  type_of_kept names ms n (arithmetic op a b) each = rw (type_of_kept names ms n a (keeps_left (only names) (root_fields a) (root_fields b) each), type_of_kept names ms n b (keeps_right (only names) (root_fields a) (root_fields b) each)) refl
  type_of_kept names ms n row_number each = refl
  type_of_kept names ms n (bound_test e) each = rw (type_of_kept names ms n e each) refl

  types_in_kept : (names : List (List ℕ)) (ms : Members) (n : Nullability) (es : Terms) → KeepsFieldsOf (only names) (root_fields_in es) → types_in (struct_type ms n) es ≡ types_in (kept_type (only names) (struct_type ms n)) es
  types_in_kept names ms n no_terms each = refl
  types_in_kept names ms n (named name e es) each = rw (type_of_kept names ms n e (keeps_left (only names) (root_fields e) (root_fields_in es) each), types_in_kept names ms n es (keeps_right (only names) (root_fields e) (root_fields_in es) each)) refl

mutual
  pub meaning_kept : (names : List (List ℕ)) (ms : Members) (n : Nullability) (bound : ℕ) (e : Term) (v : Datum) (row : ℕ) → KeepsFieldsOf (only names) (root_fields e) → meaning (struct_type ms n) bound e v row ≡ meaning (kept_type (only names) (struct_type ms n)) bound e (kept_value (only names) (struct_type ms n) v) row
  meaning_kept names ms n bound root v row each = absurd each
  meaning_kept names ms n bound (literal w s) v row each = refl
  meaning_kept names ms n bound (get_field name root) v row each = field_kept names name ms n v each.0
  meaning_kept names ms n bound (get_field name e) v row each = field_same name (type_of (struct_type ms n) e) (type_of (kept_type (only names) (struct_type ms n)) e) (meaning (struct_type ms n) bound e v row) (meaning (kept_type (only names) (struct_type ms n)) bound e (kept_value (only names) (struct_type ms n) v) row) (type_of_kept names ms n e each) (meaning_kept names ms n bound e v row each)
  meaning_kept names ms n bound (pack es) v row each = rw (meanings_in_kept names ms n bound es v row each) refl
  meaning_kept names ms n bound (negation e) v row each = rw (meaning_kept names ms n bound e v row each) refl
  meaning_kept names ms n bound (conjunction a b) v row each = rw (meaning_kept names ms n bound a v row (keeps_left (only names) (root_fields a) (root_fields b) each), meaning_kept names ms n bound b v row (keeps_right (only names) (root_fields a) (root_fields b) each)) refl
  meaning_kept names ms n bound (disjunction a b) v row each = rw (meaning_kept names ms n bound a v row (keeps_left (only names) (root_fields a) (root_fields b) each), meaning_kept names ms n bound b v row (keeps_right (only names) (root_fields a) (root_fields b) each)) refl
  meaning_kept names ms n bound (comparison op a b) v row each = rw (meaning_kept names ms n bound a v row (keeps_left (only names) (root_fields a) (root_fields b) each), meaning_kept names ms n bound b v row (keeps_right (only names) (root_fields a) (root_fields b) each)) refl
  meaning_kept names ms n bound (null_test e) v row each = rw (meaning_kept names ms n bound e v row each) refl
  meaning_kept names ms n bound (value_test e) v row each = rw (meaning_kept names ms n bound e v row each) refl
  meaning_kept names ms n bound (arithmetic op a b) v row each = rw (meaning_kept names ms n bound a v row (keeps_left (only names) (root_fields a) (root_fields b) each), meaning_kept names ms n bound b v row (keeps_right (only names) (root_fields a) (root_fields b) each), type_of_kept names ms n a (keeps_left (only names) (root_fields a) (root_fields b) each)) refl
  meaning_kept names ms n bound row_number v row each = refl
  meaning_kept names ms n bound (bound_test e) v row each = rw (meaning_kept names ms n bound e v row each) refl

  meanings_in_kept : (names : List (List ℕ)) (ms : Members) (n : Nullability) (bound : ℕ) (es : Terms) (v : Datum) (row : ℕ) → KeepsFieldsOf (only names) (root_fields_in es) → meanings_in (struct_type ms n) bound es v row ≡ meanings_in (kept_type (only names) (struct_type ms n)) bound es (kept_value (only names) (struct_type ms n) v) row
  meanings_in_kept names ms n bound no_terms v row each = refl
  meanings_in_kept names ms n bound (named name e es) v row each = rw (meaning_kept names ms n bound e v row (keeps_left (only names) (root_fields e) (root_fields_in es) each), meanings_in_kept names ms n bound es v row (keeps_right (only names) (root_fields e) (root_fields_in es) each)) refl
