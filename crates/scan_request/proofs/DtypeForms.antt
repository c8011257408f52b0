-- Names with and without their `?`, and dtypes by the members and items that tell them.
use Rattle.std.proofs.Common.{◌≡◌, ℕ, ◌-◌, ◌++◌, codes, Bool, true, false, List, [], ◌∷◌, length, take, Option, Some, None, option_map, refl, sym, ap, ap₂, ◌∙◌}
use Rattle.std.proofs.lemmas.Bool.{eqb-true}
use Rattle.json.specs.Json.{parse_map}
use Rattle.json.specs.Token.{Token}
use Rattle.serde_json.specs.Data.{Data, null, boolean, number, string, array, object, Items, no_items, item, Members, no_members, member}
use Rattle.serde_json.specs.Find.{as_array}
use Rattle.scan_json.specs.Forms.{each_form, with_first}
use Rattle.scan_json.specs.Reading.{read_value, reads}
use Rattle.scan_json.specs.Singles.{only_one, single_said}
use Rattle.scan_json.proofs.Turns.{read_then}
use Rattle.scan_words.specs.Words.{◌>>=◌}
use Rattle.scan_request.specs.DtypeForms.{dtype_form, is_marked, unmarked, nested_form, nested_named, nested_value, each_field, field_form, fields_form}
use Rattle.scan_request.proofs.JsonForms.{here}
use Rattle.scan_request.proofs.OtherKinds.{apart, same_form}
use Rattle.vx_base.specs.Data as types
use Rattle.vx_base.specs.Data.{DataType, struct_type, list_type}
use Rattle.vx_base.specs.declared.dtypes.Nullability.{Nullability}
use Rattle.vx_base.specs.declared.dtypes.Nullability.TheVariants.{NonNullable, Nullable}
use Rattle.vx_base.specs.Views.{FieldData, members_from}

-- ---- names

marked_end : (front : List ℕ) → is_marked (front ++ 63 ∷ []) ≡ true
marked_end [] = refl
marked_end (c ∷ []) = refl
marked_end (c ∷ d ∷ front) = marked_end (d ∷ front)

marked_front : (name : List ℕ) → is_marked name ≡ true → (front : List ℕ) × (name ≡ front ++ 63 ∷ [])
marked_front [] test = absurd cc
marked_front (c ∷ []) test = ([], ap (λ (n : ℕ). n ∷ []) (eqb-true c 63 test))
marked_front (c ∷ d ∷ name) test =
    let front = marked_front (d ∷ name) test in
    (c ∷ front.0, ap (λ (ns : List ℕ). c ∷ ns) front.1)

-- a name that ends in `?`
pub mark_cut : (name : List ℕ) (stem front : List ℕ) (n : ℕ) → n ≡ 1 → name ≡ front ++ 63 ∷ [] → stem ≡ take (length name - n) name → unmarked name ≡ (stem, Nullable)
mark_cut name stem front n one is cut =
    let test : is_marked name ≡ true = ap is_marked is ∙ marked_end front in
    rw test (ap (λ (s : List ℕ). (s, Nullable)) (ap (λ (m : ℕ). take (length name - m) name) (sym one) ∙ sym cut))

-- one that doesn't
pub no_mark : (name : List ℕ) → ((front : List ℕ) → name ≡ front ++ 63 ∷ [] → ⊥) → unmarked name ≡ (name, NonNullable)
no_mark name none = rw (is_none (is_marked name) refl) refl
  where
    is_none : (b : Bool) → is_marked name ≡ b → b ≡ false
    is_none true test = let front = marked_front name test in absurd (none front.0 front.1)
    is_none false test = refl

-- ---- objects of one member

-- the dtype of the only member
pub nested_is : (ms : Members) → only_one (single_said nested_value ms) ≡ nested_form ms
nested_is no_members = refl
nested_is (member name d no_members) = refl
nested_is (member name d (member other e ms)) = refl

-- ---- fields

pub each_field_is : (ds : Items) → each_field ds ≡ each_form field_form ds
each_field_is no_items = refl
each_field_is (item d ds) = by (field_form d) (each_field ds) (each_form field_form ds) (each_field_is ds)
  where
    by : (first : Option FieldData) (a b : Option (List FieldData)) → a ≡ b → (first >>= λ field. a >>= λ fields. here (field ∷ fields)) ≡ with_first first b
    by None a b e = refl
    by (Some field) a b e = ap (λ (o : Option (List FieldData)). o >>= λ fields. here (field ∷ fields)) e ∙ mapped b
      where
        mapped : (b : Option (List FieldData)) → (b >>= λ fields. here (field ∷ fields)) ≡ option_map (λ fields. field ∷ fields) b
        mapped None = refl
        mapped (Some fields) = refl

-- ---- values of another kind

pub no_fields : (d : Data) → as_array d ≡ None → fields_form d ≡ None
no_fields null none = refl
no_fields (boolean b) none = refl
no_fields (number n) none = refl
no_fields (string s) none = refl
no_fields (array ds) none = absurd cc
no_fields (object ms) none = refl

pub no_field : (d : Data) → as_array d ≡ None → field_form d ≡ None
no_field null none = refl
no_field (boolean b) none = refl
no_field (number n) none = refl
no_field (string s) none = refl
no_field (array ds) none = absurd cc
no_field (object ms) none = refl

-- ---- the dtype that a member tells by its name

struct_value : (name : List ℕ) (n : Nullability) → (unmarked name).0 ≡ codes "struct" → (unmarked name).1 ≡ n → (d : Data) → option_map (λ ms. struct_type ms n) (option_map members_from (fields_form d)) ≡ nested_value name d
struct_value name n is takes d = by (fields_form d) ∙ ap₂ (λ x y. nested_named x y (fields_form d) (dtype_form d)) (sym is) (sym takes)
  where
    by : (o : Option (List FieldData)) → option_map (λ ms. struct_type ms n) (option_map members_from o) ≡ nested_named (codes "struct") n o (dtype_form d)
    by None = refl
    by (Some fields) = refl

list_value : (name : List ℕ) (n : Nullability) → (unmarked name).0 ≡ codes "list" → (unmarked name).1 ≡ n → (d : Data) → option_map (λ t. list_type t n) (dtype_form d) ≡ nested_value name d
list_value name n is takes d = by (dtype_form d) ∙ ap₂ (λ x y. nested_named x y (fields_form d) (dtype_form d)) (sym is) (sym takes)
  where
    by : (o : Option DataType) → option_map (λ t. list_type t n) o ≡ nested_named (codes "list") n (fields_form d) o
    by None = refl
    by (Some t) = refl

pub struct_read : (name : List ℕ) (n : Nullability) (depth : ℕ) (old r : List Token) (fields : Option types.Members) → (unmarked name).0 ≡ codes "struct" → (unmarked name).1 ≡ n
    → reads (λ d. option_map members_from (fields_form d)) depth old ≡ Some (fields, r) → reads (nested_value name) depth old ≡ Some (option_map (λ ms. struct_type ms n) fields, r)
struct_read name n depth old r fields is takes read =
    sym (same_form (λ d. option_map (λ ms. struct_type ms n) (option_map members_from (fields_form d))) (nested_value name) (struct_value name n is takes) (read_value depth old))
    ∙ read_then (option_map (λ ms. struct_type ms n)) (λ d. option_map members_from (fields_form d)) (read_value depth old) fields r read

pub list_read : (name : List ℕ) (n : Nullability) (depth : ℕ) (old r : List Token) (dtype : Option DataType) → (unmarked name).0 ≡ codes "list" → (unmarked name).1 ≡ n
    → reads dtype_form depth old ≡ Some (dtype, r) → reads (nested_value name) depth old ≡ Some (option_map (λ t. list_type t n) dtype, r)
list_read name n depth old r dtype is takes read =
    sym (same_form (λ d. option_map (λ t. list_type t n) (dtype_form d)) (nested_value name) (list_value name n is takes) (read_value depth old))
    ∙ read_then (option_map (λ t. list_type t n)) dtype_form (read_value depth old) dtype r read

pub other_value : (name : List ℕ) → ((unmarked name).0 ≡ codes "struct" → ⊥) → ((unmarked name).0 ≡ codes "list" → ⊥) → (d : Data) → nested_value name d ≡ None
other_value name no_struct no_list d = rw (apart (unmarked name).0 (codes "struct") no_struct, apart (unmarked name).0 (codes "list") no_list) refl
