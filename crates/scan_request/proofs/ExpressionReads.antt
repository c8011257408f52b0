-- An expression that was read, from what was read of its parts.
use Rattle.std.proofs.Common.{◌≡◌, ℕ, List, codes, map, Option, Some, None, option_map, bytes_eq, refl, sym, subst, ap, ◌∙◌}
use Rattle.std.specs.Map.{lookup}
use Rattle.json.specs.Json.{parse_map}
use Rattle.json.specs.Token.{Token}
use Rattle.serde_json.specs.Data.{Data, null, boolean, number, string, array, object, Members}
use Rattle.serde_json.specs.Find.{as_array}
use Rattle.vx_base.specs.Data.{DataType, Datum}
use Rattle.vx_expr.specs.Terms.{Term, get_field, pack}
use Rattle.scan_json.specs.Members.{AreRising}
use Rattle.scan_json.specs.Reading.{read_members, read_value, reads}
use Rattle.scan_json.specs.Singles.{with_single}
use Rattle.scan_json.proofs.Parts.{of_object, of_value}
use Rattle.scan_json.proofs.Turns.{read_then}
use Rattle.scan_request.specs.DtypeForms.{dtype_form}
use Rattle.scan_request.specs.ExpressionForms.{all_named_form, expression_form, joined_value, named_form, pair_form, pair_names, terms_from, test_names, test_or_pair, value_form}
use Rattle.scan_request.specs.ExpressionViews.{ObjectTold, object_said, told_of, with_member}
use Rattle.scan_request.proofs.ExpressionMembers.{joined_other, object_is}
use Rattle.scan_request.proofs.OtherKinds.{apart, same_form}

-- ---- values of another kind

pub no_named : (d : Data) → as_array d ≡ None → named_form d ≡ None
no_named null none = refl
no_named (boolean b) none = refl
no_named (number n) none = refl
no_named (string s) none = refl
no_named (array ds) none = absurd cc
no_named (object ms) none = refl

pub no_named_list : (d : Data) → as_array d ≡ None → all_named_form d ≡ None
no_named_list null none = refl
no_named_list (boolean b) none = refl
no_named_list (number n) none = refl
no_named_list (string s) none = refl
no_named_list (array ds) none = absurd cc
no_named_list (object ms) none = refl

pub no_pair : (d : Data) → as_array d ≡ None → pair_form d ≡ None
no_pair null none = refl
no_pair (boolean b) none = refl
no_pair (number n) none = refl
no_pair (string s) none = refl
no_pair (array ds) none = absurd cc
no_pair (object ms) none = refl

-- ---- an object

pub object_read : (depth inner : ℕ) (old mid r : List Token) (ms : Members) (told : ObjectTold) (expr : Option Term) → read_value depth old ≡ parse_map object (read_members inner mid) → read_members inner mid ≡ Some (ms, r)
    → AreRising ms → told ≡ told_of ms → expr ≡ object_said told → reads expression_form depth old ≡ Some (expr, r)
object_read depth inner old mid r ms told expr is read rising tells made =
    of_object expression_form depth inner old mid is ∙ ap (parse_map (λ all. expression_form (object all))) read ∙ ap (λ o. Some (o, r)) (sym (object_is ms rising) ∙ ap object_said (sym tells) ∙ sym made)

-- ---- a member

pub lit_told : (name : List ℕ) (d : Data) (told : ObjectTold) (value : Option Datum) → name ≡ codes "lit" → value_form d ≡ value → (record told { value = Some value }) ≡ with_member name d told
lit_told name d told value is read = rw is (ap (λ (v : Option Datum). record told { value = Some v }) (sym read))

pub type_told : (name : List ℕ) (d : Data) (told : ObjectTold) (dtype : Option DataType) → name ≡ codes "type" → dtype_form d ≡ dtype → (record told { dtype = Some dtype }) ≡ with_member name d told
type_told name d told dtype is read = rw is (ap (λ (t : Option DataType). record told { dtype = Some t }) (sym read))

pub other_told : (name : List ℕ) (d : Data) (told : ObjectTold) (expr : Option Term) → (name ≡ codes "lit" → ⊥) → (name ≡ codes "type" → ⊥) → joined_value name d ≡ expr
    → (record told { joined = with_single name expr told.joined }) ≡ with_member name d told
other_told name d told expr not_lit not_type read =
    rw (apart name (codes "lit") not_lit, apart name (codes "type") not_type) (ap (λ (e : Option Term). record told { joined = with_single name e told.joined }) (sym read))

-- ---- the expression of a name

module _ (name : List ℕ) (depth : ℕ) (old r : List Token) where
  pub get_read : (part : Option (List ℕ × Term)) → name ≡ codes "get" → reads named_form depth old ≡ Some (part, r) → reads (joined_value name) depth old ≡ Some (option_map (λ field. get_field field.0 field.1) part, r)
  get_read part is read = rw is (read_then (option_map (λ (field : List ℕ × Term). get_field field.0 field.1)) named_form (read_value depth old) part r read)

  pub pack_read : (parts : Option (List (List ℕ × Term))) → name ≡ codes "pack" → reads all_named_form depth old ≡ Some (parts, r) → reads (joined_value name) depth old ≡ Some (option_map (λ fields. pack (terms_from fields)) parts, r)
  pack_read parts is read = rw is (read_then (option_map (λ (fields : List (List ℕ × Term)). pack (terms_from fields))) all_named_form (read_value depth old) parts r read)

  module _ (no_get : name ≡ codes "get" → ⊥) (no_pack : name ≡ codes "pack" → ⊥) where
    joined_is : (test : Option (Term → Term)) (join : Option (Term → Term → Term)) → test ≡ lookup (bytes_eq name) test_names → join ≡ lookup (bytes_eq name) pair_names → (d : Data) → joined_value name d ≡ test_or_pair test join (expression_form d) (pair_form d)
    joined_is test join is_test is_join d = joined_other name test join (expression_form d) (named_form d) (all_named_form d) (pair_form d) no_get no_pack is_test is_join

    pub test_read : (test : Term → Term) (part : Option Term) → Some test ≡ lookup (bytes_eq name) test_names → reads expression_form depth old ≡ Some (part, r) → reads (joined_value name) depth old ≡ Some (option_map test part, r)
    test_read test part is_test read =
        same_form (joined_value name) (λ d. option_map test (expression_form d)) (λ d. joined_is (Some test) (lookup (bytes_eq name) pair_names) is_test refl d) (read_value depth old)
        ∙ read_then (option_map test) expression_form (read_value depth old) part r read

    pub join_same : (join : Term → Term → Term) → None ≡ lookup (bytes_eq name) test_names → Some join ≡ lookup (bytes_eq name) pair_names → reads (joined_value name) depth old ≡ reads (λ d. option_map (λ es. join es.0 es.1) (pair_form d)) depth old
    join_same join no_test is_join = same_form (joined_value name) (λ d. option_map (λ es. join es.0 es.1) (pair_form d)) (λ d. joined_is None (Some join) no_test is_join d) (read_value depth old)

    pub none_read : (d : Data) → None ≡ lookup (bytes_eq name) test_names → None ≡ lookup (bytes_eq name) pair_names → read_value depth old ≡ Some (d, r) → reads (joined_value name) depth old ≡ Some (None, r)
    none_read d no_test no_join read = of_value (joined_value name) depth old r d read ∙ ap (λ o. Some (o, r)) (joined_is None None no_test no_join d)
