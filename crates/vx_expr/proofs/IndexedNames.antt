-- The places of fields by their names, put in from the last field to the first.
use Rattle.std.proofs.Common.{◌≡◌, ℕ, zero, suc, ◌+◌, Bool, true, false, cond, List, [], ◌∷◌, length, drop, Option, Some, None, option_map, Result, Ok, Err, IfOk, refl, sym, ap, subst, ◌∙◌, Bor, arith}
use Rattle.std.specs.List.{position, position_or_len, slice_get}
use Rattle.std.specs.Str.{bytes_eq}
use Rattle.std.specs.BTreeMap.{BTreeMap, get, is_at}
use Rattle.std.proofs.lemmas.Map.Text.{is_eq-slice_cmp}
use Rattle.vx_base.specs.Data.{Members, struct_type}
use Rattle.vx_base.specs.declared.dtypes.DType.{DType}
use Rattle.vx_base.specs.declared.dtypes.DType.TheVariants as variants
use Rattle.vx_base.specs.declared.dtypes.Nullability.{Nullability}
use Rattle.vx_base.specs.Views.{FieldData, data_type}
use Rattle.vx_expr.specs.Indexed.{name_cmp, HasPlaces}
use Rattle.vx_expr.proofs.FieldPlaces.{place_step}

-- the place of the first of these fields that has the name
abbrev place_in : List ℕ → List FieldData → Option ℕ
place_in name fields = position (λ (field : FieldData). bytes_eq field.name name) fields

-- the fields from a place on have their places
abbrev pub HasFrom : BTreeMap (Bor (List ℕ)) ℕ → List FieldData → ℕ → Type 0
HasFrom places fields from = (name : Bor (List ℕ)) → get name_cmp places name ≡ option_map (λ k. from + k) (place_in name.now (drop from fields))

here_and_on : (fields : List FieldData) (k : ℕ) (field : FieldData) → slice_get fields k ≡ Some field → drop k fields ≡ field ∷ drop (k + 1) fields
here_and_on [] k field e = absurd cc
here_and_on (one ∷ fields) zero field e = let same : one ≡ field = cc in ap (λ (f : FieldData). f ∷ fields) same
here_and_on (one ∷ fields) (suc k) field e = let same : suc k + 1 ≡ suc (k + 1) = omega arith in here_and_on fields k field e ∙ ap (λ (n : ℕ). field ∷ drop n (one ∷ fields)) (sym same)

counted_on : (b : Bool) (k : ℕ) (place : Option ℕ) → option_map (λ j. k + j) (cond b (Some 0) (option_map suc place)) ≡ cond b (Some k) (option_map (λ j. (k + 1) + j) place)
counted_on true k place = let same : k + 0 ≡ k = omega arith in ap Some same
counted_on false k None = refl
counted_on false k (Some j) = let same : k + suc j ≡ (k + 1) + j = omega arith in ap Some same

-- one field more, the one before those
pub one_before : (old new : BTreeMap (Bor (List ℕ)) ℕ) (fields : List FieldData) (k from : ℕ) (field : FieldData) (key : Bor (List ℕ)) → from ≡ k + 1 → slice_get fields k ≡ Some field → key.now ≡ field.name
    → ((name : Bor (List ℕ)) → get name_cmp new name ≡ cond (is_at (name_cmp key) name) (Some k) (get name_cmp old name)) → HasFrom old fields from → HasFrom new fields k
one_before old new fields k from field key next is same put has = λ name.
    let rest = place_in name.now (drop (k + 1) fields) in
    put name
    ∙ ap (λ (b : Bool). cond b (Some k) (get name_cmp old name)) (is_eq-slice_cmp key.now name.now ∙ ap (λ (n : List ℕ). bytes_eq n name.now) same)
    ∙ ap (λ (place : Option ℕ). cond (bytes_eq field.name name.now) (Some k) place) (has name ∙ ap (λ (n : ℕ). option_map (λ j. n + j) (place_in name.now (drop n fields))) next)
    ∙ sym (ap (λ (fs : List FieldData). option_map (λ j. k + j) (place_in name.now fs)) (here_and_on fields k field is)
    ∙ ap (option_map (λ j. k + j)) (place_step (bytes_eq field.name name.now) (position_or_len (λ (f : FieldData). bytes_eq f.name name.now) (drop (k + 1) fields)) (length (drop (k + 1) fields)))
    ∙ counted_on (bytes_eq field.name name.now) k rest)

pub struct_places : {E : Type 0} (r : Result (BTreeMap (Bor (List ℕ)) ℕ) E) (d : DType) (ms : Members) (n : Nullability) → d ≡ variants.Struct ms n → IfOk r (λ places. (m : Nullability) → HasPlaces places (struct_type ms m)) → IfOk r (λ places. HasPlaces places (data_type d))
struct_places (Ok places) d ms n is has = subst (λ (other : DType). HasPlaces places (data_type other)) (sym is) (has n)
struct_places (Err error) d ms n is has = tt
