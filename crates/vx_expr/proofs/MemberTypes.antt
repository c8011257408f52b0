-- The dtype of the first member of a name, by its place.
use Rattle.std.proofs.Common.{◌≡◌, ℕ, suc, ◌+◌, ◌≤◌, Bool, true, false, not, cond, ltb, List, ◌∷◌, length, Option, Some, None, refl, ap, ◌∙◌, arith}
use Rattle.std.specs.List.{position, position_or_len, slice_get}
use Rattle.std.specs.Str.{bytes_eq}
use Rattle.std.proofs.lemmas.Bool.{ltb-false}
use Rattle.vx_base.specs.Data.{DataType, Members, no_members, member}
use Rattle.vx_base.specs.Views.{FieldData, fields_in}
use Rattle.vx_expr.specs.Types.{type_in}

abbrev pub a_type : DataType → Option DataType
a_type t = Some t

abbrev a_field : FieldData → Option FieldData
a_field f = Some f

-- how many members stand before the first one of that name
abbrev before : List ℕ → Members → ℕ
before name ms = position_or_len (λ (field : FieldData). bytes_eq field.name name) (fields_in ms)

one_before : (field found : FieldData) (fields : List FieldData) (b : Bool) (n : ℕ) (rest : Option DataType) → (slice_get fields n ≡ Some found → rest ≡ Some found.dtype)
    → slice_get (field ∷ fields) (cond (not b) (1 + n) 0) ≡ Some found → cond b (a_type field.dtype) rest ≡ Some found.dtype
one_before field found fields true n rest later e = let same : a_field field ≡ a_field found = e in let fields : field ≡ found = cc in ap (λ (f : FieldData). a_type f.dtype) fields
one_before field found fields false n rest later e = let next : 1 + n ≡ suc n = omega arith in later (rw next at e)

-- the member at that place has the dtype
type_before : (ms : Members) (name : List ℕ) (found : FieldData) → slice_get (fields_in ms) (before name ms) ≡ Some found → type_in ms name ≡ Some found.dtype
type_before no_members name found e = absurd cc
type_before (member n t ms) name found e = one_before (record { name = n; dtype = t }) found (fields_in ms) (bytes_eq n name) (before name ms) (type_in ms name) (λ h. type_before ms name found h) e

none_before : (b : Bool) (len n : ℕ) (t : DataType) (rest : Option DataType) → (len ≤ n → rest ≡ None) → suc len ≤ cond (not b) (1 + n) 0 → cond b (Some t) rest ≡ None
none_before true len n t rest later e = absurd (omega arith)
none_before false len n t rest later e = later (omega arith)

-- past the last member there is none of that name
no_type : (ms : Members) (name : List ℕ) → length (fields_in ms) ≤ before name ms → type_in ms name ≡ None
no_type no_members name past = refl
no_type (member n t ms) name past = none_before (bytes_eq n name) (length (fields_in ms)) (before name ms) t (type_in ms name) (λ h. no_type ms name h) past

place_is : (b : Bool) (n i : ℕ) → cond b (Some n) None ≡ Some i → n ≡ i
place_is true n i e = cc
place_is false n i e = absurd cc

no_place : (b : Bool) (n : ℕ) → cond b (Some n) None ≡ None → b ≡ false
no_place true n e = absurd cc
no_place false n e = refl

-- what a search by name finds is the member whose dtype counts
pub type_at : (ms : Members) (name : List ℕ) (i : ℕ) (found : FieldData) → position (λ field. bytes_eq field.name name) (fields_in ms) ≡ Some i → slice_get (fields_in ms) i ≡ Some found → type_in ms name ≡ Some found.dtype
type_at ms name i found at is =
    let place : before name ms ≡ i = place_is _ (before name ms) i at in
    type_before ms name found (ap (slice_get (fields_in ms)) place ∙ is)

pub none_of_name : (ms : Members) (name : List ℕ) → position (λ field. bytes_eq field.name name) (fields_in ms) ≡ None → type_in ms name ≡ None
none_of_name ms name at = no_type ms name (ltb-false (before name ms) (length (fields_in ms)) (no_place (ltb (before name ms) (length (fields_in ms))) (before name ms) at))
