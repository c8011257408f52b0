-- The field of a struct, by the place of its name among the members.
use Rattle.std.proofs.Common.{◌≡◌, ℕ, suc, ◌+◌, Bool, true, false, not, cond, if◌then◌else◌, ltb, List, [], ◌∷◌, length, position, Option, Some, None, option_map, option_and_then, slice_get, bytes_eq, refl, sym, ap, ◌∙◌, arith}
use Rattle.std.specs.List.{position_or_len}
use Rattle.std.proofs.lemmas.Bool.{lt-ltb}
use Prim.Native.Nat.compare
use Rattle.vx_base.specs.Data.{DataType, bool_type, int_type, utf8_type, list_type, struct_type, Members, no_members, member, Datum, null, truth, number, text, structure, Items, no_items, item}
use Rattle.vx_base.specs.declared.dtypes.Nullability.{Nullability}
use Rattle.vx_base.specs.declared.dtypes.DType.{DType}
use Rattle.vx_base.specs.declared.dtypes.DType.TheVariants as variants
use Rattle.vx_base.specs.Views.{FieldData, data_type, fields_in}
use Rattle.vx_base.specs.ValueViews.{data_in}
use Rattle.vx_expr.specs.Finds.{place_found}
use Rattle.vx_expr.specs.Meaning.{item_in, field_of}
use Rattle.vx_expr.specs.Steps.{item_at}

-- the place of the first field of that name
abbrev pub place_of : List ℕ → Members → Option ℕ
place_of name ms = position (λ field. bytes_eq field.name name) (fields_in ms)

one_further : (b : Bool) (p : ℕ) → cond b (Some (suc p)) None ≡ option_map suc (cond b (Some p) None)
one_further true p = refl
one_further false p = refl

pub place_step : (b : Bool) (p len : ℕ) → cond (ltb (cond (not b) (1 + p) 0) (suc len)) (Some (cond (not b) (1 + p) 0)) None ≡ cond b (Some 0) (option_map suc (cond (ltb p len) (Some p) None))
place_step true p len = let first : ltb 0 (suc len) ≡ true = lt-ltb 0 (suc len) (omega arith) in rw first refl
place_step false p len = let next : 1 + p ≡ suc p = omega arith in rw (next, compare.suc-suc) (one_further (ltb p len) p)

-- the first field has the name, or the place counts on
place_behind : (name other : List ℕ) (t : DataType) (ms : Members) → place_of name (member other t ms) ≡ cond (bytes_eq other name) (Some 0) (option_map suc (place_of name ms))
place_behind name other t ms = place_step (bytes_eq other name) (position_or_len (λ (field : FieldData). bytes_eq field.name name) (fields_in ms)) (length (fields_in ms))

abbrev item_there : List Datum → Option ℕ → Option Datum
item_there ds place = option_and_then (slice_get ds) place

none_there : (place : Option ℕ) → item_there [] place ≡ None
none_there None = refl
none_there (Some i) = refl

one_behind : (place : Option ℕ) (v : Datum) (ds : List Datum) → item_there (v ∷ ds) (option_map suc place) ≡ item_there ds place
one_behind None v ds = refl
one_behind (Some i) v ds = refl

item_step : (b : Bool) (place : Option ℕ) (v : Datum) (ds : List Datum) (rest : Option Datum) → item_there ds place ≡ rest → item_there (v ∷ ds) (cond b (Some 0) (option_map suc place)) ≡ (if b then Some v else rest)
item_step true place v ds rest e = refl
item_step false place v ds rest e = one_behind place v ds ∙ e

-- the value at the place of a name is the value of that name
item_of_name : (ms : Members) (name : List ℕ) (vs : Items) → item_there (data_in vs) (place_of name ms) ≡ item_in ms name vs
item_of_name no_members name vs = refl
item_of_name (member other t ms) name no_items = none_there (place_of name (member other t ms))
item_of_name (member other t ms) name (item v vs) =
    ap (item_there (v ∷ data_in vs)) (place_behind name other t ms) ∙ item_step (bytes_eq other name) (place_of name ms) v (data_in vs) (item_in ms name vs) (item_of_name ms name vs)

at_place : (place : Option ℕ) (vs : Items) → item_at place (structure vs) ≡ item_there (data_in vs) place
at_place None vs = refl
at_place (Some i) vs = refl

field_here : (ms : Members) (n : Nullability) (name : List ℕ) (place : Option ℕ) (v : Datum) → place ≡ place_of name ms → item_at place v ≡ field_of (Some (struct_type ms n)) name v
field_here ms n name place null e = refl
field_here ms n name place (truth b) e = refl
field_here ms n name place (number z) e = refl
field_here ms n name place (text bytes) e = refl
field_here ms n name place (structure vs) e = at_place place vs ∙ ap (item_there (data_in vs)) e ∙ item_of_name ms name vs

-- the item at that place is the field
pub field_at : (t : Option DataType) (name : List ℕ) (v : Datum) → item_at (place_found t name) v ≡ field_of t name v
field_at (Some (struct_type ms n)) name v = field_here ms n name (place_of name ms) v refl
field_at None name null = refl
field_at None name (truth b) = refl
field_at None name (number z) = refl
field_at None name (text bytes) = refl
field_at None name (structure vs) = refl
field_at (Some (bool_type n)) name null = refl
field_at (Some (bool_type n)) name (truth b) = refl
field_at (Some (bool_type n)) name (number z) = refl
field_at (Some (bool_type n)) name (text bytes) = refl
field_at (Some (bool_type n)) name (structure vs) = refl
field_at (Some (int_type kind n)) name null = refl
field_at (Some (int_type kind n)) name (truth b) = refl
field_at (Some (int_type kind n)) name (number z) = refl
field_at (Some (int_type kind n)) name (text bytes) = refl
field_at (Some (int_type kind n)) name (structure vs) = refl
field_at (Some (utf8_type n)) name null = refl
field_at (Some (utf8_type n)) name (truth b) = refl
field_at (Some (utf8_type n)) name (number z) = refl
field_at (Some (utf8_type n)) name (text bytes) = refl
field_at (Some (utf8_type n)) name (structure vs) = refl
field_at (Some (list_type s n)) name null = refl
field_at (Some (list_type s n)) name (truth b) = refl
field_at (Some (list_type s n)) name (number z) = refl
field_at (Some (list_type s n)) name (text bytes) = refl
field_at (Some (list_type s n)) name (structure vs) = refl

-- the place of a name in a dtype in memory
pub place_there : (d : DType) (ms : Members) (n : Nullability) (name written : List ℕ) (place : Option ℕ) → d ≡ variants.Struct ms n → written ≡ name → place ≡ place_of written ms → place ≡ place_found (Some (data_type d)) name
place_there d ms n name written place is same e =
    e ∙ ap (λ (bytes : List ℕ). place_of bytes ms) same ∙ ap (λ (other : DType). place_found (Some (data_type other)) name) (sym is)
