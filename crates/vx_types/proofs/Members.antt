-- Lists of fields and members.
use Rattle.std.proofs.Common.{◌≡◌, ℕ, zero, suc, ◌+◌, ◌<◌, ◌≤◌, Bool, true, false, cond, List, [], ◌∷◌, length, map, get_or, take, Option, Some, refl, sym, ap, ◌∙◌, arith}
use Rattle.std.specs.List.{position, prefix_len, slice_get}
use Rattle.std.specs.Str.{bytes_eq}
use Rattle.std.proofs.lemmas.List.{length-map}
use Rattle.std.proofs.lemmas.Option.{slice_get-map, slice_get-get_or}
use Rattle.vx_types.proofs.Lists.{agree_more}
use Rattle.vx_types.specs.declared.dtypes.Field.{Field}
use Rattle.vx_types.specs.Data.{Members}
use Rattle.vx_types.specs.Sizes.{type_size, members_size}
use Rattle.vx_types.specs.Views.{data_type, FieldData, field_data, fields_in, members_from, members_of}

pub fields_in-members_from : (fields : List FieldData) → fields_in (members_from fields) ≡ fields
fields_in-members_from [] = refl
fields_in-members_from (field ∷ fields) = ap (λ (fs : List FieldData). field ∷ fs) (fields_in-members_from fields)

-- the fields that a view has
pub fields_in_view : (fields : List Field) (ms : Members) → members_of fields ≡ ms → fields_in ms ≡ map field_data fields
fields_in_view fields ms e = ap fields_in (sym e) ∙ fields_in-members_from (map field_data fields)

pub length_in_view : (fields : List Field) (ms : Members) → members_of fields ≡ ms → length (fields_in ms) ≡ length fields
length_in_view fields ms e = ap length (fields_in_view fields ms e) ∙ length-map fields field_data

abbrev the_field : Field → Option FieldData
the_field field = Some (field_data field)

pub field_in_view : (fields : List Field) (ms : Members) (i : ℕ) (field : Field) → members_of fields ≡ ms → i < length fields → field ≡ get_or fields i field → slice_get (fields_in ms) i ≡ Some (field_data field)
field_in_view fields ms i field e lt is = rw (fields_in_view fields ms e, slice_get-map field_data fields i, slice_get-get_or fields i field lt) (ap the_field (sym is))

-- a field is no larger than all of them together
pub size_at : (fields : List Field) (i : ℕ) (field : Field) → i < length fields → field ≡ get_or fields i field → type_size (data_type field.dtype) ≤ members_size (members_of fields)
size_at [] i field lt e = absurd (omega arith)
size_at (one ∷ fields) zero field lt e = omega (arith, ap (λ (f : Field). type_size (data_type f.dtype)) e)
size_at (one ∷ fields) (suc i) field lt e = omega (arith, size_at fields i field (omega arith) e)

prefix_len-map : {X Y : Type 0} (p : Y → Bool) (f : X → Y) (xs : List X) → prefix_len p (map f xs) ≡ prefix_len (λ x. p (f x)) xs
prefix_len-map p f [] = refl
prefix_len-map p f (x ∷ xs) = elim (p (f x)) as (λ b. cond b (1 + prefix_len p (map f xs)) 0 ≡ cond b (1 + prefix_len (λ y. p (f y)) xs) 0) [ true ↦ ap (λ (n : ℕ). 1 + n) (prefix_len-map p f xs) | false ↦ refl ]

position-map : {X Y : Type 0} (p : Y → Bool) (f : X → Y) (xs : List X) → position p (map f xs) ≡ position (λ x. p (f x)) xs
position-map p f xs = rw (prefix_len-map _ f xs, length-map xs f) refl

pub place_in_view : (fields : List Field) (ms : Members) (name : List ℕ) → members_of fields ≡ ms → position (λ field. bytes_eq field.name name) (fields_in ms) ≡ position (λ field. bytes_eq field.name name) fields
place_in_view fields ms name e = rw (fields_in_view fields ms e) (position-map (λ (field : FieldData). bytes_eq field.name name) field_data fields)

-- equal members have equal fields at each place
pub fields_agree : (xs ys : List Field) (ms ns : Members) (i : ℕ) (x y : Field) → members_of xs ≡ ms → members_of ys ≡ ns → i < length xs → length xs ≡ length ys → x ≡ get_or xs i x → y ≡ get_or ys i y → ms ≡ ns → field_data x ≡ field_data y
fields_agree xs ys ms ns i x y e f lt len p q same =
    let a = field_in_view xs ms i x e lt p in
    let b = field_in_view ys ns i y f (omega arith) q in
    let c : the_field x ≡ the_field y = sym a ∙ ap (λ (us : Members). slice_get (fields_in us) i) same ∙ b in
    cc

pub lengths_agree : (xs ys : List Field) (ms ns : Members) → members_of xs ≡ ms → members_of ys ≡ ns → ms ≡ ns → length xs ≡ length ys
lengths_agree xs ys ms ns e f same = omega (arith, length_in_view xs ms e, length_in_view ys ns f, ap (λ (us : Members). length (fields_in us)) same)

pub fields_more : (xs ys : List Field) (i : ℕ) (x y : Field) → i < length xs → length xs ≡ length ys → x ≡ get_or xs i x → y ≡ get_or ys i y → x.name ≡ y.name → data_type x.dtype ≡ data_type y.dtype
    → map field_data (take i xs) ≡ map field_data (take i ys) → map field_data (take (i + 1) xs) ≡ map field_data (take (i + 1) ys)
fields_more xs ys i x y lt len p q names types so_far =
    let same : field_data x ≡ field_data y = λ j. record { name = names j; dtype = types j } in
    agree_more field_data xs ys i x y lt len p q same so_far
