-- The expression that packs the kept fields of a struct is bound, to the dtype of the kept fields.
use Rattle.std.proofs.Common.{◌≡◌, ℕ, ◌≤◌, Bool, true, false, cond, not, ◌&&◌, ◌||◌, List, Some, None, refl, ap, ◌∙◌, arith}
use Rattle.std.specs.Prelude.{option_and_then, option_map, Ok, Err}
use Rattle.std.specs.List.{list_any}
use Rattle.std.specs.Str.{bytes_eq}
use Rattle.std.proofs.lemmas.Slice.Eq.{bytes_eq-Decides}
use Rattle.vx_base.specs.declared.dtypes.Nullability.TheVariants.{NonNullable, Nullable}
use Rattle.vx_base.specs.Data.{DataType, bool_type, int_type, utf8_type, struct_type, list_type, Members, no_members, member}
use Rattle.vx_base.specs.Names.{names_in, are_distinct, HasDistinctNames}
use Rattle.vx_expr.specs.Bound.{Bound}
use Rattle.vx_expr.specs.declared.binding.BindError.{BindError}
use Rattle.vx_expr.specs.declared.binding.BindError.TheVariants.{Memory, NoField, TooDeep, TypeMismatch}
use Rattle.vx_expr.specs.Mismatches.{BindGives}
use Rattle.vx_expr.specs.Counts.{depth, greatest_depth}
use Rattle.vx_expr.specs.Mentions.{uses_row_number}
use Rattle.vx_expr.specs.Terms.{Term, Terms, get_field, named, pack, root}
use Rattle.vx_expr.specs.Types.{on_both, one_more_member, pack_type, type_in, type_of, types_in}
use Rattle.vx_expr.specs.Types.{names_in as names_of_terms}
use Rattle.vx_layout.specs.Kept.{KeptFields, only, is_kept}
use Rattle.vx_lower.specs.Keeping.{bound_pack}
use Rattle.vx_lower.specs.KeptRows.{kept_members, kept_pack, kept_terms, kept_type, MayKeep}
use Rattle.vx_expr.proofs.RewrittenTypes.{or_left, or_right}
use Rattle.vx_layout.proofs.NameSets.{differs}

-- ---- the fields by name

-- each of the members is the first of its name among all
abbrev AreFound : Members → Members → Type 0
AreFound whole no_members = Unit {0}
AreFound whole (member name t ms) = (type_in whole name ≡ Some t) × AreFound whole ms

abbrev is_among : List ℕ → Members → Bool
is_among name ms = list_any (λ other. bytes_eq other name) (names_in ms)

pub and_first : (a b : Bool) → (a && b) ≡ true → a ≡ true
and_first true b e = refl
and_first false b e = absurd cc

pub and_second : (a b : Bool) → (a && b) ≡ true → b ≡ true
and_second true b e = e
and_second false b e = absurd cc

not_true : (a : Bool) → not a ≡ true → a ≡ false
not_true true e = absurd cc
not_true false e = refl

-- another member in front hides none of other names
found_behind : (name : List ℕ) (t : DataType) (whole ms : Members) → is_among name ms ≡ false → AreFound whole ms → AreFound (member name t whole) ms
found_behind name t whole no_members apart found = tt
found_behind name t whole (member other s ms) apart found =
    let here : bytes_eq name other ≡ false = differs name other (or_left (bytes_eq other name) (is_among name ms) apart) (bytes_eq name other) refl in
    (ap (λ (b : Bool). cond b (Some t) (type_in whole other)) here ∙ found.0, found_behind name t whole ms (or_right (bytes_eq other name) (is_among name ms) apart) found.1)

all_found : (ms : Members) → are_distinct (names_in ms) ≡ true → AreFound ms ms
all_found no_members distinct = tt
all_found (member name t ms) distinct =
    let same : bytes_eq name name ≡ true = (bytes_eq-Decides name name).1 refl in
    let apart : is_among name ms ≡ false = not_true (is_among name ms) (and_first (not (is_among name ms)) (are_distinct (names_in ms)) distinct) in
    (ap (λ (b : Bool). cond b (Some t) (type_in ms name)) same, found_behind name t ms ms apart (all_found ms (and_second (not (is_among name ms)) (are_distinct (names_in ms)) distinct)))

-- ---- the dtypes of the kept fields

one_more_type : (b : Bool) (whole : Members) (name : List ℕ) (t : DataType) (es : Terms) (ms : Members) → type_in whole name ≡ Some t → types_in (struct_type whole NonNullable) es ≡ Some ms → types_in (struct_type whole NonNullable) (cond b (named name (get_field name root) es) es) ≡ Some (cond b (member name t ms) ms)
one_more_type true whole name t es ms here rest = λ i. on_both (one_more_member name) (option_map (λ (t : DataType). t) (here i)) (rest i)
one_more_type false whole name t es ms here rest = rest

kept_types : (kept : KeptFields) (whole ms : Members) → AreFound whole ms → types_in (struct_type whole NonNullable) (kept_terms kept ms) ≡ Some (kept_members kept ms)
kept_types kept whole no_members found = refl
kept_types kept whole (member name t ms) found = one_more_type (is_kept kept name) whole name t (kept_terms kept ms) (kept_members kept ms) found.0 (kept_types kept whole ms found.1)

-- ---- their names

apart_step : (b c : Bool) (name other : List ℕ) (es : Terms) → bytes_eq other name ≡ c → c ≡ false → list_any (λ other. bytes_eq other name) (names_of_terms es) ≡ false → list_any (λ other. bytes_eq other name) (names_of_terms (cond b (named other (get_field other root) es) es)) ≡ false
apart_step true c name other es e apart rest = ap (λ (d : Bool). d || list_any (λ other. bytes_eq other name) (names_of_terms es)) (e ∙ apart) ∙ rest
apart_step false c name other es e apart rest = rest

kept_apart : (kept : KeptFields) (name : List ℕ) (ms : Members) → is_among name ms ≡ false → list_any (λ other. bytes_eq other name) (names_of_terms (kept_terms kept ms)) ≡ false
kept_apart kept name no_members apart = refl
kept_apart kept name (member other t ms) apart =
    apart_step (is_kept kept other) (bytes_eq other name) name other (kept_terms kept ms) refl (or_left (bytes_eq other name) (is_among name ms) apart)
    (kept_apart kept name ms (or_right (bytes_eq other name) (is_among name ms) apart))

distinct_step : (b : Bool) (name : List ℕ) (es : Terms) → list_any (λ other. bytes_eq other name) (names_of_terms es) ≡ false → are_distinct (names_of_terms es) ≡ true → are_distinct (names_of_terms (cond b (named name (get_field name root) es) es)) ≡ true
distinct_step true name es apart rest = ap (λ (d : Bool). not d && are_distinct (names_of_terms es)) apart ∙ rest
distinct_step false name es apart rest = rest

kept_distinct : (kept : KeptFields) (ms : Members) → are_distinct (names_in ms) ≡ true → are_distinct (names_of_terms (kept_terms kept ms)) ≡ true
kept_distinct kept no_members distinct = refl
kept_distinct kept (member name t ms) distinct =
    let apart : is_among name ms ≡ false = not_true (is_among name ms) (and_first (not (is_among name ms)) (are_distinct (names_in ms)) distinct) in
    distinct_step (is_kept kept name) name (kept_terms kept ms) (kept_apart kept name ms apart) (kept_distinct kept ms (and_second (not (is_among name ms)) (are_distinct (names_in ms)) distinct))

-- ---- the binding

pack_typed : (names : List (List ℕ)) (t : DataType) → MayKeep (only names) t → HasDistinctNames t → type_of t (kept_pack (only names) t) ≡ Some (kept_type (only names) t)
pack_typed names (struct_type ms NonNullable) may distinct =
    ap (option_and_then (pack_type (names_of_terms (kept_terms (only names) ms)))) (kept_types (only names) ms ms (all_found ms distinct.0))
    ∙ ap (λ (b : Bool). cond b (Some (struct_type (kept_members (only names) ms) NonNullable)) None) (kept_distinct (only names) ms distinct.0)
pack_typed names (struct_type ms Nullable) may distinct = absurd may
pack_typed names (bool_type n) may distinct = absurd may
pack_typed names (int_type kind n) may distinct = absurd may
pack_typed names (utf8_type n) may distinct = absurd may
pack_typed names (list_type t n) may distinct = absurd may

-- what binding the expression gives
pub bound_is : (names : List (List ℕ)) (t : DataType) (e : Term) (a : Bound) → MayKeep (only names) t → HasDistinctNames t → e ≡ kept_pack (only names) t → BindGives t e (Ok a) → a ≡ bound_pack (only names) t
bound_is names t e a may distinct is gives =
    let typed : type_of t e ≡ Some (kept_type (only names) t) = ap (type_of t) is ∙ pack_typed names t may distinct in
    let found : type_of t e ≡ Some a.dtype = gives.3 in
    let same : a.dtype ≡ kept_type (only names) t = cc in
    λ i. record { term = (gives.1 ∙ is) i; root = gives.2 i; dtype = same i }

depth_step : (b : Bool) (name : List ℕ) (es : Terms) → greatest_depth es ≤ 2 → greatest_depth (cond b (named name (get_field name root) es) es) ≤ 2
depth_step true name es few = omega arith
depth_step false name es few = few

terms_shallow : (kept : KeptFields) (ms : Members) → greatest_depth (kept_terms kept ms) ≤ 2
terms_shallow kept no_members = omega arith
terms_shallow kept (member name t ms) = depth_step (is_kept kept name) name (kept_terms kept ms) (terms_shallow kept ms)

pack_shallow : (kept : KeptFields) (t : DataType) → depth (kept_pack kept t) ≤ 3
pack_shallow kept (struct_type ms n) = let few = terms_shallow kept ms in omega arith
pack_shallow kept (bool_type n) = omega arith
pack_shallow kept (int_type kind n) = omega arith
pack_shallow kept (utf8_type n) = omega arith
pack_shallow kept (list_type t n) = omega arith

numberless_step : (b : Bool) (name : List ℕ) (es : Terms) → uses_row_number (pack es) ≡ false → uses_row_number (pack (cond b (named name (get_field name root) es) es)) ≡ false
numberless_step true name es none = none
numberless_step false name es none = none

terms_numberless : (kept : KeptFields) (ms : Members) → uses_row_number (pack (kept_terms kept ms)) ≡ false
terms_numberless kept no_members = refl
terms_numberless kept (member name t ms) = numberless_step (is_kept kept name) name (kept_terms kept ms) (terms_numberless kept ms)

pub pack_numberless : (kept : KeptFields) (t : DataType) → uses_row_number (kept_pack kept t) ≡ false
pack_numberless kept (struct_type ms n) = terms_numberless kept ms
pack_numberless kept (bool_type n) = refl
pack_numberless kept (int_type kind n) = refl
pack_numberless kept (utf8_type n) = refl
pack_numberless kept (list_type t n) = refl

-- it is refused for want of memory alone
pub refused_for_memory : (names : List (List ℕ)) (t : DataType) (e : Term) (error : BindError) → MayKeep (only names) t → HasDistinctNames t → e ≡ kept_pack (only names) t → BindGives t e (Err error) → error ≡ Memory
refused_for_memory names t e (NoField name) may distinct is gives =
    let typed : type_of t e ≡ Some (kept_type (only names) t) = ap (type_of t) is ∙ pack_typed names t may distinct in
    let none : type_of t e ≡ None = gives.1 in
    absurd cc
refused_for_memory names t e (TypeMismatch place) may distinct is gives =
    let typed : type_of t e ≡ Some (kept_type (only names) t) = ap (type_of t) is ∙ pack_typed names t may distinct in
    let none : type_of t e ≡ None = gives.1 in
    absurd cc
refused_for_memory names t e TooDeep may distinct is gives = absurd (omega (arith, pack_shallow (only names) t, ap depth is))
refused_for_memory names t e Memory may distinct is gives = refl
