-- Two structs that have the same fields where an expression gets them from its root: the expression can't tell them apart.
use Rattle.std.proofs.Common.{◌≡◌, ℕ, ◌⊎◌, inl, inr, Bool, true, false, cond, ◌||◌, List, [], ◌∷◌, ◌++◌, Option, Some, None, is_some, refl, sym, ap, ◌∙◌, subst}
use Rattle.std.specs.Prelude.{option_and_then, if◌then◌else◌, IsSome, IsSomeAnd}
use Rattle.std.specs.List.{AllByRecursion}
use Rattle.std.specs.Str.{bytes_eq}
use Rattle.std.proofs.lemmas.Slice.Eq.{bytes_eq-Decides}
use Rattle.vx_base.specs.declared.dtypes.Nullability.{Nullability}
use Rattle.vx_base.specs.declared.dtypes.Nullability.TheVariants.{NonNullable, Nullable}
use Rattle.vx_base.specs.Data.{DataType, bool_type, int_type, utf8_type, struct_type, list_type, Members, no_members, member, Datum, structure, Items, no_items, item}
use Rattle.vx_expr.specs.Meaning.{meaning, meanings_in, field_of, item_in, negated, and_of, or_of, comparison_of, null_test_of, value_test_of, arithmetic_of, bound_test_of, one_more_item, struct_of}
use Rattle.vx_expr.specs.Mentions.{joined, root_fields, root_fields_in, uses_root}
use Rattle.vx_expr.specs.Rows.{no_bound}
use Rattle.vx_expr.specs.Terms.{Term, root, literal, get_field, pack, negation, conjunction, disjunction, comparison, null_test, value_test, arithmetic, row_number, bound_test, Terms, no_terms, named}
use Rattle.vx_expr.specs.Types.{on_both, type_in, type_of}
use Rattle.vx_layout.specs.Kept.{KeptFields, all, only, is_kept, kept_among, kept_fields, names_among}
use Rattle.vx_layout.specs.Rows.{struct_members}
use Rattle.vx_layout.proofs.NameSets.{stands_in}

-- ---- expressions

-- the same is got from both by the name
abbrev GetsSame : DataType → Datum → Datum → List ℕ → Type 0
GetsSame t v w name = field_of (Some t) name v ≡ field_of (Some t) name w

abbrev GetsAllSame : DataType → Datum → Datum → Option (List (List ℕ)) → Type 0
GetsAllSame t v w names = IsSomeAnd names (AllByRecursion (GetsSame t v w))

same_front : (t : DataType) (v w : Datum) (xs ys : List (List ℕ)) → AllByRecursion (GetsSame t v w) (xs ++ ys) → AllByRecursion (GetsSame t v w) xs
same_front t v w [] ys each = tt
same_front t v w (x ∷ xs) ys each = (each.0, same_front t v w xs ys each.1)

same_back : (t : DataType) (v w : Datum) (xs ys : List (List ℕ)) → AllByRecursion (GetsSame t v w) (xs ++ ys) → AllByRecursion (GetsSame t v w) ys
same_back t v w [] ys each = each
same_back t v w (x ∷ xs) ys each = same_back t v w xs ys each.1

same_left : (t : DataType) (v w : Datum) (xs ys : Option (List (List ℕ))) → GetsAllSame t v w (on_both joined xs ys) → GetsAllSame t v w xs
same_left t v w None ys each = absurd each
same_left t v w (Some xs) None each = absurd each
same_left t v w (Some xs) (Some ys) each = same_front t v w xs ys each

same_right : (t : DataType) (v w : Datum) (xs ys : Option (List (List ℕ))) → GetsAllSame t v w (on_both joined xs ys) → GetsAllSame t v w ys
same_right t v w None ys each = absurd each
same_right t v w (Some xs) None each = absurd each
same_right t v w (Some xs) (Some ys) each = same_back t v w xs ys each

mutual
  meaning_same : (t : DataType) (v w : Datum) (bound : ℕ) (e : Term) (row : ℕ) → GetsAllSame t v w (root_fields e) → meaning t bound e v row ≡ meaning t bound e w row
  meaning_same t v w bound root row each = absurd each
  meaning_same t v w bound (literal u s) row each = refl
  meaning_same t v w bound (get_field name root) row each = each.0
  meaning_same t v w bound (get_field name e) row each = ap (option_and_then (field_of (type_of t e) name)) (meaning_same t v w bound e row each)
  meaning_same t v w bound (pack es) row each = ap (option_and_then struct_of) (meanings_same t v w bound es row each)
  meaning_same t v w bound (negation e) row each = ap (option_and_then negated) (meaning_same t v w bound e row each)
  meaning_same t v w bound (conjunction a b) row each =
      let p : meaning t bound a v row ≡ meaning t bound a w row = meaning_same t v w bound a row (same_left t v w (root_fields a) (root_fields b) each) in
      let q : meaning t bound b v row ≡ meaning t bound b w row = meaning_same t v w bound b row (same_right t v w (root_fields a) (root_fields b) each) in
      λ i. on_both and_of (p i) (q i)
  meaning_same t v w bound (disjunction a b) row each =
      let p : meaning t bound a v row ≡ meaning t bound a w row = meaning_same t v w bound a row (same_left t v w (root_fields a) (root_fields b) each) in
      let q : meaning t bound b v row ≡ meaning t bound b w row = meaning_same t v w bound b row (same_right t v w (root_fields a) (root_fields b) each) in
      λ i. on_both or_of (p i) (q i)
  meaning_same t v w bound (comparison op a b) row each =
      let p : meaning t bound a v row ≡ meaning t bound a w row = meaning_same t v w bound a row (same_left t v w (root_fields a) (root_fields b) each) in
      let q : meaning t bound b v row ≡ meaning t bound b w row = meaning_same t v w bound b row (same_right t v w (root_fields a) (root_fields b) each) in
      λ i. on_both (comparison_of op) (p i) (q i)
  meaning_same t v w bound (null_test e) row each = ap (option_and_then null_test_of) (meaning_same t v w bound e row each)
  meaning_same t v w bound (value_test e) row each = ap (option_and_then value_test_of) (meaning_same t v w bound e row each)
  meaning_same t v w bound (arithmetic op a b) row each =
      let p : meaning t bound a v row ≡ meaning t bound a w row = meaning_same t v w bound a row (same_left t v w (root_fields a) (root_fields b) each) in
      let q : meaning t bound b v row ≡ meaning t bound b w row = meaning_same t v w bound b row (same_right t v w (root_fields a) (root_fields b) each) in
      λ i. on_both (arithmetic_of op (type_of t a)) (p i) (q i)
  meaning_same t v w bound row_number row each = refl
  meaning_same t v w bound (bound_test e) row each = ap (option_and_then (bound_test_of bound)) (meaning_same t v w bound e row each)

  meanings_same : (t : DataType) (v w : Datum) (bound : ℕ) (es : Terms) (row : ℕ) → GetsAllSame t v w (root_fields_in es) → meanings_in t bound es v row ≡ meanings_in t bound es w row
  meanings_same t v w bound no_terms row each = refl
  meanings_same t v w bound (named name e es) row each =
      let p : meaning t bound e v row ≡ meaning t bound e w row = meaning_same t v w bound e row (same_left t v w (root_fields e) (root_fields_in es) each) in
      let q : meanings_in t bound es v row ≡ meanings_in t bound es w row = meanings_same t v w bound es row (same_right t v w (root_fields e) (root_fields_in es) each) in
      λ i. on_both one_more_item (p i) (q i)

-- ---- fields

-- both have an item for each member, the same where the field is kept
abbrev pub SameKept : KeptFields → Members → Items → Items → Type 0
SameKept kept no_members us ws = Unit {0}
SameKept kept (member name t ms) (item u us) (item w ws) = (is_kept kept name ≡ true → u ≡ w) × SameKept kept ms us ws
SameKept kept ms us ws = ⊥

item_by : (b : Bool) (kept : KeptFields) (other name : List ℕ) (u w : Datum) (x y : Option Datum) → bytes_eq other name ≡ b → is_kept kept name ≡ true → (is_kept kept other ≡ true → u ≡ w) → x ≡ y → cond b (Some u) x ≡ cond b (Some w) y
item_by true kept other name u w x y e is same more =
    let here : other ≡ name = (bytes_eq-Decides other name).0 e in
    ap Some (same (subst (λ (n : List ℕ). is_kept kept n ≡ true) (sym here) is))
item_by false kept other name u w x y e is same more = more

item_same : (kept : KeptFields) (name : List ℕ) (ms : Members) (us ws : Items) → is_kept kept name ≡ true → SameKept kept ms us ws → item_in ms name us ≡ item_in ms name ws
item_same kept name no_members us ws is same = refl
item_same kept name (member other t ms) no_items ws is same = absurd same
item_same kept name (member other t ms) (item u us) no_items is same = absurd same
item_same kept name (member other t ms) (item u us) (item w ws) is same =
    item_by (bytes_eq other name) kept other name u w (item_in ms name us) (item_in ms name ws) refl is same.0 (item_same kept name ms us ws is same.1)

none_by : (b : Bool) (t : DataType) (s : Option DataType) (v : Datum) (x : Option Datum) → cond b (Some t) s ≡ None → (s ≡ None → x ≡ None) → cond b (Some v) x ≡ None
none_by true t s v x none more = absurd cc
none_by false t s v x none more = more none

-- there is no item of a name that no member has
none_in : (ms : Members) (name : List ℕ) (vs : Items) → type_in ms name ≡ None → item_in ms name vs ≡ None
none_in no_members name vs none = refl
none_in (member other t ms) name no_items none = refl
none_in (member other t ms) name (item v vs) none = none_by (bytes_eq other name) t (type_in ms name) v (item_in ms name vs) none (none_in ms name vs)

-- ---- names

or_true : (a b : Bool) → b ≡ true → (a || b) ≡ true
or_true true b e = refl
or_true false b e = e

kept_by : (k b : Bool) (other name : List ℕ) (rest : List (List ℕ)) → bytes_eq other name ≡ b → (b ≡ true → k ≡ true) → (b ≡ false → stands_in rest name ≡ true) → stands_in (cond k (other ∷ rest) rest) name ≡ true
kept_by true true other name rest e asked later = rw e refl
kept_by true false other name rest e asked later = or_true (bytes_eq other name) (stands_in rest name) (later refl)
kept_by false true other name rest e asked later = absurd (let no : false ≡ true = asked refl in cc)
kept_by false false other name rest e asked later = later refl

type_behind : (other name : List ℕ) (t : DataType) (ms : Members) → bytes_eq other name ≡ false → IsSome (type_in (member other t ms) name) → IsSome (type_in ms name)
type_behind other name t ms e some = rw e at some

-- a member's name that is asked for is kept
kept_named : (ms : Members) (names : List (List ℕ)) (name : List ℕ) → IsSome (type_in ms name) → stands_in names name ≡ true → stands_in (names_among ms names) name ≡ true
kept_named no_members names name some asked = absurd cc
kept_named (member other t ms) names name some asked =
    kept_by (stands_in names other) (bytes_eq other name) other name (names_among ms names) refl
    (λ e. let same : other ≡ name = (bytes_eq-Decides other name).0 e in subst (λ (n : List ℕ). stands_in names n ≡ true) (sym same) asked)
    (λ e. kept_named ms names name (type_behind other name t ms e some) asked)

one_same : (ms : Members) (names : List (List ℕ)) (name : List ℕ) (us ws : Items) (o : Option DataType) → type_in ms name ≡ o → stands_in names name ≡ true → SameKept (only (names_among ms names)) ms us ws → item_in ms name us ≡ item_in ms name ws
one_same ms names name us ws None there asked same = none_in ms name us there ∙ sym (none_in ms name ws there)
one_same ms names name us ws (Some t) there asked same = item_same (only (names_among ms names)) name ms us ws (kept_named ms names name (ap is_some there) asked) same

each_same : (ms : Members) (n : Nullability) (names others : List (List ℕ)) (us ws : Items) → ((name : List ℕ) → stands_in others name ≡ true → stands_in names name ≡ true) → SameKept (only (names_among ms names)) ms us ws → AllByRecursion (GetsSame (struct_type ms n) (structure us) (structure ws)) others
each_same ms n names [] us ws inside same = tt
each_same ms n names (name ∷ others) us ws inside same =
    let here : bytes_eq name name ≡ true = (bytes_eq-Decides name name).1 refl in
    (one_same ms names name us ws (type_in ms name) refl (inside name (rw here refl)) same, each_same ms n names others us ws (λ other h. inside other (or_true (bytes_eq name other) (stands_in others other) h)) same)

all_same : (t : DataType) (v w : Datum) (names : List (List ℕ)) → v ≡ w → AllByRecursion (GetsSame t v w) names
all_same t v w [] same = tt
all_same t v w (name ∷ names) same = (ap (field_of (Some t) name) same, all_same t v w names same)

-- ---- values

-- both are structs of these members, with the same kept fields
pub record AreStructsAlike (kept : KeptFields) (ms : Members) (v w : Datum) : Type 0 where
  pub us : Items
  pub ws : Items
  pub v_is : v ≡ structure us
  pub w_is : w ≡ structure ws
  pub same : SameKept kept ms us ws

-- the same value, but perhaps for fields that aren't kept
abbrev pub AreAlike : KeptFields → DataType → Datum → Datum → Type 0
AreAlike all t v w = v ≡ w
AreAlike (only names) t v w = (v ≡ w) ⊎ AreStructsAlike (only names) (struct_members t) v w

alike_gets : (ms : Members) (n : Nullability) (names : List (List ℕ)) (v w : Datum) → AreAlike (only (names_among ms names)) (struct_type ms n) v w → AllByRecursion (GetsSame (struct_type ms n) v w) names
alike_gets ms n names v w (inl same) = all_same (struct_type ms n) v w names same
alike_gets ms n names v w (inr both) =
    subst (λ (v : Datum). AllByRecursion (GetsSame (struct_type ms n) v w) names) (sym both.v_is)
    (subst (λ (w : Datum). AllByRecursion (GetsSame (struct_type ms n) (structure both.us) w) names) (sym both.w_is)
    (each_same ms n names names both.us both.ws (λ name h. h) both.same))

struct_meaning : (ms : Members) (e : Term) (v w : Datum) (row : ℕ) (b : Bool) (o : Option (List (List ℕ))) → root_fields e ≡ o → AreAlike (if b then kept_among ms o else all) (struct_type ms NonNullable) v w → meaning (struct_type ms NonNullable) no_bound e v row ≡ meaning (struct_type ms NonNullable) no_bound e w row
struct_meaning ms e v w row false o got alike = ap (λ (u : Datum). meaning (struct_type ms NonNullable) no_bound e u row) alike
struct_meaning ms e v w row true None got alike = ap (λ (u : Datum). meaning (struct_type ms NonNullable) no_bound e u row) alike
struct_meaning ms e v w row true (Some names) got alike =
    let each : GetsAllSame (struct_type ms NonNullable) v w (Some names) = alike_gets ms NonNullable names v w alike in
    meaning_same (struct_type ms NonNullable) v w no_bound e row (subst (GetsAllSame (struct_type ms NonNullable) v w) (sym got) each)

-- an expression is worth the same over values that are alike but for fields that it doesn't get from its root
pub kept_meaning : (t : DataType) (e : Term) (v w : Datum) (row : ℕ) → AreAlike (kept_fields t e) t v w → meaning t no_bound e v row ≡ meaning t no_bound e w row
kept_meaning (struct_type ms NonNullable) e v w row alike = struct_meaning ms e v w row (uses_root e) (root_fields e) refl alike
kept_meaning (struct_type ms Nullable) e v w row alike = ap (λ (u : Datum). meaning (struct_type ms Nullable) no_bound e u row) alike
kept_meaning (bool_type n) e v w row alike = ap (λ (u : Datum). meaning (bool_type n) no_bound e u row) alike
kept_meaning (int_type kind n) e v w row alike = ap (λ (u : Datum). meaning (int_type kind n) no_bound e u row) alike
kept_meaning (utf8_type n) e v w row alike = ap (λ (u : Datum). meaning (utf8_type n) no_bound e u row) alike
kept_meaning (list_type s n) e v w row alike = ap (λ (u : Datum). meaning (list_type s n) no_bound e u row) alike
