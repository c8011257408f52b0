-- The fields that a bound expression gets from its root are fields of the root, and so they are kept.
use Rattle.std.proofs.Common.{◌≡◌, ℕ, Bool, true, false, cond, ◌||◌, List, [], ◌∷◌, ◌++◌, Option, Some, None, refl, sym, subst}
use Rattle.std.specs.Prelude.{option_and_then, option_map, IsSome, IfSome}
use Rattle.std.specs.List.{AllByRecursion}
use Rattle.std.specs.Str.{bytes_eq}
use Rattle.std.proofs.lemmas.Slice.Eq.{bytes_eq-Decides}
use Rattle.vx_base.specs.declared.dtypes.Nullability.{Nullability}
use Rattle.vx_base.specs.Data.{DataType, struct_type, Members, no_members, member}
use Rattle.vx_base.specs.ColumnCalls.{nullable_where}
use Rattle.vx_expr.specs.Terms.{Term, root, literal, get_field, pack, negation, conjunction, disjunction, comparison, null_test, value_test, arithmetic, row_number, bound_test, Terms, no_terms, named}
use Rattle.vx_expr.specs.Types.{on_both, type_in, field_type, type_of, types_in, pack_type, names_in, negation_type, logic_type, comparison_type, arithmetic_type, test_type, bound_test_type, one_more_member}
use Rattle.vx_expr.specs.Mentions.{joined, root_fields, root_fields_in}
use Rattle.vx_layout.specs.Kept.{only, is_kept, names_among}
use Rattle.vx_layout.proofs.NameSets.{stands_in}
use Rattle.vx_lower.specs.KeptRows.{KeepsFieldsOf}

-- ---- parts that have a dtype

there_first : {A B : Type 0} (f : A → Option B) (x : Option A) → IsSome (option_and_then f x) → IsSome x
there_first f None some = absurd cc
there_first f (Some x) some = refl

there_left : {A B C : Type 0} (f : A → B → Option C) (x : Option A) (y : Option B) → IsSome (on_both f x y) → IsSome x
there_left f None y some = absurd cc
there_left f (Some x) y some = refl

there_right : {A B C : Type 0} (f : A → B → Option C) (x : Option A) (y : Option B) → IsSome (on_both f x y) → IsSome y
there_right f None y some = absurd cc
there_right f (Some x) None some = absurd cc
there_right f (Some x) (Some y) some = refl

there_mapped : {A B : Type 0} (f : A → B) (x : Option A) → IsSome (option_map f x) → IsSome x
there_mapped f None some = absurd cc
there_mapped f (Some x) some = refl

-- ---- each field is one of the root's

abbrev IsNameIn : Members → List ℕ → Type 0
IsNameIn ms name = IsSome (type_in ms name)

abbrev AreNamesIn : Members → Option (List (List ℕ)) → Type 0
AreNamesIn ms names = IfSome names (AllByRecursion (IsNameIn ms))

names_join : (ms : Members) (xs ys : List (List ℕ)) → AllByRecursion (IsNameIn ms) xs → AllByRecursion (IsNameIn ms) ys → AllByRecursion (IsNameIn ms) (xs ++ ys)
names_join ms [] ys each more = more
names_join ms (x ∷ xs) ys each more = (each.0, names_join ms xs ys each.1 more)

joined_names : (ms : Members) (xs ys : Option (List (List ℕ))) → AreNamesIn ms xs → AreNamesIn ms ys → AreNamesIn ms (on_both joined xs ys)
joined_names ms None ys each more = tt
joined_names ms (Some xs) None each more = tt
joined_names ms (Some xs) (Some ys) each more = names_join ms xs ys each more

mutual
  pub names_exist : (ms : Members) (n : Nullability) (e : Term) → IsSome (type_of (struct_type ms n) e) → AreNamesIn ms (root_fields e)
  names_exist ms n root some = tt
  names_exist ms n (literal v s) some = tt
  names_exist ms n (get_field name root) some = (there_mapped (nullable_where n) (type_in ms name) some, tt)
  names_exist ms n (get_field name e) some = names_exist ms n e (there_first (field_type name) (type_of (struct_type ms n) e) some)
  names_exist ms n (pack es) some = names_in_exist ms n es (there_first (pack_type (names_in es)) (types_in (struct_type ms n) es) some)
  names_exist ms n (negation e) some = names_exist ms n e (there_first negation_type (type_of (struct_type ms n) e) some)
  names_exist ms n (conjunction a b) some = joined_names ms (root_fields a) (root_fields b) (names_exist ms n a (there_left logic_type (type_of (struct_type ms n) a) (type_of (struct_type ms n) b) some)) (names_exist ms n b (there_right logic_type (type_of (struct_type ms n) a) (type_of (struct_type ms n) b) some))
  names_exist ms n (disjunction a b) some = joined_names ms (root_fields a) (root_fields b) (names_exist ms n a (there_left logic_type (type_of (struct_type ms n) a) (type_of (struct_type ms n) b) some)) (names_exist ms n b (there_right logic_type (type_of (struct_type ms n) a) (type_of (struct_type ms n) b) some))
  names_exist ms n (comparison op a b) some = joined_names ms (root_fields a) (root_fields b) (names_exist ms n a (there_left comparison_type (type_of (struct_type ms n) a) (type_of (struct_type ms n) b) some)) (names_exist ms n b (there_right comparison_type (type_of (struct_type ms n) a) (type_of (struct_type ms n) b) some))
  names_exist ms n (null_test e) some = names_exist ms n e (there_first test_type (type_of (struct_type ms n) e) some)
  names_exist ms n (value_test e) some = names_exist ms n e (there_first test_type (type_of (struct_type ms n) e) some)
  names_exist ms n (arithmetic op a b) some = joined_names ms (root_fields a) (root_fields b) (names_exist ms n a (there_left arithmetic_type (type_of (struct_type ms n) a) (type_of (struct_type ms n) b) some)) (names_exist ms n b (there_right arithmetic_type (type_of (struct_type ms n) a) (type_of (struct_type ms n) b) some))
  names_exist ms n row_number some = tt
  names_exist ms n (bound_test e) some = names_exist ms n e (there_first bound_test_type (type_of (struct_type ms n) e) some)

  names_in_exist : (ms : Members) (n : Nullability) (es : Terms) → IsSome (types_in (struct_type ms n) es) → AreNamesIn ms (root_fields_in es)
  names_in_exist ms n no_terms some = tt
  names_in_exist ms n (named name e es) some = joined_names ms (root_fields e) (root_fields_in es) (names_exist ms n e (there_left (one_more_member name) (type_of (struct_type ms n) e) (types_in (struct_type ms n) es) some)) (names_in_exist ms n es (there_right (one_more_member name) (type_of (struct_type ms n) e) (types_in (struct_type ms n) es) some))

-- ---- and is kept

or_true : (a b : Bool) → b ≡ true → (a || b) ≡ true
or_true true b e = refl
or_true false b e = e

-- a name that is looked at: it is kept where it is asked for
kept_by : (k b : Bool) (other name : List ℕ) (rest : List (List ℕ)) → bytes_eq other name ≡ b → (b ≡ true → k ≡ true) → (b ≡ false → stands_in rest name ≡ true) → stands_in (cond k (other ∷ rest) rest) name ≡ true
kept_by true true other name rest e asked later = rw e refl
kept_by true false other name rest e asked later = or_true (bytes_eq other name) (stands_in rest name) (later refl)
kept_by false true other name rest e asked later = absurd (let no : false ≡ true = asked refl in cc)
kept_by false false other name rest e asked later = later refl

type_behind : (other name : List ℕ) (t : DataType) (ms : Members) → bytes_eq other name ≡ false → IsSome (type_in (member other t ms) name) → IsSome (type_in ms name)
type_behind other name t ms e some = rw e at some

kept_named : (ms : Members) (names : List (List ℕ)) (name : List ℕ) → IsNameIn ms name → stands_in names name ≡ true → stands_in (names_among ms names) name ≡ true
kept_named no_members names name some asked = absurd cc
kept_named (member other t ms) names name some asked =
    kept_by (stands_in names other) (bytes_eq other name) other name (names_among ms names) refl
    (λ e. let same : other ≡ name = (bytes_eq-Decides other name).0 e in subst (λ (n : List ℕ). stands_in names n ≡ true) (sym same) asked)
    (λ e. kept_named ms names name (type_behind other name t ms e some) asked)

each_named : (ms : Members) (names some_names : List (List ℕ)) → ((name : List ℕ) → stands_in some_names name ≡ true → stands_in names name ≡ true) → AllByRecursion (IsNameIn ms) some_names → AllByRecursion (λ name. is_kept (only (names_among ms names)) name ≡ true) some_names
each_named ms names [] inside each = tt
each_named ms names (name ∷ rest) inside each =
    let same : bytes_eq name name ≡ true = (bytes_eq-Decides name name).1 refl in
    (kept_named ms names name each.0 (inside name (rw same refl)), each_named ms names rest (λ other h. inside other (or_true (bytes_eq name other) (stands_in rest other) h)) each.1)

pub keeps_fields : (ms : Members) (n : Nullability) (e : Term) (names : List (List ℕ)) → IsSome (type_of (struct_type ms n) e) → root_fields e ≡ Some names → KeepsFieldsOf (only (names_among ms names)) (root_fields e)
keeps_fields ms n e names some is =
    let exist : AllByRecursion (IsNameIn ms) names = subst (AreNamesIn ms) is (names_exist ms n e some) in
    subst (KeepsFieldsOf (only (names_among ms names))) (sym is) (each_named ms names names (λ name h. h) exist)
