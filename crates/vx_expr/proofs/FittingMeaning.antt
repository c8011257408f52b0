-- What an expression is worth fits its dtype.
use Rattle.std.proofs.Common.{◌≡◌, ℕ, ◌<◌, ◌^◌, ℤ, pos, Bool, true, false, not, cond, ◌&&◌, ◌||◌, List, Option, Some, None, refl, subst, arith}
use Rattle.std.specs.Prelude.{IsTrue, IfSome, int_le, option_map, option_and_then}
use Rattle.std.specs.Str.{bytes_eq}
use Rattle.std.proofs.lemmas.Bool.{and_parts}
use Rattle.std.proofs.lemmas.Int.{ints}
use Rattle.vx_base.specs.declared.dtypes.IntKind.{IntKind}
use Rattle.vx_base.specs.declared.dtypes.IntKind.TheVariants.{U64}
use Rattle.vx_base.specs.declared.dtypes.Nullability.{Nullability}
use Rattle.vx_base.specs.declared.dtypes.Nullability.TheVariants.{NonNullable, Nullable}
use Rattle.vx_base.specs.ColumnCalls.{nullable_where}
use Rattle.vx_base.specs.Data.{DataType, bool_type, int_type, utf8_type, struct_type, list_type, Members, no_members, member, Datum, null, truth, number, text, structure, Items, no_items, item}
use Rattle.vx_base.specs.Fits.{Fits, EachFits, TakesNull, IsInside, least_of, greatest_of}
use Rattle.vx_base.specs.Reading.{fits_leaf}
use Rattle.vx_base.specs.Names.{are_distinct}
use Rattle.vx_expr.specs.declared.mentions.Input.TheVariants.{Root}
use Rattle.vx_operators.specs.declared.operators.CompareOp.{CompareOp}
use Rattle.vx_operators.specs.declared.operators.ArithOp.{ArithOp}
use Rattle.vx_expr.specs.Meaning.{meaning, meanings_in, item_in, field_of, negated, and_of, or_of, comparison_of, null_test_of, value_test_of, arithmetic_of, bound_test_of, exact, if_inside, is_null, one_more_item, struct_of}
use Rattle.vx_expr.specs.Mentions.{mentions_in, uses_root}
use Rattle.vx_expr.specs.Terms.{Term, root, literal, get_field, pack, negation, conjunction, disjunction, comparison, null_test, value_test, arithmetic, row_number, bound_test, Terms, no_terms, named}
use Rattle.vx_expr.specs.Types.{on_both, either_nullable, is_kind, type_in, field_type, negation_type, logic_type, comparison_type, arithmetic_type, test_type, bound_test_type, one_more_member, names_in, type_of, types_in}
use Rattle.vx_base.proofs.BuiltRows.{fits_where}
use Rattle.vx_base.proofs.Spelled.{leaf_fits, le_from}
use Rattle.std.proofs.lemmas.Option.{same_Some}

-- ---- values of a dtype, case by case
abbrev bool_cases : (P : Datum → Type 0) (n : Nullability) (v : Datum) → Fits (bool_type n) v → (TakesNull n → P null) → ((b : Bool) → P (truth b)) → P v
bool_cases P n null h f g = f h
bool_cases P n (truth b) h f g = g b
bool_cases P n (number z) h f g = absurd h
bool_cases P n (text bytes) h f g = absurd h
bool_cases P n (structure vs) h f g = absurd h

abbrev int_cases : (P : Datum → Type 0) (kind : IntKind) (n : Nullability) (v : Datum) → Fits (int_type kind n) v → (TakesNull n → P null) → ((z : ℤ) → P (number z)) → P v
int_cases P kind n null h f g = f h
int_cases P kind n (truth b) h f g = absurd h
int_cases P kind n (number z) h f g = g z
int_cases P kind n (text bytes) h f g = absurd h
int_cases P kind n (structure vs) h f g = absurd h

abbrev utf8_cases : (P : Datum → Type 0) (n : Nullability) (v : Datum) → Fits (utf8_type n) v → (TakesNull n → P null) → ((bytes : List ℕ) → P (text bytes)) → P v
utf8_cases P n null h f g = f h
utf8_cases P n (truth b) h f g = absurd h
utf8_cases P n (number z) h f g = absurd h
utf8_cases P n (text bytes) h f g = g bytes
utf8_cases P n (structure vs) h f g = absurd h

-- ---- nulls
left_null : (n m : Nullability) → TakesNull n → TakesNull (either_nullable n m)
left_null NonNullable m h = absurd h
left_null Nullable m h = tt

right_null : (n m : Nullability) → TakesNull m → TakesNull (either_nullable n m)
right_null NonNullable m h = h
right_null Nullable m h = tt

-- ---- dtypes that were found

-- what a part is worth, carried over a rule
one_part : (rule : DataType → Option DataType) (f : Option DataType → Datum → Option Datum) (s : DataType)
    → ((x : DataType) → rule x ≡ Some s → (w : Datum) → Fits x w → IfSome (f (Some x) w) (Fits s))
    → (o : Option DataType) (m : Option Datum) → option_and_then rule o ≡ Some s → ((x : DataType) → o ≡ Some x → IfSome m (Fits x)) → IfSome (option_and_then (f o) m) (Fits s)
one_part rule f s step None m e h = absurd cc
one_part rule f s step (Some x) None e h = tt
one_part rule f s step (Some x) (Some w) e h = step x e w (h x refl)

two_parts : (rule : DataType → DataType → Option DataType) (f : Option DataType → Datum → Datum → Option Datum) (s : DataType)
    → ((x y : DataType) → rule x y ≡ Some s → (v w : Datum) → Fits x v → Fits y w → IfSome (f (Some x) v w) (Fits s))
    → (o p : Option DataType) (m k : Option Datum) → on_both rule o p ≡ Some s → ((x : DataType) → o ≡ Some x → IfSome m (Fits x)) → ((y : DataType) → p ≡ Some y → IfSome k (Fits y)) → IfSome (on_both (f o) m k) (Fits s)
two_parts rule f s step None p m k e h g = absurd cc
two_parts rule f s step (Some x) None m k e h g = absurd cc
two_parts rule f s step (Some x) (Some y) None k e h g = tt
two_parts rule f s step (Some x) (Some y) (Some v) None e h g = tt
two_parts rule f s step (Some x) (Some y) (Some v) (Some w) e h g = step x y e v w (h x refl) (g y refl)

-- ---- the rule of each form
literal_fits : (b : Bool) (w : Datum) (t s : DataType) → fits_leaf t w ≡ b → cond b (Some t) None ≡ Some s → Fits s w
literal_fits true w t s p e = subst (λ (x : DataType). Fits x w) (same_Some t s e) (leaf_fits t w p)
literal_fits false w t s p e = absurd cc

-- the item that is found fits the member that is found
item_fits : (ms : Members) (name : List ℕ) (vs : Items) (x : DataType) → EachFits ms vs → type_in ms name ≡ Some x → IfSome (item_in ms name vs) (Fits x)
item_fits no_members name vs x h e = tt
item_fits (member other t ms) name no_items x h e = absurd h
item_fits (member other t ms) name (item v vs) x h e = here (bytes_eq other name) t x v (type_in ms name) (item_in ms name vs) h.0 e (λ f. item_fits ms name vs x h.1 f) where
  here : (b : Bool) (t x : DataType) (v : Datum) (o : Option DataType) (m : Option Datum) → Fits t v → cond b (Some t) o ≡ Some x → (o ≡ Some x → IfSome m (Fits x)) → IfSome (cond b (Some v) m) (Fits x)
  here true t x v o m fit e rest = subst (λ (y : DataType). Fits y v) (same_Some t x e) fit
  here false t x v o m fit e rest = rest e

-- a field of a nullable struct takes the nulls of the struct
field_null : (n : Nullability) (o : Option DataType) (s : DataType) → option_map (nullable_where n) o ≡ Some s → TakesNull n → Fits s null
field_null NonNullable o s e h = absurd h
field_null Nullable None s e h = absurd cc
field_null Nullable (Some (bool_type m)) s e h = subst (λ (x : DataType). Fits x null) (same_Some (bool_type Nullable) s e) tt
field_null Nullable (Some (int_type kind m)) s e h = subst (λ (x : DataType). Fits x null) (same_Some (int_type kind Nullable) s e) tt
field_null Nullable (Some (utf8_type m)) s e h = subst (λ (x : DataType). Fits x null) (same_Some (utf8_type Nullable) s e) tt
field_null Nullable (Some (struct_type ms m)) s e h = subst (λ (x : DataType). Fits x null) (same_Some (struct_type ms Nullable) s e) tt
field_null Nullable (Some (list_type t m)) s e h = subst (λ (x : DataType). Fits x null) (same_Some (list_type t Nullable) s e) tt

found_field : (n : Nullability) (o : Option DataType) (s : DataType) (m : Option Datum) → option_map (nullable_where n) o ≡ Some s → ((x : DataType) → o ≡ Some x → IfSome m (Fits x)) → IfSome m (Fits s)
found_field n None s m e h = absurd cc
found_field n (Some x) s None e h = tt
found_field n (Some x) s (Some w) e h = subst (λ (y : DataType). Fits y w) (same_Some (nullable_where n x) s e) (fits_where n x w (h x refl))

field_step : (name : List ℕ) (s x : DataType) → field_type name x ≡ Some s → (w : Datum) → Fits x w → IfSome (field_of (Some x) name w) (Fits s)
field_step name s (bool_type n) e w h = absurd cc
field_step name s (int_type kind n) e w h = absurd cc
field_step name s (utf8_type n) e w h = absurd cc
field_step name s (list_type t n) e w h = absurd cc
field_step name s (struct_type ms n) e null h = field_null n (type_in ms name) s e h
field_step name s (struct_type ms n) e (structure vs) h = found_field n (type_in ms name) s (item_in ms name vs) e (λ x f. item_fits ms name vs x h f)
field_step name s (struct_type ms n) e (truth b) h = absurd h
field_step name s (struct_type ms n) e (number z) h = absurd h
field_step name s (struct_type ms n) e (text bytes) h = absurd h

negation_step : (s x : DataType) → negation_type x ≡ Some s → (w : Datum) → Fits x w → IfSome (negated w) (Fits s)
negation_step s (bool_type n) e w h = subst (λ (y : DataType). IfSome (negated w) (Fits y)) (same_Some (bool_type n) s e) (bool_cases (λ v. IfSome (negated v) (Fits (bool_type n))) n w h (λ k. k) (λ b. tt))
negation_step s (int_type kind n) e w h = absurd cc
negation_step s (utf8_type n) e w h = absurd cc
negation_step s (struct_type ms n) e w h = absurd cc
negation_step s (list_type t n) e w h = absurd cc

and_fits : (n m : Nullability) (v w : Datum) → Fits (bool_type n) v → Fits (bool_type m) w → IfSome (and_of v w) (Fits (bool_type (either_nullable n m)))
and_fits n m v w h k = bool_cases (λ x. IfSome (and_of x w) (Fits (bool_type (either_nullable n m)))) n v h
    (λ nv. bool_cases (λ x. IfSome (and_of null x) (Fits (bool_type (either_nullable n m)))) m w k (λ nw. left_null n m nv) (λ b. elim b as (λ c. IfSome (and_of null (truth c)) (Fits (bool_type (either_nullable n m)))) [ true ↦ left_null n m nv | false ↦ tt ]))
    (λ a. bool_cases (λ x. IfSome (and_of (truth a) x) (Fits (bool_type (either_nullable n m)))) m w k (λ nw. elim a as (λ c. IfSome (and_of (truth c) null) (Fits (bool_type (either_nullable n m)))) [ true ↦ right_null n m nw | false ↦ tt ]) (λ b. tt))

or_fits : (n m : Nullability) (v w : Datum) → Fits (bool_type n) v → Fits (bool_type m) w → IfSome (or_of v w) (Fits (bool_type (either_nullable n m)))
or_fits n m v w h k = bool_cases (λ x. IfSome (or_of x w) (Fits (bool_type (either_nullable n m)))) n v h
    (λ nv. bool_cases (λ x. IfSome (or_of null x) (Fits (bool_type (either_nullable n m)))) m w k (λ nw. left_null n m nv) (λ b. elim b as (λ c. IfSome (or_of null (truth c)) (Fits (bool_type (either_nullable n m)))) [ true ↦ tt | false ↦ left_null n m nv ]))
    (λ a. bool_cases (λ x. IfSome (or_of (truth a) x) (Fits (bool_type (either_nullable n m)))) m w k (λ nw. elim a as (λ c. IfSome (or_of (truth c) null) (Fits (bool_type (either_nullable n m)))) [ true ↦ tt | false ↦ right_null n m nw ]) (λ b. tt))

logic_step : (f : Datum → Datum → Option Datum) → ((n m : Nullability) (v w : Datum) → Fits (bool_type n) v → Fits (bool_type m) w → IfSome (f v w) (Fits (bool_type (either_nullable n m))))
    → (s x y : DataType) → logic_type x y ≡ Some s → (v w : Datum) → Fits x v → Fits y w → IfSome (f v w) (Fits s)
logic_step f fits s (bool_type n) (bool_type m) e v w h k = subst (λ (y : DataType). IfSome (f v w) (Fits y)) (same_Some (bool_type (either_nullable n m)) s e) (fits n m v w h k)
logic_step f fits s _ _ e v w h k = absurd cc

abbrev Compares : CompareOp → Nullability → Nullability → Datum → Datum → Type 0
Compares op n m v w = IfSome (comparison_of op v w) (Fits (bool_type (either_nullable n m)))

bools_compare : (op : CompareOp) (n m : Nullability) (v w : Datum) → Fits (bool_type n) v → Fits (bool_type m) w → Compares op n m v w
bools_compare op n m v w h k = bool_cases (λ x. Compares op n m x w) n v h (λ nv. left_null n m nv) (λ a. bool_cases (λ x. Compares op n m (truth a) x) m w k (λ nw. right_null n m nw) (λ b. tt))

ints_compare : (op : CompareOp) (i j : IntKind) (n m : Nullability) (v w : Datum) → Fits (int_type i n) v → Fits (int_type j m) w → Compares op n m v w
ints_compare op i j n m v w h k = int_cases (λ x. Compares op n m x w) i n v h (λ nv. left_null n m nv) (λ a. int_cases (λ x. Compares op n m (number a) x) j m w k (λ nw. right_null n m nw) (λ b. tt))

texts_compare : (op : CompareOp) (n m : Nullability) (v w : Datum) → Fits (utf8_type n) v → Fits (utf8_type m) w → Compares op n m v w
texts_compare op n m v w h k = utf8_cases (λ x. Compares op n m x w) n v h (λ nv. left_null n m nv) (λ a. utf8_cases (λ x. Compares op n m (text a) x) m w k (λ nw. right_null n m nw) (λ b. tt))

picked : (b : Bool) (t s : DataType) → cond b (Some t) None ≡ Some s → t ≡ s
picked true t s e = same_Some t s e
picked false t s e = absurd cc

comparison_step : (op : CompareOp) (s x y : DataType) → comparison_type x y ≡ Some s → (v w : Datum) → Fits x v → Fits y w → IfSome (comparison_of op v w) (Fits s)
comparison_step op s (bool_type n) (bool_type m) e v w h k = subst (λ (y : DataType). IfSome (comparison_of op v w) (Fits y)) (same_Some (bool_type (either_nullable n m)) s e) (bools_compare op n m v w h k)
comparison_step op s (int_type i n) (int_type j m) e v w h k = subst (λ (y : DataType). IfSome (comparison_of op v w) (Fits y)) (picked (is_kind i j) (bool_type (either_nullable n m)) s e) (ints_compare op i j n m v w h k)
comparison_step op s (utf8_type n) (utf8_type m) e v w h k = subst (λ (y : DataType). IfSome (comparison_of op v w) (Fits y)) (same_Some (bool_type (either_nullable n m)) s e) (texts_compare op n m v w h k)
comparison_step op s _ _ e v w h k = absurd cc

inside_fits : (kind : IntKind) (n : Nullability) (o : Option ℤ) → IfSome (option_and_then (if_inside kind) o) (Fits (int_type kind n))
inside_fits kind n None = tt
inside_fits kind n (Some z) = here (int_le (least_of kind) z && int_le z (greatest_of kind)) refl where
  here : (b : Bool) → (int_le (least_of kind) z && int_le z (greatest_of kind)) ≡ b → IfSome (cond b (Some (number z)) None) (Fits (int_type kind n))
  here true e = let p = and_parts (int_le (least_of kind) z) (int_le z (greatest_of kind)) e in (le_from (least_of kind) z p.0, le_from z (greatest_of kind) p.1)
  here false e = tt

abbrev Joins : ArithOp → IntKind → Nullability → Nullability → Datum → Datum → Type 0
Joins op kind n m v w = IfSome (arithmetic_of op (Some (int_type kind n)) v w) (Fits (int_type kind (either_nullable n m)))

ints_join : (op : ArithOp) (i j : IntKind) (n m : Nullability) (v w : Datum) → Fits (int_type i n) v → Fits (int_type j m) w → Joins op i n m v w
ints_join op i j n m v w h k = int_cases (λ x. Joins op i n m x w) i n v h (λ nv. left_null n m nv) (λ a. int_cases (λ x. Joins op i n m (number a) x) j m w k (λ nw. right_null n m nw) (λ b. inside_fits i (either_nullable n m) (exact op a b)))

arithmetic_step : (op : ArithOp) (s x y : DataType) → arithmetic_type x y ≡ Some s → (v w : Datum) → Fits x v → Fits y w → IfSome (arithmetic_of op (Some x) v w) (Fits s)
arithmetic_step op s (int_type i n) (int_type j m) e v w h k = subst (λ (y : DataType). IfSome (arithmetic_of op (Some (int_type i n)) v w) (Fits y)) (picked (is_kind i j) (int_type i (either_nullable n m)) s e) (ints_join op i j n m v w h k)
arithmetic_step op s _ _ e v w h k = absurd cc

test_step : (f : Datum → Bool) (s x : DataType) → test_type x ≡ Some s → (w : Datum) → Fits s (truth (f w))
test_step f s x e w = subst (λ (y : DataType). Fits y (truth (f w))) (same_Some (bool_type NonNullable) s e) tt

bound_test_step : (bound : ℕ) (s x : DataType) → bound_test_type x ≡ Some s → (w : Datum) → Fits x w → IfSome (bound_test_of bound w) (Fits s)
bound_test_step bound s (int_type U64 n) e w h = subst (λ (y : DataType). IfSome (bound_test_of bound w) (Fits y)) (same_Some (bool_type n) s e) (int_cases (λ v. IfSome (bound_test_of bound v) (Fits (bool_type n))) U64 n w h (λ k. k) (λ z. tt))
bound_test_step bound s _ e w h = absurd cc

pack_fits : (b : Bool) (o : Option Members) (m : Option Items) (s : DataType) → option_and_then (λ ms. cond b (Some (struct_type ms NonNullable)) None) o ≡ Some s → ((ms : Members) → o ≡ Some ms → IfSome m (EachFits ms)) → IfSome (option_and_then struct_of m) (Fits s)
pack_fits b None m s e h = absurd cc
pack_fits b (Some ms) None s e h = tt
pack_fits b (Some ms) (Some vs) s e h = subst (λ (y : DataType). Fits y (structure vs)) (picked b (struct_type ms NonNullable) s e) (h ms refl)

more_fits : (name : List ℕ) (o : Option DataType) (p : Option Members) (m : Option Datum) (k : Option Items) (ms : Members) → on_both (one_more_member name) o p ≡ Some ms → ((x : DataType) → o ≡ Some x → IfSome m (Fits x)) → ((ns : Members) → p ≡ Some ns → IfSome k (EachFits ns)) → IfSome (on_both one_more_item m k) (EachFits ms)
more_fits name None p m k ms e h g = absurd cc
more_fits name (Some x) None m k ms e h g = absurd cc
more_fits name (Some x) (Some ns) None k ms e h g = tt
more_fits name (Some x) (Some ns) (Some v) None ms e h g = tt
more_fits name (Some x) (Some ns) (Some v) (Some vs) ms e h g = subst (λ (os : Members). EachFits os (item v vs)) (let p : member name x ns ≡ ms = cc in p) (h x refl, g ns refl)

-- ---- numbers of rows
row_fits : (row : ℕ) → row < 2 ^ 64 → IsInside U64 (pos row)
row_fits row h = (omega (arith, ints), omega (arith, ints))

-- ---- one of two parts looks at the root
in_left : (a b : Bool) → IsTrue a → IsTrue (a || b)
in_left true b h = refl
in_left false b h = absurd cc

in_right : (a b : Bool) → IsTrue b → IsTrue (a || b)
in_right true b h = refl
in_right false b h = h

mutual
  pub columnar_fits : (t : DataType) (e : Term) (s : DataType) (bound : ℕ) (v : Datum) (row : ℕ) → type_of t e ≡ Some s → (IsTrue (uses_root e) → Fits t v) → row < 2 ^ 64 → IfSome (meaning t bound e v row) (Fits s)
  columnar_fits t root s bound v row h fit lt = subst (λ (y : DataType). Fits y v) (same_Some t s h) (fit refl)
  columnar_fits t (literal w u) s bound v row h fit lt = literal_fits (fits_leaf u w) w u s refl h
  columnar_fits t (get_field name e) s bound v row h fit lt = one_part (field_type name) (λ o. field_of o name) s (field_step name s) (type_of t e) (meaning t bound e v row) h (λ x f. columnar_fits t e x bound v row f fit lt)
  columnar_fits t (pack es) s bound v row h fit lt = pack_fits (are_distinct (names_in es)) (types_in t es) (meanings_in t bound es v row) s h (λ ms f. items_fit t es ms bound v row f fit lt)
  columnar_fits t (negation e) s bound v row h fit lt = one_part negation_type (λ o. negated) s (negation_step s) (type_of t e) (meaning t bound e v row) h (λ x f. columnar_fits t e x bound v row f fit lt)
  columnar_fits t (conjunction a b) s bound v row h fit lt = two_parts logic_type (λ o. and_of) s (logic_step and_of and_fits s) (type_of t a) (type_of t b) (meaning t bound a v row) (meaning t bound b v row) h (λ x f. columnar_fits t a x bound v row f (λ u. fit (in_left (uses_root a) (uses_root b) u)) lt) (λ x f. columnar_fits t b x bound v row f (λ u. fit (in_right (uses_root a) (uses_root b) u)) lt)
  columnar_fits t (disjunction a b) s bound v row h fit lt = two_parts logic_type (λ o. or_of) s (logic_step or_of or_fits s) (type_of t a) (type_of t b) (meaning t bound a v row) (meaning t bound b v row) h (λ x f. columnar_fits t a x bound v row f (λ u. fit (in_left (uses_root a) (uses_root b) u)) lt) (λ x f. columnar_fits t b x bound v row f (λ u. fit (in_right (uses_root a) (uses_root b) u)) lt)
  columnar_fits t (comparison op a b) s bound v row h fit lt = two_parts comparison_type (λ o. comparison_of op) s (comparison_step op s) (type_of t a) (type_of t b) (meaning t bound a v row) (meaning t bound b v row) h (λ x f. columnar_fits t a x bound v row f (λ u. fit (in_left (uses_root a) (uses_root b) u)) lt) (λ x f. columnar_fits t b x bound v row f (λ u. fit (in_right (uses_root a) (uses_root b) u)) lt)
  columnar_fits t (null_test e) s bound v row h fit lt = one_part test_type (λ o. null_test_of) s (λ x f w k. test_step is_null s x f w) (type_of t e) (meaning t bound e v row) h (λ x f. columnar_fits t e x bound v row f fit lt)
  columnar_fits t (value_test e) s bound v row h fit lt = one_part test_type (λ o. value_test_of) s (λ x f w k. test_step (λ u. not (is_null u)) s x f w) (type_of t e) (meaning t bound e v row) h (λ x f. columnar_fits t e x bound v row f fit lt)
  columnar_fits t (arithmetic op a b) s bound v row h fit lt = two_parts arithmetic_type (arithmetic_of op) s (arithmetic_step op s) (type_of t a) (type_of t b) (meaning t bound a v row) (meaning t bound b v row) h (λ x f. columnar_fits t a x bound v row f (λ u. fit (in_left (uses_root a) (uses_root b) u)) lt) (λ x f. columnar_fits t b x bound v row f (λ u. fit (in_right (uses_root a) (uses_root b) u)) lt)
  columnar_fits t row_number s bound v row h fit lt = subst (λ (y : DataType). Fits y (number (pos row))) (same_Some (int_type U64 NonNullable) s h) (row_fits row lt)
  columnar_fits t (bound_test e) s bound v row h fit lt = one_part bound_test_type (λ o. bound_test_of bound) s (bound_test_step bound s) (type_of t e) (meaning t bound e v row) h (λ x f. columnar_fits t e x bound v row f fit lt)

  pub items_fit : (t : DataType) (es : Terms) (ms : Members) (bound : ℕ) (v : Datum) (row : ℕ) → types_in t es ≡ Some ms → (IsTrue (mentions_in Root es) → Fits t v) → row < 2 ^ 64 → IfSome (meanings_in t bound es v row) (EachFits ms)
  items_fit t no_terms ms bound v row h fit lt = subst (λ (ns : Members). EachFits ns no_items) (let p : no_members ≡ ms = cc in p) tt
  items_fit t (named name e es) ms bound v row h fit lt = more_fits name (type_of t e) (types_in t es) (meaning t bound e v row) (meanings_in t bound es v row) ms h (λ x f. columnar_fits t e x bound v row f (λ u. fit (in_left (uses_root e) (mentions_in Root es) u)) lt) (λ ns f. items_fit t es ns bound v row f (λ u. fit (in_right (uses_root e) (mentions_in Root es) u)) lt)
