-- Why an expression has no dtype, from why a part of it has none.
use Rattle.std.proofs.Common.{◌≡◌, ℕ, ◌+◌, ◌<◌, ◌≤◌, ◌-◌, ◌^◌, List, [], ◌∷◌, ◌++◌, length, get_or, drop, Option, Some, None, Result, Ok, Err, ◌⊎◌, inl, inr, refl, sym, ap, subst, ◌∙◌, arith}
use Rattle.std.specs.Prelude.{option_and_then}
use Rattle.std.proofs.lemmas.List.{drop_all}
use Rattle.vx_base.specs.declared.dtypes.Field.{Field}
use Rattle.vx_base.specs.Data.{DataType, Members, no_members, member}
use Rattle.vx_base.specs.Views.{data_type, members_of}
use Rattle.vx_expr.specs.declared.binding.BindError.{BindError}
use Rattle.vx_expr.specs.declared.binding.BindError.TheVariants.{NoField, TypeMismatch, TooDeep, Memory}
use Rattle.vx_expr.specs.declared.typing.Typed.{Typed}
use Rattle.vx_expr.specs.declared.expressions.Expr.{Expr}
use Rattle.vx_expr.specs.declared.expressions.Expr.TheVariants as variants
use Rattle.vx_operators.specs.declared.operators.CompareOp.{CompareOp}
use Rattle.vx_operators.specs.declared.operators.ArithOp.{ArithOp}
use Rattle.vx_expr.specs.Counts.{node_count, nodes_in}
use Rattle.vx_expr.specs.Refusals.{capped, first_part, behind, unless, refusal, refusal_in, IsRefusal}
use Rattle.vx_expr.specs.Terms.{Term, pack, Terms, no_terms, named}
use Rattle.vx_expr.specs.TermViews.{term, terms_of}
use Rattle.vx_expr.specs.Types.{on_both, type_of, types_in, one_more_member, names_in, pack_type}
use Rattle.vx_expr.specs.Typing.{pair_type, GivesType, GivesPack, GivesJoined}
use Rattle.vx_expr.proofs.MemberTypes.{a_type}
use Rattle.vx_expr.proofs.Pairs.{left_next}

-- the refusal of a part is that of the whole, where both find nothing and give the same reason
refused_too : {A B : Type 0} (error : BindError) (found : Option A) (whole : Option B) (part all : BindError) → (found ≡ None → whole ≡ None) → (found ≡ None → part ≡ all) → IsRefusal error found part → IsRefusal error whole all
refused_too Memory found whole part all f g h = tt
refused_too TooDeep found whole part all f g h = absurd h
refused_too (NoField name) found whole part all f g h = (f h.0, sym (g h.0) ∙ h.1)
refused_too (TypeMismatch place) found whole part all f g h = (f h.0, sym (g h.0) ∙ h.1)

-- ---- pairs
first_passes : (x : Option DataType) (part rest : BindError) (s : DataType) → x ≡ Some s → rest ≡ unless x part rest
first_passes x part rest s e = sym (ap (λ (o : Option DataType). unless o part rest) e)

-- ---- the whole of two parts
joined_given : (t : DataType) (e : Term) (s u : DataType) (n : ℕ) (result : Result Typed BindError) → type_of t e ≡ pair_type e s u → refusal t e n ≡ TypeMismatch n → GivesJoined e s u n result → GivesType t e n result
joined_given t e s u n (Ok typed) same why h = same ∙ h
joined_given t e s u n (Err error) same why h = refused_too error (pair_type e s u) (type_of t e) (TypeMismatch n) (refusal t e n) (λ none. same ∙ none) (λ none. sym why) h

both_there : (f : DataType → DataType → Option DataType) (x y : Option DataType) (s u : DataType) → x ≡ Some s → y ≡ Some u → on_both f x y ≡ f s u
both_there f x y s u d e = ap (λ (o : Option DataType). on_both f o y) d ∙ ap (λ (o : Option DataType). on_both f (Some s) o) e

both_pass : (x y : Option DataType) (p q rest : BindError) (s u : DataType) → x ≡ Some s → y ≡ Some u → unless x p (unless y q rest) ≡ rest
both_pass x y p q rest s u d e = sym (first_passes y q rest u e ∙ first_passes x p (unless y q rest) s d)

-- an expression of two parts that have dtypes
pair_given : (t : DataType) (e a b : Term) (s u : DataType) (n : ℕ) (result : Result Typed BindError) → (on_both (pair_type e) (type_of t a) (type_of t b) ≡ type_of t e) → (unless (type_of t a) (refusal t a (first_part n)) (unless (type_of t b) (refusal t b (behind (first_part n) a)) (TypeMismatch n)) ≡ refusal t e n)
    → type_of t a ≡ Some s → type_of t b ≡ Some u → GivesJoined e s u n result → GivesType t e n result
pair_given t e a b s u n result types why d f h =
    joined_given t e s u n result (sym types ∙ both_there (pair_type e) (type_of t a) (type_of t b) s u d f)
    (sym why ∙ both_pass (type_of t a) (type_of t b) (refusal t a (first_part n)) (refusal t b (behind (first_part n) a)) (TypeMismatch n) s u d f) h

-- what an expression of these two parts is, by its parts
record PairLaws (t : DataType) (e a b : Term) (n : ℕ) : Type 0 where
  types : on_both (pair_type e) (type_of t a) (type_of t b) ≡ type_of t e
  reason : unless (type_of t a) (refusal t a (first_part n)) (unless (type_of t b) (refusal t b (behind (first_part n) a)) (TypeMismatch n)) ≡ refusal t e n

pair_laws : (t : DataType) (self : Expr) (a b : Term) (n : ℕ) → (self ≡ variants.And a b) ⊎ ((self ≡ variants.Or a b) ⊎ (((op : CompareOp) × (self ≡ variants.Compare op a b)) ⊎ ((op : ArithOp) × (self ≡ variants.Arith op a b)))) → PairLaws t (term self) a b n
pair_laws t self a b n (inl is) = subst (λ (e : Term). PairLaws t e a b n) (sym (ap term is)) (record { types = refl; reason = refl })
pair_laws t self a b n (inr (inl is)) = subst (λ (e : Term). PairLaws t e a b n) (sym (ap term is)) (record { types = refl; reason = refl })
pair_laws t self a b n (inr (inr (inl is))) = subst (λ (e : Term). PairLaws t e a b n) (sym (ap term is.1)) (record { types = refl; reason = refl })
pair_laws t self a b n (inr (inr (inr is))) = subst (λ (e : Term). PairLaws t e a b n) (sym (ap term is.1)) (record { types = refl; reason = refl })

-- the answer at an expression of two parts
pub pair_answer : (t : DataType) (self : Expr) (a b : Term) (l r s u : DataType) (n : ℕ) (result : Result Typed BindError)
    → (self ≡ variants.And a b) ⊎ ((self ≡ variants.Or a b) ⊎ (((op : CompareOp) × (self ≡ variants.Compare op a b)) ⊎ ((op : ArithOp) × (self ≡ variants.Arith op a b))))
    → type_of t a ≡ Some l → type_of t b ≡ Some r → s ≡ l → u ≡ r → GivesJoined (term self) s u n result → GivesType t (term self) n result
pair_answer t self a b l r s u n result is d f left right h =
    let laws : PairLaws t (term self) a b n = pair_laws t self a b n is in
    pair_given t (term self) a b l r n result laws.types laws.reason d f
    (subst (λ (v : DataType). GivesJoined (term self) v r n result) left (subst (λ (v : DataType). GivesJoined (term self) s v n result) right h))

-- ---- packs
-- expressions that all have dtypes refuse nothing
pub both_some : (name : List ℕ) (x : Option DataType) (y : Option Members) (ms : Members) → on_both (one_more_member name) x y ≡ Some ms → (s : DataType) × (us : Members) × (x ≡ Some s) × (y ≡ Some us)
both_some name None y ms e = absurd cc
both_some name (Some s) None ms e = absurd cc
both_some name (Some s) (Some us) ms e = (s, us, refl, refl)

pub none_refused : (t : DataType) (es : Terms) (ms : Members) (n : ℕ) (last : BindError) → types_in t es ≡ Some ms → refusal_in t es n last ≡ last
none_refused t no_terms ms n last e = refl
none_refused t (named name part es) ms n last e =
    let found = both_some name (type_of t part) (types_in t es) ms e in
    sym (first_passes (type_of t part) (refusal t part n) (refusal_in t es (behind n part) last) found.0 found.2) ∙ none_refused t es found.1 (behind n part) last found.3

pack_given : (t : DataType) (es : Terms) (ms : Members) (n : ℕ) (result : Result Typed BindError) → types_in t es ≡ Some ms → GivesPack (names_in es) ms n result → GivesType t (pack es) n result
pack_given t es ms n (Ok typed) e h = ap (option_and_then (pack_type (names_in es))) e ∙ h
pack_given t es ms n (Err error) e h =
    refused_too error (pack_type (names_in es) ms) (type_of t (pack es)) (TypeMismatch n) (refusal t (pack es) n) (λ none. ap (option_and_then (pack_type (names_in es))) e ∙ none) (λ none. sym (none_refused t es ms (first_part n) (TypeMismatch n) e)) h

-- the answer at a pack
pub pack_answer : (t : DataType) (self : Expr) (es items : Terms) (ms : Members) (n place : ℕ) (result : Result Typed BindError) → self ≡ variants.Pack es → items ≡ es → place ≡ n → types_in t es ≡ Some ms → GivesPack (names_in items) ms place result → GivesType t (term self) n result
pack_answer t self es items ms n place result is same at typed h =
    subst (λ (e : Term). GivesType t e n result) (sym (ap term is))
    (pack_given t es ms n result typed (subst (λ (us : Terms). GivesPack (names_in us) ms n result) same (subst (λ (k : ℕ). GivesPack (names_in items) ms k result) at h)))

-- ---- named expressions, one by one
abbrev pub some_members : Members → Option Members
some_members ms = Some ms

-- the members that these fields are, and then others
abbrev pub followed_by : List Field → Members → Members
followed_by [] ms = ms
followed_by (field ∷ fields) ms = member field.name (data_type field.dtype) (followed_by fields ms)

followed_more : (fields : List Field) (field : Field) (ms : Members) → followed_by (fields ++ field ∷ []) ms ≡ followed_by fields (member field.name (data_type field.dtype) ms)
followed_more [] field ms = refl
followed_more (one ∷ fields) field ms = ap (member one.name (data_type one.dtype)) (followed_more fields field ms)

pub followed_by_none : (fields : List Field) → followed_by fields no_members ≡ members_of fields
followed_by_none [] = refl
followed_by_none (field ∷ fields) = ap (member field.name (data_type field.dtype)) (followed_by_none fields)

-- How far the loop has come: what the rest gives is what all of them give.
pub record SoFar (t : DataType) (all rest : Terms) (fields : List Field) (start next : ℕ) : Type 0 where
  pub types : (ms : Members) → types_in t rest ≡ Some ms → types_in t all ≡ Some (followed_by fields ms)
  pub none : types_in t rest ≡ None → types_in t all ≡ None
  pub reasons : (last : BindError) → refusal_in t rest next last ≡ refusal_in t all start last
  pub count : capped (next + nodes_in rest) ≡ capped (start + nodes_in all)

one_typed : (t : DataType) (name : List ℕ) (e : Term) (es : Terms) (s : DataType) (ms : Members) → type_of t e ≡ Some s → types_in t es ≡ Some ms → types_in t (named name e es) ≡ Some (member name s ms)
one_typed t name e es s ms d f = ap (λ (o : Option DataType). on_both (one_more_member name) o (types_in t es)) d ∙ ap (λ (o : Option Members). on_both (one_more_member name) (a_type s) o) f

rest_none : (t : DataType) (name : List ℕ) (e : Term) (es : Terms) (s : DataType) → type_of t e ≡ Some s → types_in t es ≡ None → types_in t (named name e es) ≡ None
rest_none t name e es s d f = ap (λ (o : Option DataType). on_both (one_more_member name) o (types_in t es)) d ∙ ap (λ (o : Option Members). on_both (one_more_member name) (a_type s) o) f

moved : (n x y a b : ℕ) → y ≡ capped (n + a) → capped (n + (a + b)) ≡ x → capped (y + b) ≡ x
moved n x y a b e f = omega arith

so_far_more : (t : DataType) (all rest : Terms) (fields : List Field) (start next after : ℕ) (name : List ℕ) (e : Term) (field : Field) → type_of t e ≡ Some (data_type field.dtype) → field.name ≡ name → after ≡ behind next e
    → SoFar t all (named name e rest) fields start next → SoFar t all rest (fields ++ field ∷ []) start after
so_far_more t all rest fields start next after name e field d is step h = record {
  types = λ ms f. h.types (member name (data_type field.dtype) ms) (one_typed t name e rest (data_type field.dtype) ms d f)
      ∙ ap (λ (us : Members). some_members us) (ap (λ (n : List ℕ). followed_by fields (member n (data_type field.dtype) ms)) (sym is) ∙ sym (followed_more fields field ms));
  none = λ f. h.none (rest_none t name e rest (data_type field.dtype) d f);
  reasons = λ last. ap (λ (n : ℕ). refusal_in t rest n last) step ∙ first_passes (type_of t e) (refusal t e next) (refusal_in t rest (behind next e) last) (data_type field.dtype) d ∙ h.reasons last;
  count = moved next (capped (start + nodes_in all)) after (node_count e) (nodes_in rest) step h.count;
}

pub so_far_next : (t : DataType) (items : List (List ℕ × Expr)) (i : ℕ) (item : List ℕ × Expr) (fields more : List Field) (start next after : ℕ) (field : Field) → i < length items → item ≡ get_or items i item
    → type_of t (term item.1) ≡ Some (data_type field.dtype) → field.name ≡ item.0 → after ≡ behind next (term item.1) → more ≡ fields ++ field ∷ []
    → SoFar t (terms_of items) (terms_of (drop i items)) fields start next → SoFar t (terms_of items) (terms_of (drop (i + 1) items)) more start after
so_far_next t items i item fields more start next after field lt is d name step put h =
    subst (λ (fs : List Field). SoFar t (terms_of items) (terms_of (drop (i + 1) items)) fs start after) (sym put)
    (so_far_more t (terms_of items) (terms_of (drop (i + 1) items)) fields start next after item.0 (term item.1) field d name step
    (subst (λ (es : Terms). SoFar t (terms_of items) es fields start next) (left_next items i item lt is) h))

-- the first of those that are left refuses
pub so_far_refused : (t : DataType) (items : List (List ℕ × Expr)) (self : Terms) (i : ℕ) (item : List ℕ × Expr) (fields : List Field) (start next : ℕ) (error : BindError) → i < length items → item ≡ get_or items i item → terms_of items ≡ self
    → SoFar t (terms_of items) (terms_of (drop i items)) fields start next → IsRefusal error (type_of t (term item.1)) (refusal t (term item.1) next) → (last : BindError) → IsRefusal error (types_in t self) (refusal_in t self start last)
so_far_refused t items self i item fields start next error lt is whole h refused last =
    let e = term item.1 in
    let rest = terms_of (drop (i + 1) items) in
    let left = left_next items i item lt is in
    refused_too error (type_of t e) (types_in t self) (refusal t e next) (refusal_in t self start last)
    (λ none. ap (types_in t) (sym whole) ∙ h.none (ap (types_in t) left ∙ ap (λ (o : Option DataType). on_both (one_more_member item.0) o (types_in t rest)) none))
    (λ none. sym (ap (λ (o : Option DataType). unless o (refusal t e next) (refusal_in t rest (behind next e) last)) none)
    ∙ ap (λ (es : Terms). refusal_in t es next last) (sym left)
    ∙ h.reasons last
    ∙ ap (λ (es : Terms). refusal_in t es start last) whole)
    refused

-- the dtypes of all of them
pub all_typed : (t : DataType) (items : List (List ℕ × Expr)) (self : Terms) (i : ℕ) (fields : List Field) (start next : ℕ) → terms_of items ≡ self → length items ≤ i → SoFar t (terms_of items) (terms_of (drop i items)) fields start next → types_in t self ≡ Some (members_of fields)
all_typed t items self i fields start next e past h =
    ap (types_in t) (sym e) ∙ h.types no_members (ap (λ (us : List (List ℕ × Expr)). types_in t (terms_of us)) (drop_all i items past)) ∙ ap some_members (followed_by_none fields)

pub all_counted : (t : DataType) (items : List (List ℕ × Expr)) (self : Terms) (i : ℕ) (fields : List Field) (start next : ℕ) → terms_of items ≡ self → length items ≤ i → SoFar t (terms_of items) (terms_of (drop i items)) fields start next → next ≤ 2 ^ 64 - 1 → next ≡ capped (start + nodes_in self)
all_counted t items self i fields start next e past h small =
    let none : nodes_in (terms_of (drop i items)) ≡ 0 = ap (λ (us : List (List ℕ × Expr)). nodes_in (terms_of us)) (drop_all i items past) in
    let same : nodes_in (terms_of items) ≡ nodes_in self = ap nodes_in e in
    omega (arith, h.count)

pub so_far_start : (t : DataType) (items : List (List ℕ × Expr)) (fields : List Field) (start : ℕ) → fields ≡ [] → SoFar t (terms_of items) (terms_of items) fields start start
so_far_start t items fields start none = record {
  types = λ ms e. e ∙ ap (λ (fs : List Field). some_members (followed_by fs ms)) (sym none);
  none = λ e. e;
  reasons = λ last. refl;
  count = refl;
}
