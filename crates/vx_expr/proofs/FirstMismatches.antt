-- The refusal of an expression without a dtype is that of its first part without one.
use Rattle.std.proofs.Common.{◌≡◌, ℕ, zero, suc, ◌+◌, ◌<◌, ◌≤◌, List, [], ◌∷◌, ◌++◌, length, drop, Option, Some, None, Err, refl, sym, ap, subst, ◌∙◌, arith, length-append}
use Rattle.std.specs.Prelude.{slice_get, is_some, option_and_then}
use Rattle.std.specs.List.{AllByRecursion}
use Rattle.std.proofs.lemmas.Option.{slice_get_within}
use Rattle.vx_base.specs.Data.{DataType, bool_type, int_type, utf8_type, struct_type, list_type, Members}
use Rattle.vx_expr.specs.declared.binding.BindError.{BindError}
use Rattle.vx_expr.specs.declared.binding.BindError.TheVariants.{NoField, TypeMismatch, TooDeep, Memory}
use Rattle.vx_expr.specs.Counts.{node_count, nodes_in, depth}
use Rattle.vx_expr.specs.Mismatches.{parts_in_preorder, parts_of_all, HasType, IsFirstMismatch, wanted_of, wanted_field, deepest, BindGives}
use Rattle.vx_expr.specs.Refusals.{capped, first_part, behind, unless, field_refusal, refusal, refusal_in, IsRefusal}
use Rattle.vx_expr.specs.Terms.{Term, root, literal, get_field, pack, negation, conjunction, disjunction, comparison, null_test, value_test, arithmetic, row_number, bound_test, Terms, no_terms, named}
use Rattle.vx_expr.specs.Types.{on_both, type_of, types_in, field_type, pack_type, names_in, negation_type, logic_type, comparison_type, test_type, arithmetic_type, bound_test_type, one_more_member}
use Rattle.vx_expr.proofs.Refused.{none_refused, both_some}
use Rattle.vx_types.proofs.AllFit.{all-append}

-- ---- how many places a part takes
counts_itself : (e : Term) → 0 < node_count e
counts_itself root = omega arith
counts_itself (literal v t) = omega arith
counts_itself (get_field name e) = omega arith
counts_itself (pack es) = omega arith
counts_itself (negation e) = omega arith
counts_itself (conjunction a b) = omega arith
counts_itself (disjunction a b) = omega arith
counts_itself (comparison op a b) = omega arith
counts_itself (null_test e) = omega arith
counts_itself (value_test e) = omega arith
counts_itself (arithmetic op a b) = omega arith
counts_itself row_number = omega arith
counts_itself (bound_test e) = omega arith

mutual
  places_of : (e : Term) → length (parts_in_preorder e) ≡ node_count e
  places_of root = refl
  places_of (literal v t) = refl
  places_of (get_field name e) = omega (arith, places_of e)
  places_of (pack es) = omega (arith, places_of_all es)
  places_of (negation e) = omega (arith, places_of e)
  places_of (conjunction a b) = omega (arith, length-append (parts_in_preorder a) (parts_in_preorder b), places_of a, places_of b)
  places_of (disjunction a b) = omega (arith, length-append (parts_in_preorder a) (parts_in_preorder b), places_of a, places_of b)
  places_of (comparison op a b) = omega (arith, length-append (parts_in_preorder a) (parts_in_preorder b), places_of a, places_of b)
  places_of (null_test e) = omega (arith, places_of e)
  places_of (value_test e) = omega (arith, places_of e)
  places_of (arithmetic op a b) = omega (arith, length-append (parts_in_preorder a) (parts_in_preorder b), places_of a, places_of b)
  places_of row_number = refl
  places_of (bound_test e) = omega (arith, places_of e)

  places_of_all : (es : Terms) → length (parts_of_all es) ≡ nodes_in es
  places_of_all no_terms = refl
  places_of_all (named name e es) = omega (arith, length-append (parts_in_preorder e) (parts_of_all es), places_of e, places_of_all es)

-- ---- an expression with a dtype has no part without one
some_from : {A B : Type 0} (f : A → Option B) (x : Option A) (s : B) → option_and_then f x ≡ Some s → (u : A) × (x ≡ Some u)
some_from f None s e = absurd cc
some_from f (Some u) s e = (u, refl)

some_from_both : {A B C : Type 0} (f : A → B → Option C) (x : Option A) (y : Option B) (s : C) → on_both f x y ≡ Some s → (u : A) × (w : B) × (x ≡ Some u) × (y ≡ Some w)
some_from_both f None y s e = absurd cc
some_from_both f (Some u) None s e = absurd cc
some_from_both f (Some u) (Some w) s e = (u, w, refl, refl)

has_type : (t : DataType) (e : Term) (s : DataType) → type_of t e ≡ Some s → HasType t e
has_type t e s h = ap is_some h

one_typed : (t s : DataType) (e : Term) (f : DataType → Option DataType) → ((u : DataType) → type_of t e ≡ Some u → AllByRecursion (HasType t) (parts_in_preorder e)) → option_and_then f (type_of t e) ≡ Some s → AllByRecursion (HasType t) (parts_in_preorder e)
one_typed t s e f all h = let found = some_from f (type_of t e) s h in all found.0 found.1

two_typed : (t s : DataType) (a b : Term) (f : DataType → DataType → Option DataType) → ((u : DataType) → type_of t a ≡ Some u → AllByRecursion (HasType t) (parts_in_preorder a)) → ((u : DataType) → type_of t b ≡ Some u → AllByRecursion (HasType t) (parts_in_preorder b))
    → on_both f (type_of t a) (type_of t b) ≡ Some s → AllByRecursion (HasType t) (parts_in_preorder a ++ parts_in_preorder b)
two_typed t s a b f left right h =
    let found = some_from_both f (type_of t a) (type_of t b) s h in
    all-append (HasType t) (parts_in_preorder a) (parts_in_preorder b) (left found.0 found.2) (right found.1 found.3)

mutual
  all_typed : (t : DataType) (e : Term) (s : DataType) → type_of t e ≡ Some s → AllByRecursion (HasType t) (parts_in_preorder e)
  all_typed t root s h = (refl, tt)
  all_typed t (literal v u) s h = (has_type t (literal v u) s h, tt)
  all_typed t (get_field name e) s h = (has_type t (get_field name e) s h, one_typed t s e (field_type name) (λ u d. all_typed t e u d) h)
  all_typed t (pack es) s h = (has_type t (pack es) s h, let found = some_from (pack_type (names_in es)) (types_in t es) s h in all_typed_in t es found.0 found.1)
  all_typed t (negation e) s h = (has_type t (negation e) s h, one_typed t s e negation_type (λ u d. all_typed t e u d) h)
  all_typed t (conjunction a b) s h = (has_type t (conjunction a b) s h, two_typed t s a b logic_type (λ u d. all_typed t a u d) (λ u d. all_typed t b u d) h)
  all_typed t (disjunction a b) s h = (has_type t (disjunction a b) s h, two_typed t s a b logic_type (λ u d. all_typed t a u d) (λ u d. all_typed t b u d) h)
  all_typed t (comparison op a b) s h = (has_type t (comparison op a b) s h, two_typed t s a b comparison_type (λ u d. all_typed t a u d) (λ u d. all_typed t b u d) h)
  all_typed t (null_test e) s h = (has_type t (null_test e) s h, one_typed t s e test_type (λ u d. all_typed t e u d) h)
  all_typed t (value_test e) s h = (has_type t (value_test e) s h, one_typed t s e test_type (λ u d. all_typed t e u d) h)
  all_typed t (arithmetic op a b) s h = (has_type t (arithmetic op a b) s h, two_typed t s a b arithmetic_type (λ u d. all_typed t a u d) (λ u d. all_typed t b u d) h)
  all_typed t row_number s h = (refl, tt)
  all_typed t (bound_test e) s h = (has_type t (bound_test e) s h, one_typed t s e bound_test_type (λ u d. all_typed t e u d) h)

  all_typed_in : (t : DataType) (es : Terms) (ms : Members) → types_in t es ≡ Some ms → AllByRecursion (HasType t) (parts_of_all es)
  all_typed_in t no_terms ms h = tt
  all_typed_in t (named name e es) ms h =
      let found = both_some name (type_of t e) (types_in t es) ms h in
      all-append (HasType t) (parts_in_preorder e) (parts_of_all es) (all_typed t e found.0 found.2) (all_typed_in t es found.1 found.3)

-- ---- the first part without a dtype, in longer lists
-- the whole of these parts ends behind them
below_whole : (t : DataType) (whole : Term) (ps : List Term) (place : ℕ) (part : Term) → suc (length ps) ≤ node_count whole → place < length ps → IsFirstMismatch t ps place part
    → (other : ℕ) (before : Term) → slice_get (whole ∷ ps) other ≡ Some before → other + node_count before ≤ suc place → HasType t before
below_whole t whole ps place part size lt h zero before at ends = let same : node_count whole ≡ node_count before = ap node_count cc in absurd (omega arith)
below_whole t whole ps place part size lt h (suc other) before at ends = h.earlier other before at (omega arith)

in_whole : (t : DataType) (whole : Term) (ps : List Term) (place : ℕ) (part : Term) → suc (length ps) ≤ node_count whole → IsFirstMismatch t ps place part → IsFirstMismatch t (whole ∷ ps) (suc place) part
in_whole t whole ps place part size h = record {
  here = h.here;
  mismatch = h.mismatch;
  own_parts = h.own_parts;
  earlier = below_whole t whole ps place part size (slice_get_within ps place part h.here) h;
}

get_front : (xs ys : List Term) (k : ℕ) → k < length xs → slice_get (xs ++ ys) k ≡ slice_get xs k
get_front [] ys k lt = absurd (omega arith)
get_front (x ∷ xs) ys zero lt = refl
get_front (x ∷ xs) ys (suc k) lt = get_front xs ys k (omega arith)

in_front : (t : DataType) (ps qs : List Term) (place : ℕ) (part : Term) → IsFirstMismatch t ps place part → IsFirstMismatch t (ps ++ qs) place part
in_front t ps qs place part h =
    let lt : place < length ps = slice_get_within ps place part h.here in
    record {
      here = get_front ps qs place lt ∙ h.here;
      mismatch = h.mismatch;
      own_parts = h.own_parts;
      earlier = λ other before at ends. h.earlier other before (sym (get_front ps qs other (omega (arith, counts_itself before))) ∙ at) ends;
    }

behind_one : (t : DataType) (p : Term) (ps : List Term) (place : ℕ) (part : Term) → HasType t p → IsFirstMismatch t ps place part
    → (other : ℕ) (before : Term) → slice_get (p ∷ ps) other ≡ Some before → other + node_count before ≤ suc place → HasType t before
behind_one t p ps place part typed h zero before at ends = let same : p ≡ before = cc in subst (HasType t) same typed
behind_one t p ps place part typed h (suc other) before at ends = h.earlier other before at (omega arith)

behind_typed : (t : DataType) (ps qs : List Term) (place at : ℕ) (part : Term) → at ≡ length ps + place → AllByRecursion (HasType t) ps → IsFirstMismatch t qs place part → IsFirstMismatch t (ps ++ qs) at part
behind_typed t [] qs place at part is typed h = let same : place ≡ at = omega arith in subst (λ (n : ℕ). IsFirstMismatch t qs n part) same h
behind_typed t (p ∷ ps) qs place at part is typed h =
    let rest : IsFirstMismatch t (ps ++ qs) (length ps + place) part = behind_typed t ps qs place (length ps + place) part refl typed.1 h in
    let same : suc (length ps + place) ≡ at = omega arith in
    subst (λ (n : ℕ). IsFirstMismatch t (p ∷ (ps ++ qs)) n part) same (record {
      here = rest.here;
      mismatch = rest.mismatch;
      own_parts = rest.own_parts;
      earlier = behind_one t p (ps ++ qs) (length ps + place) part typed.0 rest;
    })

itself : (t : DataType) (whole : Term) (ps : List Term) → type_of t whole ≡ None → AllByRecursion (HasType t) (drop 1 (parts_in_preorder whole)) → IsFirstMismatch t (whole ∷ ps) 0 whole
itself t whole ps none own = record {
  here = refl;
  mismatch = none;
  own_parts = own;
  earlier = λ other before at ends. absurd (omega (arith, counts_itself before));
}

-- ---- the refusal of the first part without a dtype
abbrev reason : Option (List ℕ) → ℕ → BindError
reason (Some name) place = NoField name
reason None place = TypeMismatch place

-- the error is the refusal of the first of the parts without a dtype, where they have numbers from n on
record Explains (t : DataType) (parts : List Term) (n : ℕ) (error : BindError) : Type 0 where
  place : ℕ
  part : Term
  first : IsFirstMismatch t parts place part
  told : error ≡ reason (wanted_field t part) (capped (n + place))

of_whole : (t : DataType) (whole : Term) (ps : List Term) (n next : ℕ) (error : BindError) → next ≡ n + 1 → suc (length ps) ≤ node_count whole → Explains t ps next error → Explains t (whole ∷ ps) n error
of_whole t whole ps n next error is size h =
    let same : capped (next + h.place) ≡ capped (n + suc h.place) = ap capped (omega arith) in
    record { place = suc h.place; part = h.part; first = in_whole t whole ps h.place h.part size h.first; told = h.told ∙ ap (reason (wanted_field t h.part)) same }

of_front : (t : DataType) (ps qs : List Term) (n : ℕ) (error : BindError) → Explains t ps n error → Explains t (ps ++ qs) n error
of_front t ps qs n error h = record { place = h.place; part = h.part; first = in_front t ps qs h.place h.part h.first; told = h.told }

of_rest : (t : DataType) (ps qs : List Term) (n next : ℕ) (error : BindError) → next ≡ n + length ps → AllByRecursion (HasType t) ps → Explains t qs next error → Explains t (ps ++ qs) n error
of_rest t ps qs n next error is typed h =
    let same : capped (next + h.place) ≡ capped (n + (length ps + h.place)) = ap capped (omega arith) in
    record { place = length ps + h.place; part = h.part; first = behind_typed t ps qs h.place (length ps + h.place) h.part refl typed h.first; told = h.told ∙ ap (reason (wanted_field t h.part)) same }

of_itself : (t : DataType) (whole : Term) (ps : List Term) (n : ℕ) (error : BindError) → type_of t whole ≡ None → AllByRecursion (HasType t) (drop 1 (parts_in_preorder whole)) → error ≡ reason (wanted_field t whole) (capped n) → Explains t (whole ∷ ps) n error
of_itself t whole ps n error none own is =
    let same : capped n ≡ capped (n + 0) = ap capped (omega arith) in
    record { place = 0; part = whole; first = itself t whole ps none own; told = is ∙ ap (reason (wanted_field t whole)) same }

-- ---- form by form
next_number : (n : ℕ) → capped (n + 1) ≡ first_part (capped n)
next_number n = omega arith

number_behind : (n m : ℕ) → capped (n + m) ≡ capped (capped n + m)
number_behind n m = omega arith

-- an expression of one part
of_one : (t : DataType) (whole e : Term) (n : ℕ) (x : Option DataType) (last : BindError) → type_of t e ≡ x → parts_in_preorder whole ≡ whole ∷ parts_in_preorder e → type_of t whole ≡ None
    → (x ≡ None → Explains t (parts_in_preorder e) (n + 1) (refusal t e (capped (n + 1)))) → last ≡ reason (wanted_field t whole) (capped n)
    → Explains t (whole ∷ parts_in_preorder e) n (unless x (refusal t e (first_part (capped n))) last)
of_one t whole e n None last d parts none inner is =
    let size : suc (length (parts_in_preorder e)) ≤ node_count whole = omega (arith, places_of whole, ap length parts) in
    of_whole t whole (parts_in_preorder e) n (n + 1) (refusal t e (first_part (capped n))) refl size
    (subst (λ (m : ℕ). Explains t (parts_in_preorder e) (n + 1) (refusal t e m)) (next_number n) (inner refl))
of_one t whole e n (Some s) last d parts none inner is =
    of_itself t whole (parts_in_preorder e) n last none (subst (λ (ps : List Term). AllByRecursion (HasType t) (drop 1 ps)) (sym parts) (all_typed t e s d)) is

-- an expression of two parts
of_two : (t : DataType) (whole a b : Term) (n : ℕ) (x y : Option DataType) → type_of t a ≡ x → type_of t b ≡ y → parts_in_preorder whole ≡ whole ∷ (parts_in_preorder a ++ parts_in_preorder b) → type_of t whole ≡ None
    → (x ≡ None → Explains t (parts_in_preorder a) (n + 1) (refusal t a (capped (n + 1)))) → (y ≡ None → Explains t (parts_in_preorder b) (n + 1 + node_count a) (refusal t b (capped (n + 1 + node_count a)))) → wanted_field t whole ≡ None
    → Explains t (whole ∷ (parts_in_preorder a ++ parts_in_preorder b)) n (unless x (refusal t a (first_part (capped n))) (unless y (refusal t b (behind (first_part (capped n)) a)) (TypeMismatch (capped n))))
of_two t whole a b n None y d f parts none left right wants =
    let size : suc (length (parts_in_preorder a ++ parts_in_preorder b)) ≤ node_count whole = omega (arith, places_of whole, ap length parts) in
    of_whole t whole (parts_in_preorder a ++ parts_in_preorder b) n (n + 1) (refusal t a (first_part (capped n))) refl size
    (of_front t (parts_in_preorder a) (parts_in_preorder b) (n + 1) (refusal t a (first_part (capped n)))
    (subst (λ (m : ℕ). Explains t (parts_in_preorder a) (n + 1) (refusal t a m)) (next_number n) (left refl)))
of_two t whole a b n (Some s) None d f parts none left right wants =
    let size : suc (length (parts_in_preorder a ++ parts_in_preorder b)) ≤ node_count whole = omega (arith, places_of whole, ap length parts) in
    let number : capped (n + 1 + node_count a) ≡ behind (first_part (capped n)) a = number_behind (n + 1) (node_count a) ∙ ap (λ (m : ℕ). behind m a) (next_number n) in
    of_whole t whole (parts_in_preorder a ++ parts_in_preorder b) n (n + 1) (refusal t b (behind (first_part (capped n)) a)) refl size
    (of_rest t (parts_in_preorder a) (parts_in_preorder b) (n + 1) (n + 1 + node_count a) (refusal t b (behind (first_part (capped n)) a)) (ap (λ (m : ℕ). n + 1 + m) (sym (places_of a))) (all_typed t a s d)
    (subst (λ (m : ℕ). Explains t (parts_in_preorder b) (n + 1 + node_count a) (refusal t b m)) number (right refl)))
of_two t whole a b n (Some s) (Some u) d f parts none left right wants =
    of_itself t whole (parts_in_preorder a ++ parts_in_preorder b) n (TypeMismatch (capped n)) none
    (subst (λ (ps : List Term). AllByRecursion (HasType t) (drop 1 ps)) (sym parts) (all-append (HasType t) (parts_in_preorder a) (parts_in_preorder b) (all_typed t a s d) (all_typed t b u f)))
    (ap (λ (o : Option (List ℕ)). reason o (capped n)) (sym wants))

field_told : (name : List ℕ) (n : ℕ) (x : Option DataType) → field_refusal name n x ≡ reason (wanted_of name x) n
field_told name n None = refl
field_told name n (Some (bool_type m)) = refl
field_told name n (Some (int_type kind m)) = refl
field_told name n (Some (utf8_type m)) = refl
field_told name n (Some (struct_type ms m)) = refl
field_told name n (Some (list_type s m)) = refl

-- named expressions, the first of which has a dtype or has none
rest_none : (name : List ℕ) (x : Option DataType) (y : Option Members) (s : DataType) → x ≡ Some s → on_both (one_more_member name) x y ≡ None → y ≡ None
rest_none name None y s d e = absurd cc
rest_none name (Some u) None s d e = refl
rest_none name (Some u) (Some ms) s d e = absurd cc

of_named : (t : DataType) (name : List ℕ) (e : Term) (es : Terms) (n : ℕ) (last : BindError) (x : Option DataType) → type_of t e ≡ x → types_in t (named name e es) ≡ None
    → (x ≡ None → Explains t (parts_in_preorder e) n (refusal t e (capped n))) → (types_in t es ≡ None → Explains t (parts_of_all es) (n + node_count e) (refusal_in t es (capped (n + node_count e)) last))
    → Explains t (parts_in_preorder e ++ parts_of_all es) n (unless x (refusal t e (capped n)) (refusal_in t es (behind (capped n) e) last))
of_named t name e es n last None d none first rest = of_front t (parts_in_preorder e) (parts_of_all es) n (refusal t e (capped n)) (first refl)
of_named t name e es n last (Some s) d none first rest =
    of_rest t (parts_in_preorder e) (parts_of_all es) n (n + node_count e) (refusal_in t es (behind (capped n) e) last) (ap (λ (m : ℕ). n + m) (sym (places_of e))) (all_typed t e s d)
    (subst (λ (m : ℕ). Explains t (parts_of_all es) (n + node_count e) (refusal_in t es m last)) (number_behind n (node_count e)) (rest (rest_none name (type_of t e) (types_in t es) s d none)))

of_pack : (t : DataType) (es : Terms) (n : ℕ) (y : Option Members) → types_in t es ≡ y → type_of t (pack es) ≡ None
    → (y ≡ None → Explains t (parts_of_all es) (n + 1) (refusal_in t es (capped (n + 1)) (TypeMismatch (capped n))))
    → Explains t (pack es ∷ parts_of_all es) n (refusal_in t es (first_part (capped n)) (TypeMismatch (capped n)))
of_pack t es n None d none inner =
    of_whole t (pack es) (parts_of_all es) n (n + 1) (refusal_in t es (first_part (capped n)) (TypeMismatch (capped n))) refl (omega (arith, places_of_all es))
    (subst (λ (m : ℕ). Explains t (parts_of_all es) (n + 1) (refusal_in t es m (TypeMismatch (capped n)))) (next_number n) (inner refl))
of_pack t es n (Some ms) d none inner =
    of_itself t (pack es) (parts_of_all es) n (refusal_in t es (first_part (capped n)) (TypeMismatch (capped n))) none (all_typed_in t es ms d) (none_refused t es ms (first_part (capped n)) (TypeMismatch (capped n)) d)

mutual
  explained : (t : DataType) (e : Term) (n : ℕ) → type_of t e ≡ None → Explains t (parts_in_preorder e) n (refusal t e (capped n))
  explained t root n none = absurd cc
  explained t (literal v s) n none = of_itself t (literal v s) [] n (TypeMismatch (capped n)) none tt refl
  explained t (get_field name e) n none = of_one t (get_field name e) e n (type_of t e) (field_refusal name (capped n) (type_of t e)) refl refl none (λ d. explained t e (n + 1) d) (field_told name (capped n) (type_of t e))
  explained t (pack es) n none = of_pack t es n (types_in t es) refl none (λ d. explained_in t es (n + 1) (TypeMismatch (capped n)) d)
  explained t (negation e) n none = of_one t (negation e) e n (type_of t e) (TypeMismatch (capped n)) refl refl none (λ d. explained t e (n + 1) d) refl
  explained t (conjunction a b) n none = of_two t (conjunction a b) a b n (type_of t a) (type_of t b) refl refl refl none (λ d. explained t a (n + 1) d) (λ d. explained t b (n + 1 + node_count a) d) refl
  explained t (disjunction a b) n none = of_two t (disjunction a b) a b n (type_of t a) (type_of t b) refl refl refl none (λ d. explained t a (n + 1) d) (λ d. explained t b (n + 1 + node_count a) d) refl
  explained t (comparison op a b) n none = of_two t (comparison op a b) a b n (type_of t a) (type_of t b) refl refl refl none (λ d. explained t a (n + 1) d) (λ d. explained t b (n + 1 + node_count a) d) refl
  explained t (null_test e) n none = of_one t (null_test e) e n (type_of t e) (TypeMismatch (capped n)) refl refl none (λ d. explained t e (n + 1) d) refl
  explained t (value_test e) n none = of_one t (value_test e) e n (type_of t e) (TypeMismatch (capped n)) refl refl none (λ d. explained t e (n + 1) d) refl
  explained t (arithmetic op a b) n none = of_two t (arithmetic op a b) a b n (type_of t a) (type_of t b) refl refl refl none (λ d. explained t a (n + 1) d) (λ d. explained t b (n + 1 + node_count a) d) refl
  explained t row_number n none = absurd cc
  explained t (bound_test e) n none = of_one t (bound_test e) e n (type_of t e) (TypeMismatch (capped n)) refl refl none (λ d. explained t e (n + 1) d) refl

  explained_in : (t : DataType) (es : Terms) (n : ℕ) (last : BindError) → types_in t es ≡ None → Explains t (parts_of_all es) n (refusal_in t es (capped n) last)
  explained_in t no_terms n last none = absurd cc
  explained_in t (named name e es) n last none = of_named t name e es n last (type_of t e) refl none (λ d. explained t e n d) (λ d. explained_in t es (n + node_count e) last d)

-- ---- what binding tells
abbrev some_name : List ℕ → Option (List ℕ)
some_name name = Some name

wants : (o : Option (List ℕ)) (n : ℕ) (name : List ℕ) → reason o n ≡ NoField name → o ≡ Some name
wants None n name e = absurd cc
wants (Some other) n name e = let same : other ≡ name = cc in ap some_name same

wants_none : (o : Option (List ℕ)) (n told : ℕ) → reason o n ≡ TypeMismatch told → (o ≡ None) × (told ≡ n)
wants_none None n told e = (refl, cc)
wants_none (Some other) n told e = absurd cc

told_by : (t : DataType) (e : Term) (error : BindError) → type_of t e ≡ None → refusal t e 0 ≡ error → Explains t (parts_in_preorder e) 0 error
told_by t e error none is = let at : capped 0 ≡ 0 = omega arith in subst (λ (x : BindError). Explains t (parts_in_preorder e) 0 x) (ap (refusal t e) at ∙ is) (explained t e 0 none)

-- the answer at an expression that is not too deep
pub bind_refuses : (t : DataType) (e : Term) (error : BindError) → depth e ≤ deepest → IsRefusal error (type_of t e) (refusal t e 0) → BindGives t e (Err error)
bind_refuses t e Memory shallow h = shallow
bind_refuses t e TooDeep shallow h = absurd h
bind_refuses t e (NoField name) shallow h =
    let found = told_by t e (NoField name) h.0 h.1 in
    (shallow, h.0, (found.place, found.part, found.first, wants (wanted_field t found.part) (capped (0 + found.place)) name (sym found.told)))
bind_refuses t e (TypeMismatch told) shallow h =
    let found = told_by t e (TypeMismatch told) h.0 h.1 in
    let place = wants_none (wanted_field t found.part) (capped (0 + found.place)) told (sym found.told) in
    (shallow, h.0, (found.place, found.part, found.first, place.0, place.1 ∙ ap capped (omega arith)))

-- the same over a dtype that is a copy
pub bind_refuses_alike : (s t : DataType) (e : Term) (error : BindError) → s ≡ t → depth e ≤ deepest → IsRefusal error (type_of s e) (refusal s e 0) → BindGives t e (Err error)
bind_refuses_alike s t e error same shallow h = subst (λ (u : DataType). BindGives u e (Err error)) same (bind_refuses s e error shallow h)
