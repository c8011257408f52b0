-- What was found of an expression, read part by part.
use Rattle.std.proofs.Common.{◌≡◌, ℕ, ◌+◌, ◌<◌, ◌≤◌, List, [], ◌++◌, length, get_or, drop, Result, Ok, Err, inl, inr, refl, sym, ap, subst, ◌∙◌, append_assoc, append-nil}
use Rattle.std.specs.Prelude.{OnOk}
use Rattle.vx_base.specs.Data.{DataType}
use Rattle.vx_expr.specs.declared.expressions.Expr.{Expr}
use Rattle.vx_expr.specs.declared.expressions.Expr.TheVariants as variants
use Rattle.vx_operators.specs.declared.operators.ArithOp.{ArithOp}
use Rattle.vx_expr.specs.declared.found.Found.{Found}
use Rattle.vx_expr.specs.Counts.{node_count}
use Rattle.vx_expr.specs.Finds.{own_found, found_of, found_in, Starts, Passes}
use Rattle.vx_expr.specs.Steps.{part_of, left_of, right_of}
use Rattle.vx_expr.specs.Terms.{Term, root, literal, get_field, pack, negation, conjunction, disjunction, comparison, null_test, value_test, arithmetic, row_number, bound_test, Terms, IsPair, IsDerived}
use Rattle.vx_expr.specs.TermViews.{term, terms_of}
use Rattle.vx_expr.proofs.Pairs.{left_next, left_none}
use Rattle.vx_expr.proofs.TermRows.{IsJoined, IsMadeOf, lefts_are, rights_are, parts_are}

-- ---- two parts, one behind the other
pub starts_first : (a b l : List Found) → Starts (a ++ b) l → Starts a l
starts_first a b l h = (b ++ h.0, h.1 ∙ append_assoc a b h.0)

pub starts_second : (a b l m : List Found) → Starts (a ++ b) l → Passes a l m → Starts b m
starts_second a b l m h p = (h.0, p (b ++ h.0) (h.1 ∙ append_assoc a b h.0))

pub passes_both : (a b l m n : List Found) → Passes a l m → Passes b m n → Passes (a ++ b) l n
passes_both a b l m n p q = λ rest e. q rest (p (b ++ rest) (e ∙ append_assoc a b rest))

pub starts_same : (a b l : List Found) → a ≡ b → Starts a l → Starts b l
starts_same a b l e h = subst (λ (part : List Found). Starts part l) e h

pub passes_same : (a b l m : List Found) → a ≡ b → Passes a l m → Passes b l m
passes_same a b l m e h = subst (λ (part : List Found). Passes part l m) e h

-- nothing is found
pub passes_none : (a l : List Found) → a ≡ [] → Passes a l l
passes_none a l none = λ rest e. e ∙ ap (λ (part : List Found). part ++ rest) none

pub on_ok : {A E : Type 0} (r : Result A E) (P : Type 0) → P → OnOk r P
on_ok (Ok x) P p = p
on_ok (Err x) P p = tt

pub on_ok_more : {A E : Type 0} (r : Result A E) (P Q : Type 0) → (P → Q) → OnOk r P → OnOk r Q
on_ok_more (Ok x) P Q f p = f p
on_ok_more (Err x) P Q f p = tt

-- ---- an expression, by its parts
pub derived_found : (t : DataType) (e : Term) → IsDerived e → found_of t e ≡ found_of t (part_of e) ++ own_found t e
derived_found t (get_field name e) h = refl
derived_found t (negation e) h = sym (append-nil (found_of t e))
derived_found t (null_test e) h = sym (append-nil (found_of t e))
derived_found t (value_test e) h = sym (append-nil (found_of t e))
derived_found t (bound_test e) h = sym (append-nil (found_of t e))
derived_found t root h = absurd h
derived_found t (literal v s) h = absurd h
derived_found t (pack es) h = absurd h
derived_found t (conjunction a b) h = absurd h
derived_found t (disjunction a b) h = absurd h
derived_found t (comparison op a b) h = absurd h
derived_found t (arithmetic op a b) h = absurd h
derived_found t row_number h = absurd h

plain_pair : (a b : List Found) → a ++ b ≡ a ++ (b ++ [])
plain_pair a b = ap (λ (c : List Found). a ++ c) (sym (append-nil b))

pub pair_found : (t : DataType) (e : Term) → IsPair e → found_of t e ≡ found_of t (left_of e) ++ (found_of t (right_of e) ++ own_found t e)
pair_found t (conjunction a b) h = plain_pair (found_of t a) (found_of t b)
pair_found t (disjunction a b) h = plain_pair (found_of t a) (found_of t b)
pair_found t (comparison op a b) h = plain_pair (found_of t a) (found_of t b)
pair_found t (arithmetic op a b) h = refl
pair_found t root h = absurd h
pair_found t (literal v s) h = absurd h
pair_found t (get_field name e) h = absurd h
pair_found t (pack es) h = absurd h
pair_found t (negation e) h = absurd h
pair_found t (null_test e) h = absurd h
pair_found t (value_test e) h = absurd h
pair_found t row_number h = absurd h
pair_found t (bound_test e) h = absurd h

-- the same of parts that are told
pub pair_of : (t : DataType) (e a b : Term) → IsPair e → left_of e ≡ a → right_of e ≡ b → found_of t e ≡ found_of t a ++ (found_of t b ++ own_found t e)
pair_of t e a b h p q =
    pair_found t e h
    ∙ ap (λ (x : Term). found_of t x ++ (found_of t (right_of e) ++ own_found t e)) p
    ∙ ap (λ (y : Term). found_of t a ++ (found_of t y ++ own_found t e)) q

pub derived_of : (t : DataType) (e a : Term) → IsDerived e → part_of e ≡ a → found_of t e ≡ found_of t a ++ own_found t e
derived_of t e a h p = derived_found t e h ∙ ap (λ (x : Term). found_of t x ++ own_found t e) p

-- ---- named expressions
pub found_next : (t : DataType) (items : List (List ℕ × Expr)) (i : ℕ) (item : List ℕ × Expr) → i < length items → item ≡ get_or items i item
    → found_in t (terms_of (drop i items)) ≡ found_of t (term item.1) ++ found_in t (terms_of (drop (i + 1) items))
found_next t items i item lt is = ap (found_in t) (left_next items i item lt is)

pub found_none : (t : DataType) (items : List (List ℕ × Expr)) (i : ℕ) → length items ≤ i → found_in t (terms_of (drop i items)) ≡ []
found_none t items i past = ap (found_in t) (left_none items i past)

-- How far a walk has come: what the rest of the named expressions passes is what all of them pass.
abbrev pub Walks : List Found → List Found → List Found → List Found → Type 0
Walks all left start here = (rest : List Found) → start ≡ all ++ rest → here ≡ left ++ rest

pub walks_on : (all a b start here after : List Found) → Walks all (a ++ b) start here → Passes a here after → Walks all b start after
walks_on all a b start here after walks passes = λ rest e. passes (b ++ rest) (walks rest e ∙ append_assoc a b rest)

pub walk_starts : (all a b start here : List Found) → Starts all start → Walks all (a ++ b) start here → Starts a here
walk_starts all a b start here h walks = starts_first a b here (h.0, walks h.0 h.1)

pub walk_done : (all left start here : List Found) → left ≡ [] → Walks all left start here → Passes all start here
walk_done all left start here none walks = λ rest e. walks rest e ∙ ap (λ (part : List Found). part ++ rest) none

-- ---- what is found, put behind what was found before
pub put_next : (before more all a b : List Found) → more ≡ before ++ a → before ++ (a ++ b) ≡ all → more ++ b ≡ all
put_next before more all a b e f = ap (λ (found : List Found). found ++ b) e ∙ append_assoc before a b ∙ f

pub put_all : (found rest all : List Found) → rest ≡ [] → found ++ rest ≡ all → found ≡ all
put_all found rest all none e = sym (append-nil found) ∙ ap (λ (part : List Found). found ++ part) (sym none) ∙ e

pub put_two : (old mid new a b : List Found) → mid ≡ old ++ a → new ≡ mid ++ b → new ≡ old ++ (a ++ b)
put_two old mid new a b e f = f ∙ ap (λ (found : List Found). found ++ b) e ∙ append_assoc old a b

pub put_none : (old new a : List Found) → new ≡ old → a ≡ [] → new ≡ old ++ a
put_none old new a same none = same ∙ sym (append-nil old) ∙ ap (λ (part : List Found). old ++ part) (sym none)

-- ---- an expression of two parts, and one of one part
pub is_pair : (x : Expr) (a b : Term) → IsJoined x a b → IsPair (term x)
is_pair x a b (inl e) = subst (λ (y : Expr). IsPair (term y)) (sym e) tt
is_pair x a b (inr (inl e)) = subst (λ (y : Expr). IsPair (term y)) (sym e) tt
is_pair x a b (inr (inr (inl e))) = subst (λ (y : Expr). IsPair (term y)) (sym e.1) tt
is_pair x a b (inr (inr (inr e))) = subst (λ (y : Expr). IsPair (term y)) (sym e.1) tt

pub is_derived : (x : Expr) (a : Term) → IsMadeOf x a → IsDerived (term x)
is_derived x a (inl e) = subst (λ (y : Expr). IsDerived (term y)) (sym e.1) tt
is_derived x a (inr (inl e)) = subst (λ (y : Expr). IsDerived (term y)) (sym e) tt
is_derived x a (inr (inr (inl e))) = subst (λ (y : Expr). IsDerived (term y)) (sym e) tt
is_derived x a (inr (inr (inr (inl e)))) = subst (λ (y : Expr). IsDerived (term y)) (sym e) tt
is_derived x a (inr (inr (inr (inr e)))) = subst (λ (y : Expr). IsDerived (term y)) (sym e) tt

pub made_of : (t : DataType) (x : Expr) (a : Term) → IsMadeOf x a → found_of t (term x) ≡ found_of t a ++ own_found t (term x)
made_of t x a is = derived_of t (term x) a (is_derived x a is) (parts_are x a is)

pub pair_put : (t : DataType) (x : Expr) (a b : Term) (old mid new : List Found) → IsJoined x a b → mid ≡ old ++ (found_of t a ++ found_of t b) → new ≡ mid ++ own_found t (term x) → new ≡ old ++ found_of t (term x)
pair_put t x a b old mid new is e f =
    put_two old mid new (found_of t a ++ found_of t b) (own_found t (term x)) e f
    ∙ ap (λ (found : List Found). old ++ found) (append_assoc (found_of t a) (found_of t b) (own_found t (term x)) ∙ sym (pair_of t (term x) a b (is_pair x a b is) (lefts_are x a b is) (rights_are x a b is)))

-- a pair that joins no numbers
pub no_kind : (t : DataType) (x : Expr) → IsPair (term x) → ((op : ArithOp) (a b : Term) → x ≡ variants.Arith op a b → ⊥) → own_found t (term x) ≡ []
no_kind t (variants.And a b) h other = refl
no_kind t (variants.Or a b) h other = refl
no_kind t (variants.Compare op a b) h other = refl
no_kind t (variants.Arith op a b) h other = absurd (other op a b refl)
no_kind t variants.Root h other = absurd h
no_kind t (variants.Lit v s) h other = absurd h
no_kind t (variants.GetField name e) h other = absurd h
no_kind t (variants.Pack es) h other = absurd h
no_kind t (variants.Not e) h other = absurd h
no_kind t (variants.IsNull e) h other = absurd h
no_kind t (variants.IsNotNull e) h other = absurd h
no_kind t variants.RowIdx h other = absurd h
no_kind t (variants.AtMostBound e) h other = absurd h

-- ---- named expressions, one by one
pub item_starts : (t : DataType) (items : List (List ℕ × Expr)) (i : ℕ) (item : List ℕ × Expr) (self : Terms) (start here : List Found) → i < length items → item ≡ get_or items i item → terms_of items ≡ self
    → Starts (found_in t self) start → Walks (found_in t (terms_of items)) (found_in t (terms_of (drop i items))) start here → Starts (found_of t (term item.1)) here
item_starts t items i item self start here lt is whole h walks =
    let all = found_in t (terms_of items) in
    walk_starts all (found_of t (term item.1)) (found_in t (terms_of (drop (i + 1) items))) start here (starts_same (found_in t self) all start (ap (found_in t) (sym whole)) h)
    (subst (λ (left : List Found). Walks all left start here) (found_next t items i item lt is) walks)

pub item_walks : (t : DataType) (items : List (List ℕ × Expr)) (i : ℕ) (item : List ℕ × Expr) (start here after : List Found) → i < length items → item ≡ get_or items i item
    → Walks (found_in t (terms_of items)) (found_in t (terms_of (drop i items))) start here → Passes (found_of t (term item.1)) here after → Walks (found_in t (terms_of items)) (found_in t (terms_of (drop (i + 1) items))) start after
item_walks t items i item start here after lt is walks passes =
    let all = found_in t (terms_of items) in
    walks_on all (found_of t (term item.1)) (found_in t (terms_of (drop (i + 1) items))) start here after
    (subst (λ (left : List Found). Walks all left start here) (found_next t items i item lt is) walks) passes

pub items_done : (t : DataType) (items : List (List ℕ × Expr)) (i : ℕ) (self : Terms) (start here : List Found) → length items ≤ i → terms_of items ≡ self
    → Walks (found_in t (terms_of items)) (found_in t (terms_of (drop i items))) start here → Passes (found_in t self) start here
items_done t items i self start here past whole walks =
    passes_same (found_in t (terms_of items)) (found_in t self) start here (ap (found_in t) whole)
    (walk_done (found_in t (terms_of items)) (found_in t (terms_of (drop i items))) start here (found_none t items i past) walks)

-- all that was found, before anything is read
pub starts_whole : (a l : List Found) → l ≡ a → Starts a l
starts_whole a l e = ([], e ∙ sym (append-nil a))

-- ---- how many parts
pub part_count : (e : Term) → IsDerived e → node_count (part_of e) + 1 ≡ node_count e
part_count (get_field name e) h = refl
part_count (negation e) h = refl
part_count (null_test e) h = refl
part_count (value_test e) h = refl
part_count (bound_test e) h = refl
part_count root h = absurd h
part_count (literal v s) h = absurd h
part_count (pack es) h = absurd h
part_count (conjunction a b) h = absurd h
part_count (disjunction a b) h = absurd h
part_count (comparison op a b) h = absurd h
part_count (arithmetic op a b) h = absurd h
part_count row_number h = absurd h

pub pair_count : (e : Term) → IsPair e → node_count (left_of e) + node_count (right_of e) + 1 ≡ node_count e
pair_count (conjunction a b) h = refl
pair_count (disjunction a b) h = refl
pair_count (comparison op a b) h = refl
pair_count (arithmetic op a b) h = refl
pair_count root h = absurd h
pair_count (literal v s) h = absurd h
pair_count (get_field name e) h = absurd h
pair_count (pack es) h = absurd h
pair_count (negation e) h = absurd h
pair_count (null_test e) h = absurd h
pair_count (value_test e) h = absurd h
pair_count row_number h = absurd h
pair_count (bound_test e) h = absurd h
