-- What expressions are worth at the rows before the first fault, by their parts.
use Rattle.std.proofs.Common.{◌≡◌, ℕ, ◌+◌, ◌<◌, ◌≤◌, List, [], ◌∷◌, length, map, take, drop, get_or, replicate, Option, Some, None, option_map, option_and_then, Result, IfOk, ◌⊎◌, inl, inr, refl, sym, ap, subst, ◌∙◌, arith}
use Rattle.std.proofs.lemmas.List.{length-replicate, length-take}
use Rattle.vx_base.specs.declared.dtypes.DType.{DType}
use Rattle.vx_base.specs.declared.values.Value.{Value}
use Rattle.vx_base.specs.ColumnCalls.{natural}
use Rattle.vx_base.specs.declared.dtypes.IntKind.{IntKind}
use Rattle.vx_base.specs.Data.{DataType, bool_type, int_type, utf8_type, struct_type, list_type, Datum, number, structure, Items, no_items, item}
use Rattle.vx_base.specs.Views.{data_type}
use Rattle.vx_base.specs.ValueViews.{datum, data_in, items_from}
use Rattle.vx_expr.specs.declared.evaluated.Evaluated.{Evaluated}
use Rattle.vx_expr.specs.declared.expressions.Expr.{Expr}
use Rattle.vx_expr.specs.declared.expressions.Expr.TheVariants as variants
use Rattle.vx_operators.specs.declared.operators.ArithOp.{ArithOp}
use Rattle.vx_operators.specs.declared.operators.CompareOp.{CompareOp}
use Rattle.vx_expr.specs.declared.steps.OneStep.{OneStep}
use Rattle.vx_expr.specs.declared.steps.OneStep.TheVariants.{Field}
use Rattle.vx_expr.specs.declared.steps.TwoStep.{TwoStep}
use Rattle.vx_expr.specs.declared.steps.TwoStep.TheVariants.{Arith}
use Rattle.vx_expr.specs.Finds.{place_found}
use Rattle.vx_expr.specs.Meaning.{meaning, meanings_in, one_more_item, struct_of, field_of, arithmetic_of}
use Rattle.vx_expr.specs.Packs.{struct_row}
use Rattle.vx_expr.specs.Rows.{along, front, front_at, items_made, no_bound}
use Rattle.vx_expr.specs.Steps.{evaluated_rows, one_step, two_step, one_made, pair_made, item_at, kind_in, number_type, part_of, left_of, right_of}
use Rattle.vx_expr.specs.Terms.{Term, Terms, named}
use Rattle.vx_expr.specs.Types.{on_both, type_of}
use Rattle.vx_expr.specs.TermViews.{term, terms_of}
use Rattle.vx_expr.proofs.FieldPlaces.{field_at}
use Rattle.vx_expr.proofs.Fronts.{front_along_left, front_values, front_numbers, front_constant, front_then, front_pair, continued, put_before, put_behind, continued_more, continued_start, continued_done}
use Rattle.vx_expr.proofs.Pairs.{left_next, left_none}

-- ---- named expressions
both_items : (x : Option Datum) (y : Option Items) → option_map data_in (on_both one_more_item x y) ≡ on_both put_before x (option_map data_in y)
both_items None y = refl
both_items (Some x) None = refl
both_items (Some x) (Some y) = refl

items_named : (t : DataType) (name : List ℕ) (e : Term) (es : Terms) (v : Datum) (n : ℕ) → items_made t (named name e es) v n ≡ on_both put_before (meaning t no_bound e v n) (items_made t es v n)
items_named t name e es v n = both_items (meaning t no_bound e v n) (meanings_in t no_bound es v n)

-- the first of the named expressions gives one value more in each row
one_named : (t : DataType) (name : List ℕ) (e : Term) (es : Terms) (rows : List (List Datum)) (vs : List Datum) (ns : List ℕ)
    → front (continued rows (items_made t (named name e es)) vs ns) ≡ front (continued (along put_behind rows (front_at t e (take (length rows) vs) (take (length rows) ns))) (items_made t es) vs ns)
one_named t name e es rows vs ns = (λ i. front (continued rows (λ v n. items_named t name e es v n i) vs ns)) ∙ continued_more (meaning t no_bound e) (items_made t es) rows vs ns

-- the rows so far, and one value more in each
pub rows_more : (t : DataType) (items : List (List ℕ × Expr)) (i : ℕ) (pair : List ℕ × Expr) (rows longer : List (List Datum)) (xs vs : List Datum) (numbers : List ℕ) (whole : List (List Datum))
    → i < length items → pair ≡ get_or items i pair
    → xs ≡ front_at t (term pair.1) (take (length rows) vs) (take (length rows) numbers)
    → longer ≡ along put_behind rows xs
    → front (continued rows (items_made t (terms_of (drop i items))) vs numbers) ≡ whole
    → front (continued longer (items_made t (terms_of (drop (i + 1) items))) vs numbers) ≡ whole
rows_more t items i pair rows longer xs vs numbers whole lt is here added so_far =
    let next = left_next items i pair lt is in
    let e = term pair.1 in
    let rest = terms_of (drop (i + 1) items) in
    ap (λ (rs : List (List Datum)). front (continued rs (items_made t rest) vs numbers)) (added ∙ ap (λ (cs : List Datum). along put_behind rows cs) here)
    ∙ sym (one_named t pair.0 e rest rows vs numbers)
    ∙ ap (λ (es : Terms). front (continued rows (items_made t es) vs numbers)) (sym next)
    ∙ so_far

-- no values yet
pub rows_start : (t : DataType) (es : Terms) (rows : List (List Datum)) (count : ℕ) (vs : List Datum) (numbers : List ℕ) → rows ≡ replicate count [] → length vs ≡ count
    → front (continued rows (items_made t es) vs numbers) ≡ front (along (items_made t es) vs numbers)
rows_start t es rows count vs numbers e level =
    ap (λ (rs : List (List Datum)). front (continued rs (items_made t es) vs numbers)) (e ∙ ap (λ (k : ℕ). replicate k []) (sym level))
    ∙ ap front (continued_start (items_made t es) vs numbers)

pub rows_start_count : (rows : List (List Datum)) (count : ℕ) → rows ≡ replicate count [] → count ≡ length rows
rows_start_count rows count e = omega (arith, ap length e, length-replicate {A = List Datum} count [])

-- all values
pub rows_done : (t : DataType) (items : List (List ℕ × Expr)) (i : ℕ) (es : Terms) (rows : List (List Datum)) (count : ℕ) (vs : List Datum) (numbers : List ℕ)
    → length items ≤ i → terms_of items ≡ es → length numbers ≡ length vs → length vs ≡ count → length rows ≤ count
    → front (continued rows (items_made t (terms_of (drop i items))) vs numbers) ≡ front (along (items_made t (terms_of items)) vs numbers)
    → rows ≡ front (along (items_made t es) vs numbers)
rows_done t items i es rows count vs numbers past whole len level few so_far =
    sym (continued_done rows vs numbers (omega arith) (omega arith))
    ∙ ap (λ (fs : Terms). front (continued rows (items_made t fs) vs numbers)) (sym (left_none items i past))
    ∙ so_far
    ∙ ap (λ (fs : Terms). front (along (items_made t fs) vs numbers)) whole

-- ---- a struct
front_somes : {A B : Type 0} (f : A → B) (xs : List A) → front (map (λ x. Some (f x)) xs) ≡ map f xs
front_somes f [] = refl
front_somes {B = B} f (x ∷ xs) = ap (λ (rest : List B). f x ∷ rest) (front_somes f xs)

items_back : (vs : Items) → items_from (data_in vs) ≡ vs
items_back no_items = refl
items_back (item v vs) = ap (item v) (items_back vs)

same_struct : (y : Option Items) → option_and_then (λ ds. Some (struct_row ds)) (option_map data_in y) ≡ option_and_then struct_of y
same_struct None = refl
same_struct (Some vs) = ap (λ (ws : Items). Some (structure ws)) (items_back vs)

pub struct_front : (t : DataType) (x : Expr) (es : Terms) (rows : List (List Datum)) (vs : List Datum) (ns : List ℕ)
    → x ≡ variants.Pack es → rows ≡ front (along (items_made t es) vs ns) → map struct_row rows ≡ front_at t (term x) vs ns
struct_front t x es rows vs ns is here =
    sym (front_somes struct_row rows)
    ∙ ap (λ (rs : List (List Datum)). front (map (λ ds. Some (struct_row ds)) rs)) here
    ∙ front_then (λ ds. Some (struct_row ds)) (items_made t es) vs ns
    ∙ (λ i. front (along (λ v n. same_struct (meanings_in t no_bound es v n) i) vs ns))
    ∙ ap (λ (y : Expr). front_at t (term y) vs ns) (sym is)

-- ---- two parts
pub lefts_few : (t : DataType) (a : Term) (xs vs : List Datum) (numbers : List ℕ) → xs ≡ front_at t a vs numbers → length xs ≤ length vs
lefts_few t a xs vs numbers e = omega (arith, ap length e, front_along_left (meaning t no_bound a) vs numbers)

pub rights_few : (t : DataType) (b : Term) (k : ℕ) (xs vs : List Datum) (numbers : List ℕ) → xs ≡ front_at t b (take k vs) (take k numbers) → length xs ≤ k
rights_few t b k xs vs numbers e = omega (arith, ap length e, front_along_left (meaning t no_bound b) (take k vs) (take k numbers), length-take k vs)

-- two parts over the rows: the second over those that the first has
pub pair_rows : (t : DataType) (a b : Term) (step : TwoStep) (lefts rights vs : List Datum) (numbers : List ℕ)
    → lefts ≡ front_at t a vs numbers
    → rights ≡ front_at t b (take (length lefts) vs) (take (length lefts) numbers)
    → front (along (two_step step) lefts rights) ≡ front (along (pair_made step t a b) vs numbers)
pair_rows t a b step lefts rights vs numbers left right =
    let f = meaning t no_bound a in
    let xs = front (along f vs numbers) in
    let there : rights ≡ front_at t b (take (length xs) vs) (take (length xs) numbers) =
    right ∙ ap (λ (n : ℕ). front_at t b (take n vs) (take n numbers)) (ap length left) in
    ap (λ (ws : List Datum). front (along (two_step step) ws rights)) left
    ∙ ap (λ (ws : List Datum). front (along (two_step step) xs ws)) there
    ∙ front_pair (two_step step) f (meaning t no_bound b) vs numbers

-- an expression of these two parts
abbrev pub IsJoined : Expr → Term → Term → Type 0
IsJoined x a b = (x ≡ variants.And a b) ⊎ ((x ≡ variants.Or a b) ⊎ (((op : CompareOp) × (x ≡ variants.Compare op a b)) ⊎ ((op : ArithOp) × (x ≡ variants.Arith op a b))))

pub lefts_are : (x : Expr) (a b : Term) → IsJoined x a b → left_of (term x) ≡ a
lefts_are x a b (inl e) = ap (λ (y : Expr). left_of (term y)) e
lefts_are x a b (inr (inl e)) = ap (λ (y : Expr). left_of (term y)) e
lefts_are x a b (inr (inr (inl e))) = ap (λ (y : Expr). left_of (term y)) e.1
lefts_are x a b (inr (inr (inr e))) = ap (λ (y : Expr). left_of (term y)) e.1

pub rights_are : (x : Expr) (a b : Term) → IsJoined x a b → right_of (term x) ≡ b
rights_are x a b (inl e) = ap (λ (y : Expr). right_of (term y)) e
rights_are x a b (inr (inl e)) = ap (λ (y : Expr). right_of (term y)) e
rights_are x a b (inr (inr (inl e))) = ap (λ (y : Expr). right_of (term y)) e.1
rights_are x a b (inr (inr (inr e))) = ap (λ (y : Expr). right_of (term y)) e.1

pub joined_front : (t : DataType) (e a b : Term) (step : TwoStep) (vs : List Datum) (ns : List ℕ) → left_of e ≡ a → right_of e ≡ b → ((v : Datum) (n : ℕ) → pair_made step t (left_of e) (right_of e) v n ≡ meaning t no_bound e v n)
    → front (along (pair_made step t a b) vs ns) ≡ front_at t e vs ns
joined_front t e a b step vs ns p q same =
    (λ i. front (along (pair_made step t (sym p i) (sym q i)) vs ns))
    ∙ (λ i. front (along (λ v n. same v n i) vs ns))

-- ---- one part
abbrev pub IsMadeOf : Expr → Term → Type 0
IsMadeOf x a = ((name : List ℕ) × (x ≡ variants.GetField name a)) ⊎ ((x ≡ variants.Not a) ⊎ ((x ≡ variants.IsNull a) ⊎ ((x ≡ variants.IsNotNull a) ⊎ (x ≡ variants.AtMostBound a))))

pub parts_are : (x : Expr) (a : Term) → IsMadeOf x a → part_of (term x) ≡ a
parts_are x a (inl e) = ap (λ (y : Expr). part_of (term y)) e.1
parts_are x a (inr (inl e)) = ap (λ (y : Expr). part_of (term y)) e
parts_are x a (inr (inr (inl e))) = ap (λ (y : Expr). part_of (term y)) e
parts_are x a (inr (inr (inr (inl e)))) = ap (λ (y : Expr). part_of (term y)) e
parts_are x a (inr (inr (inr (inr e)))) = ap (λ (y : Expr). part_of (term y)) e

pub made_front : (t : DataType) (x : Expr) (a part : Term) (step : OneStep) (xs vs : List Datum) (ns : List ℕ) → IsMadeOf x a → part ≡ a → ((v : Datum) (n : ℕ) → one_made step t (part_of (term x)) v n ≡ meaning t no_bound (term x) v n)
    → xs ≡ front_at t part vs ns → front (map (one_step step) xs) ≡ front_at t (term x) vs ns
made_front t x a part step xs vs ns is whole same here =
    ap (λ (ws : List Datum). front (map (one_step step) ws)) (here ∙ ap (λ (e : Term). front_at t e vs ns) (whole ∙ sym (parts_are x a is)))
    ∙ front_then (one_step step) (meaning t no_bound (part_of (term x))) vs ns
    ∙ (λ i. front (along (λ v n. same v n i) vs ns))

-- ---- no parts
pub root_front : (t : DataType) (x : Expr) (vs : List Datum) (ns : List ℕ) → x ≡ variants.Root → length ns ≡ length vs → vs ≡ front_at t (term x) vs ns
root_front t x vs ns is len = sym (front_values vs ns len) ∙ ap (λ (y : Expr). front_at t (term y) vs ns) (sym is)

pub number_front : (t : DataType) (x : Expr) (vs ms : List Datum) (ns : List ℕ) → x ≡ variants.RowIdx → length ns ≡ length vs → map natural ns ≡ ms → ms ≡ front_at t (term x) vs ns
number_front t x vs ms ns is len same = sym same ∙ sym (front_numbers natural vs ns len) ∙ ap (λ (y : Expr). front_at t (term y) vs ns) (sym is)

pub literal_front : (t : DataType) (x : Expr) (v : Value) (s : DType) (count : ℕ) (vs : List Datum) (ns : List ℕ) → x ≡ variants.Lit v s → length vs ≡ count → length ns ≡ length vs → replicate count (datum v) ≡ front_at t (term x) vs ns
literal_front t x v s count vs ns is level len =
    ap (λ (k : ℕ). replicate k (datum v)) (sym level)
    ∙ sym (front_constant (datum v) vs ns len)
    ∙ ap (λ (y : Expr). front_at t (term y) vs ns) (sym is)

-- ---- calls
-- what is worth at the rows, said in another way
pub rows_are : {E : Type 0} (r : Result Evaluated E) (xs ys : List Datum) → xs ≡ ys → IfOk r (λ made. evaluated_rows made ≡ xs) → IfOk r (λ made. evaluated_rows made ≡ ys)
rows_are r xs ys e h = subst (λ (zs : List Datum). IfOk r (λ made. evaluated_rows made ≡ zs)) e h

-- what an expression is worth at the first rows
pub over_firsts : (dtype root_dtype : DType) (e b : Term) (xs vs ws : List Datum) (numbers ns : List ℕ) (k n : ℕ)
    → xs ≡ front_at (data_type dtype) e ws ns → dtype ≡ root_dtype → e ≡ b → ws ≡ take k vs → ns ≡ take k numbers → k ≡ n
    → xs ≡ front_at (data_type root_dtype) b (take n vs) (take n numbers)
over_firsts dtype root_dtype e b xs vs ws numbers ns k n here d p q r len =
    here
    ∙ (λ i. front_at (data_type (d i)) (p i) (q i) (r i))
    ∙ (λ i. front_at (data_type root_dtype) b (take (len i) vs) (take (len i) numbers))

-- ---- steps
option_same : {A B : Type 0} (f g : A → Option B) (r : Option A) → ((x : A) → f x ≡ g x) → option_and_then f r ≡ option_and_then g r
option_same f g None same = refl
option_same f g (Some x) same = same x

pub field_step : (t : DataType) (x : Expr) (name : List ℕ) (a : Term) (place : Option ℕ) → x ≡ variants.GetField name a → place ≡ place_found (type_of t a) name → (v : Datum) (n : ℕ) → one_made (Field place) t (part_of (term x)) v n ≡ meaning t no_bound (term x) v n
field_step t x name a place is found v n =
    ap (λ (y : Expr). one_made (Field place) t (part_of (term y)) v n) is
    ∙ ap (λ (p : Option ℕ). one_made (Field p) t a v n) found
    ∙ option_same (item_at (place_found (type_of t a) name)) (field_of (type_of t a) name) (meaning t no_bound a v n) (field_at (type_of t a) name)
    ∙ ap (λ (y : Expr). meaning t no_bound (term y) v n) (sym is)

number_step : (op : ArithOp) (s : Option DataType) (v w : Datum) → arithmetic_of op (number_type (kind_in s)) v w ≡ arithmetic_of op s v w
number_step op None (number x) (number y) = refl
number_step op (Some (bool_type n)) (number x) (number y) = refl
number_step op (Some (int_type kind n)) (number x) (number y) = refl
number_step op (Some (utf8_type n)) (number x) (number y) = refl
number_step op (Some (struct_type ms n)) (number x) (number y) = refl
number_step op (Some (list_type s n)) (number x) (number y) = refl
number_step op s v w = refl

both_same : {A B C : Type 0} (f g : A → B → Option C) (r : Option A) (s : Option B) → ((x : A) (y : B) → f x y ≡ g x y) → on_both f r s ≡ on_both g r s
both_same f g None s same = refl
both_same f g (Some x) None same = refl
both_same f g (Some x) (Some y) same = same x y

pub arith_step : (t : DataType) (x : Expr) (op : ArithOp) (a b : Term) (kind : Option IntKind) → x ≡ variants.Arith op a b → kind ≡ kind_in (type_of t a) → (v : Datum) (n : ℕ) → pair_made (Arith op kind) t (left_of (term x)) (right_of (term x)) v n ≡ meaning t no_bound (term x) v n
arith_step t x op a b kind is e v n =
    ap (λ (y : Expr). pair_made (Arith op kind) t (left_of (term y)) (right_of (term y)) v n) is
    ∙ ap (λ (k : Option IntKind). pair_made (Arith op k) t a b v n) e
    ∙ both_same (arithmetic_of op (number_type (kind_in (type_of t a)))) (arithmetic_of op (type_of t a)) (meaning t no_bound a v n) (meaning t no_bound b v n) (number_step op (type_of t a))
    ∙ ap (λ (y : Expr). meaning t no_bound (term y) v n) (sym is)
