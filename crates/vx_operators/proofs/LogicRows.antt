-- Three-valued logic made of whole masks is what the meaning says of each row.
use Rattle.std.proofs.Common.{◌≡◌, Bool, true, false, not, ◌&&◌, ◌||◌, cond, List, [], ◌∷◌, length, map, Some, replicate, ℕ, zero, suc, refl, sym, ap, subst, arith}
use Rattle.vx_types.specs.Data.{Datum, null, truth, number, text, structure}
use Rattle.vx_masks.specs.Masks.{both, either, without}
use Rattle.vx_types.specs.Slots.{where_valid, is_value}
use Rattle.vx_masks.specs.Rows.{Holds, NullsHold}
use Rattle.vx_operators.specs.Operators.{negated, and_of, or_of, null_test_of, value_test_of}
use Rattle.vx_operators.specs.Rows.{along}

-- ---- which rows have a value
-- both have a value, or one has it and is false
abbrev pub and_valid : List Bool → List Bool → List Bool → List Bool → List Bool
and_valid va a vb b = either (both va vb) (either (without va a) (without vb b))

-- both have a value, or one is true
abbrev pub or_valid : List Bool → List Bool → List Bool → List Bool → List Bool
or_valid va a vb b = either (both va vb) (either a b)

-- ---- one row
and_row : (v x w y : Bool) → Holds false v x → Holds false w y → and_of (cond v (truth x) null) (cond w (truth y) null) ≡ Some (cond ((v && w) || ((v && not x) || (w && not y))) (truth (x && y)) null)
and_row true true true true h g = refl
and_row true true true false h g = refl
and_row true true false true h g = absurd cc
and_row true true false false h g = refl
and_row true false true true h g = refl
and_row true false true false h g = refl
and_row true false false true h g = absurd cc
and_row true false false false h g = refl
and_row false true true true h g = absurd cc
and_row false true true false h g = absurd cc
and_row false true false true h g = absurd cc
and_row false true false false h g = absurd cc
and_row false false true true h g = refl
and_row false false true false h g = refl
and_row false false false true h g = absurd cc
and_row false false false false h g = refl

and_holds : (v x w y : Bool) → Holds false v x → Holds false w y → Holds false ((v && w) || ((v && not x) || (w && not y))) (x && y)
and_holds true true true true h g = tt
and_holds true true true false h g = tt
and_holds true true false true h g = absurd cc
and_holds true true false false h g = refl
and_holds true false true true h g = tt
and_holds true false true false h g = tt
and_holds true false false true h g = absurd cc
and_holds true false false false h g = tt
and_holds false true true true h g = absurd cc
and_holds false true true false h g = absurd cc
and_holds false true false true h g = absurd cc
and_holds false true false false h g = absurd cc
and_holds false false true true h g = refl
and_holds false false true false h g = tt
and_holds false false false true h g = absurd cc
and_holds false false false false h g = refl

or_row : (v x w y : Bool) → Holds false v x → Holds false w y → or_of (cond v (truth x) null) (cond w (truth y) null) ≡ Some (cond ((v && w) || (x || y)) (truth (x || y)) null)
or_row true true true true h g = refl
or_row true true true false h g = refl
or_row true true false true h g = absurd cc
or_row true true false false h g = refl
or_row true false true true h g = refl
or_row true false true false h g = refl
or_row true false false true h g = absurd cc
or_row true false false false h g = refl
or_row false true true true h g = absurd cc
or_row false true true false h g = absurd cc
or_row false true false true h g = absurd cc
or_row false true false false h g = absurd cc
or_row false false true true h g = refl
or_row false false true false h g = refl
or_row false false false true h g = absurd cc
or_row false false false false h g = refl

or_holds : (v x w y : Bool) → Holds false v x → Holds false w y → Holds false ((v && w) || (x || y)) (x || y)
or_holds true true true true h g = tt
or_holds true true true false h g = tt
or_holds true true false true h g = absurd cc
or_holds true true false false h g = tt
or_holds true false true true h g = tt
or_holds true false true false h g = tt
or_holds true false false true h g = absurd cc
or_holds true false false false h g = refl
or_holds false true true true h g = absurd cc
or_holds false true true false h g = absurd cc
or_holds false true false true h g = absurd cc
or_holds false true false false h g = absurd cc
or_holds false false true true h g = tt
or_holds false false true false h g = refl
or_holds false false false true h g = absurd cc
or_holds false false false false h g = refl

-- ---- all rows
pub and_rows : (va a vb b : List Bool) → length va ≡ length a → length vb ≡ length b → length va ≡ length vb → NullsHold false va a → NullsHold false vb b → along and_of (where_valid va (map truth a)) (where_valid vb (map truth b)) ≡ map Some (where_valid (and_valid va a vb b) (map truth (both a b)))
and_rows [] [] [] [] e d c h g = refl
and_rows (true ∷ va) (x ∷ a) (true ∷ vb) (y ∷ b) e d c h g = λ i. and_row true x true y tt tt i ∷ and_rows va a vb b (omega arith) (omega arith) (omega arith) h g i
and_rows (true ∷ va) (x ∷ a) (false ∷ vb) (y ∷ b) e d c h g = λ i. and_row true x false y tt g.0 i ∷ and_rows va a vb b (omega arith) (omega arith) (omega arith) h g.1 i
and_rows (false ∷ va) (x ∷ a) (true ∷ vb) (y ∷ b) e d c h g = λ i. and_row false x true y h.0 tt i ∷ and_rows va a vb b (omega arith) (omega arith) (omega arith) h.1 g i
and_rows (false ∷ va) (x ∷ a) (false ∷ vb) (y ∷ b) e d c h g = λ i. and_row false x false y h.0 g.0 i ∷ and_rows va a vb b (omega arith) (omega arith) (omega arith) h.1 g.1 i
and_rows [] (x ∷ a) vb b e d c h g = absurd (omega arith)
and_rows (v ∷ va) [] vb b e d c h g = absurd (omega arith)
and_rows va a [] (y ∷ b) e d c h g = absurd (omega arith)
and_rows va a (w ∷ vb) [] e d c h g = absurd (omega arith)
and_rows [] [] (w ∷ vb) (y ∷ b) e d c h g = absurd (omega arith)
and_rows (v ∷ va) (x ∷ a) [] [] e d c h g = absurd (omega arith)

pub or_rows : (va a vb b : List Bool) → length va ≡ length a → length vb ≡ length b → length va ≡ length vb → NullsHold false va a → NullsHold false vb b → along or_of (where_valid va (map truth a)) (where_valid vb (map truth b)) ≡ map Some (where_valid (or_valid va a vb b) (map truth (either a b)))
or_rows [] [] [] [] e d c h g = refl
or_rows (true ∷ va) (x ∷ a) (true ∷ vb) (y ∷ b) e d c h g = λ i. or_row true x true y tt tt i ∷ or_rows va a vb b (omega arith) (omega arith) (omega arith) h g i
or_rows (true ∷ va) (x ∷ a) (false ∷ vb) (y ∷ b) e d c h g = λ i. or_row true x false y tt g.0 i ∷ or_rows va a vb b (omega arith) (omega arith) (omega arith) h g.1 i
or_rows (false ∷ va) (x ∷ a) (true ∷ vb) (y ∷ b) e d c h g = λ i. or_row false x true y h.0 tt i ∷ or_rows va a vb b (omega arith) (omega arith) (omega arith) h.1 g i
or_rows (false ∷ va) (x ∷ a) (false ∷ vb) (y ∷ b) e d c h g = λ i. or_row false x false y h.0 g.0 i ∷ or_rows va a vb b (omega arith) (omega arith) (omega arith) h.1 g.1 i
or_rows [] (x ∷ a) vb b e d c h g = absurd (omega arith)
or_rows (v ∷ va) [] vb b e d c h g = absurd (omega arith)
or_rows va a [] (y ∷ b) e d c h g = absurd (omega arith)
or_rows va a (w ∷ vb) [] e d c h g = absurd (omega arith)
or_rows [] [] (w ∷ vb) (y ∷ b) e d c h g = absurd (omega arith)
or_rows (v ∷ va) (x ∷ a) [] [] e d c h g = absurd (omega arith)

-- ---- a row without a value holds false
held_by : (v x : Bool) (mask xs : List Bool) → Holds false v x → NullsHold false mask xs → NullsHold false (v ∷ mask) (x ∷ xs)
held_by true x mask xs h g = g
held_by false x mask xs h g = (h, g)

pub and_held : (va a vb b : List Bool) → length va ≡ length a → length vb ≡ length b → length va ≡ length vb → NullsHold false va a → NullsHold false vb b → NullsHold false (and_valid va a vb b) (both a b)
and_held [] [] [] [] e d c h g = tt
and_held (true ∷ va) (x ∷ a) (true ∷ vb) (y ∷ b) e d c h g = held_by ((true && true) || ((true && not x) || (true && not y))) (x && y) (and_valid va a vb b) (both a b) (and_holds true x true y tt tt) (and_held va a vb b (omega arith) (omega arith) (omega arith) h g)
and_held (true ∷ va) (x ∷ a) (false ∷ vb) (y ∷ b) e d c h g = held_by ((true && false) || ((true && not x) || (false && not y))) (x && y) (and_valid va a vb b) (both a b) (and_holds true x false y tt g.0) (and_held va a vb b (omega arith) (omega arith) (omega arith) h g.1)
and_held (false ∷ va) (x ∷ a) (true ∷ vb) (y ∷ b) e d c h g = held_by ((false && true) || ((false && not x) || (true && not y))) (x && y) (and_valid va a vb b) (both a b) (and_holds false x true y h.0 tt) (and_held va a vb b (omega arith) (omega arith) (omega arith) h.1 g)
and_held (false ∷ va) (x ∷ a) (false ∷ vb) (y ∷ b) e d c h g = held_by ((false && false) || ((false && not x) || (false && not y))) (x && y) (and_valid va a vb b) (both a b) (and_holds false x false y h.0 g.0) (and_held va a vb b (omega arith) (omega arith) (omega arith) h.1 g.1)
and_held [] (x ∷ a) vb b e d c h g = absurd (omega arith)
and_held (v ∷ va) [] vb b e d c h g = absurd (omega arith)
and_held va a [] (y ∷ b) e d c h g = absurd (omega arith)
and_held va a (w ∷ vb) [] e d c h g = absurd (omega arith)
and_held [] [] (w ∷ vb) (y ∷ b) e d c h g = absurd (omega arith)
and_held (v ∷ va) (x ∷ a) [] [] e d c h g = absurd (omega arith)

pub or_held : (va a vb b : List Bool) → length va ≡ length a → length vb ≡ length b → length va ≡ length vb → NullsHold false va a → NullsHold false vb b → NullsHold false (or_valid va a vb b) (either a b)
or_held [] [] [] [] e d c h g = tt
or_held (true ∷ va) (x ∷ a) (true ∷ vb) (y ∷ b) e d c h g = held_by ((true && true) || (x || y)) (x || y) (or_valid va a vb b) (either a b) (or_holds true x true y tt tt) (or_held va a vb b (omega arith) (omega arith) (omega arith) h g)
or_held (true ∷ va) (x ∷ a) (false ∷ vb) (y ∷ b) e d c h g = held_by ((true && false) || (x || y)) (x || y) (or_valid va a vb b) (either a b) (or_holds true x false y tt g.0) (or_held va a vb b (omega arith) (omega arith) (omega arith) h g.1)
or_held (false ∷ va) (x ∷ a) (true ∷ vb) (y ∷ b) e d c h g = held_by ((false && true) || (x || y)) (x || y) (or_valid va a vb b) (either a b) (or_holds false x true y h.0 tt) (or_held va a vb b (omega arith) (omega arith) (omega arith) h.1 g)
or_held (false ∷ va) (x ∷ a) (false ∷ vb) (y ∷ b) e d c h g = held_by ((false && false) || (x || y)) (x || y) (or_valid va a vb b) (either a b) (or_holds false x false y h.0 g.0) (or_held va a vb b (omega arith) (omega arith) (omega arith) h.1 g.1)
or_held [] (x ∷ a) vb b e d c h g = absurd (omega arith)
or_held (v ∷ va) [] vb b e d c h g = absurd (omega arith)
or_held va a [] (y ∷ b) e d c h g = absurd (omega arith)
or_held va a (w ∷ vb) [] e d c h g = absurd (omega arith)
or_held [] [] (w ∷ vb) (y ∷ b) e d c h g = absurd (omega arith)
or_held (v ∷ va) (x ∷ a) [] [] e d c h g = absurd (omega arith)

-- ---- the opposite
pub not_rows : (va a : List Bool) → length va ≡ length a → map negated (where_valid va (map truth a)) ≡ map Some (where_valid va (map truth (without va a)))
not_rows [] [] e = refl
not_rows (true ∷ va) (x ∷ a) e = λ i. Some (truth (not x)) ∷ not_rows va a (omega arith) i
not_rows (false ∷ va) (x ∷ a) e = λ i. Some null ∷ not_rows va a (omega arith) i
not_rows [] (x ∷ a) e = absurd (omega arith)
not_rows (v ∷ va) [] e = absurd (omega arith)

pub not_held : (va a : List Bool) → NullsHold false va (without va a)
not_held [] a = tt
not_held (true ∷ va) [] = tt
not_held (false ∷ va) [] = tt
not_held (true ∷ va) (x ∷ a) = not_held va a
not_held (false ∷ va) (x ∷ a) = (refl, not_held va a)

-- ---- as many rows
pub either_len : (xs ys : List Bool) → length ys ≡ length xs → length (either xs ys) ≡ length xs
either_len [] ys e = refl
either_len (x ∷ xs) [] e = absurd (omega arith)
either_len (x ∷ xs) (y ∷ ys) e = omega (arith, either_len xs ys (omega arith))

pub without_len : (xs ys : List Bool) → length ys ≡ length xs → length (without xs ys) ≡ length xs
without_len [] ys e = refl
without_len (x ∷ xs) [] e = absurd (omega arith)
without_len (x ∷ xs) (y ∷ ys) e = omega (arith, without_len xs ys (omega arith))

pub and_rows_again : (va a vb b : List Bool) → length va ≡ length a → length vb ≡ length b → length va ≡ length vb → NullsHold false va a → NullsHold false vb b → map Some (where_valid (and_valid va a vb b) (map truth (both a b))) ≡ along and_of (where_valid va (map truth a)) (where_valid vb (map truth b))
and_rows_again va a vb b e d c h g = sym (and_rows va a vb b e d c h g)

pub or_rows_again : (va a vb b : List Bool) → length va ≡ length a → length vb ≡ length b → length va ≡ length vb → NullsHold false va a → NullsHold false vb b → map Some (where_valid (or_valid va a vb b) (map truth (either a b))) ≡ along or_of (where_valid va (map truth a)) (where_valid vb (map truth b))
or_rows_again va a vb b e d c h g = sym (or_rows va a vb b e d c h g)

-- ---- null tests
pub full_len : (n : ℕ) → length (replicate n true) ≡ n
full_len zero = refl
full_len (suc n) = omega (arith, full_len n)

pub full_held : (n : ℕ) (bits : List Bool) → NullsHold false (replicate n true) bits
full_held zero bits = tt
full_held (suc n) [] = tt
full_held (suc n) (bit ∷ bits) = full_held n bits

null_here : (v : Datum) → Some (truth (not (is_value v))) ≡ null_test_of v
null_here null = refl
null_here (truth b) = refl
null_here (number z) = refl
null_here (text t) = refl
null_here (structure vs) = refl

value_here : (v : Datum) → Some (truth (is_value v)) ≡ value_test_of v
value_here null = refl
value_here (truth b) = refl
value_here (number z) = refl
value_here (text t) = refl
value_here (structure vs) = refl

null_all : (vs : List Datum) → map Some (where_valid (replicate (length (map is_value vs)) true) (map truth (without (replicate (length (map is_value vs)) true) (map is_value vs)))) ≡ map null_test_of vs
null_all [] = refl
null_all (v ∷ vs) = λ i. null_here v i ∷ null_all vs i

value_all : (vs : List Datum) → map Some (where_valid (replicate (length (map is_value vs)) true) (map truth (map is_value vs))) ≡ map value_test_of vs
value_all [] = refl
value_all (v ∷ vs) = λ i. value_here v i ∷ value_all vs i

pub null_rows : (mask : List Bool) (vs : List Datum) → map is_value vs ≡ mask → map Some (where_valid (replicate (length mask) true) (map truth (without (replicate (length mask) true) mask))) ≡ map null_test_of vs
null_rows mask vs e =
    let P : List Bool → Type 0 = λ m. map Some (where_valid (replicate (length m) true) (map truth (without (replicate (length m) true) m))) ≡ map null_test_of vs in
    subst P e (null_all vs)

pub value_rows : (mask : List Bool) (vs : List Datum) → map is_value vs ≡ mask → map Some (where_valid (replicate (length mask) true) (map truth mask)) ≡ map value_test_of vs
value_rows mask vs e =
    let P : List Bool → Type 0 = λ m. map Some (where_valid (replicate (length m) true) (map truth m)) ≡ map value_test_of vs in
    subst P e (value_all vs)

pub not_rows_again : (va a : List Bool) → length va ≡ length a → map Some (where_valid va (map truth (without va a))) ≡ map negated (where_valid va (map truth a))
not_rows_again va a e = sym (not_rows va a e)

-- ---- one truth value, or none, at each row
pub truths_same : (rows : ℕ) (valid bit : Bool) → where_valid (replicate rows valid) (map truth (replicate rows bit)) ≡ replicate rows (cond valid (truth bit) null)
truths_same zero valid bit = refl
truths_same (suc rows) valid bit = ap (λ (vs : List Datum). cond valid (truth bit) null ∷ vs) (truths_same rows valid bit)

pub truths_same_held : (rows : ℕ) (valid bit : Bool) → Holds false valid bit → NullsHold false (replicate rows valid) (replicate rows bit)
truths_same_held zero valid bit h = tt
truths_same_held (suc rows) true bit h = truths_same_held rows true bit h
truths_same_held (suc rows) false bit h = (h, truths_same_held rows false bit h)

-- as many rows as truth values
pub truths_count : (mask bits : List Bool) → length mask ≡ length bits → length (where_valid mask (map truth bits)) ≡ length mask
truths_count [] [] e = refl
truths_count (bit ∷ mask) (b ∷ bits) e = omega (arith, truths_count mask bits (omega arith))
truths_count [] (b ∷ bits) e = absurd (omega arith)
truths_count (bit ∷ mask) [] e = absurd (omega arith)
