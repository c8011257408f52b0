-- Rows that an expression is applied to.
use Rattle.std.proofs.Common.{◌≡◌, ℕ, zero, suc, ◌<◌, ◌≤◌, ◌^◌, pos, negsuc, true, List, [], ◌∷◌, length, map, take, Option, Some, None, refl, sym, ap, subst, ◌∙◌, arith}
use Rattle.std.specs.Prelude.{IsTrue, IfSome, is_some, slice_get}
use Rattle.std.specs.List.{AllByRecursion, list_all}
use Rattle.std.proofs.lemmas.Int.{ints}
use Rattle.std.proofs.lemmas.List.{length-map}
use Rattle.vx_base.specs.Data.{DataType, Datum, null, truth, number, text, structure}
use Rattle.vx_base.specs.Fits.{Fits}
use Rattle.vx_expr.specs.Bound.{Bound}
use Rattle.vx_expr.specs.Meaning.{meaning}
use Rattle.vx_expr.specs.Mentions.{uses_root}
use Rattle.vx_expr.specs.Rows.{along, front, no_bound, number_of_row, at_rows, IsFirstFault, front_at, worth}
use Rattle.vx_expr.specs.Terms.{Term}
use Rattle.vx_expr.specs.Types.{type_of, row_number_type}
use Rattle.vx_expr.proofs.FittingMeaning.{columnar_fits}

-- ---- where the front ends
pub length_along : {A B C : Type 0} (f : A → B → C) (xs : List A) (ys : List B) → length xs ≡ length ys → length (along f xs ys) ≡ length xs
length_along f [] ys e = refl
length_along f (x ∷ xs) [] e = absurd (omega arith)
length_along f (x ∷ xs) (y ∷ ys) e = ap suc (length_along f xs ys (omega arith))

-- a front that is no shorter is all of it
pub front_whole : {A : Type 0} (ms : List (Option A)) → length ms ≤ length (front ms) → map Some (front ms) ≡ ms
front_whole [] h = refl
front_whole (None ∷ ms) h = absurd (omega arith)
front_whole {A = A} (Some x ∷ ms) h = ap (λ (ns : List (Option A)). Some x ∷ ns) (front_whole ms (omega arith))

-- a front that is shorter ends at the first fault
fault_here : {A : Type 0} (ms : List (Option A)) → length (front ms) < length ms → slice_get ms (length (front ms)) ≡ Some None
fault_here [] h = absurd (omega arith)
fault_here (None ∷ ms) h = refl
fault_here (Some x ∷ ms) h = fault_here ms (omega arith)

fault_before : {A : Type 0} (ms : List (Option A)) → list_all is_some (take (length (front ms)) ms) ≡ true
fault_before [] = refl
fault_before (None ∷ ms) = refl
fault_before (Some x ∷ ms) = fault_before ms

pub first_fault : {A : Type 0} (ms : List (Option A)) → length (front ms) < length ms → IsFirstFault ms (length (front ms))
first_fault ms h = record { here = fault_here ms h; before = fault_before ms }

-- ---- numbers of rows
row_below : (v : Datum) → Fits row_number_type v → number_of_row v < 2 ^ 64
row_below null h = absurd h
row_below (truth b) h = absurd h
row_below (number (pos n)) h = omega (arith, ints, h.1)
row_below (number (negsuc n)) h = omega arith
row_below (text bytes) h = absurd h
row_below (structure vs) h = absurd h

-- ---- what is worth at the rows fits
pub front_fits : (t : DataType) (e : Term) (s : DataType) (vs ns : List Datum) → type_of t e ≡ Some s → (IsTrue (uses_root e) → AllByRecursion (Fits t) vs) → AllByRecursion (Fits row_number_type) ns → AllByRecursion (Fits s) (front (at_rows t e vs (map number_of_row ns)))
front_fits t e s [] ns h fit rows = tt
front_fits t e s (v ∷ vs) [] h fit rows = tt
front_fits t e s (v ∷ vs) (n ∷ ns) h fit rows = here (meaning t no_bound e v (number_of_row n)) (at_rows t e vs (map number_of_row ns)) (columnar_fits t e s no_bound v (number_of_row n) h (λ u. (fit u).0) (row_below n rows.0)) (front_fits t e s vs ns h (λ u. (fit u).1) rows.1) where
  here : (m : Option Datum) (ms : List (Option Datum)) → IfSome m (Fits s) → AllByRecursion (Fits s) (front ms) → AllByRecursion (Fits s) (front (m ∷ ms))
  here None ms p q = tt
  here (Some w) ms p q = (p, q)

-- ---- a call of `apply`
-- the front at equal dtypes, expressions, values and numbers
pub front_same : (t s : DataType) (d e : Term) (vs ws : List Datum) (ns ms : List ℕ) (xs : List Datum) → t ≡ s → d ≡ e → vs ≡ ws → ns ≡ ms → xs ≡ front_at t d vs ns → xs ≡ front_at s e ws ms
front_same t s d e vs ws ns ms xs p q r u h = rw (← p, ← q, ← r, ← u) h

-- the rows that are worth something
pub length_worth : (a : Bound) (vs ns : List Datum) → length ns ≡ length vs → length (worth a vs ns) ≡ length vs
length_worth a vs ns e = length_along (meaning a.root no_bound a.term) vs (map number_of_row ns) (omega (arith, length-map ns number_of_row))

pub fault_told : (a : Bound) (vs ns xs : List Datum) (k row : ℕ) → length ns ≡ length vs → xs ≡ front (worth a vs ns) → k ≡ length xs → k < length vs → k ≡ row → IsFirstFault (worth a vs ns) row
fault_told a vs ns xs k row len e count lt same =
    let ends : k ≡ length (front (worth a vs ns)) = count ∙ ap length e in
    let first = first_fault (worth a vs ns) (omega (arith, length_worth a vs ns len)) in
    subst (λ (n : ℕ). IsFirstFault (worth a vs ns) n) (sym ends ∙ same) first

pub whole_told : (a : Bound) (vs ns xs : List Datum) (k : ℕ) → length ns ≡ length vs → xs ≡ front (worth a vs ns) → k ≡ length xs → length vs ≤ k → map Some xs ≡ worth a vs ns
whole_told a vs ns xs k len e count le = rw e (front_whole (worth a vs ns) (omega (arith, length_worth a vs ns len, ap length e)))

-- what is worth at the rows fits, where the root's values fit
pub worth_fit : (a : Bound) (vs ns xs : List Datum) → type_of a.root a.term ≡ Some a.dtype → (IsTrue (uses_root a.term) → AllByRecursion (Fits a.root) vs) → AllByRecursion (Fits row_number_type) ns → xs ≡ front (worth a vs ns) → AllByRecursion (Fits a.dtype) xs
worth_fit a vs ns xs typed fit rows e = rw e (front_fits a.root a.term a.dtype vs ns typed fit rows)

-- all rows
take_whole : (k : ℕ) (xs : List Datum) → k ≡ length xs → take k xs ≡ xs
take_whole zero [] e = refl
take_whole zero (x ∷ xs) e = absurd (omega arith)
take_whole (suc k) [] e = absurd (omega arith)
take_whole (suc k) (x ∷ xs) e = ap (λ (rest : List Datum). x ∷ rest) (take_whole k xs (omega arith))

pub whole_front : (a : Bound) (t : DataType) (e : Term) (k : ℕ) (vs ns xs : List Datum) → t ≡ a.root → e ≡ a.term → k ≡ length vs → length ns ≡ length vs → xs ≡ front_at t e (take k vs) (map number_of_row (take k ns)) → xs ≡ front (worth a vs ns)
whole_front a t e k vs ns xs p q count level here = front_same t a.root e a.term (take k vs) vs (map number_of_row (take k ns)) (map number_of_row ns) xs p q (take_whole k vs count) (ap (map number_of_row) (take_whole k ns (omega (arith, count, level)))) here
