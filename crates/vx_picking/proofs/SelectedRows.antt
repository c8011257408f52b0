-- The selected rows of a range, and the values at them.
use Rattle.std.proofs.Common.{◌≡◌, ℕ, zero, suc, ◌+◌, ◌-◌, ◌<◌, ◌≤◌, Bool, true, false, List, [], ◌∷◌, ◌++◌, Option, Some, length, map, take, drop, replicate, refl, sym, ap, ◌∙◌, arith, drop-cons, get_or}
use Rattle.std.specs.Prelude.{slice_range, MatchOption, None}
use Rattle.std.specs.Option.{is_some}
use Rattle.std.specs.List.{slice_get, range_with_len}
use Rattle.std.proofs.lemmas.List.{length-map}
use Rattle.std.proofs.lemmas.Option.{get_or_from_slice_get, slice_get_within}
use Rattle.vx_masks.proofs.Places.{true_count-cons, false_first}
use Rattle.vx_base.specs.Data.{Datum}
use Rattle.vx_base.specs.Masks.{chosen, true_count}
use Rattle.vx_masks.specs.Masks.{IsFirstTrue, NoneTrue}
use Rattle.vx_picking.specs.Rows.{rows_of, selects_some, SelectsNone, AreOf}

-- ---- counts of truth values

pub true_first : (bits : List Bool) → true_count (true ∷ bits) ≡ suc (true_count bits)
true_first bits = omega (arith, true_count-cons true bits)

-- ---- selected rows

pub rows_none : (start : ℕ) (bits : List Bool) → SelectsNone bits → rows_of start bits ≡ []
rows_none start [] none = refl
rows_none start (true ∷ bits) none = absurd (none 0 refl)
rows_none start (false ∷ bits) none = rows_none (start + 1) bits (λ place at. none (suc place) at)

pub row_bit : (start : ℕ) (bits : List Bool) (place row : ℕ) → slice_get (rows_of start bits) place ≡ Some row → (bit : ℕ) × (slice_get bits bit ≡ Some true) × (row ≡ start + bit)
row_bit start [] place row at = absurd cc
row_bit start (true ∷ bits) zero row at =
    let same : start ≡ row = cc in
    (0, refl, omega arith)
row_bit start (true ∷ bits) (suc place) row at =
    let b = row_bit (start + 1) bits place row at in
    (suc b.0, b.1, omega (arith, b.2))
row_bit start (false ∷ bits) place row at =
    let b = row_bit (start + 1) bits place row at in
    (suc b.0, b.1, omega (arith, b.2))

pub rows_append : (start : ℕ) (xs ys : List Bool) → rows_of start (xs ++ ys) ≡ rows_of start xs ++ rows_of (start + length xs) ys
rows_append start [] ys = ap (λ (k : ℕ). rows_of k ys) (omega arith)
rows_append start (true ∷ xs) ys =
    let e : start + 1 + length xs ≡ start + length (true ∷ xs) = omega arith in
    let h = rows_append (start + 1) xs ys in
    ap (λ (rows : List ℕ). start ∷ rows) h ∙ ap (λ (k : ℕ). start ∷ (rows_of (start + 1) xs ++ rows_of k ys)) e
rows_append start (false ∷ xs) ys =
    let e : start + 1 + length xs ≡ start + length (false ∷ xs) = omega arith in
    rows_append (start + 1) xs ys ∙ ap (λ (k : ℕ). rows_of (start + 1) xs ++ rows_of k ys) e

pub rows_same : (f g : ℕ → Option Datum) (a b : ℕ) (bits : List Bool) → ((k : ℕ) → k < length bits → f (a + k) ≡ g (b + k)) → map f (rows_of a bits) ≡ map g (rows_of b bits)
rows_same f g a b [] same = refl
rows_same f g a b (bit ∷ bits) same =
    step bit (let p : f (a + 0) ≡ g (b + 0) = same 0 (omega arith) in let x : a + 0 ≡ a = omega arith in let y : b + 0 ≡ b = omega arith in sym (ap f x) ∙ p ∙ ap g y)
    (rows_same f g (a + 1) (b + 1) bits (λ k h.
    let p : f (a + suc k) ≡ g (b + suc k) = same (suc k) (omega arith) in
    let x : a + 1 + k ≡ a + suc k = omega arith in
    let y : b + suc k ≡ b + 1 + k = omega arith in
    ap f x ∙ p ∙ ap g y))
  where
    step : (c : Bool) → f a ≡ g b → map f (rows_of (a + 1) bits) ≡ map g (rows_of (b + 1) bits) → map f (rows_of a (c ∷ bits)) ≡ map g (rows_of b (c ∷ bits))
    step true p q = cc
    step false p q = q

chosen_from : (f : ℕ → Option Datum) (bits : List Bool) (start : ℕ) (rest : List Datum) → length bits ≤ length rest → ((k : ℕ) → f (start + k) ≡ slice_get rest k) → map f (rows_of start bits) ≡ map Some (chosen bits (take (length bits) rest))
chosen_from f [] start rest long same = refl
chosen_from f (bit ∷ bits) start [] long same = absurd (omega arith)
chosen_from f (bit ∷ bits) start (x ∷ rest) long same =
    step bit (let p : f (start + 0) ≡ Some x = same 0 in let e : start ≡ start + 0 = omega arith in ap f e ∙ p)
    (chosen_from f bits (start + 1) rest (omega arith) (λ k.
    let p : f (start + suc k) ≡ slice_get rest k = same (suc k) in
    let e : start + 1 + k ≡ start + suc k = omega arith in
    ap f e ∙ p))
  where
    step : (c : Bool) → f start ≡ Some x → map f (rows_of (start + 1) bits) ≡ map Some (chosen bits (take (length bits) rest)) → map f (rows_of start (c ∷ bits)) ≡ map Some (chosen (c ∷ bits) (x ∷ take (length bits) rest))
    step true p q = cc
    step false p q = q

pub dropped_at : {X : Type 0} (xs : List X) (n place : ℕ) → slice_get xs (n + place) ≡ slice_get (drop n xs) place
dropped_at [] zero place = refl
dropped_at [] (suc n) place = refl
dropped_at (y ∷ xs) zero place = ap (slice_get (y ∷ xs)) (omega arith)
dropped_at (y ∷ xs) (suc n) place =
    let e : suc n + place ≡ suc (n + place) = omega arith in
    ap (slice_get (y ∷ xs)) e ∙ dropped_at xs n place

length_dropped : {X : Type 0} (xs : List X) (n : ℕ) → length (drop n xs) ≡ length xs - n
length_dropped [] zero = refl
length_dropped [] (suc n) = omega arith
length_dropped (y ∷ xs) zero = omega arith
length_dropped (y ∷ xs) (suc n) = omega (arith, length_dropped xs n)

pub picked_rows : (values : List Datum) (start : ℕ) (bits : List Bool) → start + length bits ≤ length values → AreOf (slice_get values) (rows_of start bits) (chosen bits (slice_range values start (start + length bits)))
picked_rows values start bits inside =
    let count : start + length bits - start ≡ length bits = omega arith in
    rw count (chosen_from (slice_get values) bits start (drop start values) (omega (arith, length_dropped values start)) (λ k. dropped_at values start k))

-- ---- values at rows

pub value_row : (f : ℕ → Option Datum) (rows : List ℕ) (values : List Datum) → AreOf f rows values → (place : ℕ) (v : Datum) → slice_get values place ≡ Some v → (row : ℕ) × (slice_get rows place ≡ Some row) × (f row ≡ Some v)
value_row f [] [] are place v at = absurd cc
value_row f [] (x ∷ values) are place v at = absurd cc
value_row f (row ∷ rows) [] are place v at = absurd cc
value_row f (row ∷ rows) (x ∷ values) are zero v at =
    let first : f row ≡ Some x = cc in
    (row, refl, first ∙ at)
value_row f (row ∷ rows) (x ∷ values) are (suc place) v at =
    let rest : AreOf f rows values = cc in
    value_row f rows values rest place v at

pub then_rows : (f g : ℕ → Option Datum) (s : Datum → Option Datum) → ((row : ℕ) (v : Datum) → f row ≡ Some v → g row ≡ s v) → (rows : List ℕ) (values out : List Datum) → AreOf f rows values → map s values ≡ map Some out → AreOf g rows out
then_rows f g s step [] [] out are next = next
then_rows f g s step [] (x ∷ values) out are next = absurd cc
then_rows f g s step (row ∷ rows) [] out are next = absurd cc
then_rows f g s step (row ∷ rows) (x ∷ values) [] are next = absurd cc
then_rows f g s step (row ∷ rows) (x ∷ values) (y ∷ out) are next =
    let first : f row ≡ Some x = cc in
    let rest : AreOf f rows values = cc in
    let here : s x ≡ Some y = cc in
    let more : map s values ≡ map Some out = cc in
    let now : g row ≡ Some y = step row x first ∙ here in
    let after : map g rows ≡ map Some out = then_rows f g s step rows values out rest more in
    cc

-- ---- how many there are

pub rows_count : (start : ℕ) (bits : List Bool) → length (rows_of start bits) ≡ true_count bits
rows_count start [] = refl
rows_count start (true ∷ bits) = omega (arith, rows_count (start + 1) bits, true_first bits)
rows_count start (false ∷ bits) = rows_count (start + 1) bits ∙ sym (false_first bits)

pub count_of_rows : (f : ℕ → Option Datum) (rows : List ℕ) (values : List Datum) → AreOf f rows values → length values ≡ length rows
count_of_rows f rows values are = sym (length-map values Some) ∙ sym (ap length are) ∙ length-map rows f

pub count_none : (bits : List Bool) → SelectsNone bits → true_count bits ≡ 0
count_none bits none = sym (rows_count 0 bits) ∙ ap length (rows_none 0 bits none)

pub rows_all : (start count : ℕ) → rows_of start (replicate count true) ≡ range_with_len start count
rows_all start zero = refl
rows_all start (suc count) = ap (λ (rows : List ℕ). start ∷ rows) (rows_all (start + 1) count)

pub map_same : {X Y : Type 0} (f g : X → Y) → ((x : X) → f x ≡ g x) → (xs : List X) → map f xs ≡ map g xs
map_same f g same [] = refl
map_same f g same (x ∷ xs) =
    let first : f x ≡ g x = same x in
    let rest : map f xs ≡ map g xs = map_same f g same xs in
    cc

-- what is chosen of as many values is as many as are true
pub chosen_count : {X : Type 0} (bits : List Bool) (xs : List X) → length bits ≡ length xs → length (chosen bits xs) ≡ true_count bits
chosen_count [] [] e = refl
chosen_count [] (x ∷ xs) e = absurd (omega arith)
chosen_count (bit ∷ bits) [] e = absurd (omega arith)
chosen_count (true ∷ bits) (x ∷ xs) e = omega (arith, chosen_count bits xs (omega arith), true_first bits)
chosen_count (false ∷ bits) (x ∷ xs) e = chosen_count bits xs (omega arith) ∙ sym (false_first bits)

pub length_taken : {X : Type 0} (xs : List X) (n : ℕ) → n ≤ length xs → length (take n xs) ≡ n
length_taken [] zero h = refl
length_taken [] (suc n) h = absurd (omega arith)
length_taken (x ∷ xs) zero h = refl
length_taken (x ∷ xs) (suc n) h = omega (arith, length_taken xs n (omega arith))

-- the same of a range of values
pub picked_count : {X : Type 0} (values : List X) (start : ℕ) (bits : List Bool) → start + length bits ≤ length values → length (chosen bits (slice_range values start (start + length bits))) ≡ true_count bits
picked_count {X} values start bits inside =
    let count : start + length bits - start ≡ length bits = omega arith in
    let long : length (drop start values) ≡ length values - start = length_dropped values start in
    let same : length (slice_range values start (start + length bits)) ≡ length bits = rw count (length_taken (drop start values) (length bits) (omega arith)) in
    chosen_count bits (slice_range values start (start + length bits)) (sym same)

pub drop_at : {X : Type 0} (xs : List X) (i : ℕ) (x : X) → slice_get xs i ≡ Some x → drop i xs ≡ x ∷ drop (i + 1) xs
drop_at xs i x at =
    let p : drop i xs ≡ get_or xs i x ∷ drop (suc i) xs = drop-cons xs i x (slice_get_within xs i x at) in
    let q : get_or xs i x ≡ x = get_or_from_slice_get xs i x x at in
    let r : suc i ≡ i + 1 = omega arith in
    cc

-- ---- whether some row is selected

none_first : (mask : List Bool) → NoneTrue mask 0 (length mask) → false ≡ selects_some mask
none_first [] none = refl
none_first (true ∷ mask) none = absurd (let e : Some true ≡ Some false = none 0 (omega arith) (omega arith) in cc)
none_first (false ∷ mask) none = none_first mask (λ row low lt. none (suc row) (omega arith) (omega arith))

one_first : (mask : List Bool) (row : ℕ) → slice_get mask row ≡ Some true → true ≡ selects_some mask
one_first [] row at = absurd cc
one_first (true ∷ mask) row at = refl
one_first (false ∷ mask) zero at = absurd cc
one_first (false ∷ mask) (suc row) at = one_first mask row at

pub some_first : (mask : List Bool) (o : Option ℕ) → MatchOption o (NoneTrue mask 0 (length mask)) (λ row. IsFirstTrue mask row) → is_some o ≡ selects_some mask
some_first mask None none = none_first mask none
some_first mask (Some row) first = one_first mask row first.here

pub none_rows : (start : ℕ) (bits : List Bool) → selects_some bits ≡ false → rows_of start bits ≡ []
none_rows start [] none = refl
none_rows start (true ∷ bits) none = absurd cc
none_rows start (false ∷ bits) none = none_rows (start + 1) bits none

pub none_count : (bits : List Bool) → selects_some bits ≡ false → true_count bits ≡ 0
none_count bits none = sym (rows_count 0 bits) ∙ ap length (none_rows 0 bits none)

pub some_long : (bits : List Bool) → selects_some bits ≡ true → 0 < length bits
some_long [] some = absurd cc
some_long (bit ∷ bits) some = omega arith
