-- Kept columns of which the first are indexed.
use Rattle.std.proofs.Common.{◌≡◌, ℕ, zero, suc, ◌-◌, ◌<◌, ◌≤◌, ◌==◌, Bool, true, false, cond, List, [], ◌∷◌, ◌++◌, map, take, drop, Option, Some, None, Result, Ok, Err, ⊎_elim, length, get_or, refl, sym, ap, ◌∙◌, subst, arith}
use Rattle.std.specs.Prelude.{IsSomeAnd, OnErr, if◌then◌else◌}
use Rattle.std.specs.List.{slice_get}
use Rattle.std.proofs.Math.ListN.{length-drop}
use Rattle.std.proofs.lemmas.Bool.{cases_eq}
use Rattle.std.proofs.lemmas.Option.{slice_get_within}
use Rattle.vx_plan.specs.Refs.{number_of}
use Rattle.vx_steps.specs.declared.kept.KeptValue.{KeptValue}
use Rattle.vx_steps.specs.declared.places.PlaceTable.{PlaceTable}
use Rattle.vx_steps.specs.KeptData.{Kept}
use Rattle.vx_steps.specs.Kept.{kept_at, kept_data, AreIndexed, IsPlace}
use Rattle.vx_steps.specs.Places.{place_in, KeepsPlaces}
use Rattle.vx_steps.proofs.Keeping.{step_new, kept_new, kept_old, got_old, place_old, is_place_other, places_more, same_got}

pub take_none : {X : Type 0} (xs : List X) → take zero xs ≡ []
take_none [] = refl
take_none (x ∷ xs) = refl

pub take_all : {X : Type 0} (xs : List X) (i : ℕ) → length xs ≤ i → take i xs ≡ xs
take_all [] zero h = refl
take_all [] (suc i) h = refl
take_all (x ∷ xs) zero h = absurd (omega arith)
take_all (x ∷ xs) (suc i) h = ap (λ ys. x ∷ ys) (take_all xs i (omega arith))

take_drop : {X : Type 0} (xs : List X) (i : ℕ) → take i xs ++ drop i xs ≡ xs
take_drop [] zero = refl
take_drop [] (suc i) = refl
take_drop (x ∷ xs) zero = refl
take_drop (x ∷ xs) (suc i) = ap (λ ys. x ∷ ys) (take_drop xs i)

map_drop : (xs : List KeptValue) (i : ℕ) → map kept_data (drop i xs) ≡ drop i (map kept_data xs)
map_drop [] zero = refl
map_drop [] (suc i) = refl
map_drop (x ∷ xs) zero = refl
map_drop (x ∷ xs) (suc i) = map_drop xs i

pub got_data : (xs : List KeptValue) (i : ℕ) (x : KeptValue) → i < length xs → x ≡ get_or xs i x → slice_get (map kept_data xs) i ≡ Some (kept_data x)
got_data [] i x h is = absurd (omega arith)
got_data (y ∷ xs) zero x h is = ap (λ (v : KeptValue). Some (kept_data v)) (sym is)
got_data (y ∷ xs) (suc i) x h is = got_data xs i x (omega arith) is

pub first_at : (xs : List KeptValue) (i : ℕ) (x : KeptValue) (n : ℕ) → i < length xs → x ≡ get_or xs i x → (number_of x.node) ≡ n → kept_at (map kept_data (take i xs)) n ≡ None → Some x.column ≡ kept_at (map kept_data xs) n
first_at [] i x n h is same none = absurd (omega arith)
first_at (y ∷ xs) zero x n h is same none =
    let e : ((number_of x.node) == n) ≡ true = grind arith in
    sym (ap (λ (v : KeptValue). kept_at (kept_data v ∷ map kept_data xs) n) (sym is) ∙ ap (λ (b : Bool). if b then Some x.column else kept_at (map kept_data xs) n) e)
first_at (y ∷ xs) (suc i) x n h is same none = sym (step_new ((number_of y.node) == n) y.column (kept_at (map kept_data (take i xs)) n) (kept_at (map kept_data xs) n) (Some x.column) (λ e. sym (first_at xs i x n (omega arith) is same e)) none)

pub not_at : (xs : List KeptValue) (i : ℕ) (x : KeptValue) (n : ℕ) → i < length xs → x ≡ get_or xs i x → ((number_of x.node) ≡ n → ⊥) → kept_at (map kept_data (take i xs)) n ≡ None → kept_at (map kept_data (take (suc i) xs)) n ≡ None
not_at [] i x n h is apart none = absurd (omega arith)
not_at (y ∷ xs) zero x n h is apart none =
    let e : ((number_of x.node) == n) ≡ false = grind arith in
    let P : List KeptValue → Type 0 = λ ys. kept_at (kept_data y ∷ map kept_data ys) n ≡ None in
    subst P (sym (take_none xs)) (ap (λ (v : KeptValue). kept_at (kept_data v ∷ []) n) (sym is) ∙ ap (λ (b : Bool). if b then Some x.column else None) e)
not_at (y ∷ xs) (suc i) x n h is apart none = step_new ((number_of y.node) == n) y.column (kept_at (map kept_data (take i xs)) n) (kept_at (map kept_data (take (suc i) xs)) n) None (λ e. not_at xs i x n (omega arith) is apart e) none

pub length_data : (xs : List KeptValue) → length (map kept_data xs) ≡ length xs
length_data [] = refl
length_data (x ∷ xs) = ap suc (length_data xs)

-- the first column of a plan is the one that is kept for it
pub first_of : (kept : List Kept) (place n : ℕ) (k : Kept) → slice_get kept place ≡ Some k → k.node ≡ n → kept_at (take place kept) n ≡ None → kept_at kept n ≡ Some k.column
first_of [] place n k got same none = absurd cc
first_of (x ∷ kept) zero n k got same none =
    let is : x ≡ k = cc in
    let e : (k.node == n) ≡ true = grind arith in
    ap (λ (v : Kept). kept_at (v ∷ kept) n) is ∙ ap (λ (b : Bool). if b then Some k.column else kept_at kept n) e
first_of (x ∷ kept) (suc place) n k got same none = step_new (x.node == n) x.column (kept_at (take place kept) n) (kept_at kept n) (Some k.column) (λ e. first_of kept place n k got same e) none

-- the column at the place of a plan
placed_at : (xs : List KeptValue) (indexed place n : ℕ) → IsPlace (take indexed (map kept_data xs)) n (Some place) → (k : Kept) × ((slice_get (map kept_data xs) place ≡ Some k) × ((k.node ≡ n) × (kept_at (map kept_data xs) n ≡ Some k.column)))
placed_at xs indexed place n placed = by (slice_get (take indexed (map kept_data xs)) place) refl placed
  where
    by : (o : Option Kept) → slice_get (take indexed (map kept_data xs)) place ≡ o → IsSomeAnd o (λ k. (k.node ≡ n) × (kept_at (take place (take indexed (map kept_data xs))) n ≡ None)) →
        (k : Kept) × ((slice_get (map kept_data xs) place ≡ Some k) × ((k.node ≡ n) × (kept_at (map kept_data xs) n ≡ Some k.column)))
    by None e h = absurd h
    by (Some k) e h =
        let first = take indexed (map kept_data xs) in
        let rest = drop indexed (map kept_data xs) in
        let whole = take_drop (map kept_data xs) indexed in
        let G : List Kept → Type 0 = λ ks. slice_get ks place ≡ Some k in
        let K : List Kept → Type 0 = λ ks. kept_at ks n ≡ Some k.column in
        (k, (subst G whole (got_old first rest place k e), (h.0, subst K whole (kept_old first rest n k.column (first_of first place n k e h.0 h.1)))))

placed_is : (xs : List KeptValue) (place : ℕ) (k : Kept) (x : KeptValue) → x ≡ get_or xs place x → slice_get (map kept_data xs) place ≡ Some k → k ≡ kept_data x
placed_is xs place k x is got =
    let count = length_data xs in
    let less = slice_get_within (map kept_data xs) place k got in
    let inside : place < length xs = omega arith in
    same_got (slice_get (map kept_data xs) place) k (kept_data x) got (got_data xs place x inside is)

pub found_place : (xs : List KeptValue) (indexed place n : ℕ) (x : KeptValue) → x ≡ get_or xs place x → IsPlace (take indexed (map kept_data xs)) n (Some place) → Some x.column ≡ kept_at (map kept_data xs) n
found_place xs indexed place n x is placed =
    let at = placed_at xs indexed place n placed in
    sym (at.1.1.1 ∙ ap (λ (v : Kept). Some v.column) (placed_is xs place at.0 x is at.1.0))

pub placed_node : (xs : List KeptValue) (indexed place n : ℕ) (x : KeptValue) → x ≡ get_or xs place x → IsPlace (take indexed (map kept_data xs)) n (Some place) → number_of x.node ≡ n
placed_node xs indexed place n x is placed =
    let at = placed_at xs indexed place n placed in
    sym (ap (λ (v : Kept). v.node) (placed_is xs place at.0 x is at.1.0)) ∙ at.1.1.0

pub found_rest : (xs : List KeptValue) (indexed n : ℕ) → kept_at (take indexed (map kept_data xs)) n ≡ None → kept_at (map kept_data (drop indexed xs)) n ≡ kept_at (map kept_data xs) n
found_rest xs indexed n none = ap (λ (ks : List Kept). kept_at ks n) (map_drop xs indexed) ∙ (sym (kept_new (take indexed (map kept_data xs)) (drop indexed (map kept_data xs)) n none) ∙ ap (λ (ks : List Kept). kept_at ks n) (take_drop (map kept_data xs) indexed))

pub rest_whole : {X : Type 0} (xs : List X) (i : ℕ) → take (length xs - i) (drop i xs) ≡ drop i xs
rest_whole xs i = take_all (drop i xs) (length xs - i) (omega (arith, length-drop i xs))

pub all_taken : (xs : List KeptValue) (i : ℕ) → length xs ≤ i → take i (map kept_data xs) ≡ map kept_data xs
all_taken xs i all =
    let count = length_data xs in
    take_all (map kept_data xs) i (omega arith)

pub take_one : {X : Type 0} (xs : List X) (i : ℕ) (x : X) → slice_get xs i ≡ Some x → take (suc i) xs ≡ take i xs ++ x ∷ []
take_one [] i x h = absurd cc
take_one (y ∷ xs) zero x h =
    let e : y ≡ x = cc in
    ap (λ ys. y ∷ ys) (take_none xs) ∙ ap (λ z. z ∷ []) e
take_one (y ∷ xs) (suc i) x h = ap (λ ys. y ∷ ys) (take_one xs i x h)

length_taken : {X : Type 0} (xs : List X) (i : ℕ) → i < length xs → length (take i xs) ≡ i
length_taken [] i h = absurd (omega arith)
length_taken (x ∷ xs) zero h = refl
length_taken (x ∷ xs) (suc i) h = ap suc (length_taken xs i (omega arith))

same_places : (places : PlaceTable) (kept : List Kept) (k : Kept) → (place_in places k.node ≡ None → ⊥) → ((n : ℕ) → IsPlace kept n (place_in places n)) → (n : ℕ) → (o : Option ℕ) → place_in places n ≡ o → IsPlace kept n o → IsPlace (kept ++ k ∷ []) n o
same_places places kept k present placed n (Some place) e h = place_old kept (k ∷ []) n (slice_get kept place) place refl h
same_places places kept k present placed n None e h =
    ⊎_elim (λ (same : k.node ≡ n). absurd (present (ap (place_in places) same ∙ e))) (λ (apart : k.node ≡ n → ⊥). let f : (k.node == n) ≡ false = grind arith in is_place_other kept k.node k.column n f None h) (cases_eq k.node n)

pub index_same : (places : PlaceTable) (xs : List KeptValue) (i : ℕ) (x : KeptValue) → i < length xs → x ≡ get_or xs i x → (place_in places (number_of x.node) ≡ None → ⊥) → ((n : ℕ) → IsPlace (take i (map kept_data xs)) n (place_in places n)) → (n : ℕ) → IsPlace (take (suc i) (map kept_data xs)) n (place_in places n)
index_same places xs i x inside is present placed n =
    let P : List Kept → Type 0 = λ ks. IsPlace ks n (place_in places n) in
    subst P (sym (take_one (map kept_data xs) i (kept_data x) (got_data xs i x inside is))) (same_places places (take i (map kept_data xs)) (kept_data x) present placed n (place_in places n) refl (placed n))

pub index_more : (old new : PlaceTable) (xs : List KeptValue) (i : ℕ) (x : KeptValue) → i < length xs → x ≡ get_or xs i x → place_in old (number_of x.node) ≡ None → ((n : ℕ) → IsPlace (take i (map kept_data xs)) n (place_in old n)) → ((n : ℕ) → place_in new n ≡ cond ((number_of x.node) == n) (Some i) (place_in old n)) →
    (n : ℕ) → IsPlace (take (suc i) (map kept_data xs)) n (place_in new n)
index_more old new xs i x inside is absent placed put n =
    let P : List Kept → Type 0 = λ ks. IsPlace ks n (place_in new n) in
    let N : Option ℕ → Type 0 = λ o. IsPlace (take i (map kept_data xs)) (number_of x.node) o in
    let count = length_data xs in
    let taken : length (take i (map kept_data xs)) ≡ i = length_taken (map kept_data xs) i (omega arith) in
    subst P (sym (take_one (map kept_data xs) i (kept_data x) (got_data xs i x inside is))) (places_more old new (take i (map kept_data xs)) (number_of x.node) x.column placed (subst N absent (placed (number_of x.node))) (λ m. put m ∙ ap (λ (c : ℕ). cond ((number_of x.node) == m) (Some c) (place_in old m)) (sym taken)) n)

pub on_err : {A E : Type 0} (r : Result A E) (P : Type 0) → P → OnErr r P
on_err (Ok a) P p = tt
on_err (Err e) P p = p

none_taken : (kept : List Kept) (n : ℕ) → kept_at (take zero kept) n ≡ None
none_taken [] n = refl
none_taken (k ∷ kept) n = refl

-- none are indexed yet
pub indexed_none : (places : PlaceTable) (kept : List Kept) → ((n : ℕ) → place_in places n ≡ None) → AreIndexed places 0 kept
indexed_none places kept none = record { inside = omega arith; placed = λ n. subst (IsPlace (take 0 kept) n) (sym (none n)) (none_taken kept n) }

pub places_unchanged : (old new : PlaceTable) (kept : List Kept) → KeepsPlaces old new → ((n : ℕ) → IsPlace kept n (place_in old n)) → (n : ℕ) → IsPlace kept n (place_in new n)
places_unchanged old new kept same placed n =
    let P : Option ℕ → Type 0 = IsPlace kept n in
    subst P (sym (same n)) (placed n)
