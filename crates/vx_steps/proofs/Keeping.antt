-- Kept columns, and one more.
use Rattle.std.proofs.Common.{◌≡◌, ℕ, zero, suc, ◌==◌, Bool, true, false, cond, List, [], ◌∷◌, ◌++◌, take, Option, Some, None, length, refl, sym, ap, ◌∙◌, subst, arith}
use Rattle.std.specs.Prelude.{IsSomeAnd, if◌then◌else◌}
use Rattle.std.specs.List.{slice_get}
use Rattle.vx_base.specs.Columns.{ColumnData}
use Rattle.vx_steps.specs.declared.places.PlaceTable.{PlaceTable}
use Rattle.vx_steps.specs.KeptData.{Kept}
use Rattle.vx_steps.specs.Kept.{kept_at, IsPlace}
use Rattle.vx_steps.specs.Places.{place_in}

pub step_new : (b : Bool) (x : ColumnData) (old more new : Option ColumnData) → (old ≡ None → more ≡ new) → (if b then Some x else old) ≡ None → (if b then Some x else more) ≡ new
step_new true x old more new f h = cc
step_new false x old more new f h = f h

step_old : (b : Bool) (x y : ColumnData) (old more : Option ColumnData) → (old ≡ Some y → more ≡ Some y) → (if b then Some x else old) ≡ Some y → (if b then Some x else more) ≡ Some y
step_old true x y old more f h = h
step_old false x y old more f h = f h

pub kept_new : (kept more : List Kept) (n : ℕ) → kept_at kept n ≡ None → kept_at (kept ++ more) n ≡ kept_at more n
kept_new [] more n h = refl
kept_new (k ∷ kept) more n h = step_new (k.node == n) k.column (kept_at kept n) (kept_at (kept ++ more) n) (kept_at more n) (λ e. kept_new kept more n e) h

pub kept_old : (kept more : List Kept) (n : ℕ) (x : ColumnData) → kept_at kept n ≡ Some x → kept_at (kept ++ more) n ≡ Some x
kept_old [] more n x h = cc
kept_old (k ∷ kept) more n x h = step_old (k.node == n) k.column x (kept_at kept n) (kept_at (kept ++ more) n) (λ e. kept_old kept more n x e) h

pub got_old : {X : Type 0} (xs ys : List X) (i : ℕ) (x : X) → slice_get xs i ≡ Some x → slice_get (xs ++ ys) i ≡ Some x
got_old [] ys i x h = cc
got_old (z ∷ xs) ys zero x h = h
got_old (z ∷ xs) ys (suc i) x h = got_old xs ys i x h

pub got_new : {X : Type 0} (xs : List X) (x : X) → slice_get (xs ++ x ∷ []) (length xs) ≡ Some x
got_new [] x = refl
got_new (z ∷ xs) x = got_new xs x

take_old : (kept more : List Kept) (place : ℕ) (k : Kept) → slice_get kept place ≡ Some k → take place (kept ++ more) ≡ take place kept
take_old [] more place k h = absurd cc
take_old (z ∷ kept) more zero k h = refl
take_old (z ∷ kept) more (suc place) k h = ap (λ ks. z ∷ ks) (take_old kept more place k h)

take_length : (kept : List Kept) (k : Kept) → take (length kept) (kept ++ k ∷ []) ≡ kept
take_length [] k = refl
take_length (z ∷ kept) k = ap (λ ks. z ∷ ks) (take_length kept k)

pub place_old : (kept more : List Kept) (n : ℕ) (o : Option Kept) (place : ℕ) → slice_get kept place ≡ o → IsSomeAnd o (λ k. (k.node ≡ n) × (kept_at (take place kept) n ≡ None)) →
    IsSomeAnd (slice_get (kept ++ more) place) (λ k. (k.node ≡ n) × (kept_at (take place (kept ++ more)) n ≡ None))
place_old kept more n None place e h = absurd h
place_old kept more n (Some k) place e h =
    let N : List Kept → Type 0 = λ ks. kept_at ks n ≡ None in
    let P : Option Kept → Type 0 = λ o. IsSomeAnd o (λ k. (k.node ≡ n) × N (take place (kept ++ more))) in
    subst P (sym (got_old kept more place k e)) (h.0, subst N (sym (take_old kept more place k e)) h.1)

pub is_place_other : (kept : List Kept) (node : ℕ) (column : ColumnData) (n : ℕ) → (node == n) ≡ false → (o : Option ℕ) → IsPlace kept n o → IsPlace (kept ++ record { node = node; column = column } ∷ []) n o
is_place_other kept node column n apart None h = kept_new kept (record { node = node; column = column } ∷ []) n h ∙ ap (λ (b : Bool). if b then Some column else None) apart
is_place_other kept node column n apart (Some place) h = place_old kept (record { node = node; column = column } ∷ []) n (slice_get kept place) place refl h

is_place_here : (kept : List Kept) (node : ℕ) (column : ColumnData) → kept_at kept node ≡ None → IsPlace (kept ++ record { node = node; column = column } ∷ []) node (Some (length kept))
is_place_here kept node column none =
    let k : Kept = record { node = node; column = column } in
    let N : List Kept → Type 0 = λ ks. kept_at ks node ≡ None in
    let P : Option Kept → Type 0 = λ o. IsSomeAnd o (λ k. (k.node ≡ node) × N (take (length kept) (kept ++ record { node = node; column = column } ∷ []))) in
    subst P (sym (got_new kept k)) (refl, subst N (sym (take_length kept k)) none)

-- the places, when one more column was kept
pub places_more : (old new : PlaceTable) (kept : List Kept) (node : ℕ) (column : ColumnData) → ((n : ℕ) → IsPlace kept n (place_in old n)) → kept_at kept node ≡ None →
    ((n : ℕ) → place_in new n ≡ cond (node == n) (Some (length kept)) (place_in old n)) → (n : ℕ) → IsPlace (kept ++ record { node = node; column = column } ∷ []) n (place_in new n)
places_more old new kept node column places none put n =
    let P : Option ℕ → Type 0 = IsPlace (kept ++ record { node = node; column = column } ∷ []) n in
    subst P (sym (put n)) (chosen (node == n) refl)
  where
    chosen : (b : Bool) → (node == n) ≡ b → IsPlace (kept ++ record { node = node; column = column } ∷ []) n (cond b (Some (length kept)) (place_in old n))
    chosen true e =
        let same : node ≡ n = grind arith in
        let Q : ℕ → Type 0 = λ m. IsPlace (kept ++ record { node = node; column = column } ∷ []) m (Some (length kept)) in
        subst Q same (is_place_here kept node column none)
    chosen false e = is_place_other kept node column n e (place_in old n) (places n)

-- ---- places of a list

pub same_got : {X : Type 0} (o : Option X) (x y : X) → o ≡ Some x → o ≡ Some y → x ≡ y
same_got o x y h k = cc
