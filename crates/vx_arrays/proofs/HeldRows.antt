-- What rows hold that have no value, and places, row by row.
use Rattle.std.proofs.Common.{◌≡◌, ℕ, zero, suc, ◌+◌, ◌<◌, ◌≤◌, ℤ, Bool, true, false, List, [], ◌∷◌, ◌++◌, length, map, get_or, take, Some, refl, sym, ap, subst, ◌∙◌, arith, add-one}
use Rattle.std.proofs.lemmas.List.{length-map, map-append, take_more}
use Rattle.std.proofs.lemmas.List.Sums.{count_by-le-length}
use Rattle.std.specs.Prelude.{slice_get}
use Rattle.vx_masks.specs.Masks.{true_count}
use Rattle.std.proofs.lemmas.Option.{slice_get_within}
use Rattle.vx_masks.proofs.Places.{true_count-cons}
use Rattle.vx_arrays.proofs.PickedRows.{there_is}
use Rattle.vx_masks.specs.Rows.{Holds, NullsHold}
use Rattle.vx_arrays.specs.Places.{place_in, places_in}

-- ---- the bit of a row
pub bit_is : (mask : List Bool) (i : ℕ) (b : Bool) → slice_get mask i ≡ Some b → b ≡ get_or mask i false
bit_is [] i b e = absurd cc
bit_is (x ∷ mask) zero b e = cc
bit_is (x ∷ mask) (suc i) b e = bit_is mask i b e

pub held_bit : {X : Type 0} (blank : X) (mask : List Bool) (i : ℕ) (b : Bool) (x : X) → slice_get mask i ≡ Some b → Holds blank b x → Holds blank (get_or mask i false) x
held_bit blank mask i b x e h = subst (λ (bit : Bool). Holds blank bit x) (bit_is mask i b e) h

pub bit_held : {X : Type 0} (blank : X) (mask : List Bool) (i : ℕ) (b : Bool) (x : X) → slice_get mask i ≡ Some b → Holds blank (get_or mask i false) x → Holds blank b x
bit_held blank mask i b x e h = subst (λ (bit : Bool). Holds blank bit x) (sym (bit_is mask i b e)) h

-- ---- a mask that leaves no row out

pub full_held : {X : Type 0} (blank : X) (mask : List Bool) (xs : List X) → true_count mask ≡ length mask → NullsHold blank mask xs
full_held blank [] xs e = tt
full_held blank (true ∷ mask) [] e = tt
full_held blank (false ∷ mask) xs e = absurd (omega (arith, true_count-cons false mask, count_by-le-length (λ (b : Bool). b) mask))
full_held blank (true ∷ mask) (x ∷ xs) e = full_held blank mask xs (omega (arith, true_count-cons true mask))

-- ---- blanks
held_suc : {X Y : Type 0} (f : X → Y) (blank : Y) (mask : List Bool) (xs : List X) (i : ℕ) (x : X) → i < length mask → i < length xs → x ≡ get_or xs i x → Holds blank (get_or mask i false) (f x)
    → NullsHold blank (take i mask) (map f (take i xs)) → NullsHold blank (take (suc i) mask) (map f (take (suc i) xs))
held_suc f blank [] xs i x lt lt2 e p h = absurd (omega arith)
held_suc f blank (b ∷ mask) [] i x lt lt2 e p h = absurd (omega arith)
held_suc f blank (true ∷ mask) (y ∷ xs) zero x lt lt2 e p h = tt
held_suc f blank (false ∷ mask) (y ∷ xs) zero x lt lt2 e p h = (ap f (sym e) ∙ p, tt)
held_suc f blank (true ∷ mask) (y ∷ xs) (suc i) x lt lt2 e p h = held_suc f blank mask xs i x (omega arith) (omega arith) e p h
held_suc f blank (false ∷ mask) (y ∷ xs) (suc i) x lt lt2 e p h = (h.0, held_suc f blank mask xs i x (omega arith) (omega arith) e p h.1)

pub held_more : {X Y : Type 0} (f : X → Y) (blank : Y) (mask : List Bool) (xs : List X) (i : ℕ) (x : X) → length mask ≡ length xs → i < length xs → x ≡ get_or xs i x → Holds blank (get_or mask i false) (f x)
    → NullsHold blank (take i mask) (map f (take i xs)) → NullsHold blank (take (i + 1) mask) (map f (take (i + 1) xs))
held_more f blank mask xs i x len lt e p h = rw add-one (held_suc f blank mask xs i x (omega arith) lt e p h)

pub held_at : {X Y : Type 0} (f : X → Y) (blank : Y) (mask : List Bool) (xs : List X) (i : ℕ) (x : X) → length mask ≡ length xs → i < length xs → x ≡ get_or xs i x → NullsHold blank mask (map f xs) → Holds blank (get_or mask i false) (f x)
held_at f blank [] xs i x len lt e h = absurd (omega arith)
held_at f blank (b ∷ mask) [] i x len lt e h = absurd (omega arith)
held_at f blank (true ∷ mask) (y ∷ xs) zero x len lt e h = tt
held_at f blank (false ∷ mask) (y ∷ xs) zero x len lt e h = ap f e ∙ h.0
held_at f blank (true ∷ mask) (y ∷ xs) (suc i) x len lt e h = held_at f blank mask xs i x (omega arith) (omega arith) e h
held_at f blank (false ∷ mask) (y ∷ xs) (suc i) x len lt e h = held_at f blank mask xs i x (omega arith) (omega arith) e h.1

-- ---- blanks of rows that are seen as they are
held_row_suc : {X : Type 0} (blank : X) (mask : List Bool) (xs : List X) (i : ℕ) (x : X) → i < length mask → i < length xs → x ≡ get_or xs i x → Holds blank (get_or mask i false) x
    → NullsHold blank (take i mask) (take i xs) → NullsHold blank (take (suc i) mask) (take (suc i) xs)
held_row_suc blank [] xs i x lt lt2 e p h = absurd (omega arith)
held_row_suc blank (b ∷ mask) [] i x lt lt2 e p h = absurd (omega arith)
held_row_suc blank (true ∷ mask) (y ∷ xs) zero x lt lt2 e p h = tt
held_row_suc blank (false ∷ mask) (y ∷ xs) zero x lt lt2 e p h = (sym e ∙ p, tt)
held_row_suc blank (true ∷ mask) (y ∷ xs) (suc i) x lt lt2 e p h = held_row_suc blank mask xs i x (omega arith) (omega arith) e p h
held_row_suc blank (false ∷ mask) (y ∷ xs) (suc i) x lt lt2 e p h = (h.0, held_row_suc blank mask xs i x (omega arith) (omega arith) e p h.1)

pub held_row_more : {X : Type 0} (blank : X) (mask : List Bool) (xs : List X) (i : ℕ) (x : X) → length mask ≡ length xs → slice_get xs i ≡ Some x → Holds blank (get_or mask i false) x
    → NullsHold blank (take i mask) (take i xs) → NullsHold blank (take (i + 1) mask) (take (i + 1) xs)
held_row_more blank mask xs i x len at p h =
    let lt = slice_get_within xs i x at in
    rw add-one (held_row_suc blank mask xs i x (omega arith) lt (there_is xs i x at) p h)

held_row : {X : Type 0} (blank : X) (mask : List Bool) (xs : List X) (i : ℕ) (x : X) → length mask ≡ length xs → i < length xs → x ≡ get_or xs i x → NullsHold blank mask xs → Holds blank (get_or mask i false) x
held_row blank [] xs i x len lt e h = absurd (omega arith)
held_row blank (b ∷ mask) [] i x len lt e h = absurd (omega arith)
held_row blank (true ∷ mask) (y ∷ xs) zero x len lt e h = tt
held_row blank (false ∷ mask) (y ∷ xs) zero x len lt e h = e ∙ h.0
held_row blank (true ∷ mask) (y ∷ xs) (suc i) x len lt e h = held_row blank mask xs i x (omega arith) (omega arith) e h
held_row blank (false ∷ mask) (y ∷ xs) (suc i) x len lt e h = held_row blank mask xs i x (omega arith) (omega arith) e h.1

pub held_row_at : {X : Type 0} (blank : X) (mask : List Bool) (xs : List X) (i : ℕ) (x : X) → length mask ≡ length xs → slice_get xs i ≡ Some x → NullsHold blank mask xs → Holds blank (get_or mask i false) x
held_row_at blank mask xs i x len at h = held_row blank mask xs i x len (slice_get_within xs i x at) (there_is xs i x at) h

-- ---- places
places_append : (past : ℕ) (mask more : List Bool) (zs others : List ℤ) → length mask ≡ length zs → places_in past (mask ++ more) (zs ++ others) ≡ places_in past mask zs ++ places_in past more others
places_append past [] more [] others e = refl
places_append past (b ∷ mask) more (z ∷ zs) others e = ap (λ (ps : List ℕ). place_in past b z ∷ ps) (places_append past mask more zs others (omega arith))
places_append past [] more (z ∷ zs) others e = absurd (omega arith)
places_append past (b ∷ mask) more [] others e = absurd (omega arith)

taken_len : {X Y : Type 0} (i : ℕ) (xs : List X) (ys : List Y) → i ≤ length xs → i ≤ length ys → length (take i xs) ≡ length (take i ys)
taken_len zero xs ys p q = refl
taken_len (suc i) [] ys p q = absurd (omega arith)
taken_len (suc i) (x ∷ xs) [] p q = absurd (omega arith)
taken_len (suc i) (x ∷ xs) (y ∷ ys) p q = omega (arith, taken_len i xs ys (omega arith) (omega arith))

pub places_more : {X : Type 0} (f : X → ℤ) (past : ℕ) (mask : List Bool) (xs : List X) (places more : List ℕ) (i : ℕ) (x : X) (place : ℕ) → length mask ≡ length xs → i < length xs → x ≡ get_or xs i x → place ≡ place_in past (get_or mask i false) (f x) → more ≡ places ++ place ∷ []
    → places ≡ places_in past (take i mask) (map f (take i xs)) → more ≡ places_in past (take (i + 1) mask) (map f (take (i + 1) xs))
places_more f past mask xs places more i x place len lt e is pushed h =
    let one = take_more mask i false (omega arith) in
    let two = take_more xs i x lt in
    let same : length (take i mask) ≡ length (map f (take i xs)) = taken_len i mask xs (omega arith) (omega arith) ∙ sym (length-map (take i xs) f) in
    rw (pushed, one, two, ← e, map-append f (take i xs) (x ∷ []), places_append past (take i mask) (get_or mask i false ∷ []) (map f (take i xs)) (f x ∷ []) same, h, is) refl
