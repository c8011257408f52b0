-- Rows that have a value where a mask says so, and null elsewhere.
use Rattle.std.proofs.Common.{◌≡◌, ℕ, zero, suc, ◌-◌, Bool, true, false, cond, List, [], ◌∷◌, ◌++◌, length, map, take, drop, refl, sym, ap, ◌∙◌, arith}
use Rattle.std.specs.List.{AllByRecursion, slice_range}
use Rattle.vx_types.specs.Data.{Datum, null}
use Rattle.vx_types.specs.Slots.{is_value, where_valid}
use Rattle.vx_masks.specs.Masks.{chosen}
use Rattle.vx_masks.specs.Rows.{NullsHold}

pub no_buffers : (mask : List Bool) → where_valid mask [] ≡ []
no_buffers [] = refl
no_buffers (bit ∷ mask) = refl

-- ---- as many rows
pub length-where_valid : (mask : List Bool) (buffers : List Datum) → length mask ≡ length buffers → length (where_valid mask buffers) ≡ length mask
length-where_valid [] buffers e = refl
length-where_valid (bit ∷ mask) [] e = absurd (omega arith)
length-where_valid (bit ∷ mask) (v ∷ buffers) e = omega (arith, length-where_valid mask buffers (omega arith))

-- ---- a range
take-where_valid : (n : ℕ) (mask : List Bool) (buffers : List Datum) → take n (where_valid mask buffers) ≡ where_valid (take n mask) (take n buffers)
take-where_valid zero mask buffers = refl
take-where_valid (suc n) [] buffers = refl
take-where_valid (suc n) (bit ∷ mask) [] = refl
take-where_valid (suc n) (bit ∷ mask) (v ∷ buffers) = ap (λ (vs : List Datum). cond bit v null ∷ vs) (take-where_valid n mask buffers)

drop-where_valid : (n : ℕ) (mask : List Bool) (buffers : List Datum) → drop n (where_valid mask buffers) ≡ where_valid (drop n mask) (drop n buffers)
drop-where_valid zero mask buffers = refl
drop-where_valid (suc n) [] buffers = refl
drop-where_valid (suc n) (bit ∷ mask) [] = sym (no_buffers (drop n mask))
drop-where_valid (suc n) (bit ∷ mask) (v ∷ buffers) = drop-where_valid n mask buffers

pub range_where_valid : (mask : List Bool) (buffers : List Datum) (from to : ℕ) → slice_range (where_valid mask buffers) from to ≡ where_valid (slice_range mask from to) (slice_range buffers from to)
range_where_valid mask buffers from to = ap (take (to - from)) (drop-where_valid from mask buffers) ∙ take-where_valid (to - from) (drop from mask) (drop from buffers)

take-NullsHold : {X : Type 0} (blank : X) (n : ℕ) (mask : List Bool) (xs : List X) → NullsHold blank mask xs → NullsHold blank (take n mask) (take n xs)
take-NullsHold blank zero mask xs h = tt
take-NullsHold blank (suc n) [] xs h = tt
take-NullsHold blank (suc n) (true ∷ mask) [] h = tt
take-NullsHold blank (suc n) (false ∷ mask) [] h = tt
take-NullsHold blank (suc n) (true ∷ mask) (x ∷ xs) h = take-NullsHold blank n mask xs h
take-NullsHold blank (suc n) (false ∷ mask) (x ∷ xs) h = (h.0, take-NullsHold blank n mask xs h.1)

no_nulls_held : {X : Type 0} (blank : X) (mask : List Bool) → NullsHold blank mask []
no_nulls_held blank [] = tt
no_nulls_held blank (true ∷ mask) = tt
no_nulls_held blank (false ∷ mask) = tt

drop-NullsHold : {X : Type 0} (blank : X) (n : ℕ) (mask : List Bool) (xs : List X) → NullsHold blank mask xs → NullsHold blank (drop n mask) (drop n xs)
drop-NullsHold blank zero mask xs h = h
drop-NullsHold blank (suc n) [] xs h = tt
drop-NullsHold blank (suc n) (true ∷ mask) [] h = no_nulls_held blank (drop n mask)
drop-NullsHold blank (suc n) (false ∷ mask) [] h = no_nulls_held blank (drop n mask)
drop-NullsHold blank (suc n) (true ∷ mask) (x ∷ xs) h = drop-NullsHold blank n mask xs h
drop-NullsHold blank (suc n) (false ∷ mask) (x ∷ xs) h = drop-NullsHold blank n mask xs h.1

pub range-NullsHold : {X : Type 0} (blank : X) (mask : List Bool) (xs : List X) (from to : ℕ) → NullsHold blank mask xs → NullsHold blank (slice_range mask from to) (slice_range xs from to)
range-NullsHold blank mask xs from to h = take-NullsHold blank (to - from) (drop from mask) (drop from xs) (drop-NullsHold blank from mask xs h)

-- ---- chosen rows
pub chosen-where_valid : (bits mask : List Bool) (buffers : List Datum) → length mask ≡ length buffers → chosen bits (where_valid mask buffers) ≡ where_valid (chosen bits mask) (chosen bits buffers)
chosen-where_valid [] mask buffers e = refl
chosen-where_valid (true ∷ bits) [] [] e = refl
chosen-where_valid (false ∷ bits) [] [] e = refl
chosen-where_valid (true ∷ bits) (bit ∷ mask) (v ∷ buffers) e = ap (λ (vs : List Datum). cond bit v null ∷ vs) (chosen-where_valid bits mask buffers (omega arith))
chosen-where_valid (false ∷ bits) (bit ∷ mask) (v ∷ buffers) e = chosen-where_valid bits mask buffers (omega arith)
chosen-where_valid (b ∷ bits) [] (v ∷ buffers) e = absurd (omega arith)
chosen-where_valid (b ∷ bits) (bit ∷ mask) [] e = absurd (omega arith)

pub chosen-NullsHold : {X : Type 0} (blank : X) (bits mask : List Bool) (xs : List X) → length mask ≡ length xs → NullsHold blank mask xs → NullsHold blank (chosen bits mask) (chosen bits xs)
chosen-NullsHold blank [] mask xs e h = tt
chosen-NullsHold blank (true ∷ bits) [] [] e h = tt
chosen-NullsHold blank (false ∷ bits) [] [] e h = tt
chosen-NullsHold blank (true ∷ bits) (true ∷ mask) (x ∷ xs) e h = chosen-NullsHold blank bits mask xs (omega arith) h
chosen-NullsHold blank (true ∷ bits) (false ∷ mask) (x ∷ xs) e h = (h.0, chosen-NullsHold blank bits mask xs (omega arith) h.1)
chosen-NullsHold blank (false ∷ bits) (true ∷ mask) (x ∷ xs) e h = chosen-NullsHold blank bits mask xs (omega arith) h
chosen-NullsHold blank (false ∷ bits) (false ∷ mask) (x ∷ xs) e h = chosen-NullsHold blank bits mask xs (omega arith) h.1
chosen-NullsHold blank (b ∷ bits) [] (x ∷ xs) e h = absurd (omega arith)
chosen-NullsHold blank (b ∷ bits) (bit ∷ mask) [] e h = absurd (omega arith)

pub length-chosen : {X Y : Type 0} (bits : List Bool) (xs : List X) (ys : List Y) → length xs ≡ length ys → length (chosen bits xs) ≡ length (chosen bits ys)
length-chosen [] xs ys e = refl
length-chosen (true ∷ bits) [] [] e = refl
length-chosen (false ∷ bits) [] [] e = refl
length-chosen (true ∷ bits) (x ∷ xs) (y ∷ ys) e = omega (arith, length-chosen bits xs ys (omega arith))
length-chosen (false ∷ bits) (x ∷ xs) (y ∷ ys) e = length-chosen bits xs ys (omega arith)
length-chosen (b ∷ bits) [] (y ∷ ys) e = absurd (omega arith)
length-chosen (b ∷ bits) (x ∷ xs) [] e = absurd (omega arith)

-- ---- rows behind rows
pub append-where_valid : (mask more : List Bool) (buffers others : List Datum) → length mask ≡ length buffers → where_valid (mask ++ more) (buffers ++ others) ≡ where_valid mask buffers ++ where_valid more others
append-where_valid [] more [] others e = refl
append-where_valid (bit ∷ mask) more (v ∷ buffers) others e = ap (λ (vs : List Datum). cond bit v null ∷ vs) (append-where_valid mask more buffers others (omega arith))
append-where_valid [] more (v ∷ buffers) others e = absurd (omega arith)
append-where_valid (bit ∷ mask) more [] others e = absurd (omega arith)

pub append-NullsHold : {X : Type 0} (blank : X) (mask more : List Bool) (xs ys : List X) → length mask ≡ length xs → NullsHold blank mask xs → NullsHold blank more ys → NullsHold blank (mask ++ more) (xs ++ ys)
append-NullsHold blank [] more [] ys e g h = h
append-NullsHold blank (true ∷ mask) more (x ∷ xs) ys e g h = append-NullsHold blank mask more xs ys (omega arith) g h
append-NullsHold blank (false ∷ mask) more (x ∷ xs) ys e g h = (g.0, append-NullsHold blank mask more xs ys (omega arith) g.1 h)
append-NullsHold blank [] more (x ∷ xs) ys e g h = absurd (omega arith)
append-NullsHold blank (bit ∷ mask) more [] ys e g h = absurd (omega arith)

-- ---- a row

-- ---- what fits

-- ---- the mask and the buffers again
pub valid_again : (mask : List Bool) (buffers : List Datum) → length mask ≡ length buffers → AllByRecursion (λ v. is_value v ≡ true) buffers → map is_value (where_valid mask buffers) ≡ mask
valid_again [] buffers e h = refl
valid_again (true ∷ mask) (v ∷ buffers) e h = λ i. h.0 i ∷ valid_again mask buffers (omega arith) h.1 i
valid_again (false ∷ mask) (v ∷ buffers) e h = ap (λ (bits : List Bool). false ∷ bits) (valid_again mask buffers (omega arith) h.1)
valid_again (bit ∷ mask) [] e h = absurd (omega arith)

pub buffers_again : {A : Type 0} (f : Datum → A) (blank : Datum) (mask : List Bool) (buffers : List Datum) → length mask ≡ length buffers → f null ≡ f blank → NullsHold blank mask buffers → map f (where_valid mask buffers) ≡ map f buffers
buffers_again f blank [] [] e n h = refl
buffers_again {A} f blank (true ∷ mask) (v ∷ buffers) e n h = ap (λ (ys : List A). f v ∷ ys) (buffers_again f blank mask buffers (omega arith) n h)
buffers_again f blank (false ∷ mask) (v ∷ buffers) e n h =
    let here = n ∙ ap f (sym h.0) in
    λ i. here i ∷ buffers_again f blank mask buffers (omega arith) n h.1 i
buffers_again f blank [] (v ∷ buffers) e n h = absurd (omega arith)
buffers_again f blank (bit ∷ mask) [] e n h = absurd (omega arith)
