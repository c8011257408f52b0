-- The tests of a reading in a coding: which values are the same, which neighbours differ, and which ends rise.
use Rattle.std.proofs.Common.{◌≡◌, ℕ, ◌^◌, ◌<◌, ℤ, pos, negsuc, Bool, true, false, List, [], ◌∷◌, refl, ap, subst, arith}
use Rattle.std.specs.Prelude.{◌≤ℤ◌, int_le, nat_lt, not}
use Rattle.std.specs.List.{AllByRecursion, list_all}
use Rattle.std.proofs.lemmas.Bool.{and_from, and_parts, lt-ltb, ltb-true}
use Rattle.std.proofs.lemmas.Int.{ints}
use Rattle.std.proofs.lemmas.Slice.Eq.{bytes_eq-Decides}
use Rattle.vx_types.specs.Data.{DataType, bool_type, int_type, utf8_type, struct_type, list_type, Datum, null, truth, number, text, structure, Items}
use Rattle.vx_types.specs.Fits.{Fits}
use Rattle.vx_types.specs.Leaf.{IsLeaf}
use Rattle.vx_columns.specs.LaidRuns.{BeginOther, Differ}
use Rattle.vx_columns.specs.RunRows.{Rise}
use Rattle.vx_segments.specs.CodingsRead.{same_bits, is_same, begin_other, differ, do_rise}
use Rattle.vx_segments.proofs.Leaves.{true_from}
use Rattle.vx_segments.proofs.Spelled.{le_from}

-- ---- a value is the same as itself
bit_again : (b : Bool) → same_bits b b ≡ true
bit_again true = refl
bit_again false = refl

number_again : (z : ℤ) → int_le z z ≡ true
number_again z =
    let low : z ≤ℤ z = omega (arith, ints) in
    true_from (int_le z z) low.le

again : (v : Datum) → is_same v v ≡ true
again null = refl
again (truth b) = bit_again b
again (number z) = and_from (int_le z z) (int_le z z) (number_again z) (number_again z)
again (text bytes) = (bytes_eq-Decides bytes bytes).1 refl
again (structure values) = refl

told_apart : (b : Bool) → b ≡ true → not b ≡ true → ⊥
told_apart true e f = absurd cc
told_apart false e f = absurd cc

begun : (v : Datum) (values : List Datum) → begin_other v values ≡ true → BeginOther v values
begun v [] e = tt
begun v (w ∷ values) e = λ same. told_apart (is_same v w) (subst (λ (u : Datum). is_same v u ≡ true) same (again v)) e

pub differs : (values : List Datum) → differ values ≡ true → Differ values
differs [] e = tt
differs (v ∷ values) e =
    let p = and_parts (begin_other v values) (differ values) e in
    (begun v values p.0, differs values p.1)

-- ---- values of a leaf that are the same
bits_same : (a b : Bool) → same_bits a b ≡ true → a ≡ b
bits_same true true e = refl
bits_same true false e = absurd cc
bits_same false true e = absurd cc
bits_same false false e = refl

numbers_same : (y z : ℤ) → y ≤ℤ z → z ≤ℤ y → y ≡ z
numbers_same (pos m) (pos n) p q = let same : m ≡ n = omega (arith, ints, p, q) in ap pos same
numbers_same (negsuc m) (negsuc n) p q = let same : m ≡ n = omega (arith, ints, p, q) in ap negsuc same
numbers_same (pos m) (negsuc n) p q = absurd (omega (arith, ints, p))
numbers_same (negsuc m) (pos n) p q = absurd (omega (arith, ints, q))

no_struct : (t : DataType) (values : Items) → IsLeaf t → Fits t (structure values) → ⊥
no_struct (bool_type n) values l h = h
no_struct (int_type kind n) values l h = h
no_struct (utf8_type n) values l h = h
no_struct (struct_type ms n) values l h = l
no_struct (list_type t n) values l h = l

same_values : (t : DataType) (v w : Datum) → IsLeaf t → Fits t v → is_same v w ≡ true → v ≡ w
same_values t null null l h e = refl
same_values t (truth a) (truth b) l h e = ap (λ (bit : Bool). truth bit) (bits_same a b e)
same_values t (number y) (number z) l h e =
    let p = and_parts (int_le y z) (int_le z y) e in
    ap (λ (n : ℤ). number n) (numbers_same y z (le_from y z p.0) (le_from z y p.1))
same_values t (text bytes) (text others) l h e = ap (λ (bs : List ℕ). text bs) ((bytes_eq-Decides bytes others).0 e)
same_values t (structure values) w l h e = absurd (no_struct t values l h)
same_values t _ _ l h e = absurd cc

apart : (b : Bool) → (b ≡ true → ⊥) → not b ≡ true
apart true h = absurd (h refl)
apart false h = refl

begins : (t : DataType) (v : Datum) (values : List Datum) → IsLeaf t → Fits t v → BeginOther v values → begin_other v values ≡ true
begins t v [] l h other = refl
begins t v (w ∷ values) l h other = apart (is_same v w) (λ e. other (same_values t v w l h e))

pub differ_passes : (t : DataType) (values : List Datum) → IsLeaf t → AllByRecursion (Fits t) values → Differ values → differ values ≡ true
differ_passes t [] l fit d = refl
differ_passes t (v ∷ values) l fit d = and_from (begin_other v values) (differ values) (begins t v values l fit.0 d.0) (differ_passes t values l fit.1 d.1)

-- ---- ends
pub rises : (from : ℕ) (ends : List ℕ) → do_rise from ends ≡ true → Rise from ends
rises from [] e = tt
rises from (end ∷ ends) e =
    let p = and_parts (nat_lt from end) (do_rise end ends) e in
    (ltb-true from end p.0, rises end ends p.1)

pub rise_passes : (from : ℕ) (ends : List ℕ) → Rise from ends → do_rise from ends ≡ true
rise_passes from [] h = refl
rise_passes from (end ∷ ends) h = and_from (nat_lt from end) (do_rise end ends) (lt-ltb from end h.0) (rise_passes end ends h.1)

pub small_ends : (ends : List ℕ) → list_all (λ end. nat_lt end (2 ^ 64)) ends ≡ true → AllByRecursion (λ end. end < 2 ^ 64) ends
small_ends [] e = tt
small_ends (end ∷ ends) e =
    let p = and_parts (nat_lt end (2 ^ 64)) (list_all (λ k. nat_lt k (2 ^ 64)) ends) e in
    (ltb-true end (2 ^ 64) p.0, small_ends ends p.1)

pub small_passes : (ends : List ℕ) → AllByRecursion (λ end. end < 2 ^ 64) ends → list_all (λ end. nat_lt end (2 ^ 64)) ends ≡ true
small_passes [] h = refl
small_passes (end ∷ ends) h = and_from (nat_lt end (2 ^ 64)) (list_all (λ k. nat_lt k (2 ^ 64)) ends) (lt-ltb end (2 ^ 64) h.0) (small_passes ends h.1)
