-- Rows of one zone after another, of which the same is so.
use Rattle.std.proofs.Common.{◌≡◌, ℕ, zero, suc, ◌+◌, ◌-◌, ◌*◌, ◌/◌, ◌%◌, ◌<◌, ◌≤◌, Bool, true, false, not, List, [], ◌∷◌, ◌++◌, Some, map, replicate, refl, sym, ap, ◌∙◌, arith, append_assoc, append-nil}
use mathlib.Core.Bool.{beq}
use Rattle.std.specs.Prelude.{get_or}
use Rattle.std.specs.List.{range_with_len, slice_get}
use Rattle.std.proofs.Math.Nat.{add-mul, div-add-mod, div-eq_of_lt-le, div-lt_iff_lt-mul, mul_comm, one-mul}
use Rattle.std.proofs.lemmas.List.{replicate-append-replicate}
use Rattle.std.proofs.lemmas.Option.{get_or_from_slice_get}
use Rattle.vx_readers.specs.ZoneRows.{zone_bit, zone_bits}

-- ---- which zone a row lies in

-- there is a zone for each of these rows
pub zone_there : (row zone_len zones : ℕ) → 0 < zone_len → row < zones * zone_len → row / zone_len < zones
zone_there row zone_len zones some lt = (div-lt_iff_lt-mul {k = zone_len} {x = row} {y = zones} some).1 lt

-- the rows behind one, up to where its zone ends, lie in the same zone
same_zone : (row zone_len i : ℕ) → 0 < zone_len → i < zone_len - row % zone_len → (row + i) / zone_len ≡ row / zone_len
same_zone row zone_len i some lt =
    let whole : zone_len * (row / zone_len) + row % zone_len ≡ row = div-add-mod row zone_len in
    let turned : row / zone_len * zone_len ≡ zone_len * (row / zone_len) = mul_comm (row / zone_len) zone_len in
    let next : (row / zone_len + 1) * zone_len ≡ row / zone_len * zone_len + 1 * zone_len = add-mul (row / zone_len) 1 zone_len in
    let one : 1 * zone_len ≡ zone_len = one-mul zone_len in
    div-eq_of_lt-le {k = row / zone_len} zone_len {m = row + i} (omega (arith, whole, turned)) (omega (arith, whole, turned, next, one))

-- ---- rows

range_more : (f : ℕ → Bool) (start a b : ℕ) → map f (range_with_len start (a + b)) ≡ map f (range_with_len start a) ++ map f (range_with_len (start + a) b)
range_more f start zero b =
    let e : start + 0 ≡ start = omega arith in
    let none : 0 + b ≡ b = omega arith in
    ap (λ (k : ℕ). map f (range_with_len start k)) none ∙ ap (λ (k : ℕ). map f (range_with_len k b)) (sym e)
range_more f start (suc a) b =
    let e : start + 1 + a ≡ start + suc a = omega arith in
    let more : suc a + b ≡ suc (a + b) = omega arith in
    ap (λ (k : ℕ). map f (range_with_len start k)) more ∙ ap (λ (bits : List Bool). f start ∷ bits) (range_more f (start + 1) a b ∙ ap (λ (k : ℕ). map f (range_with_len (start + 1) a) ++ map f (range_with_len k b)) e)

all_alike : (f : ℕ → Bool) (start count : ℕ) (is : Bool) → ((i : ℕ) → i < count → f (start + i) ≡ is) → map f (range_with_len start count) ≡ replicate count is
all_alike f start zero is same = refl
all_alike f start (suc count) is same =
    let e : start + 0 ≡ start = omega arith in
    let here : f start ≡ is = ap f (sym e) ∙ same 0 (omega arith) in
    let rest : map f (range_with_len (start + 1) count) ≡ replicate count is = all_alike f (start + 1) count is (λ i lt. (let n : start + 1 + i ≡ start + suc i = omega arith in ap f n ∙ same (suc i) (omega arith))) in
    λ j. here j ∷ rest j

-- so many rows of one zone
one_zone : (zones : List Bool) (zone_len row count : ℕ) (is : Bool) → 0 < zone_len → count ≤ zone_len - row % zone_len → slice_get zones (row / zone_len) ≡ Some is → zone_bits zones zone_len row count ≡ replicate count is
one_zone zones zone_len row count is some few at =
    let here : get_or zones (row / zone_len) false ≡ is = get_or_from_slice_get zones (row / zone_len) is false at in
    all_alike (zone_bit zones zone_len) row count is (λ i lt. ap (λ (k : ℕ). get_or zones k false) (same_zone row zone_len i some (omega arith)) ∙ here)

-- ---- the steps of the loop

pub alike_first : (zones rows : List Bool) (zone_len start : ℕ) (is : Bool) → rows ≡ [] → rows ++ replicate 0 is ≡ zone_bits zones zone_len start (start - start)
alike_first zones rows zone_len start is none =
    let e : 0 ≡ start - start = omega arith in
    append-nil rows ∙ none ∙ ap (zone_bits zones zone_len start) e

-- rows of the zone that is alike with those before it
pub alike_more : (zones rows : List Bool) (zone_len start row count alike next more : ℕ) (is : Bool) → 0 < zone_len → start ≤ row → count ≤ zone_len - row % zone_len → slice_get zones (row / zone_len) ≡ Some is → next ≡ row + count → more ≡ alike + count →
    rows ++ replicate alike is ≡ zone_bits zones zone_len start (row - start) → rows ++ replicate more is ≡ zone_bits zones zone_len start (next - start)
alike_more zones rows zone_len start row count alike next more is some from few at next_is more_is before =
    let done : next - start ≡ row - start + count = omega arith in
    let here : start + (row - start) ≡ row = omega arith in
    ap (λ (k : ℕ). rows ++ replicate k is) more_is
    ∙ ap (λ (bits : List Bool). rows ++ bits) (sym (replicate-append-replicate alike count is))
    ∙ sym (append_assoc rows (replicate alike is) (replicate count is))
    ∙ ap (λ (bits : List Bool). bits ++ replicate count is) before
    ∙ ap (λ (bits : List Bool). zone_bits zones zone_len start (row - start) ++ bits) (sym (one_zone zones zone_len row count is some few at))
    ∙ ap (λ (k : ℕ). zone_bits zones zone_len start (row - start) ++ zone_bits zones zone_len k count) (sym here)
    ∙ sym (range_more (zone_bit zones zone_len) start (row - start) count)
    ∙ ap (zone_bits zones zone_len start) (sym done)

not_apart : (a b : Bool) → not (beq a b) ≡ false → a ≡ b
not_apart true true same = refl
not_apart true false same = absurd cc
not_apart false true same = absurd cc
not_apart false false same = refl

pub alike_still : (zones rows still : List Bool) (zone_len start row count alike more : ℕ) (here was is : Bool) → 0 < zone_len → start ≤ row → count ≤ zone_len - row % zone_len → slice_get zones (row / zone_len) ≡ Some here → not (beq here was) ≡ false → still ≡ rows → more ≡ alike → is ≡ was →
    rows ++ replicate alike was ≡ zone_bits zones zone_len start (row - start) → still ++ replicate (more + count) is ≡ zone_bits zones zone_len start (row + count - start)
alike_still zones rows still zone_len start row count alike more here was is some from few at same rows_are more_is is_was before =
    let there : slice_get zones (row / zone_len) ≡ Some is = at ∙ ap Some (not_apart here was same ∙ sym is_was) in
    let now : still ++ replicate alike is ≡ zone_bits zones zone_len start (row - start) = (λ i. rows_are i ++ replicate alike (is_was i)) ∙ before in
    alike_more zones still zone_len start row count alike (row + count) (more + count) is some from few there refl (omega (arith, more_is)) now

-- and of one that isn't, behind these
pub alike_anew : (zones rows longer : List Bool) (zone_len start row count alike next more : ℕ) (was is : Bool) → 0 < zone_len → start ≤ row → count ≤ zone_len - row % zone_len → slice_get zones (row / zone_len) ≡ Some is → next ≡ row + count → more ≡ count →
    longer ≡ rows ++ replicate alike was → rows ++ replicate alike was ≡ zone_bits zones zone_len start (row - start) → longer ++ replicate more is ≡ zone_bits zones zone_len start (next - start)
alike_anew zones rows longer zone_len start row count alike next more was is some from few at next_is more_is joined before =
    alike_more zones longer zone_len start row count 0 next more is some from few at next_is (omega (arith, more_is)) (append-nil longer ∙ joined ∙ before)

pub alike_all : (zones rows : List Bool) (zone_len start count end row : ℕ) (alike : ℕ) (is : Bool) → end ≡ start + count → row ≤ end → end ≤ row → rows ++ replicate alike is ≡ zone_bits zones zone_len start (row - start) → rows ++ replicate alike is ≡ zone_bits zones zone_len start count
alike_all zones rows zone_len start count end row alike is end_is to past all =
    let e : row - start ≡ count = omega arith in
    all ∙ ap (zone_bits zones zone_len start) e
