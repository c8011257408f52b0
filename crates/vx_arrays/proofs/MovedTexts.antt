-- Texts of a range that are put behind others: their bytes all at once, and an end for each.
use Rattle.std.proofs.Common.{◌≡◌, ℕ, zero, suc, ◌+◌, ◌-◌, ◌<◌, ◌≤◌, List, [], ◌∷◌, ◌++◌, length, map, get_or, take, drop, refl, sym, ap, subst, ◌∙◌, arith}
use Rattle.std.specs.List.{AllByRecursion, slice_range}
use Rattle.std.specs.Str.{IsUtf8}
use Rattle.std.proofs.Math.Seq.{drop-append-add}
use Rattle.std.proofs.lemmas.List.{length-append, length-drop, drop-take, drop-drop, take-take}
use Rattle.vx_arrays.specs.Texts.{cut, start_in, moved, AreEnds, AreTexts}
use Rattle.vx_arrays.proofs.PackedRows.{all_take, all_drop}
use Rattle.vx_arrays.proofs.ArrayRows.{length-range}
use Rattle.vx_arrays.proofs.CutTexts.{start_from, start_same, ends_below, ends-append, cut-append, cut-front}
use Rattle.vx_types.proofs.AllFit.{all-append}

-- ---- texts whose bytes lie behind others
moved_range : (bytes others : List ℕ) (from to start end : ℕ) → from ≤ start → start ≤ end → end ≤ to → slice_range (bytes ++ slice_range others from to) (moved (length bytes) from start) (moved (length bytes) from end) ≡ slice_range others start end
moved_range bytes others from to start end low here high =
    let count : moved (length bytes) from end - moved (length bytes) from start ≡ end - start = omega arith in
    let whole : to - from ≡ (start - from) + (to - start) = omega arith in
    let place : from + (start - from) ≡ start = omega arith in
    let at : drop (moved (length bytes) from start) (bytes ++ slice_range others from to) ≡ take (to - start) (drop start others) =
    drop-append-add bytes (slice_range others from to) (start - from)
    ∙ ap (λ (n : ℕ). drop (start - from) (take n (drop from others))) whole
    ∙ drop-take (start - from) (to - start) (drop from others)
    ∙ ap (take (to - start)) (drop-drop (start - from) from others ∙ ap (λ (n : ℕ). drop n others) place) in
    (λ i. take (count i) (at i)) ∙ take-take (end - start) (to - start) (drop start others) (omega arith)

cut_moved : (bytes others : List ℕ) (from to start last : ℕ) (ends : List ℕ) → from ≤ start → last ≤ to → AreEnds start last ends
    → cut (bytes ++ slice_range others from to) (moved (length bytes) from start) (map (moved (length bytes) from) ends) ≡ cut others start ends
cut_moved bytes others from to start last [] low high h = refl
cut_moved bytes others from to start last (end ∷ ends) low high h =
    let below = ends_below end last ends h.1 in
    let here = moved_range bytes others from to start end low h.0 (omega (arith, below)) in
    let rest = cut_moved bytes others from to end last ends (omega (arith, h.0)) high h.1 in
    λ i. here i ∷ rest i

ends_moved : (base from start last : ℕ) (ends : List ℕ) → from ≤ start → AreEnds start last ends → AreEnds (moved base from start) (moved base from last) (map (moved base from) ends)
ends_moved base from start last [] low h = ap (moved base from) h
ends_moved base from start last (end ∷ ends) low h = (omega (arith, h.0), ends_moved base from end last ends (omega (arith, h.0)) h.1)

pub end_within : (from to : ℕ) (ends : List ℕ) (row d : ℕ) → AreEnds from to ends → row < length ends → (from ≤ get_or ends row d) × (get_or ends row d ≤ to)
end_within from to [] row d h lt = absurd (omega arith)
end_within from to (end ∷ ends) zero d h lt = (h.0, ends_below end to ends h.1)
end_within from to (end ∷ ends) (suc row) d h lt = let more = end_within end to ends row d h.1 (omega arith) in (omega (arith, h.0, more.0), more.1)

-- ---- the texts of a range
step : (from end : ℕ) (ends : List ℕ) (k : ℕ) → start_from from (end ∷ ends) (suc k) ≡ start_from end ends k
step from end ends zero = refl
step from end ends (suc k) = refl

cut_dropped : (bytes : List ℕ) (from : ℕ) (ends : List ℕ) (a : ℕ) → a ≤ length ends → drop a (cut bytes from ends) ≡ cut bytes (start_from from ends a) (drop a ends)
cut_dropped bytes from ends zero le = refl
cut_dropped bytes from [] (suc a) le = absurd (omega arith)
cut_dropped bytes from (end ∷ ends) (suc a) le = cut_dropped bytes end ends a (omega arith) ∙ ap (λ (k : ℕ). cut bytes k (drop a ends)) (sym (step from end ends a))

cut_first : (bytes : List ℕ) (from : ℕ) (ends : List ℕ) (n : ℕ) → take n (cut bytes from ends) ≡ cut bytes from (take n ends)
cut_first bytes from ends zero = refl
cut_first bytes from [] (suc n) = refl
cut_first bytes from (end ∷ ends) (suc n) = ap (λ (ts : List (List ℕ)). slice_range bytes from end ∷ ts) (cut_first bytes end ends n)

pub cut_range : (bytes ends : List ℕ) (a b : ℕ) → a ≤ length ends → slice_range (cut bytes 0 ends) a b ≡ cut bytes (start_from 0 ends a) (slice_range ends a b)
cut_range bytes ends a b le = ap (take (b - a)) (cut_dropped bytes 0 ends a le) ∙ cut_first bytes (start_from 0 ends a) (drop a ends) (b - a)

ends_dropped : (from to : ℕ) (ends : List ℕ) (a : ℕ) → a ≤ length ends → AreEnds from to ends → AreEnds (start_from from ends a) to (drop a ends)
ends_dropped from to ends zero le h = h
ends_dropped from to [] (suc a) le h = absurd (omega arith)
ends_dropped from to (end ∷ ends) (suc a) le h = subst (λ (k : ℕ). AreEnds k to (drop a ends)) (sym (step from end ends a)) (ends_dropped end to ends a (omega arith) h.1)

ends_first : (from to : ℕ) (ends : List ℕ) (n : ℕ) → n ≤ length ends → AreEnds from to ends → AreEnds from (start_from from ends n) (take n ends)
ends_first from to ends zero le h = refl
ends_first from to [] (suc n) le h = absurd (omega arith)
ends_first from to (end ∷ ends) (suc n) le h = (h.0, subst (λ (k : ℕ). AreEnds end k (take n ends)) (sym (step from end ends n)) (ends_first end to ends n (omega arith) h.1))

start_after : (from : ℕ) (ends : List ℕ) (a n : ℕ) → a ≤ length ends → start_from (start_from from ends a) (drop a ends) n ≡ start_from from ends (a + n)
start_after from ends zero n le = let e : 0 + n ≡ n = omega arith in ap (start_from from ends) (sym e)
start_after from [] (suc a) n le = absurd (omega arith)
start_after from (end ∷ ends) (suc a) n le =
    let e : suc a + n ≡ suc (a + n) = omega arith in
    ap (λ (k : ℕ). start_from k (drop a ends) n) (step from end ends a) ∙ start_after end ends a n (omega arith) ∙ sym (step from end ends (a + n)) ∙ ap (start_from from (end ∷ ends)) (sym e)

pub ends_range : (to : ℕ) (ends : List ℕ) (a b : ℕ) → a ≤ b → b ≤ length ends → AreEnds 0 to ends → AreEnds (start_from 0 ends a) (start_from 0 ends b) (slice_range ends a b)
ends_range to ends a b le high h =
    let place : a + (b - a) ≡ b = omega arith in
    let some = ends_first (start_from 0 ends a) to (drop a ends) (b - a) (omega (arith, length-drop a ends)) (ends_dropped 0 to ends a (omega arith) h) in
    subst (λ (k : ℕ). AreEnds (start_from 0 ends a) k (slice_range ends a b)) (start_after 0 ends a (b - a) (omega arith) ∙ ap (start_from 0 ends) place) some

start_inside : (to : ℕ) (ends : List ℕ) (b : ℕ) → b ≤ length ends → AreEnds 0 to ends → start_from 0 ends b ≤ to
start_inside to ends b le h = ends_below (start_from 0 ends b) to (drop b ends) (ends_dropped 0 to ends b le h)

-- where the bytes of the texts of a range lie
pub record RangeBytes (bytes ends : List ℕ) (a b : ℕ) : Type 0 where
  pub forwards : start_in ends a ≤ start_in ends b
  pub inside : start_in ends b ≤ length bytes
  pub ends_lie : AreEnds (start_in ends a) (start_in ends b) (slice_range ends a b)
  pub texts : slice_range (cut bytes 0 ends) a b ≡ cut bytes (start_in ends a) (slice_range ends a b)
  pub utf8 : AllByRecursion IsUtf8 (slice_range (cut bytes 0 ends) a b)

pub range_bytes : (bytes ends : List ℕ) (a b : ℕ) → a ≤ b → b ≤ length ends → AreTexts bytes ends → RangeBytes bytes ends a b
range_bytes bytes ends a b le high h =
    let one = start_same ends a in
    let two = start_same ends b in
    let range = ends_range (length bytes) ends a b le high h.filled in
    let lie : AreEnds (start_in ends a) (start_in ends b) (slice_range ends a b) = subst (λ (k : ℕ). AreEnds k (start_in ends b) (slice_range ends a b)) one (subst (λ (k : ℕ). AreEnds (start_from 0 ends a) k (slice_range ends a b)) two range) in
    record {
      forwards = ends_below (start_in ends a) (start_in ends b) (slice_range ends a b) lie;
      inside = omega (arith, start_inside (length bytes) ends b high h.filled, two);
      ends_lie = lie;
      texts = cut_range bytes ends a b (omega arith) ∙ ap (λ (k : ℕ). cut bytes k (slice_range ends a b)) one;
      utf8 = all_take IsUtf8 (b - a) (drop a (cut bytes 0 ends)) (all_drop IsUtf8 a (cut bytes 0 ends) h.utf8);
    }

-- ---- behind others

pub texts_behind : (bytes ends others more : List ℕ) (a b : ℕ) → RangeBytes others more a b → AreTexts bytes ends
    → cut (bytes ++ slice_range others (start_in more a) (start_in more b)) 0 (ends ++ map (moved (length bytes) (start_in more a)) (slice_range more a b)) ≡ cut bytes 0 ends ++ slice_range (cut others 0 more) a b
texts_behind bytes ends others more a b r h =
    let from = start_in more a in
    let to = start_in more b in
    let chunk = slice_range others from to in
    let own = map (moved (length bytes) from) (slice_range more a b) in
    let base : moved (length bytes) from from ≡ length bytes = omega arith in
    let behind : cut (bytes ++ chunk) (length bytes) own ≡ slice_range (cut others 0 more) a b =
    ap (λ (k : ℕ). cut (bytes ++ chunk) k own) (sym base)
    ∙ cut_moved bytes others from to from to (slice_range more a b) (omega arith) (omega arith) r.ends_lie
    ∙ sym r.texts in
    cut-append (bytes ++ chunk) 0 (length bytes) ends own h.filled
    ∙ (λ i. cut-front bytes chunk 0 (length bytes) ends h.filled (omega arith) i ++ behind i)

pub are_behind : (bytes ends others more : List ℕ) (a b : ℕ) → RangeBytes others more a b → AreTexts bytes ends
    → AreTexts (bytes ++ slice_range others (start_in more a) (start_in more b)) (ends ++ map (moved (length bytes) (start_in more a)) (slice_range more a b))
are_behind bytes ends others more a b r h =
    let from = start_in more a in
    let to = start_in more b in
    let own = map (moved (length bytes) from) (slice_range more a b) in
    let base : moved (length bytes) from from ≡ length bytes = omega arith in
    let len : moved (length bytes) from to ≡ length (bytes ++ slice_range others from to) = omega (arith, length-append bytes (slice_range others from to), length-range others from to r.forwards r.inside, r.forwards) in
    let lie : AreEnds (length bytes) (length (bytes ++ slice_range others from to)) own =
    subst (λ (k : ℕ). AreEnds k (length (bytes ++ slice_range others from to)) own) base (subst (λ (k : ℕ). AreEnds (moved (length bytes) from from) k own) len (ends_moved (length bytes) from from to (slice_range more a b) (omega arith) r.ends_lie)) in
    record {
      filled = ends-append 0 (length bytes) (length (bytes ++ slice_range others from to)) ends own h.filled lie;
      utf8 = subst (AllByRecursion IsUtf8) (sym (texts_behind bytes ends others more a b r h)) (all-append IsUtf8 (cut bytes 0 ends) (slice_range (cut others 0 more) a b) h.utf8 r.utf8);
    }
