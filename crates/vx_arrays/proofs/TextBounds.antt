-- UTF-8 of a whole buffer and of the texts in it.
use Rattle.std.proofs.Common.{ℕ, zero, suc, ◌+◌, ◌<◌, ◌≤◌, List, [], ◌∷◌, length, take, drop, get_or, subst, arith, add-one}
use Rattle.std.specs.List.{AllByRecursion, flat_map}
use Rattle.std.specs.Str.{IsUtf8, IsCharBoundary}
use Rattle.std.proofs.lemmas.Str.{IsUtf8-between, IsUtf8-append, IsUtf8-nil, IsCharBoundary-start, IsCharBoundary-from_drop}
use Rattle.vx_arrays.specs.Texts.{cut, AreEnds}
use Rattle.vx_arrays.proofs.CutTexts.{ends_below, flat-cut}

-- ---- UTF-8 of the whole buffer and of its texts
pub texts_utf8 : (bytes : List ℕ) (from : ℕ) (ends : List ℕ) → IsUtf8 bytes → IsCharBoundary bytes from → AllByRecursion (IsCharBoundary bytes) ends → AreEnds from (length bytes) ends → AllByRecursion IsUtf8 (cut bytes from ends)
texts_utf8 bytes from [] u b bs h = tt
texts_utf8 bytes from (end ∷ ends) u b bs h = (IsUtf8-between bytes from end u h.0 b bs.0, texts_utf8 bytes end ends u bs.0 bs.1 h.1)

pub texts_utf8_start : (bytes ends : List ℕ) → IsUtf8 bytes → AllByRecursion (IsCharBoundary bytes) ends → AreEnds 0 (length bytes) ends → AllByRecursion IsUtf8 (cut bytes 0 ends)
texts_utf8_start bytes ends u bs h = texts_utf8 bytes 0 ends u (IsCharBoundary-start bytes u) bs h

joined_utf8 : (texts : List (List ℕ)) → AllByRecursion IsUtf8 texts → IsUtf8 (flat_map (λ t. t) texts)
joined_utf8 [] h = IsUtf8-nil
joined_utf8 (t ∷ texts) h = IsUtf8-append t (flat_map (λ t. t) texts) h.0 (joined_utf8 texts h.1)

rest_utf8 : (bytes : List ℕ) (from : ℕ) (ends : List ℕ) → AreEnds from (length bytes) ends → AllByRecursion IsUtf8 (cut bytes from ends) → IsUtf8 (drop from bytes)
rest_utf8 bytes from ends h u = subst IsUtf8 (flat-cut bytes from ends h) (joined_utf8 (cut bytes from ends) u)

pub whole_utf8 : (bytes ends : List ℕ) → AreEnds 0 (length bytes) ends → AllByRecursion IsUtf8 (cut bytes 0 ends) → IsUtf8 bytes
whole_utf8 bytes ends h u = rest_utf8 bytes 0 ends h u

pub ends_bound : (bytes : List ℕ) (from : ℕ) (ends : List ℕ) → AreEnds from (length bytes) ends → AllByRecursion IsUtf8 (cut bytes from ends) → AllByRecursion (IsCharBoundary bytes) ends
ends_bound bytes from [] h u = tt
ends_bound bytes from (end ∷ ends) h u = (IsCharBoundary-from_drop bytes end (ends_below end (length bytes) ends h.1) (rest_utf8 bytes end ends h.1 u.1), ends_bound bytes end ends h.1 u.1)

pub bound_at : (bytes ends : List ℕ) (i : ℕ) → i < length ends → AllByRecursion (IsCharBoundary bytes) ends → IsCharBoundary bytes (get_or ends i 0)
bound_at bytes [] i lt h = absurd (omega arith)
bound_at bytes (end ∷ ends) zero lt h = h.0
bound_at bytes (end ∷ ends) (suc i) lt h = bound_at bytes ends i (omega arith) h.1

pub bound_more : (bytes ends : List ℕ) (i : ℕ) → i < length ends → IsCharBoundary bytes (get_or ends i 0) → AllByRecursion (IsCharBoundary bytes) (take i ends) → AllByRecursion (IsCharBoundary bytes) (take (i + 1) ends)
bound_more bytes ends i lt b h = rw add-one (bound_suc bytes ends i lt b h)
  where
    bound_suc : (bytes ends : List ℕ) (i : ℕ) → i < length ends → IsCharBoundary bytes (get_or ends i 0) → AllByRecursion (IsCharBoundary bytes) (take i ends) → AllByRecursion (IsCharBoundary bytes) (take (suc i) ends)
    bound_suc bytes [] i lt b h = absurd (omega arith)
    bound_suc bytes (end ∷ ends) zero lt b h = (b, tt)
    bound_suc bytes (end ∷ ends) (suc i) lt b h = (h.0, bound_suc bytes ends i (omega arith) b h.1)

pub bound_all : (bytes ends : List ℕ) (i : ℕ) → length ends ≤ i → AllByRecursion (IsCharBoundary bytes) (take i ends) → AllByRecursion (IsCharBoundary bytes) ends
bound_all bytes [] i past h = tt
bound_all bytes (end ∷ ends) zero past h = absurd (omega arith)
bound_all bytes (end ∷ ends) (suc i) past h = (h.0, bound_all bytes ends i (omega arith) h.1)
