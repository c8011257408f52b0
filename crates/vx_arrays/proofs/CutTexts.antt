-- Texts that are cut out of one buffer.
use Rattle.std.proofs.Common.{◌≡◌, ℕ, zero, suc, ◌+◌, ◌-◌, ◌<◌, ◌≤◌, List, [], ◌∷◌, ◌++◌, length, get_or, take, drop, refl, sym, ap, subst, ◌∙◌, arith}
use Rattle.std.specs.List.{AllByRecursion, slice_range, flat_map}
use Rattle.std.specs.Str.{IsUtf8}
use Rattle.std.proofs.lemmas.List.{length-append, take-append-drop, drop_at}
use Rattle.vx_arrays.specs.Texts.{cut, start_in, AreEnds, AreTexts}
use Rattle.vx_types.proofs.AllFit.{all-append}

pub ends_below : (from to : ℕ) (ends : List ℕ) → AreEnds from to ends → from ≤ to
ends_below from to [] h = omega arith
ends_below from to (end ∷ ends) h = omega (arith, ends_below end to ends h.1)

-- ---- bytes behind the buffer change nothing
pub drop-append_le : (n : ℕ) (xs ys : List ℕ) → n ≤ length xs → drop n (xs ++ ys) ≡ drop n xs ++ ys
drop-append_le zero xs ys h = refl
drop-append_le (suc n) [] ys h = absurd (omega arith)
drop-append_le (suc n) (x ∷ xs) ys h = drop-append_le n xs ys (omega arith)

pub take-append_le : (n : ℕ) (xs ys : List ℕ) → n ≤ length xs → take n (xs ++ ys) ≡ take n xs
take-append_le zero xs ys h = refl
take-append_le (suc n) [] ys h = absurd (omega arith)
take-append_le (suc n) (x ∷ xs) ys h = ap (λ (zs : List ℕ). x ∷ zs) (take-append_le n xs ys (omega arith))

length-drop_le : (n : ℕ) (xs : List ℕ) → n ≤ length xs → length (drop n xs) + n ≡ length xs
length-drop_le zero xs h = omega arith
length-drop_le (suc n) [] h = absurd (omega arith)
length-drop_le (suc n) (x ∷ xs) h = omega (arith, length-drop_le n xs (omega arith))

range-append : (bytes more : List ℕ) (from to : ℕ) → from ≤ to → to ≤ length bytes → slice_range (bytes ++ more) from to ≡ slice_range bytes from to
range-append bytes more from to low high =
    ap (take (to - from)) (drop-append_le from bytes more (omega arith)) ∙ take-append_le (to - from) (drop from bytes) more (omega (arith, length-drop_le from bytes (omega arith)))

pub cut-front : (bytes more : List ℕ) (from to : ℕ) (ends : List ℕ) → AreEnds from to ends → to ≤ length bytes → cut (bytes ++ more) from ends ≡ cut bytes from ends
cut-front bytes more from to [] h le = refl
cut-front bytes more from to (end ∷ ends) h le =
    let here = range-append bytes more from end h.0 (omega (arith, ends_below end to ends h.1)) in
    λ i. here i ∷ cut-front bytes more end to ends h.1 le i

-- ---- more ends
pub ends-append : (from mid to : ℕ) (ends more : List ℕ) → AreEnds from mid ends → AreEnds mid to more → AreEnds from to (ends ++ more)
ends-append from mid to [] more g h = subst (λ (k : ℕ). AreEnds k to more) (sym g) h
ends-append from mid to (end ∷ ends) more g h = (g.0, ends-append end mid to ends more g.1 h)

pub cut-append : (bytes : List ℕ) (from mid : ℕ) (ends more : List ℕ) → AreEnds from mid ends → cut bytes from (ends ++ more) ≡ cut bytes from ends ++ cut bytes mid more
cut-append bytes from mid [] more g = ap (λ (k : ℕ). cut bytes k more) g
cut-append bytes from mid (end ∷ ends) more g = ap (λ (ts : List (List ℕ)). slice_range bytes from end ∷ ts) (cut-append bytes end mid ends more g.1)

-- ---- one more text
drop_whole : (bytes text : List ℕ) → drop (length bytes) (bytes ++ text) ≡ text
drop_whole bytes text = drop_at bytes text (length bytes) refl

take_whole : (n : ℕ) (xs : List ℕ) → length xs ≤ n → take n xs ≡ xs
take_whole zero [] h = refl
take_whole (suc n) [] h = refl
take_whole zero (x ∷ xs) h = absurd (omega arith)
take_whole (suc n) (x ∷ xs) h = ap (λ (ys : List ℕ). x ∷ ys) (take_whole n xs (omega arith))

last_range : (bytes text : List ℕ) → slice_range (bytes ++ text) (length bytes) (length (bytes ++ text)) ≡ text
last_range bytes text =
    ap (take (length (bytes ++ text) - length bytes)) (drop_whole bytes text) ∙ take_whole (length (bytes ++ text) - length bytes) text (omega (arith, length-append bytes text))

pub cut_push : (bytes text ends : List ℕ) → AreEnds 0 (length bytes) ends → cut (bytes ++ text) 0 (ends ++ length (bytes ++ text) ∷ []) ≡ cut bytes 0 ends ++ text ∷ []
cut_push bytes text ends h =
    let last : cut (bytes ++ text) (length bytes) (length (bytes ++ text) ∷ []) ≡ text ∷ [] = ap (λ (t : List ℕ). t ∷ []) (last_range bytes text) in
    cut-append (bytes ++ text) 0 (length bytes) ends (length (bytes ++ text) ∷ []) h
    ∙ (λ i. cut-front bytes text 0 (length bytes) ends h (omega arith) i ++ last i)

pub ends_push : (bytes text ends : List ℕ) → AreEnds 0 (length bytes) ends → AreEnds 0 (length (bytes ++ text)) (ends ++ length (bytes ++ text) ∷ [])
ends_push bytes text ends h = ends-append 0 (length bytes) (length (bytes ++ text)) ends (length (bytes ++ text) ∷ []) h (omega (arith, length-append bytes text), refl)

-- ---- the text of a row
pub length_cut : (bytes : List ℕ) (from : ℕ) (ends : List ℕ) → length (cut bytes from ends) ≡ length ends
length_cut bytes from [] = refl
length_cut bytes from (end ∷ ends) = omega (arith, length_cut bytes end ends)

-- where the text of a row begins, of texts that begin at a place
abbrev pub start_from : ℕ → List ℕ → ℕ → ℕ
start_from from ends zero = from
start_from from ends (suc row) = get_or ends row 0

cut_from_at : (bytes : List ℕ) (from : ℕ) (ends : List ℕ) (row : ℕ) → row < length ends → get_or (cut bytes from ends) row [] ≡ slice_range bytes (start_from from ends row) (get_or ends row 0)
cut_from_at bytes from [] row lt = absurd (omega arith)
cut_from_at bytes from (end ∷ ends) zero lt = refl
cut_from_at bytes from (end ∷ ends) (suc zero) lt = cut_from_at bytes end ends zero (omega arith)
cut_from_at bytes from (end ∷ ends) (suc (suc row)) lt = cut_from_at bytes end ends (suc row) (omega arith)

row_ends_from : (from to : ℕ) (ends : List ℕ) (row : ℕ) → row < length ends → AreEnds from to ends → (start_from from ends row ≤ get_or ends row 0) × (get_or ends row 0 ≤ to)
row_ends_from from to [] row lt h = absurd (omega arith)
row_ends_from from to (end ∷ ends) zero lt h = (h.0, ends_below end to ends h.1)
row_ends_from from to (end ∷ ends) (suc zero) lt h = row_ends_from end to ends zero (omega arith) h.1
row_ends_from from to (end ∷ ends) (suc (suc row)) lt h = row_ends_from end to ends (suc row) (omega arith) h.1

pub text_at : (texts : List (List ℕ)) (row : ℕ) → row < length texts → AllByRecursion IsUtf8 texts → IsUtf8 (get_or texts row [])
text_at [] row lt h = absurd (omega arith)
text_at (t ∷ texts) zero lt h = h.0
text_at (t ∷ texts) (suc row) lt h = text_at texts row (omega arith) h.1

pub start_same : (ends : List ℕ) (row : ℕ) → start_from 0 ends row ≡ start_in ends row
start_same ends zero = refl
start_same ends (suc row) = refl

pub record RowText (bytes ends : List ℕ) (row : ℕ) : Type 0 where
  pub forwards : start_in ends row ≤ get_or ends row 0
  pub inside : get_or ends row 0 ≤ length bytes
  pub text : get_or (cut bytes 0 ends) row [] ≡ slice_range bytes (start_in ends row) (get_or ends row 0)
  pub utf8 : IsUtf8 (slice_range bytes (start_in ends row) (get_or ends row 0))

pub row_text : (bytes ends : List ℕ) (row : ℕ) → row < length ends → AreTexts bytes ends → RowText bytes ends row
row_text bytes ends row lt h =
    let places = row_ends_from 0 (length bytes) ends row lt h.filled in
    let same = start_same ends row in
    let text : get_or (cut bytes 0 ends) row [] ≡ slice_range bytes (start_in ends row) (get_or ends row 0) = cut_from_at bytes 0 ends row lt ∙ ap (λ (from : ℕ). slice_range bytes from (get_or ends row 0)) same in
    record {
      forwards = omega (arith, places.0, same);
      inside = places.1;
      text = text;
      utf8 = subst IsUtf8 text (text_at (cut bytes 0 ends) row (omega (arith, length_cut bytes 0 ends)) h.utf8);
    }

-- ---- the texts are the buffer
range_and_rest : (bytes : List ℕ) (from to : ℕ) → from ≤ to → to ≤ length bytes → slice_range bytes from to ++ drop to bytes ≡ drop from bytes
range_and_rest bytes zero to low high = let whole : to - 0 ≡ to = omega arith in ap (λ (n : ℕ). take n bytes ++ drop to bytes) whole ∙ take-append-drop to bytes
range_and_rest [] (suc from) to low high = absurd (omega arith)
range_and_rest (b ∷ bytes) (suc from) zero low high = absurd (omega arith)
range_and_rest (b ∷ bytes) (suc from) (suc to) low high =
    let same : suc to - suc from ≡ to - from = omega arith in
    ap (λ (n : ℕ). take n (drop from bytes) ++ drop to bytes) same ∙ range_and_rest bytes from to (omega arith) (omega arith)

drop_past : (n : ℕ) (xs : List ℕ) → length xs ≤ n → drop n xs ≡ []
drop_past zero [] h = refl
drop_past (suc n) [] h = refl
drop_past zero (x ∷ xs) h = absurd (omega arith)
drop_past (suc n) (x ∷ xs) h = drop_past n xs (omega arith)

pub flat-cut : (bytes : List ℕ) (from : ℕ) (ends : List ℕ) → AreEnds from (length bytes) ends → flat_map (λ t. t) (cut bytes from ends) ≡ drop from bytes
flat-cut bytes from [] h = sym (drop_past from bytes (omega arith))
flat-cut bytes from (end ∷ ends) h =
    ap (λ (bs : List ℕ). slice_range bytes from end ++ bs) (flat-cut bytes end ends h.1)
    ∙ range_and_rest bytes from end h.0 (ends_below end (length bytes) ends h.1)

pub texts_push : (bytes text ends : List ℕ) → AreTexts bytes ends → IsUtf8 text → AreTexts (bytes ++ text) (ends ++ length (bytes ++ text) ∷ [])
texts_push bytes text ends h u = record {
  filled = ends_push bytes text ends h.filled;
  utf8 = subst (AllByRecursion IsUtf8) (sym (cut_push bytes text ends h.filled)) (all-append IsUtf8 (cut bytes 0 ends) (text ∷ []) h.utf8 (u, tt));
}

pub texts_pushed : (bytes text ends more_bytes more_ends : List ℕ) (end : ℕ) → more_bytes ≡ bytes ++ text → more_ends ≡ ends ++ end ∷ [] → end ≡ length more_bytes → AreTexts bytes ends → IsUtf8 text → AreTexts more_bytes more_ends
texts_pushed bytes text ends more_bytes more_ends end e f g h u =
    let last : end ≡ length (bytes ++ text) = g ∙ ap length e in
    let pushed : more_ends ≡ ends ++ length (bytes ++ text) ∷ [] = f ∙ ap (λ (k : ℕ). ends ++ k ∷ []) last in
    subst (λ (bs : List ℕ). AreTexts bs more_ends) (sym e) (subst (λ (es : List ℕ). AreTexts (bytes ++ text) es) (sym pushed) (texts_push bytes text ends h u))
