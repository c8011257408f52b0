-- Texts of a leaf: what they spell, and what else would spell their bytes.
use Rattle.std.proofs.Common.{◌≡◌, ℕ, zero, suc, ◌+◌, ◌-◌, ◌*◌, ◌^◌, ◌<◌, ◌≤◌, Bool, true, false, List, [], ◌∷◌, ◌++◌, length, map, take, drop, get_or, Option, Some, refl, sym, ap, subst, ◌∙◌, arith, append_assoc}
use Rattle.std.specs.List.{AllByRecursion, flat_map, slice_range}
use Rattle.std.specs.Str.{IsUtf8}
use Rattle.std.specs.Int.{w32, to_le_bytes, from_le_bytes}
use Rattle.std.proofs.lemmas.List.{length-append, length-map, take_at, drop_at, take-append-drop}
use Rattle.std.proofs.lemmas.Nat.{le_bytes_4, from_le_bytes-to_le_bytes_4}
use Rattle.std.proofs.lemmas.Str.{IsUtf8-nil}
use Rattle.vx_masks.specs.Rows.{NullsHold}
use Rattle.vx_types.specs.declared.dtypes.Nullability.{Nullability}
use Rattle.vx_types.specs.Data.{utf8_type, Datum, null, text}
use Rattle.vx_types.specs.Fits.{Fits}
use Rattle.vx_types.specs.Leaf.{length_slot}
use Rattle.vx_types.specs.Slots.{IsShort, is_value, text_in, where_valid}
use Rattle.vx_arrays.specs.Buffers.{Takes}
use Rattle.vx_arrays.specs.Texts.{cut, AreEnds, ends_after}
use Rattle.vx_arrays.proofs.CutTexts.{ends_below, flat-cut, length_cut}
use Rattle.vx_arrays.proofs.ValidRows.{length-where_valid, valid_again}
use Rattle.vx_segments.specs.Parts.{IsValidity, valid_bits}
use Rattle.vx_segments.specs.Segment.{Spells, validity_bytes}
use Rattle.vx_segments.specs.Reading.{lengths_read, ends_read}
use Rattle.vx_segments.proofs.Decoded.{AreBytes, back_bytes, front_bytes, valid_len}
use Rattle.vx_segments.proofs.Leaves.{two_parts}
use Rattle.vx_segments.proofs.DecodedNumbers.{validity_is, mask_taken}

-- ---- the lengths of texts that are cut
length_range : (bytes : List ℕ) (from to : ℕ) → from ≤ to → to ≤ length bytes → length (slice_range bytes from to) ≡ to - from
length_range bytes from to low high = length_front (to - from) (drop from bytes) (omega (arith, length_rest from bytes (omega arith)))
  where
    length_front : (n : ℕ) (xs : List ℕ) → n ≤ length xs → length (take n xs) ≡ n
    length_front zero xs h = refl
    length_front (suc n) [] h = absurd (omega arith)
    length_front (suc n) (x ∷ xs) h = omega (arith, length_front n xs (omega arith))

    length_rest : (n : ℕ) (xs : List ℕ) → n ≤ length xs → length (drop n xs) + n ≡ length xs
    length_rest zero xs h = omega arith
    length_rest (suc n) [] h = absurd (omega arith)
    length_rest (suc n) (x ∷ xs) h = omega (arith, length_rest n xs (omega arith))

cut_lengths : (bytes : List ℕ) (from : ℕ) (lens : List ℕ) → AreEnds from (length bytes) (ends_after from lens) → map (λ t. length t) (cut bytes from (ends_after from lens)) ≡ lens
cut_lengths bytes from [] h = refl
cut_lengths bytes from (len ∷ lens) h =
    let here : length (slice_range bytes from (from + len)) ≡ len = length_range bytes from (from + len) h.0 (ends_below (from + len) (length bytes) (ends_after (from + len) lens) h.1) ∙ omega_len from len in
    λ i. here i ∷ cut_lengths bytes (from + len) lens h.1 i
  where
    omega_len : (from len : ℕ) → (from + len) - from ≡ len
    omega_len from len = omega arith

-- ---- the lengths that bytes spell
four_bytes : (n : ℕ) (bytes : List ℕ) → length bytes ≡ 4 * suc n → AreBytes bytes → to_le_bytes w32 (from_le_bytes w32 (take 4 bytes)) ≡ take 4 bytes
four_bytes n bytes len small = le_bytes_4 (take 4 bytes) (from_le_bytes w32 (take 4 bytes)) (front_len bytes (omega arith)) (front_small bytes small) refl
  where
    front_len : (xs : List ℕ) → 4 ≤ length xs → length (take 4 xs) ≡ 4
    front_len [] h = absurd (omega arith)
    front_len (a ∷ []) h = absurd (omega arith)
    front_len (a ∷ b ∷ []) h = absurd (omega arith)
    front_len (a ∷ b ∷ c ∷ []) h = absurd (omega arith)
    front_len (a ∷ b ∷ c ∷ d ∷ xs) h = refl

    front_small : (xs : List ℕ) → AreBytes xs → AreBytes (take 4 xs)
    front_small xs h = front_bytes xs (take 4 xs) (drop 4 xs) (sym (take-append-drop 4 xs)) h

later_bytes : (bytes : List ℕ) → AreBytes bytes → AreBytes (drop 4 bytes)
later_bytes bytes small i = subst (λ (b : ℕ). b < 256) (dropped 4 bytes i) (small (4 + i))
  where
    dropped : (n : ℕ) (xs : List ℕ) (i : ℕ) → get_or xs (n + i) 0 ≡ get_or (drop n xs) i 0
    dropped zero xs i = ap (λ (k : ℕ). get_or xs k 0) (zero_plus i)
      where
        zero_plus : (k : ℕ) → 0 + k ≡ k
        zero_plus k = omega arith
    dropped (suc n) [] i = refl
    dropped (suc n) (x ∷ xs) i = ap (λ (k : ℕ). get_or (x ∷ xs) k 0) (suc_plus n i) ∙ dropped n xs i
      where
        suc_plus : (a b : ℕ) → suc a + b ≡ suc (a + b)
        suc_plus a b = omega arith

lengths_spelled : (rows : ℕ) (bytes : List ℕ) → length bytes ≡ 4 * rows → AreBytes bytes → flat_map (to_le_bytes w32) (lengths_read rows bytes) ≡ bytes
unfolding lengths_read
lengths_spelled zero [] len small = refl
lengths_spelled zero (b ∷ bytes) len small = absurd (omega arith)
lengths_spelled (suc rows) bytes len small =
    (λ i. four_bytes rows bytes len small i ++ lengths_spelled rows (drop 4 bytes) (dropped_len bytes (omega arith)) (later_bytes bytes small) i)
    ∙ take-append-drop 4 bytes
  where
    dropped_len : {n : ℕ} (xs : List ℕ) → length xs ≡ 4 + n → length (drop 4 xs) ≡ n
    dropped_len [] h = absurd (omega arith)
    dropped_len (a ∷ []) h = absurd (omega arith)
    dropped_len (a ∷ b ∷ []) h = absurd (omega arith)
    dropped_len (a ∷ b ∷ c ∷ []) h = absurd (omega arith)
    dropped_len (a ∷ b ∷ c ∷ d ∷ xs) h = omega arith

small_word : (bytes : List ℕ) → AreBytes bytes → from_le_bytes w32 (take 4 bytes) < 2 ^ 32
small_word bytes small =
    let front = front_bytes bytes (take 4 bytes) (drop 4 bytes) (sym (take-append-drop 4 bytes)) small in
    omega (arith, front 0, front 1, front 2, front 3)

lengths_small : (rows : ℕ) (bytes : List ℕ) → AreBytes bytes → AllByRecursion (λ len. len < 2 ^ 32) (lengths_read rows bytes)
unfolding lengths_read
lengths_small zero bytes small = tt
lengths_small (suc rows) bytes small = (small_word bytes small, lengths_small rows (drop 4 bytes) (later_bytes bytes small))

pub length_lengths : (rows : ℕ) (bytes : List ℕ) → length (lengths_read rows bytes) ≡ rows
unfolding lengths_read
length_lengths zero bytes = refl
length_lengths (suc rows) bytes = omega (arith, length_lengths rows (drop 4 bytes))

-- ---- what they spell
length_ends : (from : ℕ) (lens : List ℕ) → length (ends_after from lens) ≡ length lens
length_ends from [] = refl
length_ends from (len ∷ lens) = omega (arith, length_ends (from + len) lens)

pub length_texts : (rows : ℕ) (texts lengths : List ℕ) → length (cut texts 0 (ends_read rows lengths)) ≡ rows
length_texts rows texts lengths = length_cut texts 0 (ends_read rows lengths) ∙ length_ends 0 (lengths_read rows lengths) ∙ length_lengths rows lengths

texts_fit : (n : Nullability) (mask : List Bool) (ts : List (List ℕ)) → AllByRecursion (Takes n) mask → AllByRecursion IsUtf8 ts → AllByRecursion (Fits (utf8_type n)) (where_valid mask (map text ts))
texts_fit n [] ts t h = tt
texts_fit n (bit ∷ mask) [] t h = tt
texts_fit n (true ∷ mask) (x ∷ ts) t h = (h.0, texts_fit n mask ts t.1 h.1)
texts_fit n (false ∷ mask) (x ∷ ts) t h = (t.0, texts_fit n mask ts t.1 h.1)

small_lengths : (ts : List (List ℕ)) → AllByRecursion (λ len. len < 2 ^ 32) (map (λ t. length t) ts) → AllByRecursion (λ t. length t < 2 ^ 32) ts
small_lengths [] h = tt
small_lengths (t ∷ ts) h = (h.0, small_lengths ts h.1)

texts_short : (mask : List Bool) (ts : List (List ℕ)) → AllByRecursion (λ t. length t < 2 ^ 32) ts → AllByRecursion IsShort (where_valid mask (map text ts))
texts_short [] ts h = tt
texts_short (bit ∷ mask) [] h = tt
texts_short (true ∷ mask) (t ∷ ts) h = (h.0, texts_short mask ts h.1)
texts_short (false ∷ mask) (t ∷ ts) h = (omega arith, texts_short mask ts h.1)

texts_are_values : (ts : List (List ℕ)) → AllByRecursion (λ v. is_value v ≡ true) (map text ts)
texts_are_values [] = tt
texts_are_values (t ∷ ts) = (refl, texts_are_values ts)

lengths_of_buffers : (mask : List Bool) (ts : List (List ℕ)) → length mask ≡ length ts → NullsHold [] mask ts → flat_map length_slot (where_valid mask (map text ts)) ≡ flat_map (to_le_bytes w32) (map (λ t. length t) ts)
lengths_of_buffers [] [] e h = refl
lengths_of_buffers (true ∷ mask) (t ∷ ts) e h = ap (λ (bs : List ℕ). to_le_bytes w32 (length t) ++ bs) (lengths_of_buffers mask ts (omega arith) h)
lengths_of_buffers (false ∷ mask) (t ∷ ts) e h =
    let none : List ℕ = [] in
    let here : to_le_bytes w32 (length none) ≡ to_le_bytes w32 (length t) = ap (λ (s : List ℕ). to_le_bytes w32 (length s)) (sym h.0) in
    λ i. here i ++ lengths_of_buffers mask ts (omega arith) h.1 i
lengths_of_buffers [] (t ∷ ts) e h = absurd (omega arith)
lengths_of_buffers (bit ∷ mask) [] e h = absurd (omega arith)

texts_of_buffers : (mask : List Bool) (ts : List (List ℕ)) → length mask ≡ length ts → NullsHold [] mask ts → flat_map text_in (where_valid mask (map text ts)) ≡ flat_map (λ t. t) ts
texts_of_buffers [] [] e h = refl
texts_of_buffers (true ∷ mask) (t ∷ ts) e h = ap (λ (bs : List ℕ). t ++ bs) (texts_of_buffers mask ts (omega arith) h)
texts_of_buffers (false ∷ mask) (t ∷ ts) e h = λ i. sym h.0 i ++ texts_of_buffers mask ts (omega arith) h.1 i
texts_of_buffers [] (t ∷ ts) e h = absurd (omega arith)
texts_of_buffers (bit ∷ mask) [] e h = absurd (omega arith)

pub texts_spell : (n : Nullability) (rows : ℕ) (bytes validity buffers lengths texts : List ℕ) (mask : List Bool) → bytes ≡ validity ++ buffers → IsValidity n rows validity → AreBytes bytes → AreBytes lengths → mask ≡ valid_bits n rows validity
    → lengths ≡ take (4 * rows) buffers → texts ≡ drop (4 * rows) buffers → length lengths ≡ 4 * rows → AreEnds 0 (length texts) (ends_read rows lengths)
    → AllByRecursion IsUtf8 (cut texts 0 (ends_read rows lengths)) → NullsHold [] mask (cut texts 0 (ends_read rows lengths)) → Spells (utf8_type n) rows bytes (where_valid mask (map text (cut texts 0 (ends_read rows lengths))))
texts_spell n rows bytes validity buffers lengths texts mask joined ok small small_front is front back front_len filled utf8 held =
    let ts = cut texts 0 (ends_read rows lengths) in
    let values = where_valid mask (map text ts) in
    let mask_len : length mask ≡ rows = ap length is ∙ valid_len n rows validity ok in
    let len : length mask ≡ length ts = mask_len ∙ sym (length_texts rows texts lengths) in
    let slot_len : length mask ≡ length (map text ts) = len ∙ sym (length-map ts text) in
    let taken : AllByRecursion (Takes n) mask = subst (AllByRecursion (Takes n)) (sym is) (mask_taken n rows validity) in
    let lens : map (λ (t : List ℕ). length t) ts ≡ lengths_read rows lengths = cut_lengths texts 0 (lengths_read rows lengths) filled in
    let shorts : AllByRecursion (λ (t : List ℕ). length t < 2 ^ 32) ts = small_lengths ts (subst (AllByRecursion (λ (k : ℕ). k < 2 ^ 32)) (sym lens) (lengths_small rows lengths small_front)) in
    let one : validity_bytes n values ≡ validity = validity_is n rows validity values ok (front_bytes bytes validity buffers joined small) (valid_again mask (map text ts) slot_len (texts_are_values ts) ∙ is) in
    let two : flat_map length_slot values ≡ lengths = lengths_of_buffers mask ts len held ∙ ap (flat_map (to_le_bytes w32)) lens ∙ lengths_spelled rows lengths front_len small_front in
    let three : flat_map text_in values ≡ texts = texts_of_buffers mask ts len held ∙ flat-cut texts 0 (ends_read rows lengths) filled in
    let whole : lengths ++ texts ≡ buffers = (λ i. front i ++ back i) ∙ take-append-drop (4 * rows) buffers in
    let some : List ℕ → Option (List ℕ) = λ bs. Some bs in
    record {
      count = length-where_valid mask (map text ts) slot_len ∙ mask_len;
      fit = texts_fit n mask ts taken utf8;
      short = texts_short mask ts shorts;
      spelled = two_parts (utf8_type n) values tt ∙ (λ i. some (one i ++ (two i ++ three i))) ∙ ap (λ (bs : List ℕ). some (validity ++ bs)) whole ∙ ap some (sym joined);
    }

-- ---- what else spells the bytes
abbrev pub lens_in : List Datum → List ℕ
lens_in values = map (λ v. length (text_in v)) values

words_again : (values : List Datum) → AllByRecursion IsShort values → lengths_read (length values) (flat_map length_slot values) ≡ lens_in values
unfolding lengths_read
words_again [] h = refl
words_again (v ∷ vs) h =
    let word = length_slot v in
    (λ i. from_le_bytes w32 (take_at word (flat_map length_slot vs) 4 refl i) ∷ lengths_read (length vs) (drop_at word (flat_map length_slot vs) 4 refl i))
    ∙ (λ i. from_le_bytes-to_le_bytes_4 (length (text_in v)) h.0 i ∷ words_again vs h.1 i)

ends_fill : (from : ℕ) (values : List Datum) → AreEnds from (from + length (flat_map text_in values)) (ends_after from (lens_in values))
ends_fill from [] = omega arith
ends_fill from (v ∷ vs) =
    let last : (from + length (text_in v)) + length (flat_map text_in vs) ≡ from + length (text_in v ++ flat_map text_in vs) = omega (arith, length-append (text_in v) (flat_map text_in vs)) in
    (omega arith, subst (λ (k : ℕ). AreEnds (from + length (text_in v)) k (ends_after (from + length (text_in v)) (lens_in vs))) last (ends_fill (from + length (text_in v)) vs))

mid_range : (front word back : List ℕ) → slice_range (front ++ (word ++ back)) (length front) (length front + length word) ≡ word
mid_range front word back =
    let len : (length front + length word) - length front ≡ length word = omega arith in
    (λ i. take (len i) (drop_at front (word ++ back) (length front) refl i)) ∙ take_at word back (length word) refl

cut_again : (front : List ℕ) (values : List Datum) → cut (front ++ flat_map text_in values) (length front) (ends_after (length front) (lens_in values)) ≡ map text_in values
cut_again front [] = refl
cut_again front (v ∷ vs) =
    let word = text_in v in
    let rest = flat_map text_in vs in
    let next : length front + length word ≡ length (front ++ word) = sym (length-append front word) in
    let whole : front ++ (word ++ rest) ≡ (front ++ word) ++ rest = sym (append_assoc front word rest) in
    let later : cut (front ++ (word ++ rest)) (length front + length word) (ends_after (length front + length word) (lens_in vs)) ≡ map text_in vs = (λ i. cut (whole i) (next i) (ends_after (next i) (lens_in vs))) ∙ cut_again (front ++ word) vs in
    λ i. mid_range front word rest i ∷ later i

-- the texts that were read are those of every spelling
pub record TextsOf (values : List Datum) (rows : ℕ) (lengths texts : List ℕ) : Type 0 where
  pub filled : AreEnds 0 (length texts) (ends_read rows lengths)
  pub cut_texts : cut texts 0 (ends_read rows lengths) ≡ map text_in values

pub texts_of : (values : List Datum) (rows : ℕ) (lengths texts : List ℕ) → length values ≡ rows → AllByRecursion IsShort values → lengths ≡ flat_map length_slot values → texts ≡ flat_map text_in values → TextsOf values rows lengths texts
texts_of values rows lengths texts count short front back =
    let lens : lengths_read rows lengths ≡ lens_in values = (λ i. lengths_read (sym count i) (front i)) ∙ words_again values short in
    let same : ends_read rows lengths ≡ ends_after 0 (lens_in values) = ap (ends_after 0) lens in
    let nothing : 0 + length (flat_map text_in values) ≡ length texts = omega (arith, ap length back) in
    record {
      filled = subst (AreEnds 0 (length texts)) (sym same) (subst (λ (k : ℕ). AreEnds 0 k (ends_after 0 (lens_in values))) nothing (ends_fill 0 values));
      cut_texts = (λ i. cut (back i) 0 (same i)) ∙ cut_again [] values;
    }

pub values_utf8 : (n : Nullability) (values : List Datum) → AllByRecursion (Fits (utf8_type n)) values → AllByRecursion IsUtf8 (map text_in values)
values_utf8 n [] h = tt
values_utf8 n (null ∷ vs) h = (IsUtf8-nil, values_utf8 n vs h.1)
values_utf8 n (text t ∷ vs) h = (h.0, values_utf8 n vs h.1)
values_utf8 n (_ ∷ vs) h = absurd h.0

pub length_bytes : (bytes validity buffers lengths : List ℕ) (n : ℕ) → bytes ≡ validity ++ buffers → lengths ≡ take n buffers → AreBytes bytes → AreBytes lengths
length_bytes bytes validity buffers lengths n joined front small =
    subst AreBytes (sym front) (front_bytes buffers (take n buffers) (drop n buffers) (sym (take-append-drop n buffers)) (back_bytes bytes validity buffers joined small))
