-- Numbers of a leaf, as they are read from any bytes of the right length: they spell these bytes, and those of a range of
-- rows are read from the bytes of these rows alone.
use Rattle.std.proofs.Common.{◌≡◌, ℕ, zero, suc, ◌+◌, ◌-◌, ◌*◌, ◌^◌, ◌<◌, ◌≤◌, ℤ, pos, Bool, true, List, [], ◌∷◌, ◌++◌, length, map, take, drop, replicate, get_or, refl, sym, ap, subst, ◌∙◌, arith}
use Rattle.std.specs.List.{AllByRecursion, flat_map, slice_range}
use Rattle.std.specs.Int.{w8, w16, w32, w64, to_le_bytes, from_le_bytes}
use Rattle.std.proofs.Math.Seq.{drop-append-add, drop-nil}
use Rattle.std.proofs.lemmas.Int.{ints, of_z-to_z}
use Rattle.std.proofs.lemmas.List.{length-drop, nil_from_length, take-append-drop}
use Rattle.std.proofs.lemmas.Nat.{le_bytes_2, le_bytes_4, le_bytes_8}
use Rattle.vx_masks.specs.Rows.{NullsHold}
use Rattle.vx_types.specs.declared.dtypes.IntKind.{IntKind}
use Rattle.vx_types.specs.declared.dtypes.IntKind.TheVariants.{U8, U16, U32, U64, I8, I16, I32, I64}
use Rattle.vx_types.specs.declared.dtypes.Nullability.{Nullability}
use Rattle.vx_types.specs.Data.{Datum, int_type, number}
use Rattle.vx_types.specs.Fits.{IsInside}
use Rattle.vx_types.specs.Slots.{number_bytes, where_valid}
use Rattle.vx_arrays.specs.Buffers.{Takes}
use Rattle.vx_arrays.proofs.MappedRows.{map_range}
use Rattle.vx_arrays.proofs.PackedRows.{all_drop, all_take}
use Rattle.vx_arrays.proofs.ValidRows.{range-NullsHold, range_where_valid}
use Rattle.vx_segments.specs.declared.codings.Coding.TheVariants.{Plain}
use Rattle.vx_segments.specs.Parts.{IsValidity, valid_bits}
use Rattle.vx_segments.specs.Reading.{number_of, numbers_read}
use Rattle.vx_segments.specs.RowsRead.{SpellsRows}
use Rattle.vx_segments.proofs.Decoded.{AreBytes, Known, front_bytes, back_bytes, valid_len}
use Rattle.vx_segments.proofs.DecodedNumbers.{mask_taken, numbers_spell, same_numbers, spelled_zero}
use Rattle.vx_segments.proofs.KindNumbers.{size_of, number_len}
use Rattle.vx_segments.proofs.RangeRows.{range_len}

-- ---- a number of any bytes
small_8 : (word : List ℕ) → AreBytes word → from_le_bytes w8 word < 2 ^ 8
small_8 word small = omega (arith, small 0)

small_16 : (word : List ℕ) → AreBytes word → from_le_bytes w16 word < 2 ^ 16
small_16 word small = omega (arith, small 0, small 1)

small_32 : (word : List ℕ) → AreBytes word → from_le_bytes w32 word < 2 ^ 32
small_32 word small = omega (arith, small 0, small 1, small 2, small 3)

small_64 : (word : List ℕ) → AreBytes word → from_le_bytes w64 word < 2 ^ 64
small_64 word small = omega (arith, small 0, small 1, small 2, small 3, small 4, small 5, small 6, small 7)

same_one : (xs ys : List ℕ) → length xs ≡ 1 → length ys ≡ 1 → get_or xs 0 0 ≡ get_or ys 0 0 → xs ≡ ys
same_one [] ys p q e = absurd (omega arith)
same_one (x ∷ y ∷ xs) ys p q e = absurd (omega arith)
same_one (x ∷ []) [] p q e = absurd (omega arith)
same_one (x ∷ []) (y ∷ z ∷ ys) p q e = absurd (omega arith)
same_one (x ∷ []) (y ∷ []) p q e = ap (λ (b : ℕ). b ∷ []) e

one_again : (word : List ℕ) → length word ≡ 1 → AreBytes word → to_le_bytes w8 (from_le_bytes w8 word) ≡ word
one_again word len small = same_one (to_le_bytes w8 (from_le_bytes w8 word)) word refl len (omega (arith, small 0))

-- the number that a word spells has this word
pub word_again : (kind : IntKind) (word : List ℕ) → length word ≡ size_of kind → AreBytes word → number_bytes kind (number_of kind word) ≡ word
word_again U8 word len small = one_again word len small
word_again U16 word len small = le_bytes_2 word (from_le_bytes w16 word) len small refl
word_again U32 word len small = le_bytes_4 word (from_le_bytes w32 word) len small refl
word_again U64 word len small = le_bytes_8 word (from_le_bytes w64 word) len small refl
word_again I8 word len small = ap (to_le_bytes w8) (of_z-to_z w8 (from_le_bytes w8 word) (small_8 word small)) ∙ one_again word len small
word_again I16 word len small = le_bytes_2 word _ len small (of_z-to_z w16 (from_le_bytes w16 word) (small_16 word small))
word_again I32 word len small = le_bytes_4 word _ len small (of_z-to_z w32 (from_le_bytes w32 word) (small_32 word small))
word_again I64 word len small = le_bytes_8 word _ len small (of_z-to_z w64 (from_le_bytes w64 word) (small_64 word small))

number_inside : (kind : IntKind) (word : List ℕ) → AreBytes word → IsInside kind (number_of kind word)
number_inside U8 word small = let low = small_8 word small in (omega (arith, ints), omega (arith, ints, low))
number_inside U16 word small = let low = small_16 word small in (omega (arith, ints), omega (arith, ints, low))
number_inside U32 word small = let low = small_32 word small in (omega (arith, ints), omega (arith, ints, low))
number_inside U64 word small = let low = small_64 word small in (omega (arith, ints), omega (arith, ints, low))
number_inside I8 word small = let low = small_8 word small in (omega (arith, ints, low), omega (arith, ints, low))
number_inside I16 word small = let low = small_16 word small in (omega (arith, ints, low), omega (arith, ints, low))
number_inside I32 word small = let low = small_32 word small in (omega (arith, ints, low), omega (arith, ints, low))
number_inside I64 word small = let low = small_64 word small in (omega (arith, ints, low), omega (arith, ints, low))

-- ---- products with a number's size
pub more_slots : (kind : IntKind) (m : ℕ) → suc m * size_of kind ≡ size_of kind + m * size_of kind
more_slots U8 m = omega arith
more_slots U16 m = omega arith
more_slots U32 m = omega arith
more_slots U64 m = omega arith
more_slots I8 m = omega arith
more_slots I16 m = omega arith
more_slots I32 m = omega arith
more_slots I64 m = omega arith

pub no_slots : (kind : IntKind) → 0 * size_of kind ≡ 0
no_slots U8 = omega arith
no_slots U16 = omega arith
no_slots U32 = omega arith
no_slots U64 = omega arith
no_slots I8 = omega arith
no_slots I16 = omega arith
no_slots I32 = omega arith
no_slots I64 = omega arith

pub fewer_slots : (kind : IntKind) (from to : ℕ) → to * size_of kind - from * size_of kind ≡ (to - from) * size_of kind
fewer_slots U8 from to = omega arith
fewer_slots U16 from to = omega arith
fewer_slots U32 from to = omega arith
fewer_slots U64 from to = omega arith
fewer_slots I8 from to = omega arith
fewer_slots I16 from to = omega arith
fewer_slots I32 from to = omega arith
fewer_slots I64 from to = omega arith

pub slots_below : (kind : IntKind) (from to : ℕ) → from ≤ to → from * size_of kind ≤ to * size_of kind
slots_below U8 from to h = omega arith
slots_below U16 from to h = omega arith
slots_below U32 from to h = omega arith
slots_below U64 from to h = omega arith
slots_below I8 from to h = omega arith
slots_below I16 from to h = omega arith
slots_below I32 from to h = omega arith
slots_below I64 from to h = omega arith

-- ---- all numbers
words_small : (n : ℕ) (bytes : List ℕ) → AreBytes bytes → AreBytes (take n bytes) × AreBytes (drop n bytes)
words_small n bytes small =
    let whole : bytes ≡ take n bytes ++ drop n bytes = sym (take-append-drop n bytes) in
    (front_bytes bytes (take n bytes) (drop n bytes) whole small, back_bytes bytes (take n bytes) (drop n bytes) whole small)

word_len : (kind : IntKind) (rows : ℕ) (bytes : List ℕ) → length bytes ≡ suc rows * size_of kind → (length (take (size_of kind) bytes) ≡ size_of kind) × (length (drop (size_of kind) bytes) ≡ rows * size_of kind)
word_len kind rows bytes len =
    let more = more_slots kind rows in
    let rest : length (drop (size_of kind) bytes) ≡ rows * size_of kind = omega (arith, length-drop (size_of kind) bytes, len, more) in
    let whole : length (take (size_of kind) bytes) + length (drop (size_of kind) bytes) ≡ length bytes = sym (length_both (take (size_of kind) bytes) (drop (size_of kind) bytes)) ∙ ap length (take-append-drop (size_of kind) bytes) in
    (omega (arith, whole, rest, len, more), rest)
  where
    length_both : (xs ys : List ℕ) → length (xs ++ ys) ≡ length xs + length ys
    length_both [] ys = omega arith
    length_both (x ∷ xs) ys = omega (arith, length_both xs ys)

pub length_numbers : (kind : IntKind) (rows : ℕ) (bytes : List ℕ) → length (numbers_read kind rows bytes) ≡ rows
unfolding numbers_read
length_numbers kind zero bytes = refl
length_numbers kind (suc rows) bytes = omega (arith, length_numbers kind rows (drop (size_of kind) bytes))

pub numbers_inside : (kind : IntKind) (rows : ℕ) (bytes : List ℕ) → AreBytes bytes → AllByRecursion (IsInside kind) (numbers_read kind rows bytes)
unfolding numbers_read
numbers_inside kind zero bytes small = tt
numbers_inside kind (suc rows) bytes small =
    let parts = words_small (size_of kind) bytes small in
    (number_inside kind (take (size_of kind) bytes) parts.0, numbers_inside kind rows (drop (size_of kind) bytes) parts.1)

pub numbers_spelled : (kind : IntKind) (rows : ℕ) (bytes : List ℕ) → length bytes ≡ rows * size_of kind → AreBytes bytes → flat_map (number_bytes kind) (numbers_read kind rows bytes) ≡ bytes
unfolding numbers_read
numbers_spelled kind zero bytes len small = sym (nil_from_length bytes (len ∙ no_slots kind))
numbers_spelled kind (suc rows) bytes len small =
    let parts = words_small (size_of kind) bytes small in
    let lens = word_len kind rows bytes len in
    (λ i. word_again kind (take (size_of kind) bytes) lens.0 parts.0 i ++ numbers_spelled kind rows (drop (size_of kind) bytes) lens.1 parts.1 i)
    ∙ take-append-drop (size_of kind) bytes

-- ---- those of a range
abbrev no_bytes : List ℕ
no_bytes = []

take_behind : (xs ys : List ℕ) (n : ℕ) → take (length xs + n) (xs ++ ys) ≡ xs ++ take n ys
take_behind [] ys n = let e : 0 + n ≡ n = omega arith in ap (λ (k : ℕ). take k ys) e
take_behind (x ∷ xs) ys n =
    let e : suc (length xs) + n ≡ suc (length xs + n) = omega arith in
    ap (λ (k : ℕ). take k (x ∷ (xs ++ ys))) e ∙ ap (λ (zs : List ℕ). x ∷ zs) (take_behind xs ys n)

slot_behind : (kind : IntKind) (z : ℤ) (n : ℕ) → suc n * size_of kind ≡ length (number_bytes kind z) + n * size_of kind
slot_behind kind z n = more_slots kind n ∙ ap (λ (k : ℕ). k + n * size_of kind) (sym (number_len kind z))

slots_dropped : (kind : IntKind) (n : ℕ) (zs : List ℤ) → drop (n * size_of kind) (flat_map (number_bytes kind) zs) ≡ flat_map (number_bytes kind) (drop n zs)
slots_dropped kind zero zs = ap (λ (k : ℕ). drop k (flat_map (number_bytes kind) zs)) (no_slots kind)
slots_dropped kind (suc n) [] = drop-nil (suc n * size_of kind)
slots_dropped kind (suc n) (z ∷ zs) =
    let rest = flat_map (number_bytes kind) zs in
    ap (λ (k : ℕ). drop k (number_bytes kind z ++ rest)) (slot_behind kind z n) ∙ drop-append-add (number_bytes kind z) rest (n * size_of kind) ∙ slots_dropped kind n zs

take_none : (k : ℕ) → take k no_bytes ≡ []
take_none zero = refl
take_none (suc k) = refl

slots_taken : (kind : IntKind) (n : ℕ) (zs : List ℤ) → take (n * size_of kind) (flat_map (number_bytes kind) zs) ≡ flat_map (number_bytes kind) (take n zs)
slots_taken kind zero zs = ap (λ (k : ℕ). take k (flat_map (number_bytes kind) zs)) (no_slots kind)
slots_taken kind (suc n) [] = take_none (suc n * size_of kind)
slots_taken kind (suc n) (z ∷ zs) =
    let rest = flat_map (number_bytes kind) zs in
    ap (λ (k : ℕ). take k (number_bytes kind z ++ rest)) (slot_behind kind z n) ∙ take_behind (number_bytes kind z) rest (n * size_of kind) ∙ ap (λ (bs : List ℕ). number_bytes kind z ++ bs) (slots_taken kind n zs)

slots_range : (kind : IntKind) (from to : ℕ) (zs : List ℤ) → slice_range (flat_map (number_bytes kind) zs) (from * size_of kind) (to * size_of kind) ≡ flat_map (number_bytes kind) (slice_range zs from to)
slots_range kind from to zs = (λ i. take (fewer_slots kind from to i) (slots_dropped kind from zs i)) ∙ slots_taken kind (to - from) (drop from zs)

-- the numbers of the bytes of a range are those of its rows
pub range_numbers : (kind : IntKind) (rows from to : ℕ) (slots part : List ℕ) (zs : List ℤ) → from ≤ to → to ≤ rows → length slots ≡ rows * size_of kind → AreBytes slots → part ≡ slice_range slots (from * size_of kind) (to * size_of kind)
    → length zs ≡ to - from → AllByRecursion (IsInside kind) zs → flat_map (number_bytes kind) zs ≡ part → zs ≡ slice_range (numbers_read kind rows slots) from to
range_numbers kind rows from to slots part zs low high len small is count inside spelt =
    let all = numbers_read kind rows slots in
    let some = slice_range all from to in
    let bound : to ≤ length all = omega (arith, length_numbers kind rows slots, high) in
    let within : AllByRecursion (IsInside kind) some = all_take (IsInside kind) (to - from) (drop from all) (all_drop (IsInside kind) from all (numbers_inside kind rows slots small)) in
    let bytes : flat_map (number_bytes kind) some ≡ part = sym (slots_range kind from to all) ∙ ap (λ (bs : List ℕ). slice_range bs (from * size_of kind) (to * size_of kind)) (numbers_spelled kind rows slots len small) ∙ sym is in
    same_numbers kind zs some (count ∙ sym (range_len all from to low bound)) inside within (spelt ∙ sym bytes)

-- ---- what they spell
pub number_rows_spell : (kind : IntKind) (n : Nullability) (rows from to : ℕ) (bytes validity slots part : List ℕ) (mask : List Bool) (zs : List ℤ) → bytes ≡ validity ++ slots → IsValidity n rows validity → AreBytes bytes → length slots ≡ rows * size_of kind
    → from ≤ to → to ≤ rows → mask ≡ slice_range (valid_bits n rows validity) from to → NullsHold (pos 0) (valid_bits n rows validity) (numbers_read kind rows slots) → part ≡ slice_range slots (from * size_of kind) (to * size_of kind)
    → length zs ≡ to - from → AllByRecursion (IsInside kind) zs → flat_map (number_bytes kind) zs ≡ part → SpellsRows Plain (int_type kind n) rows bytes from to (where_valid mask (map number zs))
number_rows_spell kind n rows from to bytes validity slots part mask zs joined ok small len low high valid held is count inside spelt =
    let bits = valid_bits n rows validity in
    let all = numbers_read kind rows slots in
    let back : AreBytes slots = back_bytes bytes validity slots joined small in
    let same : zs ≡ slice_range all from to = range_numbers kind rows from to slots part zs low high len back is count inside spelt in
    record {
      all = where_valid bits (map number all);
      spelled = numbers_spell kind n rows bytes validity slots bits all joined ok small refl (length_numbers kind rows slots) (numbers_inside kind rows slots back) (numbers_spelled kind rows slots len back) held;
      picked = (λ i. where_valid (valid i) (map number (same i))) ∙ ap (where_valid (slice_range bits from to)) (map_range number all from to) ∙ sym (range_where_valid bits (map number all) from to);
    }

pub rows_hold_zero : (kind : IntKind) (n : Nullability) (rows from to : ℕ) (validity slots part : List ℕ) (mask : List Bool) (zs : List ℤ) → AreBytes slots → length slots ≡ rows * size_of kind
    → from ≤ to → to ≤ rows → mask ≡ slice_range (valid_bits n rows validity) from to → NullsHold (pos 0) (valid_bits n rows validity) (numbers_read kind rows slots) → part ≡ slice_range slots (from * size_of kind) (to * size_of kind)
    → length zs ≡ to - from → AllByRecursion (IsInside kind) zs → flat_map (number_bytes kind) zs ≡ part → NullsHold (pos 0) mask zs
rows_hold_zero kind n rows from to validity slots part mask zs small len low high valid held is count inside spelt =
    let same : zs ≡ slice_range (numbers_read kind rows slots) from to = range_numbers kind rows from to slots part zs low high len small is count inside spelt in
    subst (λ (bits : List Bool). NullsHold (pos 0) bits zs) (sym valid) (subst (λ (ys : List ℤ). NullsHold (pos 0) (slice_range (valid_bits n rows validity) from to) ys) (sym same) (range-NullsHold (pos 0) (valid_bits n rows validity) (numbers_read kind rows slots) from to held))

pub rows_taken : (n : Nullability) (rows from to : ℕ) (validity : List ℕ) (mask : List Bool) → mask ≡ slice_range (valid_bits n rows validity) from to → AllByRecursion (Takes n) mask
rows_taken n rows from to validity mask e =
    subst (AllByRecursion (Takes n)) (sym e) (all_take (Takes n) (to - from) (drop from (valid_bits n rows validity)) (all_drop (Takes n) from (valid_bits n rows validity) (mask_taken n rows validity)))

pub rows_len : (n : Nullability) (rows from to : ℕ) (validity : List ℕ) (mask : List Bool) → IsValidity n rows validity → from ≤ to → to ≤ rows → mask ≡ slice_range (valid_bits n rows validity) from to → length mask ≡ to - from
rows_len n rows from to validity mask ok low high e = ap length e ∙ range_len (valid_bits n rows validity) from to low (omega (arith, valid_len n rows validity ok, high))

-- ---- what else spells the bytes
pub known_zero : (kind : IntKind) (n : Nullability) (rows : ℕ) (validity slots : List ℕ) (values : List Datum) → Known (int_type kind n) n rows validity slots values → length slots ≡ rows * size_of kind → AreBytes slots → NullsHold (pos 0) (valid_bits n rows validity) (numbers_read kind rows slots)
known_zero kind n rows validity slots values k len small =
    spelled_zero kind n rows validity slots (valid_bits n rows validity) (numbers_read kind rows slots) values k refl (length_numbers kind rows slots) (numbers_inside kind rows slots small) (numbers_spelled kind rows slots len small)

-- ---- where no row can be null
pub all_valid : (rows from to : ℕ) → from ≤ to → to ≤ rows → replicate (to - from) true ≡ slice_range (replicate rows true) from to
all_valid rows from to low high = taken (to - from) (rows - from) (omega arith) ∙ sym (ap (take (to - from)) (dropped from rows))
  where
    dropped : (n m : ℕ) → drop n (replicate m true) ≡ replicate (m - n) true
    dropped zero m = let e : m ≡ m - 0 = omega arith in ap (λ (k : ℕ). replicate k true) e
    dropped (suc n) zero = let e : 0 ≡ 0 - suc n = omega arith in ap (λ (k : ℕ). replicate k true) e
    dropped (suc n) (suc m) = let e : m - n ≡ suc m - suc n = omega arith in dropped n m ∙ ap (λ (k : ℕ). replicate k true) e

    taken : (n m : ℕ) → n ≤ m → replicate n true ≡ take n (replicate m true)
    taken zero m h = refl
    taken (suc n) zero h = absurd (omega arith)
    taken (suc n) (suc m) h = ap (λ (bits : List Bool). true ∷ bits) (taken n m (omega arith))

pub all_held : (rows : ℕ) (zs : List ℤ) → NullsHold (pos 0) (replicate rows true) zs
all_held zero zs = tt
all_held (suc rows) [] = tt
all_held (suc rows) (z ∷ zs) = all_held rows zs
