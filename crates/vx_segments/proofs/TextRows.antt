-- Texts that lie one behind the other in a buffer, told by their lengths, and those of a range of rows.
use Rattle.std.proofs.Common.{◌≡◌, ℕ, zero, suc, ◌+◌, ◌-◌, ◌*◌, ◌^◌, ◌<◌, ◌≤◌, Bool, true, false, List, [], ◌∷◌, ◌++◌, length, map, take, drop, get_or, Some, refl, sym, ap, subst, ◌∙◌, arith}
use Rattle.std.specs.Prelude.{slice_get}
use Rattle.std.specs.Int.{w32, to_le_bytes, from_le_bytes}
use Rattle.std.specs.List.{AllByRecursion, slice_range}
use Rattle.std.specs.Str.{IsUtf8, IsCharBoundary}
use Rattle.std.proofs.lemmas.List.{length-append, drop-drop, drop-take, take-take}
use Rattle.vx_masks.specs.Rows.{Holds, NullsHold}
use Rattle.vx_types.specs.declared.dtypes.Nullability.{Nullability}
use Rattle.vx_types.specs.Data.{Datum, utf8_type, text}
use Rattle.vx_types.specs.Slots.{is_value, where_valid}
use Rattle.vx_arrays.specs.Texts.{cut, AreEnds, AreTexts, ends_after}
use Rattle.vx_arrays.proofs.CutTexts.{ends_below}
use Rattle.vx_arrays.proofs.HeldRows.{bit_held, held_bit}
use Rattle.vx_arrays.proofs.MappedRows.{map_range}
use Rattle.vx_arrays.proofs.NullSlots.{nulls_are_empty}
use Rattle.vx_arrays.proofs.PackedRows.{all_drop, all_take}
use Rattle.vx_arrays.proofs.TextBounds.{ends_bound, texts_utf8_start, whole_utf8}
use Rattle.vx_arrays.proofs.ValidRows.{range-NullsHold, range_where_valid}
use Rattle.vx_segments.specs.declared.codings.Coding.TheVariants.{Plain}
use Rattle.vx_segments.specs.Parts.{IsValidity, valid_bits}
use Rattle.vx_segments.specs.Reading.{ends_read, lengths_read}
use Rattle.vx_segments.specs.RowsRead.{SpellsRows}
use Rattle.vx_segments.specs.TextRows.{LieBetween, LieFrom}
use Rattle.vx_segments.proofs.Decoded.{AreBytes, Known, texts_known}
use Rattle.vx_segments.proofs.DecodedTexts.{length_bytes, length_lengths, texts_of, texts_spell, values_utf8}
use Rattle.vx_segments.proofs.RangeRows.{none_hold, range_len}
use Rattle.vx_segments.proofs.TextEnds.{next_read}

-- ---- lengths, cut
pub no_lengths : (rows row : ℕ) (bytes : List ℕ) → rows ≤ row → lengths_read (rows - row) bytes ≡ []
unfolding lengths_read
no_lengths rows row bytes past = let none : rows - row ≡ 0 = omega arith in ap (λ (n : ℕ). lengths_read n bytes) none

lengths_cut : (m n : ℕ) (bytes : List ℕ) → lengths_read (m + n) bytes ≡ lengths_read m bytes ++ lengths_read n (drop (4 * m) bytes)
unfolding lengths_read
lengths_cut zero n bytes =
    let all : 0 + n ≡ n = omega arith in
    let here : 0 ≡ 4 * 0 = omega arith in
    λ i. lengths_read (all i) (drop (here i) bytes)
lengths_cut (suc m) n bytes =
    let all : suc m + n ≡ suc (m + n) = omega arith in
    let place : 4 + 4 * m ≡ 4 * suc m = omega arith in
    let later : drop (4 * m) (drop 4 bytes) ≡ drop (4 * suc m) bytes = drop-drop (4 * m) 4 bytes ∙ ap (λ (k : ℕ). drop k bytes) place in
    ap (λ (k : ℕ). lengths_read k bytes) all
    ∙ ap (λ (lens : List ℕ). from_le_bytes w32 (take 4 bytes) ∷ lens) (lengths_cut m n (drop 4 bytes) ∙ ap (λ (bs : List ℕ). lengths_read m (drop 4 bytes) ++ lengths_read n bs) later)

-- only the bytes of the lengths count
lengths_front : (m k : ℕ) (bytes : List ℕ) → 4 * m ≤ k → lengths_read m (take k bytes) ≡ lengths_read m bytes
unfolding lengths_read
lengths_front zero k bytes h = refl
lengths_front (suc m) k bytes h =
    let cut : k ≡ 4 + (k - 4) = omega arith in
    let word : take 4 (take k bytes) ≡ take 4 bytes = take-take 4 k bytes (omega arith) in
    let later : drop 4 (take k bytes) ≡ take (k - 4) (drop 4 bytes) = ap (λ (n : ℕ). drop 4 (take n bytes)) cut ∙ drop-take 4 (k - 4) bytes in
    (λ i. from_le_bytes w32 (word i) ∷ lengths_read m (later i)) ∙ ap (λ (lens : List ℕ). from_le_bytes w32 (take 4 bytes) ∷ lens) (lengths_front m (k - 4) (drop 4 bytes) (omega arith))

-- the lengths of the rows in front of a range, of the range, and behind it
pub record ThreeLengths (rows from to : ℕ) (lengths front middle back : List ℕ) : Type 0 where
  pub all : lengths_read rows lengths ≡ lengths_read from front ++ (lengths_read (to - from) middle ++ lengths_read (rows - to) back)
  pub first : lengths_read from front ≡ take from (lengths_read rows lengths)
  pub some : lengths_read (to - from) middle ≡ slice_range (lengths_read rows lengths) from to

pub three_lengths : (rows from to : ℕ) (lengths front others middle back : List ℕ) → from ≤ to → to ≤ rows → front ≡ take (4 * from) lengths → others ≡ drop (4 * from) lengths → middle ≡ take (4 * (to - from)) others → back ≡ drop (4 * (to - from)) others
    → ThreeLengths rows from to lengths front middle back
three_lengths rows from to lengths front others middle back low high f o m b =
    let first : rows ≡ from + ((to - from) + (rows - to)) = omega arith in
    let one : lengths_read from front ≡ lengths_read from lengths = ap (lengths_read from) f ∙ lengths_front from (4 * from) lengths (omega arith) in
    let two : lengths_read (to - from) middle ≡ lengths_read (to - from) others = ap (lengths_read (to - from)) m ∙ lengths_front (to - from) (4 * (to - from)) others (omega arith) in
    let behind : lengths_read ((to - from) + (rows - to)) (drop (4 * from) lengths) ≡ lengths_read (to - from) middle ++ lengths_read (rows - to) back =
    ap (lengths_read ((to - from) + (rows - to))) (sym o) ∙ lengths_cut (to - from) (rows - to) others ∙ (λ i. sym two i ++ lengths_read (rows - to) (sym b i)) in
    let all : lengths_read rows lengths ≡ lengths_read from front ++ (lengths_read (to - from) middle ++ lengths_read (rows - to) back) =
    ap (λ (k : ℕ). lengths_read k lengths) first ∙ lengths_cut from ((to - from) + (rows - to)) lengths ∙ (λ i. sym one i ++ behind i) in
    record {
      all = all;
      first = sym (ap (take from) all ∙ taken from (lengths_read from front) (lengths_read (to - from) middle ++ lengths_read (rows - to) back) (length_lengths from front));
      some = sym (ap (λ (xs : List ℕ). slice_range xs from to) all ∙ middle_of from to (lengths_read from front) (lengths_read (to - from) middle) (lengths_read (rows - to) back) (length_lengths from front) (length_lengths (to - from) middle));
    }
  where
    dropped : (n : ℕ) (xs ys : List ℕ) → length xs ≡ n → drop n (xs ++ ys) ≡ ys
    dropped zero [] ys e = refl
    dropped zero (x ∷ xs) ys e = absurd (omega arith)
    dropped (suc n) [] ys e = absurd (omega arith)
    dropped (suc n) (x ∷ xs) ys e = dropped n xs ys (omega arith)

    taken : (n : ℕ) (xs ys : List ℕ) → length xs ≡ n → take n (xs ++ ys) ≡ xs
    taken zero [] ys e = refl
    taken zero (x ∷ xs) ys e = absurd (omega arith)
    taken (suc n) [] ys e = absurd (omega arith)
    taken (suc n) (x ∷ xs) ys e = ap (λ (zs : List ℕ). x ∷ zs) (taken n xs ys (omega arith))

    middle_of : (a b : ℕ) (xs ys zs : List ℕ) → length xs ≡ a → length ys ≡ b - a → slice_range (xs ++ (ys ++ zs)) a b ≡ ys
    middle_of a b xs ys zs e f = ap (take (b - a)) (dropped a xs (ys ++ zs) e) ∙ taken (b - a) ys zs f

middle_lengths : (rows from to : ℕ) (lengths middle : List ℕ) → from ≤ to → to ≤ rows → middle ≡ slice_range lengths (4 * from) (4 * to) → lengths_read (to - from) middle ≡ slice_range (lengths_read rows lengths) from to
middle_lengths rows from to lengths middle low high is =
    let size : 4 * to - 4 * from ≡ 4 * (to - from) = omega arith in
    let others = drop (4 * from) lengths in
    (three_lengths rows from to lengths (take (4 * from) lengths) others middle (drop (4 * (to - from)) others) low high refl refl (is ∙ ap (λ (n : ℕ). take n others) size) refl).some

-- ---- what lies in front, and what behind
pub lie_within : (buffer : List ℕ) (mask : List Bool) (row from to : ℕ) (lens : List ℕ) → from ≤ length buffer → LieFrom buffer mask row from to lens → to ≤ length buffer
lie_within buffer mask row from to [] low h = omega (arith, low, h)
lie_within buffer mask row from to (len ∷ lens) low h = lie_within buffer mask (suc row) (from + len) to lens h.0 h.1.1

pub lie_joined : (buffer : List ℕ) (mask : List Bool) (row other from mid to : ℕ) (xs ys : List ℕ) → other ≡ row + length xs → LieFrom buffer mask row from mid xs → LieFrom buffer mask other mid to ys → LieFrom buffer mask row from to (xs ++ ys)
lie_joined buffer mask row other from mid to [] ys e g h =
    let same : other ≡ row = omega (arith, e) in
    subst (λ (k : ℕ). LieFrom buffer mask row k to ys) (sym g) (subst (λ (k : ℕ). LieFrom buffer mask k mid to ys) same h)
lie_joined buffer mask row other from mid to (len ∷ xs) ys e g h = (g.0, (g.1.0, lie_joined buffer mask (suc row) other (from + len) mid to xs ys (omega (arith, e)) g.1.1 h))

-- two parts of texts that lie behind each other
pub record LieInTwo (buffer : List ℕ) (mask : List Bool) (row other from to : ℕ) (xs ys : List ℕ) : Type 0 where
  pub mid : ℕ
  pub front : LieFrom buffer mask row from mid xs
  pub back : LieFrom buffer mask other mid to ys

pub lie_cut : (buffer : List ℕ) (mask : List Bool) (row other from to : ℕ) (xs ys : List ℕ) → other ≡ row + length xs → LieFrom buffer mask row from to (xs ++ ys) → LieInTwo buffer mask row other from to xs ys
lie_cut buffer mask row other from to [] ys e h =
    let same : row ≡ other = omega (arith, e) in
    record { mid = from; front = refl; back = subst (λ (k : ℕ). LieFrom buffer mask k from to ys) same h }
lie_cut buffer mask row other from to (len ∷ xs) ys e h =
    let two = lie_cut buffer mask (suc row) other (from + len) to xs ys (omega (arith, e)) h.1.1 in
    record { mid = two.mid; front = (h.0, (h.1.0, two.front)); back = two.back }

pub lie_once : (buffer : List ℕ) (mask : List Bool) (row from to other : ℕ) (lens : List ℕ) → LieFrom buffer mask row from to lens → LieFrom buffer mask row from other lens → to ≡ other
lie_once buffer mask row from to other [] g h = sym g ∙ h
lie_once buffer mask row from to other (len ∷ lens) g h = lie_once buffer mask (suc row) (from + len) to other lens g.1.1 h.1.1

-- ---- one text more
-- the texts that are left, of which those in front lie as they should
pub record LieSoFar (buffer : List ℕ) (mask : List Bool) (first count done from : ℕ) (lengths : List ℕ) (place : ℕ) (rest : List ℕ) : Type 0 where
  pub left : length rest ≡ 4 * (count - done)
  pub inside : place ≤ length buffer
  pub forth : (to : ℕ) → LieFrom buffer mask first from to (lengths_read count lengths) → LieFrom buffer mask (first + done) place to (lengths_read (count - done) rest)
  pub back : (to : ℕ) → LieFrom buffer mask (first + done) place to (lengths_read (count - done) rest) → LieFrom buffer mask first from to (lengths_read count lengths)

pub lie_none : (buffer : List ℕ) (mask : List Bool) (first count from : ℕ) (lengths : List ℕ) → length lengths ≡ 4 * count → from ≤ length buffer → LieSoFar buffer mask first count 0 from lengths from lengths
lie_none buffer mask first count from lengths len low =
    let all : count ≡ count - 0 = omega arith in
    let here : first ≡ first + 0 = omega arith in
    record {
      left = omega (arith, len);
      inside = low;
      forth = λ to h. subst (λ (k : ℕ). LieFrom buffer mask k from to (lengths_read (count - 0) lengths)) here (subst (λ (k : ℕ). LieFrom buffer mask first from to (lengths_read k lengths)) all h);
      back = λ to h. subst (λ (k : ℕ). LieFrom buffer mask first from to (lengths_read k lengths)) (sym all) (subst (λ (k : ℕ). LieFrom buffer mask k from to (lengths_read (count - 0) lengths)) (sym here) h);
    }

-- what is asked of the next text
pub next_lies : (buffer : List ℕ) (mask : List Bool) (first count done from : ℕ) (lengths : List ℕ) (place len : ℕ) (rest more : List ℕ) → done < count → len < 2 ^ 32 → rest ≡ to_le_bytes w32 len ++ more
    → LieSoFar buffer mask first count done from lengths place rest → (to : ℕ) → LieFrom buffer mask first from to (lengths_read count lengths) → LieFrom buffer mask (first + done) place to (len ∷ lengths_read (count - (done + 1)) more)
next_lies buffer mask first count done from lengths place len rest more lt fits e h to all =
    subst (λ (lens : List ℕ). LieFrom buffer mask (first + done) place to lens) (next_read count done len rest more lt fits e) (h.forth to all)

pub lie_more : (buffer : List ℕ) (mask : List Bool) (first count done from : ℕ) (lengths : List ℕ) (place len next : ℕ) (rest more : List ℕ) (bit : Bool) → done < count → len < 2 ^ 32 → rest ≡ to_le_bytes w32 len ++ more → len ≤ length buffer - place
    → next ≡ place + len → slice_get mask (first + done) ≡ Some bit → IsCharBoundary buffer (place + len) × Holds 0 bit len → LieSoFar buffer mask first count done from lengths place rest → LieSoFar buffer mask first count (done + 1) from lengths next more
lie_more buffer mask first count done from lengths place len next rest more bit lt fits e low sum here ends h =
    let four : length (to_le_bytes w32 len) ≡ 4 = refl in
    let after : suc (first + done) ≡ first + (done + 1) = omega arith in
    let within : place + len ≤ length buffer = omega (arith, low, h.inside) in
    let lens = lengths_read (count - (done + 1)) more in
    subst (λ (k : ℕ). LieSoFar buffer mask first count (done + 1) from lengths k more) (sym sum) (record {
      left = omega (arith, h.left, ap length e, length-append (to_le_bytes w32 len) more, four);
      inside = within;
      forth = λ to all. subst (λ (k : ℕ). LieFrom buffer mask k (place + len) to lens) after (next_lies buffer mask first count done from lengths place len rest more lt fits e h to all).1.1;
      back = λ to later.
          let one : LieFrom buffer mask (first + done) place to (len ∷ lens) = (within, ((ends.0, held_bit 0 mask (first + done) bit len here ends.1), subst (λ (k : ℕ). LieFrom buffer mask k (place + len) to lens) (sym after) later)) in
          h.back to (subst (λ (ls : List ℕ). LieFrom buffer mask (first + done) place to ls) (sym (next_read count done len rest more lt fits e)) one);
    })

pub not_inside : (buffer : List ℕ) (mask : List Bool) (first count done from : ℕ) (lengths : List ℕ) (place len : ℕ) (rest more : List ℕ) → done < count → len < 2 ^ 32 → rest ≡ to_le_bytes w32 len ++ more → length buffer - place < len
    → LieSoFar buffer mask first count done from lengths place rest → (to : ℕ) → ¬ (LieFrom buffer mask first from to (lengths_read count lengths))
not_inside buffer mask first count done from lengths place len rest more lt fits e past h to all =
    let next = next_lies buffer mask first count done from lengths place len rest more lt fits e h to all in
    omega (arith, next.0, past, h.inside)

pub not_well : (buffer : List ℕ) (mask : List Bool) (first count done from : ℕ) (lengths : List ℕ) (place len : ℕ) (rest more : List ℕ) (bit : Bool) → done < count → len < 2 ^ 32 → rest ≡ to_le_bytes w32 len ++ more → slice_get mask (first + done) ≡ Some bit
    → ¬ (IsCharBoundary buffer (place + len) × Holds 0 bit len) → LieSoFar buffer mask first count done from lengths place rest → (to : ℕ) → ¬ (LieFrom buffer mask first from to (lengths_read count lengths))
not_well buffer mask first count done from lengths place len rest more bit lt fits e here other h to all =
    let next = next_lies buffer mask first count done from lengths place len rest more lt fits e h to all in
    other (next.1.0.0, bit_held 0 mask (first + done) bit len here next.1.0.1)

pub lie_all : (buffer : List ℕ) (mask : List Bool) (first count done from : ℕ) (lengths : List ℕ) (place : ℕ) (rest : List ℕ) → count ≤ done → LieSoFar buffer mask first count done from lengths place rest → LieFrom buffer mask first from place (lengths_read count lengths)
lie_all buffer mask first count done from lengths place rest past h =
    h.back place (subst (λ (lens : List ℕ). LieFrom buffer mask (first + done) place place lens) (sym (no_lengths count done rest past)) refl)

-- ---- the three parts
-- the parts of texts that lie as they should, where these lie
pub three_lie : (buffer : List ℕ) (mask : List Bool) (rows start end : ℕ) (lengths front middle back : List ℕ) (from to : ℕ) → start ≤ end → end ≤ rows → ThreeLengths rows start end lengths front middle back
    → LieFrom buffer mask 0 0 from (lengths_read start front) → LieFrom buffer mask start from to (lengths_read (end - start) middle) → LieFrom buffer mask end to (length buffer) (lengths_read (rows - end) back)
    → LieFrom buffer mask 0 0 (length buffer) (lengths_read rows lengths)
three_lie buffer mask rows start end lengths front middle back from to low high parts one two three =
    let later = lie_joined buffer mask start end from to (length buffer) (lengths_read (end - start) middle) (lengths_read (rows - end) back) (omega (arith, low, length_lengths (end - start) middle)) two three in
    subst (λ (lens : List ℕ). LieFrom buffer mask 0 0 (length buffer) lens) (sym parts.all) (lie_joined buffer mask 0 start 0 from (length buffer) (lengths_read start front) (lengths_read (end - start) middle ++ lengths_read (rows - end) back) (omega (arith, length_lengths start front)) one later)

-- where the parts of texts that lie as they should begin
pub record LieInThree (buffer : List ℕ) (mask : List Bool) (rows start end : ℕ) (front middle back : List ℕ) : Type 0 where
  pub from : ℕ
  pub to : ℕ
  pub one : LieFrom buffer mask 0 0 from (lengths_read start front)
  pub two : LieFrom buffer mask start from to (lengths_read (end - start) middle)
  pub three : LieFrom buffer mask end to (length buffer) (lengths_read (rows - end) back)

pub lie_in_three : (buffer : List ℕ) (mask : List Bool) (rows start end : ℕ) (lengths front middle back : List ℕ) → start ≤ end → end ≤ rows → ThreeLengths rows start end lengths front middle back
    → LieFrom buffer mask 0 0 (length buffer) (lengths_read rows lengths) → LieInThree buffer mask rows start end front middle back
lie_in_three buffer mask rows start end lengths front middle back low high parts all =
    let whole = subst (λ (lens : List ℕ). LieFrom buffer mask 0 0 (length buffer) lens) parts.all all in
    let first = lie_cut buffer mask 0 start 0 (length buffer) (lengths_read start front) (lengths_read (end - start) middle ++ lengths_read (rows - end) back) (omega (arith, length_lengths start front)) whole in
    let second = lie_cut buffer mask start end first.mid (length buffer) (lengths_read (end - start) middle) (lengths_read (rows - end) back) (omega (arith, low, length_lengths (end - start) middle)) first.back in
    record { from = first.mid; to = second.mid; one = first.front; two = second.front; three = second.back }

-- the second part begins where the first ends, and the third where the second does
pub second_lies : (buffer : List ℕ) (mask : List Bool) (rows start end from : ℕ) (front middle back : List ℕ) → (three : LieInThree buffer mask rows start end front middle back) → LieFrom buffer mask 0 0 from (lengths_read start front) → LieFrom buffer mask start from three.to (lengths_read (end - start) middle)
second_lies buffer mask rows start end from front middle back three one =
    subst (λ (k : ℕ). LieFrom buffer mask start k three.to (lengths_read (end - start) middle)) (lie_once buffer mask 0 0 three.from from (lengths_read start front) three.one one) three.two

pub third_lies : (buffer : List ℕ) (mask : List Bool) (rows start end from to : ℕ) (front middle back : List ℕ) → (three : LieInThree buffer mask rows start end front middle back) → LieFrom buffer mask 0 0 from (lengths_read start front)
    → LieFrom buffer mask start from to (lengths_read (end - start) middle) → LieFrom buffer mask end to (length buffer) (lengths_read (rows - end) back)
third_lies buffer mask rows start end from to front middle back three one two =
    let second = second_lies buffer mask rows start end from front middle back three one in
    subst (λ (k : ℕ). LieFrom buffer mask end k (length buffer) (lengths_read (rows - end) back)) (lie_once buffer mask start from three.to to (lengths_read (end - start) middle) second two) three.three

pub between : (buffer : List ℕ) (mask : List Bool) (rows start end : ℕ) (lengths front middle back : List ℕ) (from to : ℕ) → start ≤ end → end ≤ rows → ThreeLengths rows start end lengths front middle back
    → LieFrom buffer mask 0 0 from (lengths_read start front) → LieFrom buffer mask start from to (lengths_read (end - start) middle) → LieFrom buffer mask end to (length buffer) (lengths_read (rows - end) back)
    → LieBetween buffer mask start end (lengths_read rows lengths) from to
between buffer mask rows start end lengths front middle back from to low high parts one two three = record {
  all = three_lie buffer mask rows start end lengths front middle back from to low high parts one two three;
  front = subst (λ (lens : List ℕ). LieFrom buffer mask 0 0 from lens) parts.first one;
  middle = subst (λ (lens : List ℕ). LieFrom buffer mask start from to lens) parts.some two;
}

-- ---- the texts themselves
pub lie_ends : (buffer : List ℕ) (mask : List Bool) (row from to : ℕ) (lens : List ℕ) → LieFrom buffer mask row from to lens → AreEnds from to (ends_after from lens)
lie_ends buffer mask row from to [] h = h
lie_ends buffer mask row from to (len ∷ lens) h = (omega arith, lie_ends buffer mask (suc row) (from + len) to lens h.1.1)

lie_bounds : (buffer : List ℕ) (mask : List Bool) (row from to : ℕ) (lens : List ℕ) → LieFrom buffer mask row from to lens → AllByRecursion (IsCharBoundary buffer) (ends_after from lens)
lie_bounds buffer mask row from to [] h = tt
lie_bounds buffer mask row from to (len ∷ lens) h = (h.1.0.0, lie_bounds buffer mask (suc row) (from + len) to lens h.1.1)

held_before : (mask : List Bool) (row : ℕ) (t : List ℕ) (ts : List (List ℕ)) → Holds [] (get_or mask row false) t → NullsHold [] (drop (suc row) mask) ts → NullsHold [] (drop row mask) (t ∷ ts)
held_before [] zero t ts g h = tt
held_before [] (suc row) t ts g h = tt
held_before (true ∷ mask) zero t ts g h = h
held_before (false ∷ mask) zero t ts g h = (g, h)
held_before (bit ∷ mask) (suc row) t ts g h = held_before mask row t ts g h

before_held : (mask : List Bool) (row : ℕ) (t : List ℕ) (ts : List (List ℕ)) → row < length mask → NullsHold [] (drop row mask) (t ∷ ts) → Holds [] (get_or mask row false) t × NullsHold [] (drop (suc row) mask) ts
before_held [] row t ts lt h = absurd (omega arith)
before_held (true ∷ mask) zero t ts lt h = (tt, h)
before_held (false ∷ mask) zero t ts lt h = h
before_held (bit ∷ mask) (suc row) t ts lt h = before_held mask row t ts (omega arith) h

empty_held : (buffer : List ℕ) (from len : ℕ) (bit : Bool) → Holds 0 bit len → Holds [] bit (slice_range buffer from (from + len))
empty_held buffer from len true h = tt
empty_held buffer from len false h = let none : (from + len) - from ≡ 0 = omega (arith, h) in ap (λ (n : ℕ). take n (drop from buffer)) none

held_empty : (buffer : List ℕ) (from len : ℕ) (bit : Bool) → from + len ≤ length buffer → Holds [] bit (slice_range buffer from (from + len)) → Holds 0 bit len
held_empty buffer from len true high h = tt
held_empty buffer from len false high h = omega (arith, range_len buffer from (from + len) (omega arith) high, ap length h)

lie_held : (buffer : List ℕ) (mask : List Bool) (row from to : ℕ) (lens : List ℕ) → LieFrom buffer mask row from to lens → NullsHold [] (drop row mask) (cut buffer from (ends_after from lens))
lie_held buffer mask row from to [] h = none_hold [] (drop row mask)
lie_held buffer mask row from to (len ∷ lens) h =
    held_before mask row (slice_range buffer from (from + len)) (cut buffer (from + len) (ends_after (from + len) lens)) (empty_held buffer from len (get_or mask row false) h.1.0.1) (lie_held buffer mask (suc row) (from + len) to lens h.1.1)

pub held_lie : (buffer : List ℕ) (mask : List Bool) (row from to : ℕ) (lens : List ℕ) → row + length lens ≤ length mask → to ≤ length buffer → AreEnds from to (ends_after from lens) → AllByRecursion (IsCharBoundary buffer) (ends_after from lens)
    → NullsHold [] (drop row mask) (cut buffer from (ends_after from lens)) → LieFrom buffer mask row from to lens
held_lie buffer mask row from to [] room high ends bounds held = ends
held_lie buffer mask row from to (len ∷ lens) room high ends bounds held =
    let within : from + len ≤ length buffer = omega (arith, ends_below (from + len) to (ends_after (from + len) lens) ends.1, high) in
    let first = before_held mask row (slice_range buffer from (from + len)) (cut buffer (from + len) (ends_after (from + len) lens)) (omega (arith, room)) held in
    (within, ((bounds.0, held_empty buffer from len (get_or mask row false) within first.0), held_lie buffer mask (suc row) (from + len) to lens (omega (arith, room)) high ends.1 bounds.1 first.1))

-- texts that lie one behind the other up to the buffer's end
pub record AreAllTexts (buffer : List ℕ) (mask : List Bool) (ends : List ℕ) : Type 0 where
  pub texts : AreTexts buffer ends
  pub held : NullsHold [] mask (cut buffer 0 ends)

pub all_texts : (rows : ℕ) (buffer lengths : List ℕ) (mask : List Bool) → IsUtf8 buffer → LieFrom buffer mask 0 0 (length buffer) (lengths_read rows lengths) → AreAllTexts buffer mask (ends_read rows lengths)
all_texts rows buffer lengths mask utf8 h =
    let filled = lie_ends buffer mask 0 0 (length buffer) (lengths_read rows lengths) h in
    record {
      texts = record { filled = filled; utf8 = texts_utf8_start buffer (ends_read rows lengths) utf8 (lie_bounds buffer mask 0 0 (length buffer) (lengths_read rows lengths) h) filled };
      held = lie_held buffer mask 0 0 (length buffer) (lengths_read rows lengths) h;
    }

-- ---- the texts of a range, by their own bytes
range_part : (buffer : List ℕ) (from to k len : ℕ) → (from + k) + len ≤ to → slice_range (slice_range buffer from to) k (k + len) ≡ slice_range buffer (from + k) ((from + k) + len)
range_part buffer from to k len high =
    let one : (k + len) - k ≡ len = omega arith in
    let two : ((from + k) + len) - (from + k) ≡ len = omega arith in
    let room : to - from ≡ k + ((to - from) - k) = omega (arith, high) in
    let at : drop k (take (to - from) (drop from buffer)) ≡ take ((to - from) - k) (drop (from + k) buffer) =
    ap (λ (n : ℕ). drop k (take n (drop from buffer))) room ∙ drop-take k ((to - from) - k) (drop from buffer) ∙ ap (take ((to - from) - k)) (drop-drop k from buffer) in
    (λ i. take (one i) (at i)) ∙ take-take len ((to - from) - k) (drop (from + k) buffer) (omega (arith, high)) ∙ ap (λ (n : ℕ). take n (drop (from + k) buffer)) (sym two)

cut_part : (buffer : List ℕ) (from to k : ℕ) (lens : List ℕ) → AreEnds (from + k) to (ends_after (from + k) lens) → cut (slice_range buffer from to) k (ends_after k lens) ≡ cut buffer (from + k) (ends_after (from + k) lens)
cut_part buffer from to k [] h = refl
cut_part buffer from to k (len ∷ lens) h =
    let next : from + (k + len) ≡ (from + k) + len = omega arith in
    let below = ends_below ((from + k) + len) to (ends_after ((from + k) + len) lens) h.1 in
    let later : cut (slice_range buffer from to) (k + len) (ends_after (k + len) lens) ≡ cut buffer ((from + k) + len) (ends_after ((from + k) + len) lens) =
    cut_part buffer from to (k + len) lens (subst (λ (n : ℕ). AreEnds n to (ends_after n lens)) (sym next) h.1) ∙ ap (λ (n : ℕ). cut buffer n (ends_after n lens)) next in
    λ i. range_part buffer from to k len below i ∷ later i

ends_part : (from to k : ℕ) (lens : List ℕ) → AreEnds (from + k) to (ends_after (from + k) lens) → AreEnds k (to - from) (ends_after k lens)
ends_part from to k [] h = omega (arith, h)
ends_part from to k (len ∷ lens) h =
    let next : from + (k + len) ≡ (from + k) + len = omega arith in
    (omega arith, ends_part from to (k + len) lens (subst (λ (n : ℕ). AreEnds n to (ends_after n lens)) (sym next) h.1))

cut_behind : (buffer : List ℕ) (mask : List Bool) (row k from : ℕ) (lens : List ℕ) (n : ℕ) → n ≤ length lens → LieFrom buffer mask row k from (take n lens) → drop n (cut buffer k (ends_after k lens)) ≡ cut buffer from (ends_after from (drop n lens))
cut_behind buffer mask row k from lens zero le h = ap (λ (j : ℕ). cut buffer j (ends_after j lens)) h
cut_behind buffer mask row k from [] (suc n) le h = absurd (omega arith)
cut_behind buffer mask row k from (len ∷ lens) (suc n) le h = cut_behind buffer mask (suc row) (k + len) from lens n (omega arith) h.1.1

cut_first : (buffer : List ℕ) (k : ℕ) (lens : List ℕ) (n : ℕ) → take n (cut buffer k (ends_after k lens)) ≡ cut buffer k (ends_after k (take n lens))
cut_first buffer k lens zero = refl
cut_first buffer k [] (suc n) = refl
cut_first buffer k (len ∷ lens) (suc n) = ap (λ (ts : List (List ℕ)). slice_range buffer k (k + len) ∷ ts) (cut_first buffer (k + len) lens n)

-- the bytes between two places are those of the texts of the rows between
pub record RangeTexts (rows start end from to : ℕ) (buffer lengths middle : List ℕ) : Type 0 where
  pub forwards : from ≤ to
  pub inside : to ≤ length buffer
  pub fill : AreEnds 0 (to - from) (ends_read (end - start) middle)
  pub texts : cut (slice_range buffer from to) 0 (ends_read (end - start) middle) ≡ slice_range (cut buffer 0 (ends_read rows lengths)) start end
  pub utf8 : AllByRecursion IsUtf8 (cut (slice_range buffer from to) 0 (ends_read (end - start) middle))
  pub count : length (slice_range buffer from to) ≡ to - from

pub range_texts : (rows start end from to : ℕ) (buffer lengths middle : List ℕ) (mask : List Bool) → start ≤ end → end ≤ rows → IsUtf8 buffer → LieBetween buffer mask start end (lengths_read rows lengths) from to
    → middle ≡ slice_range lengths (4 * start) (4 * end) → RangeTexts rows start end from to buffer lengths middle
range_texts rows start end from to buffer lengths middle mask low high utf8 lie is =
    let lens = lengths_read rows lengths in
    let own = lengths_read (end - start) middle in
    let some : own ≡ slice_range lens start end = middle_lengths rows start end lengths middle low high is in
    let bound : start ≤ length lens = omega (arith, low, high, length_lengths rows lengths) in
    let ends : AreEnds from to (ends_after from (slice_range lens start end)) = lie_ends buffer mask start from to (slice_range lens start end) lie.middle in
    let here : AreEnds from to (ends_after from own) = subst (λ (xs : List ℕ). AreEnds from to (ends_after from xs)) (sym some) ends in
    let zero_more : from + 0 ≡ from = omega arith in
    let placed : AreEnds (from + 0) to (ends_after (from + 0) own) = subst (λ (k : ℕ). AreEnds k to (ends_after k own)) (sym zero_more) here in
    let inside : to ≤ length buffer = lie_within buffer mask start from to (slice_range lens start end) (lie_within buffer mask 0 0 from (take start lens) (omega arith) lie.front) lie.middle in
    let forwards : from ≤ to = ends_below from to (ends_after from own) here in
    let sliced : slice_range (cut buffer 0 (ends_after 0 lens)) start end ≡ cut buffer from (ends_after from (slice_range lens start end)) =
    ap (take (end - start)) (cut_behind buffer mask 0 0 from lens start bound lie.front) ∙ cut_first buffer from (drop start lens) (end - start) in
    let texts : cut (slice_range buffer from to) 0 (ends_after 0 own) ≡ slice_range (cut buffer 0 (ends_after 0 lens)) start end =
    cut_part buffer from to 0 own placed ∙ (λ i. cut buffer (zero_more i) (ends_after (zero_more i) (some i))) ∙ sym sliced in
    let all : AllByRecursion IsUtf8 (cut buffer 0 (ends_after 0 lens)) = (all_texts rows buffer lengths mask utf8 lie.all).texts.utf8 in
    record {
      forwards = forwards;
      inside = inside;
      fill = ends_part from to 0 own placed;
      texts = texts;
      utf8 = subst (AllByRecursion IsUtf8) (sym texts) (all_take IsUtf8 (end - start) (drop start (cut buffer 0 (ends_after 0 lens))) (all_drop IsUtf8 start (cut buffer 0 (ends_after 0 lens)) all));
      count = range_len buffer from to forwards inside;
    }

-- ---- what they spell
pub text_rows_spell : (n : Nullability) (rows from to : ℕ) (bytes validity buffers lengths joined : List ℕ) (mask valid : List Bool) (ts : List (List ℕ)) → bytes ≡ validity ++ buffers → IsValidity n rows validity → AreBytes bytes
    → lengths ≡ take (4 * rows) buffers → joined ≡ drop (4 * rows) buffers → length lengths ≡ 4 * rows → valid ≡ valid_bits n rows validity → AreAllTexts joined valid (ends_read rows lengths)
    → mask ≡ slice_range valid from to → ts ≡ slice_range (cut joined 0 (ends_read rows lengths)) from to → SpellsRows Plain (utf8_type n) rows bytes from to (where_valid mask (map text ts))
text_rows_spell n rows from to bytes validity buffers lengths joined mask valid ts whole ok small front back len is all part same =
    let texts = cut joined 0 (ends_read rows lengths) in
    record {
      all = where_valid valid (map text texts);
      spelled = texts_spell n rows bytes validity buffers lengths joined valid whole ok small (length_bytes bytes validity buffers lengths (4 * rows) whole front small) is front back len all.texts.filled all.texts.utf8 all.held;
      picked = (λ i. where_valid (part i) (map text (same i))) ∙ ap (where_valid (slice_range valid from to)) (map_range text texts from to) ∙ sym (range_where_valid valid (map text texts) from to);
    }

pub rows_hold_none : (from to : ℕ) (buffer ends : List ℕ) (mask valid : List Bool) (ts : List (List ℕ)) → AreAllTexts buffer valid ends → mask ≡ slice_range valid from to → ts ≡ slice_range (cut buffer 0 ends) from to → NullsHold [] mask ts
rows_hold_none from to buffer ends mask valid ts all part same =
    subst (λ (bits : List Bool). NullsHold [] bits ts) (sym part) (subst (λ (xs : List (List ℕ)). NullsHold [] (slice_range valid from to) xs) (sym same) (range-NullsHold [] valid (cut buffer 0 ends) from to all.held))

-- ---- what else spells the bytes
pub record KnownTexts (rows : ℕ) (joined lengths : List ℕ) (valid : List Bool) : Type 0 where
  pub utf8 : IsUtf8 joined
  pub lie : LieFrom joined valid 0 0 (length joined) (lengths_read rows lengths)

pub known_lie : (n : Nullability) (rows : ℕ) (validity buffers lengths joined : List ℕ) (valid : List Bool) (values : List Datum) → Known (utf8_type n) n rows validity buffers values → lengths ≡ take (4 * rows) buffers → joined ≡ drop (4 * rows) buffers
    → valid ≡ valid_bits n rows validity → length valid ≡ rows → KnownTexts rows joined lengths valid
known_lie n rows validity buffers lengths joined valid values k front back is count =
    let t = texts_known n rows validity buffers lengths joined values k front back in
    let o = texts_of values rows lengths joined k.count k.short t.lens t.all in
    let ends = ends_read rows lengths in
    let utf8 : AllByRecursion IsUtf8 (cut joined 0 ends) = subst (AllByRecursion IsUtf8) (sym o.cut_texts) (values_utf8 n values k.fit) in
    let bits : map is_value values ≡ valid = sym k.valid ∙ sym is in
    let held : NullsHold [] valid (cut joined 0 ends) = subst (λ (bs : List Bool). NullsHold [] bs (cut joined 0 ends)) bits (subst (λ (ts : List (List ℕ)). NullsHold [] (map is_value values) ts) (sym o.cut_texts) (nulls_are_empty n values k.fit)) in
    record {
      utf8 = whole_utf8 joined ends o.filled utf8;
      lie = held_lie joined valid 0 0 (length joined) (lengths_read rows lengths) (omega (arith, count, length_lengths rows lengths)) (omega arith) o.filled (ends_bound joined 0 ends o.filled utf8) held;
    }
