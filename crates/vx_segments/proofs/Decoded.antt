-- Reading a leaf row by row: what was read so far, and what a spelling of the bytes has there.
use Rattle.std.proofs.Common.{◌≡◌, ℕ, zero, suc, ◌+◌, ◌*◌, ◌<◌, ◌≤◌, Bool, true, List, [], ◌∷◌, ◌++◌, length, map, take, drop, replicate, get_or, Option, Some, None, refl, sym, ap, subst, ◌∙◌, arith}
use Rattle.std.specs.List.{AllByRecursion, flat_map}
use Rattle.std.proofs.lemmas.List.{length-append, length-map, take_at, drop_at, length-take, length-replicate, get_or_append_left, get_or-append-add}
use Rattle.std.proofs.lemmas.Option.{same_Some}
use Rattle.vx_masks.specs.Bytes.{packed}
use Rattle.vx_types.specs.declared.dtypes.IntKind.{IntKind}
use Rattle.vx_types.specs.declared.dtypes.IntKind.TheVariants.{U8, U16, U32, U64, I8, I16, I32, I64}
use Rattle.vx_types.specs.declared.dtypes.Nullability.{Nullability}
use Rattle.vx_types.specs.declared.dtypes.Nullability.TheVariants.{NonNullable, Nullable}
use Rattle.vx_types.specs.Data.{DataType, bool_type, int_type, utf8_type, Datum, null, truth, number}
use Rattle.vx_types.specs.Fits.{Fits, nullability_of}
use Rattle.vx_types.specs.Leaf.{IsLeaf, number_slot, length_slot, slot_bytes}
use Rattle.vx_types.specs.Slots.{IsShort, is_value, number_in, text_in}
use Rattle.vx_segments.specs.Parts.{IsValidity, valid_bits}
use Rattle.vx_segments.specs.Segment.{Spells, validity_bytes}
use Rattle.vx_segments.specs.Reading.{decoded, bits_of, bits_read, packed_len}
use Rattle.vx_segments.proofs.Bits.{packed_read, length-bits_of}
use Rattle.vx_segments.proofs.KindNumbers.{size_of, number_len}
use Rattle.vx_segments.proofs.Leaves.{none_null, validity_len, two_parts, length_slots_len}

abbrev pub AreBytes : List ℕ → Type 0
AreBytes bytes = (i : ℕ) → get_or bytes i 0 < 256

pub front_bytes : (bytes front back : List ℕ) → bytes ≡ front ++ back → AreBytes bytes → AreBytes front
front_bytes bytes front back e h i = front_byte front i (λ lt. subst (λ (b : ℕ). b < 256) (ap (λ (bs : List ℕ). get_or bs i 0) e ∙ get_or_append_left front back 0 i lt) (h i))
  where
    front_byte : (xs : List ℕ) (k : ℕ) → (k < length xs → get_or xs k 0 < 256) → get_or xs k 0 < 256
    front_byte [] k f = omega arith
    front_byte (x ∷ xs) zero f = f (omega arith)
    front_byte (x ∷ xs) (suc k) f = front_byte xs k (λ lt. f (omega arith))

pub back_bytes : (bytes front back : List ℕ) → bytes ≡ front ++ back → AreBytes bytes → AreBytes back
back_bytes bytes front back e h i = subst (λ (b : ℕ). b < 256) (ap (λ (bs : List ℕ). get_or bs (length front + i) 0) e ∙ get_or-append-add front back i 0) (h (length front + i))

-- ---- the validity
pub valid_len : (n : Nullability) (rows : ℕ) (validity : List ℕ) → IsValidity n rows validity → length (valid_bits n rows validity) ≡ rows
valid_len NonNullable rows validity h = length-replicate rows true
valid_len Nullable rows validity h = omega (arith, length-take rows (flat_map bits_of validity), length-bits_of validity, h.0)

-- ---- what a spelling has
pub record Known (t : DataType) (n : Nullability) (rows : ℕ) (validity slots : List ℕ) (values : List Datum) : Type 0 where
  pub count : length values ≡ rows
  pub fit : AllByRecursion (Fits t) values
  pub short : AllByRecursion IsShort values
  pub valid : valid_bits n rows validity ≡ map is_value values
  pub slot : slots ≡ slot_bytes t values

pub two_spelled : (t : DataType) (n : Nullability) (rows : ℕ) (bytes : List ℕ) (values : List Datum) → IsLeaf t → nullability_of t ≡ n → Spells t rows bytes values → bytes ≡ validity_bytes n values ++ slot_bytes t values
two_spelled t n rows bytes values l e s = same_Some bytes (validity_bytes n values ++ slot_bytes t values) (sym s.spelled ∙ two_parts t values l ∙ ap (λ (m : Nullability). Some (validity_bytes m values ++ slot_bytes t values)) e)

same_parts : (n : Nullability) (rows : ℕ) (values : List Datum) (validity slots rest : List ℕ) → length values ≡ rows → IsValidity n rows validity → validity ++ slots ≡ validity_bytes n values ++ rest → (validity ≡ validity_bytes n values) × (slots ≡ rest)
same_parts NonNullable rows values validity slots rest count ok e = (ok, ap (λ (v : List ℕ). v ++ slots) (sym ok) ∙ e)
same_parts Nullable rows values validity slots rest count ok e =
    let len : length (packed (map is_value values)) ≡ packed_len rows = validity_len values ∙ ap packed_len count in (
      sym (take_at validity slots (packed_len rows) ok.0) ∙ ap (take (packed_len rows)) e ∙ take_at (packed (map is_value values)) rest (packed_len rows) len,
      sym (drop_at validity slots (packed_len rows) ok.0) ∙ ap (drop (packed_len rows)) e ∙ drop_at (packed (map is_value values)) rest (packed_len rows) len,
    )

bits_again : (bit : Datum → Bool) (rows : ℕ) (values : List Datum) → length values ≡ rows → bits_read rows (packed (map bit values)) ≡ map bit values
bits_again bit rows values count =
    let len : length (map bit values) ≡ rows = length-map values bit ∙ count in
    subst (λ (k : ℕ). bits_read k (packed (map bit values)) ≡ map bit values) len (packed_read (map bit values))

valid_again : (t : DataType) (n : Nullability) (rows : ℕ) (values : List Datum) → nullability_of t ≡ n → length values ≡ rows → AllByRecursion (Fits t) values → valid_bits n rows (validity_bytes n values) ≡ map is_value values
valid_again t NonNullable rows values e count h = ap (λ (k : ℕ). replicate k true) (sym count) ∙ none_null t values e h
valid_again t Nullable rows values e count h = bits_again is_value rows values count

pub known : (t : DataType) (n : Nullability) (rows : ℕ) (bytes validity slots : List ℕ) (values : List Datum) → IsLeaf t → nullability_of t ≡ n → bytes ≡ validity ++ slots → IsValidity n rows validity → Spells t rows bytes values → Known t n rows validity slots values
known t n rows bytes validity slots values l e joined ok s =
    let parts = same_parts n rows values validity slots (slot_bytes t values) s.count ok (sym joined ∙ two_spelled t n rows bytes values l e s) in
    record {
      count = s.count;
      fit = s.fit;
      short = s.short;
      valid = ap (valid_bits n rows) parts.0 ∙ valid_again t n rows values e s.count s.fit;
      slot = parts.1;
    }

-- ---- truth values

-- ---- slots of one size

-- ---- numbers
pub numbers_len : (kind : IntKind) (values : List Datum) → length (flat_map (number_slot kind) values) ≡ length values * size_of kind
numbers_len kind [] = omega arith
numbers_len kind (v ∷ vs) =
    let more : length (flat_map (number_slot kind) (v ∷ vs)) ≡ size_of kind + length vs * size_of kind = length-append (number_slot kind v) (flat_map (number_slot kind) vs) ∙ (λ i. number_len kind (number_in v) i + numbers_len kind vs i) in
    let times : suc (length vs) * size_of kind ≡ size_of kind + length vs * size_of kind = by_size kind (length vs) in
    more ∙ sym times
  where
    by_size : (k : IntKind) (m : ℕ) → suc m * size_of k ≡ size_of k + m * size_of k
    by_size U8 m = omega arith
    by_size U16 m = omega arith
    by_size U32 m = omega arith
    by_size U64 m = omega arith
    by_size I8 m = omega arith
    by_size I16 m = omega arith
    by_size I32 m = omega arith
    by_size I64 m = omega arith

pub numbers_fill : (kind : IntKind) (n : Nullability) (rows : ℕ) (validity slots : List ℕ) (values : List Datum) → Known (int_type kind n) n rows validity slots values → length slots ≡ rows * size_of kind
numbers_fill kind n rows validity slots values k = ap length k.slot ∙ numbers_len kind values ∙ ap (λ (m : ℕ). m * size_of kind) k.count

-- ---- texts

-- the lengths and the texts of a spelling
pub record Texts (rows : ℕ) (lengths texts : List ℕ) (values : List Datum) : Type 0 where
  pub lens : lengths ≡ flat_map length_slot values
  pub all : texts ≡ flat_map text_in values

pub texts_known : (n : Nullability) (rows : ℕ) (validity slots lengths texts : List ℕ) (values : List Datum) → Known (utf8_type n) n rows validity slots values → lengths ≡ take (4 * rows) slots → texts ≡ drop (4 * rows) slots → Texts rows lengths texts values
texts_known n rows validity slots lengths texts values k front back =
    let size : length (flat_map length_slot values) ≡ 4 * rows = length_slots_len values ∙ ap (λ (m : ℕ). 4 * m) k.count in
    record {
      lens = front ∙ ap (take (4 * rows)) k.slot ∙ take_at (flat_map length_slot values) (flat_map text_in values) (4 * rows) size;
      all = back ∙ ap (drop (4 * rows)) k.slot ∙ drop_at (flat_map length_slot values) (flat_map text_in values) (4 * rows) size;
    }

pub texts_room : (n : Nullability) (rows : ℕ) (validity slots : List ℕ) (values : List Datum) → Known (utf8_type n) n rows validity slots values → 4 * rows ≤ length slots
texts_room n rows validity slots values k = omega (arith, ap length k.slot, length-append (flat_map length_slot values) (flat_map text_in values), length_slots_len values, k.count)

pub unread_from : (t : DataType) (rows : ℕ) (bytes : List ℕ) → ((values : List Datum) → ¬ (Spells t rows bytes values)) → ((values : List Datum) → decoded t rows bytes ≡ Some values → Spells t rows bytes values) → decoded t rows bytes ≡ None
unread_from t rows bytes none law = elim (decoded t rows bytes) as (λ (o : Option (List Datum)). ((values : List Datum) → o ≡ Some values → Spells t rows bytes values) → o ≡ None) [ None ↦ λ h. refl | Some values ↦ λ h. absurd (none values (h values refl)) ] law

-- ---- what is no text is short
pub truths_short : (n : Nullability) (values : List Datum) → AllByRecursion (Fits (bool_type n)) values → AllByRecursion IsShort values
truths_short n [] h = tt
truths_short n (null ∷ vs) h = (omega arith, truths_short n vs h.1)
truths_short n (truth b ∷ vs) h = (omega arith, truths_short n vs h.1)
truths_short n (_ ∷ vs) h = absurd h.0

pub numbers_short : (kind : IntKind) (n : Nullability) (values : List Datum) → AllByRecursion (Fits (int_type kind n)) values → AllByRecursion IsShort values
numbers_short kind n [] h = tt
numbers_short kind n (null ∷ vs) h = (omega arith, numbers_short kind n vs h.1)
numbers_short kind n (number z ∷ vs) h = (omega arith, numbers_short kind n vs h.1)
numbers_short kind n (_ ∷ vs) h = absurd h.0

-- ---- texts, row by row
