-- What the bytes of a leaf spell is read from them.
use Rattle.std.proofs.Common.{◌≡◌, ℕ, suc, ◌*◌, Bool, true, false, T, List, [], ◌∷◌, ◌++◌, length, map, take, drop, replicate, Option, Some, None, refl, sym, ap, subst, ◌∙◌, arith, append_assoc}
use Rattle.std.specs.Prelude.{int_le, nat_lt}
use Rattle.std.specs.List.{AllByRecursion, list_all, flat_map}
use Rattle.std.specs.Int.{w32, from_le_bytes}
use Rattle.std.proofs.lemmas.Bool.{and_from, eq-eqb, lt-ltb, cond-true}
use Rattle.std.proofs.lemmas.List.{take_at, drop_at, length-append, length-map}
use Rattle.std.proofs.lemmas.Nat.{from_le_bytes-to_le_bytes_4}
use Rattle.std.proofs.lemmas.Slice.Eq.{bytes_eq-Decides}
use Rattle.std.proofs.lemmas.Str.{is_utf8-from_IsUtf8}
use Rattle.vx_masks.specs.Bytes.{packed}
use Rattle.vx_types.specs.declared.dtypes.IntKind.{IntKind}
use Rattle.vx_types.specs.declared.dtypes.Nullability.{Nullability}
use Rattle.vx_types.specs.declared.dtypes.Nullability.TheVariants.{NonNullable, Nullable}
use Rattle.vx_types.specs.Data.{DataType, bool_type, int_type, utf8_type, struct_type, list_type, Datum, null, truth, number, text, structure}
use Rattle.vx_types.specs.Fits.{Fits, TakesNull, takes_null, least_of, greatest_of, nullability_of}
use Rattle.vx_types.specs.Leaf.{IsLeaf, number_slot, length_slot, slot_bytes}
use Rattle.vx_types.specs.Slots.{IsShort, is_value, truth_in, number_in, text_in, number_bytes, where_valid}
use Rattle.vx_types.specs.Limits.{text_limit}
use Rattle.vx_segments.specs.Segment.{spelling, validity_bytes}
use Rattle.vx_segments.specs.Reading.{decoded, is_spelled, if_spelled, fits_leaf, spelled_as, numbers_read, lengths_read, texts_read, bits_read, validity_read, slots, slots_read, leaf_read, packed_len}
use Rattle.vx_segments.specs.Laws.{LeavesHaveOneMeaning, SpelledLeavesAreRead, EncodingIsUndone}
use Rattle.vx_segments.proofs.Spelled.{some_bytes}
use Rattle.vx_types.proofs.Slots.{truths_again, again_where_valid, texts_where_valid, all_inside}
use Rattle.vx_segments.proofs.Bits.{packed_read, length-packed}
use Rattle.vx_segments.proofs.KindNumbers.{numbers_again}

no_null : (t : DataType) → nullability_of t ≡ NonNullable → Fits t null → ⊥
no_null (bool_type NonNullable) e h = h
no_null (int_type kind NonNullable) e h = h
no_null (utf8_type NonNullable) e h = h
no_null (struct_type ms NonNullable) e h = h
no_null (list_type t NonNullable) e h = h
no_null (bool_type Nullable) e h = absurd cc
no_null (int_type kind Nullable) e h = absurd cc
no_null (utf8_type Nullable) e h = absurd cc
no_null (struct_type ms Nullable) e h = absurd cc
no_null (list_type t Nullable) e h = absurd cc

-- ---- the validity
pub none_null : (t : DataType) (values : List Datum) → nullability_of t ≡ NonNullable → AllByRecursion (Fits t) values → replicate (length values) true ≡ map is_value values
none_null t [] e h = refl
none_null t (null ∷ vs) e h = absurd (no_null t e h.0)
none_null t (truth b ∷ vs) e h = ap (λ (bs : List Bool). true ∷ bs) (none_null t vs e h.1)
none_null t (number z ∷ vs) e h = ap (λ (bs : List Bool). true ∷ bs) (none_null t vs e h.1)
none_null t (text bytes ∷ vs) e h = ap (λ (bs : List Bool). true ∷ bs) (none_null t vs e h.1)
none_null t (structure ws ∷ vs) e h = ap (λ (bs : List Bool). true ∷ bs) (none_null t vs e h.1)

pub validity_len : (values : List Datum) → length (packed (map is_value values)) ≡ packed_len (length values)
validity_len values = length-packed (map is_value values) ∙ ap packed_len (length-map values is_value)

pub validity_again : (t : DataType) (n : Nullability) (values : List Datum) (rest : List ℕ) → nullability_of t ≡ n → AllByRecursion (Fits t) values
    → validity_read n (length values) (validity_bytes n values ++ rest) ≡ map is_value values
validity_again t NonNullable values rest e h = none_null t values e h
validity_again t Nullable values rest e h =
    let here : take (packed_len (length values)) (packed (map is_value values) ++ rest) ≡ packed (map is_value values) = take_at (packed (map is_value values)) rest (packed_len (length values)) (validity_len values) in
    ap (bits_read (length values)) here ∙ ap (λ (k : ℕ). bits_read k (packed (map is_value values))) (sym (length-map values is_value)) ∙ packed_read (map is_value values)

pub slots_again : (n : Nullability) (values : List Datum) (rest : List ℕ) → slots n (length values) (validity_bytes n values ++ rest) ≡ rest
slots_again NonNullable values rest = refl
slots_again Nullable values rest = drop_at (packed (map is_value values)) rest (packed_len (length values)) (validity_len values)

-- ---- numbers
pub slots_of_numbers : (kind : IntKind) (values : List Datum) → flat_map (number_slot kind) values ≡ flat_map (number_bytes kind) (map number_in values)
slots_of_numbers kind [] = refl
slots_of_numbers kind (v ∷ vs) = ap (λ (bs : List ℕ). number_slot kind v ++ bs) (slots_of_numbers kind vs)

all_numbers_again : (kind : IntKind) (n : Nullability) (values : List Datum) → AllByRecursion (Fits (int_type kind n)) values → numbers_read kind (length values) (flat_map (number_slot kind) values) ≡ map number_in values
all_numbers_again kind n values h =
    ap (numbers_read kind (length values)) (slots_of_numbers kind values) ∙ ap (λ (k : ℕ). numbers_read kind k (flat_map (number_bytes kind) (map number_in values))) (sym (length-map values number_in)) ∙ numbers_again kind (map number_in values) (all_inside kind n values h)

-- ---- texts
pub length_slots_len : (values : List Datum) → length (flat_map length_slot values) ≡ 4 * length values
length_slots_len [] = refl
length_slots_len (v ∷ vs) =
    let four : length (length_slot v) ≡ 4 = refl in
    omega (arith, length-append (length_slot v) (flat_map length_slot vs), length_slots_len vs, four)

length_step : (n : ℕ) (word rest : List ℕ) → length word ≡ 4 → lengths_read (suc n) (word ++ rest) ≡ from_le_bytes w32 word ∷ lengths_read n rest
unfolding lengths_read
length_step n word rest len = rw (take_at word rest 4 len, drop_at word rest 4 len) refl

lengths_again : (values : List Datum) (rest : List ℕ) → AllByRecursion IsShort values → lengths_read (length values) (flat_map length_slot values ++ rest) ≡ map (λ v. length (text_in v)) values
unfolding lengths_read
lengths_again [] rest h = refl
lengths_again (v ∷ vs) rest h =
    let here = from_le_bytes-to_le_bytes_4 (length (text_in v)) h.0 in
    let later = lengths_again vs rest h.1 in
    ap (lengths_read (suc (length vs))) (append_assoc (length_slot v) (flat_map length_slot vs) rest)
    ∙ length_step (length vs) (length_slot v) (flat_map length_slot vs ++ rest) refl ∙ (λ i. here i ∷ later i)

texts_again : (values : List Datum) → texts_read (map (λ v. length (text_in v)) values) (flat_map text_in values) ≡ map text_in values
unfolding texts_read
texts_again [] = refl
texts_again (v ∷ vs) =
    let here = take_at (text_in v) (flat_map text_in vs) (length (text_in v)) refl in
    let later = ap (texts_read (map (λ w. length (text_in w)) vs)) (drop_at (text_in v) (flat_map text_in vs) (length (text_in v)) refl) ∙ texts_again vs in
    λ i. here i ∷ later i

-- ---- the tests
pub true_from : (b : Bool) → T b → b ≡ true
true_from true h = refl
true_from false h = absurd h

null_taken : (n : Nullability) → TakesNull n → takes_null n ≡ true
null_taken NonNullable h = absurd h
null_taken Nullable h = refl

pub fits_passes : (t : DataType) (v : Datum) → IsLeaf t → Fits t v → fits_leaf t v ≡ true
fits_passes (bool_type n) null l h = null_taken n h
fits_passes (bool_type n) (truth b) l h = refl
fits_passes (int_type kind n) null l h = null_taken n h
fits_passes (int_type kind n) (number z) l h = and_from _ _ (true_from (int_le (least_of kind) z) h.0.le) (true_from (int_le z (greatest_of kind)) h.1.le)
fits_passes (utf8_type n) null l h = null_taken n h
fits_passes (utf8_type n) (text bytes) l h = is_utf8-from_IsUtf8 bytes h
fits_passes (struct_type ms n) v l h = absurd l
fits_passes (list_type t n) v l h = absurd l
fits_passes _ _ l h = absurd h

all_pass : (t : DataType) (values : List Datum) → IsLeaf t → AllByRecursion (Fits t) values → list_all (fits_leaf t) values ≡ true
all_pass t [] l h = refl
all_pass t (v ∷ vs) l h = and_from _ _ (fits_passes t v l h.0) (all_pass t vs l h.1)

short_pass : (values : List Datum) → AllByRecursion IsShort values → list_all (λ v. nat_lt (length (text_in v)) text_limit) values ≡ true
short_pass [] h = refl
short_pass (v ∷ vs) h = and_from _ _ (lt-ltb (length (text_in v)) text_limit h.0) (short_pass vs h.1)

abbrev pub some_data : List Datum → Option (List Datum)
some_data values = Some values

tested : (t : DataType) (values : List Datum) (bytes : List ℕ) → IsLeaf t → spelling t values ≡ Some bytes → AllByRecursion (Fits t) values → AllByRecursion IsShort values → is_spelled t (length values) bytes values ≡ true
tested t values bytes l e fit short =
    let same : spelled_as (spelling t values) bytes ≡ true = ap (λ (o : Option (List ℕ)). spelled_as o bytes) e ∙ (bytes_eq-Decides bytes bytes).1 refl in
    and_from _ _ (and_from _ _ (and_from _ _ (eq-eqb (length values) (length values) refl) (all_pass t values l fit)) (short_pass values short)) same

given : (t : DataType) (values read : List Datum) (bytes : List ℕ) → IsLeaf t → spelling t values ≡ Some bytes → AllByRecursion (Fits t) values → AllByRecursion IsShort values → read ≡ values → if_spelled t (length values) bytes read ≡ Some values
given t values read bytes l e fit short same =
    ap (if_spelled t (length values) bytes) same ∙ cond-true (is_spelled t (length values) bytes values) (some_data values) None (tested t values bytes l e fit short)

-- the parts of a leaf are the values
from_parts : (t : DataType) (n : Nullability) (values read : List Datum) (rest : List ℕ) → nullability_of t ≡ n → AllByRecursion (Fits t) values → slots_read t (length values) rest ≡ read → where_valid (map is_value values) read ≡ values
    → leaf_read t n (length values) (validity_bytes n values ++ rest) ≡ values
from_parts t n values read rest e h p q =
    let valid = validity_again t n values rest e h in
    let slot = slots_again n values rest in
    ap (λ (bs : List Bool). where_valid bs (slots_read t (length values) (slots n (length values) (validity_bytes n values ++ rest)))) valid
    ∙ ap (λ (bs : List ℕ). where_valid (map is_value values) (slots_read t (length values) bs)) slot
    ∙ ap (where_valid (map is_value values)) p ∙ q

bits_part : (values : List Datum) → bits_read (length values) (packed (map truth_in values)) ≡ map truth_in values
bits_part values = ap (λ (k : ℕ). bits_read k (packed (map truth_in values))) (sym (length-map values truth_in)) ∙ packed_read (map truth_in values)

texts_part : (values : List Datum) → AllByRecursion IsShort values → texts_read (lengths_read (length values) (flat_map length_slot values ++ flat_map text_in values)) (drop (4 * length values) (flat_map length_slot values ++ flat_map text_in values)) ≡ map text_in values
texts_part values short =
    let lens = lengths_again values (flat_map text_in values) short in
    let rest = drop_at (flat_map length_slot values) (flat_map text_in values) (4 * length values) (length_slots_len values) in
    ap (λ (ls : List ℕ). texts_read ls (drop (4 * length values) (flat_map length_slot values ++ flat_map text_in values))) lens
    ∙ ap (texts_read (map (λ v. length (text_in v)) values)) rest ∙ texts_again values

pub read_whole : (t : DataType) (values : List Datum) (bytes : List ℕ) → IsLeaf t → spelling t values ≡ Some bytes → AllByRecursion (Fits t) values → AllByRecursion IsShort values → decoded t (length values) bytes ≡ Some values
unfolding decoded
read_whole (bool_type n) values bytes l e fit short =
    let t = bool_type n in
    let rest = packed (map truth_in values) in
    let is : some_bytes (validity_bytes n values ++ rest) ≡ some_bytes bytes = e in
    let same : validity_bytes n values ++ rest ≡ bytes = cc in
    let read = from_parts t n values (map truth (map truth_in values)) rest refl fit (ap (map truth) (bits_part values)) (truths_again n values fit) in
    given t values (leaf_read t n (length values) bytes) bytes l e fit short (ap (leaf_read t n (length values)) (sym same) ∙ read)
read_whole (int_type kind n) values bytes l e fit short =
    let t = int_type kind n in
    let rest = flat_map (number_slot kind) values in
    let is : some_bytes (validity_bytes n values ++ rest) ≡ some_bytes bytes = e in
    let same : validity_bytes n values ++ rest ≡ bytes = cc in
    let read = from_parts t n values (map number (map number_in values)) rest refl fit (ap (map number) (all_numbers_again kind n values fit)) (again_where_valid kind n values fit) in
    given t values (leaf_read t n (length values) bytes) bytes l e fit short (ap (leaf_read t n (length values)) (sym same) ∙ read)
read_whole (utf8_type n) values bytes l e fit short =
    let t = utf8_type n in
    let rest = flat_map length_slot values ++ flat_map text_in values in
    let is : some_bytes ((validity_bytes n values ++ flat_map length_slot values) ++ flat_map text_in values) ≡ some_bytes bytes = e in
    let whole : (validity_bytes n values ++ flat_map length_slot values) ++ flat_map text_in values ≡ bytes = cc in
    let same : validity_bytes n values ++ rest ≡ bytes = sym (append_assoc (validity_bytes n values) (flat_map length_slot values) (flat_map text_in values)) ∙ whole in
    let read = from_parts t n values (map text (map text_in values)) rest refl fit (ap (map text) (texts_part values short)) (texts_where_valid n values fit) in
    given t values (leaf_read t n (length values) bytes) bytes l e fit short (ap (leaf_read t n (length values)) (sym same) ∙ read)
read_whole (struct_type ms n) values bytes l e fit short = absurd l
read_whole (list_type t n) values bytes l e fit short = absurd l

-- the validity and the slots are the one spelling
pub two_parts : (t : DataType) (values : List Datum) → IsLeaf t → spelling t values ≡ Some (validity_bytes (nullability_of t) values ++ slot_bytes t values)
two_parts (bool_type n) values l = refl
two_parts (int_type kind n) values l = refl
two_parts (utf8_type n) values l = ap some_bytes (append_assoc (validity_bytes n values) (flat_map length_slot values) (flat_map text_in values))
two_parts (struct_type ms n) values l = absurd l
two_parts (list_type t n) values l = absurd l

-- ---- the laws
pub spelled_is_read : SpelledLeavesAreRead
spelled_is_read t l rows bytes values s = subst (λ (n : ℕ). decoded t n bytes ≡ Some values) s.count (read_whole t values bytes l s.spelled s.fit s.short)

pub has_one_meaning : LeavesHaveOneMeaning
has_one_meaning t l rows bytes v w p q =
    let e : some_data v ≡ some_data w = sym (spelled_is_read t l rows bytes v p) ∙ spelled_is_read t l rows bytes w q in
    cc

pub encoding_is_undone : EncodingIsUndone
encoding_is_undone t l values bytes fit short e = read_whole t values bytes l e fit short
