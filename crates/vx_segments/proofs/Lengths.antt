-- How many bytes the spelling of values has.
use Rattle.std.proofs.Common.{◌≡◌, ℕ, zero, suc, ◌+◌, ◌*◌, ◌^◌, ◌<◌, ◌≤◌, false, List, [], ◌∷◌, ◌++◌, length, map, Option, Some, refl, sym, ap, subst, ◌∙◌, arith}
use Rattle.std.specs.Prelude.{slice_get, SomeIff}
use Rattle.std.specs.List.{AllByRecursion, flat_map}
use Rattle.std.specs.Int.{w32, to_le_bytes}
use Rattle.std.proofs.lemmas.List.{append-nil, length-append, length-map}
use Rattle.std.proofs.lemmas.Option.{same_Some}
use Rattle.vx_types.specs.declared.dtypes.IntKind.{IntKind}
use Rattle.vx_types.specs.declared.dtypes.IntKind.TheVariants.{U8, U16, U32, U64, I8, I16, I32, I64}
use Rattle.vx_types.specs.declared.dtypes.Nullability.{Nullability}
use Rattle.vx_types.specs.declared.dtypes.Nullability.TheVariants.{NonNullable, Nullable}
use Rattle.vx_types.specs.Data.{DataType, bool_type, int_type, utf8_type, struct_type, list_type, Datum, null, truth, number, Items}
use Rattle.vx_types.specs.Fits.{Fits, nullability_of}
use Rattle.vx_types.specs.Leaf.{IsLeaf, length_slot, slot_bytes}
use Rattle.vx_types.specs.Slots.{IsShort, text_in, truth_in}
use Rattle.vx_arrays.specs.Cells.{struct_at}
use Rattle.vx_columns.specs.LaidRuns.{AllAlike}
use Rattle.vx_segments.specs.declared.codings.Coding.TheVariants.{Plain, Constant, Runs}
use Rattle.vx_segments.specs.Codings.{end_bytes, run_bytes}
use Rattle.vx_segments.specs.Lengths.{validity_size, slot_size, are_texts, front_size, text_size, AreRunSizes, HasLength}
use Rattle.vx_segments.specs.Segment.{Spells, validity_bytes, plain_bytes}
use Rattle.vx_segments.proofs.Bits.{length-packed}
use Rattle.vx_segments.proofs.CodingsRead.{end_bytes_len}
use Rattle.vx_segments.proofs.Decoded.{numbers_len}
use Rattle.vx_segments.proofs.EncodedSegments.{plain_spells, laid_count, run_values, runs_spell, none_spells, one_spells}
use Rattle.vx_segments.proofs.KindNumbers.{size_of}
use Rattle.vx_segments.proofs.Leaves.{validity_len, length_slots_len}

-- ---- plain segments
validity_has : (n : Nullability) (values : List Datum) → length (validity_bytes n values) ≡ validity_size n (length values)
validity_has NonNullable values = refl
validity_has Nullable values = validity_len values

truths_no_texts : (n : Nullability) (values : List Datum) → AllByRecursion (Fits (bool_type n)) values → text_size values ≡ 0
truths_no_texts n [] h = refl
truths_no_texts n (null ∷ vs) h = truths_no_texts n vs h.1
truths_no_texts n (truth b ∷ vs) h = truths_no_texts n vs h.1
truths_no_texts n (_ ∷ vs) h = absurd h.0

numbers_no_texts : (kind : IntKind) (n : Nullability) (values : List Datum) → AllByRecursion (Fits (int_type kind n)) values → text_size values ≡ 0
numbers_no_texts kind n [] h = refl
numbers_no_texts kind n (null ∷ vs) h = numbers_no_texts kind n vs h.1
numbers_no_texts kind n (number z ∷ vs) h = numbers_no_texts kind n vs h.1
numbers_no_texts kind n (_ ∷ vs) h = absurd h.0

pub no_texts : (t : DataType) (values : List Datum) → IsLeaf t → are_texts t ≡ false → AllByRecursion (Fits t) values → text_size values ≡ 0
no_texts (bool_type n) values l e fit = truths_no_texts n values fit
no_texts (int_type kind n) values l e fit = numbers_no_texts kind n values fit
no_texts (utf8_type n) values l e fit = absurd cc
no_texts (struct_type ms n) values l e fit = absurd l
no_texts (list_type t n) values l e fit = absurd l

slots_have : (t : DataType) (values : List Datum) → IsLeaf t → AllByRecursion (Fits t) values → length (slot_bytes t values) ≡ slot_size t (length values) + text_size values
slots_have (bool_type n) values l fit = omega (arith, length-packed (map truth_in values), length-map values truth_in, truths_no_texts n values fit)
slots_have (int_type kind n) values l fit = omega (arith, numbers_len kind values, numbers_no_texts kind n values fit)
slots_have (utf8_type n) values l fit = omega (arith, length-append (flat_map length_slot values) (flat_map text_in values), length_slots_len values)
slots_have (struct_type ms n) values l fit = absurd l
slots_have (list_type t n) values l fit = absurd l

pub plain_size : (t : DataType) (values : List Datum) → IsLeaf t → AllByRecursion (Fits t) values → length (plain_bytes t values) ≡ front_size t (length values) + text_size values
plain_size t values l fit =
    omega (arith, length-append (validity_bytes (nullability_of t) values) (slot_bytes t values), validity_has (nullability_of t) values, slots_have t values l fit)

-- the number, where 64 bits hold it
abbrev Tells : Option ℕ → ℕ → Type 0
Tells len n = SomeIff len (n < 2 ^ 64) n

pub plain_has : (t : DataType) (values : List Datum) (len : Option ℕ) (n : ℕ) → IsLeaf t → AllByRecursion (Fits t) values → AllByRecursion IsShort values → n ≡ front_size t (length values) + text_size values → SomeIff len (n < 2 ^ 64) n → HasLength Plain t values len
plain_has t values len n l fit short e h = record {
  bytes = plain_bytes t values;
  spelled = plain_spells t values l fit short;
  counted = subst (Tells len) (e ∙ sym (plain_size t values l fit)) h;
}

-- ---- how much it can be
pub number_room : (kind : IntKind) (rows : ℕ) → rows < 2 ^ 32 → rows * size_of kind < 2 ^ 36
number_room U8 rows h = omega arith
number_room U16 rows h = omega arith
number_room U32 rows h = omega arith
number_room U64 rows h = omega arith
number_room I8 rows h = omega arith
number_room I16 rows h = omega arith
number_room I32 rows h = omega arith
number_room I64 rows h = omega arith

slot_room : (t : DataType) (rows : ℕ) → rows < 2 ^ 32 → slot_size t rows < 2 ^ 36
slot_room (bool_type n) rows h = omega arith
slot_room (int_type kind n) rows h = number_room kind rows h
slot_room (utf8_type n) rows h = omega arith
slot_room (struct_type ms n) rows h = omega arith
slot_room (list_type t n) rows h = omega arith

validity_room : (n : Nullability) (rows : ℕ) → rows < 2 ^ 32 → validity_size n rows < 2 ^ 32
validity_room NonNullable rows h = omega arith
validity_room Nullable rows h = omega arith

pub front_room : (t : DataType) (rows : ℕ) → rows < 2 ^ 32 → front_size t rows < 2 ^ 37
front_room t rows h = omega (arith, slot_room t rows h, validity_room (nullability_of t) rows h)

pub texts_room : (values : List Datum) → AllByRecursion IsShort values → text_size values ≤ 4294967295 * length values
texts_room [] h = omega arith
texts_room (v ∷ vs) h = omega (arith, h.0, texts_room vs h.1, length-append (text_in v) (flat_map text_in vs))

pub one_text : (v : Datum) → text_size (v ∷ []) ≡ length (text_in v)
one_text v = ap length (append-nil (text_in v))

pub no_struct_text : (rows : List Items) (row : ℕ) → length (text_in (struct_at rows row)) ≡ 0
no_struct_text [] row = refl
no_struct_text (vs ∷ rows) zero = refl
no_struct_text (vs ∷ rows) (suc row) = no_struct_text rows row

-- ---- runs
run_bytes_size : (ends plain : List ℕ) → length (run_bytes ends plain) ≡ (4 + 8 * length ends) + length plain
run_bytes_size ends plain =
    let four : length (to_le_bytes w32 (length ends)) ≡ 4 = refl in
    omega (arith, length-append (to_le_bytes w32 (length ends)) (end_bytes ends ++ plain), length-append (end_bytes ends) plain, end_bytes_len ends, four)

pub runs_have : (t : DataType) (values : List Datum) (runs once all n : ℕ) (len : Option ℕ) → IsLeaf t → AllByRecursion (Fits t) values → AllByRecursion IsShort values → length values < 2 ^ 32 → AreRunSizes values runs once all → n ≡ ((4 + 8 * runs) + front_size t runs) + once → SomeIff len (n < 2 ^ 64) n → HasLength Runs t values len
runs_have t values runs once all n len l fit short few s e h =
    let bytes = run_bytes s.ends (plain_bytes t s.values) in
    let count : runs ≡ length s.values = s.count ∙ s.laid.same in
    let plain : length (plain_bytes t s.values) ≡ front_size t runs + text_size s.values = plain_size t s.values l (run_values (Fits t) values s.values s.ends s.laid fit) ∙ ap (λ (k : ℕ). front_size t k + text_size s.values) (sym count) in
    let size : n ≡ length bytes = omega (arith, e, run_bytes_size s.ends (plain_bytes t s.values), plain, s.count, s.single) in
    record {
      bytes = bytes;
      spelled = runs_spell t values s.values s.ends bytes l fit short few s.laid refl;
      counted = subst (Tells len) size h;
    }

pub few_runs : (values : List Datum) (runs once all : ℕ) → AreRunSizes values runs once all → runs ≤ length values
few_runs values runs once all s = omega (arith, s.count, laid_count values s.values s.ends s.laid)

-- ---- constants
pub none_has : (t : DataType) (values : List Datum) → length values ≡ 0 → HasLength Constant t values (Some 0)
none_has t values none = record { bytes = []; spelled = none_spells t values [] none refl; counted = (omega arith, refl) }

pub one_has : (t : DataType) (values : List Datum) (v : Datum) (len : ℕ) → IsLeaf t → AllByRecursion (Fits t) values → AllByRecursion IsShort values → AllAlike values → slice_get values 0 ≡ Some v → len ≡ front_size t 1 + length (text_in v) → HasLength Constant t values (Some len)
one_has t [] v len l fit short alike at is = absurd cc
one_has t (w ∷ values) v len l fit short alike at is =
    let here : w ≡ v = same_Some w v at in
    let text : length (text_in w) ≡ length (text_in v) = ap (λ (u : Datum). length (text_in u)) here in
    let size : text_size (w ∷ []) ≡ length (text_in v) = one_text w ∙ text in
    let small : len < 2 ^ 64 = omega (arith, is, text, short.0, front_room t 1 (omega arith)) in
    let one : Spells t 1 (plain_bytes t (w ∷ [])) (w ∷ []) = plain_spells t (w ∷ []) l (fit.0, tt) (short.0, tt) in
    let all : len ≡ length (plain_bytes t (w ∷ [])) = omega (arith, is, plain_size t (w ∷ []) l (fit.0, tt), size) in
    record {
      bytes = plain_bytes t (w ∷ []);
      spelled = one_spells t (w ∷ values) (w ∷ []) (plain_bytes t (w ∷ [])) (omega arith) alike refl one;
      counted = (omega (arith, all, small), all);
    }
