-- Truth values of a leaf: what they spell, and what else would spell their bytes.
use Rattle.std.proofs.Common.{◌≡◌, ℕ, ◌&&◌, Bool, true, false, List, [], ◌∷◌, ◌++◌, length, map, Option, Some, refl, sym, ap, subst, ◌∙◌, arith}
use Rattle.std.specs.List.{AllByRecursion}
use Rattle.std.proofs.lemmas.List.{length-map}
use Rattle.std.proofs.Math.Bool.{and-true}
use Rattle.vx_masks.specs.Bytes.{packed}
use Rattle.vx_masks.specs.Masks.{both}
use Rattle.vx_masks.specs.Rows.{NullsHold}
use Rattle.vx_types.specs.declared.dtypes.Nullability.{Nullability}
use Rattle.vx_types.specs.Data.{bool_type, Datum, truth}
use Rattle.vx_types.specs.Fits.{Fits}
use Rattle.vx_types.specs.Slots.{is_value, truth_in, where_valid}
use Rattle.vx_arrays.specs.Buffers.{Takes}
use Rattle.vx_arrays.proofs.NullSlots.{nulls_are_false}
use Rattle.vx_arrays.proofs.PackedRows.{all_fit, held_truths}
use Rattle.vx_arrays.proofs.BufferRows.{truths_fit}
use Rattle.vx_arrays.proofs.ValidRows.{length-where_valid, valid_again, buffers_again}
use Rattle.vx_arrays.proofs.WrittenRows.{truths_in}
use Rattle.vx_segments.specs.Parts.{IsValidity, valid_bits}
use Rattle.vx_segments.specs.Segment.{Spells, validity_bytes}
use Rattle.vx_segments.specs.Reading.{bits_read}
use Rattle.vx_segments.proofs.Bits.{packed_read}
use Rattle.vx_segments.proofs.Decoded.{Known, AreBytes, truths_short, valid_len, front_bytes}
use Rattle.vx_segments.proofs.Leaves.{two_parts}
use Rattle.vx_segments.proofs.DecodedNumbers.{validity_is, mask_taken}

-- ---- a mask within another

and_false : (b : Bool) → (b && false) ≡ false
and_false true = refl
and_false false = refl

pub both_held : (mask bits : List Bool) → length mask ≡ length bits → both bits mask ≡ bits → NullsHold false mask bits
both_held [] bits len e = tt
both_held (true ∷ mask) [] len e = tt
both_held (false ∷ mask) [] len e = tt
both_held (true ∷ mask) (b ∷ bits) len e = both_held mask bits (omega arith) cc
both_held (false ∷ mask) (b ∷ bits) len e =
    let here : (b && false) ≡ b = cc in
    (sym here ∙ and_false b, both_held mask bits (omega arith) cc)

pub held_both : (mask bits : List Bool) → length mask ≡ length bits → NullsHold false mask bits → both bits mask ≡ bits
held_both [] [] len h = refl
held_both [] (b ∷ bits) len h = absurd (omega arith)
held_both (bit ∷ mask) [] len h = absurd (omega arith)
held_both (true ∷ mask) (b ∷ bits) len h = λ i. and-true b i ∷ held_both mask bits (omega arith) h i
held_both (false ∷ mask) (b ∷ bits) len h = λ i. (and_false b ∙ sym h.0) i ∷ held_both mask bits (omega arith) h.1 i

-- ---- the bits again
truths_are_values : (bits : List Bool) → AllByRecursion (λ v. is_value v ≡ true) (map truth bits)
truths_are_values [] = tt
truths_are_values (b ∷ bits) = (refl, truths_are_values bits)

pub bits_again : (mask bits : List Bool) → length mask ≡ length bits → NullsHold false mask bits → map truth_in (where_valid mask (map truth bits)) ≡ bits
bits_again mask bits len held = buffers_again truth_in (truth false) mask (map truth bits) (len ∙ sym (length-map bits truth)) refl (held_truths mask bits held) ∙ truths_in bits

-- ---- what they spell
pub truths_spell : (n : Nullability) (rows : ℕ) (bytes validity buffers : List ℕ) (mask bits : List Bool) → bytes ≡ validity ++ buffers → IsValidity n rows validity → AreBytes bytes → mask ≡ valid_bits n rows validity → length bits ≡ rows
    → packed bits ≡ buffers → NullsHold false mask bits → Spells (bool_type n) rows bytes (where_valid mask (map truth bits))
truths_spell n rows bytes validity buffers mask bits joined ok small is count spelt held =
    let values = where_valid mask (map truth bits) in
    let mask_len : length mask ≡ rows = ap length is ∙ valid_len n rows validity ok in
    let len : length mask ≡ length (map truth bits) = omega (arith, mask_len, count, length-map bits truth) in
    let taken : AllByRecursion (Takes n) mask = subst (AllByRecursion (Takes n)) (sym is) (mask_taken n rows validity) in
    let fit : AllByRecursion (Fits (bool_type n)) values = all_fit (bool_type n) mask (map truth bits) taken (truths_fit n bits) in
    let front : validity_bytes n values ≡ validity = validity_is n rows validity values ok (front_bytes bytes validity buffers joined small) (valid_again mask (map truth bits) len (truths_are_values bits) ∙ is) in
    let back : packed (map truth_in values) ≡ buffers = ap packed (bits_again mask bits (omega (arith, mask_len, count)) held) ∙ spelt in
    let some : List ℕ → Option (List ℕ) = λ bs. Some bs in
    record {
      count = length-where_valid mask (map truth bits) len ∙ mask_len;
      fit = fit;
      short = truths_short n values fit;
      spelled = two_parts (bool_type n) values tt ∙ (λ i. some (front i ++ back i)) ∙ ap some (sym joined);
    }

-- ---- what else spells the bytes
pub spelled_false : (n : Nullability) (rows : ℕ) (validity buffers : List ℕ) (mask bits : List Bool) (values : List Datum) → Known (bool_type n) n rows validity buffers values → mask ≡ valid_bits n rows validity → length bits ≡ rows → packed bits ≡ buffers → NullsHold false mask bits
spelled_false n rows validity buffers mask bits values k is count spelt =
    let len : length (map truth_in values) ≡ length bits = length-map values truth_in ∙ k.count ∙ sym count in
    let same : map truth_in values ≡ bits =
    sym (packed_read (map truth_in values)) ∙ (λ i. bits_read (len i) ((sym k.slot ∙ sym spelt) i)) ∙ packed_read bits in
    let valid : map is_value values ≡ mask = sym k.valid ∙ sym is in
    subst (λ (bs : List Bool). NullsHold false bs bits) valid (subst (λ (bs : List Bool). NullsHold false (map is_value values) bs) same (nulls_are_false n values k.fit))

pub truths_spelled : (n : Nullability) (rows : ℕ) (validity buffers : List ℕ) (values : List Datum) → Known (bool_type n) n rows validity buffers values → (length (map truth_in values) ≡ rows) × (packed (map truth_in values) ≡ buffers)
truths_spelled n rows validity buffers values k = (length-map values truth_in ∙ k.count, sym k.slot)
