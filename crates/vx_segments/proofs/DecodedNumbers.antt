-- Numbers of a leaf: what they spell, and what else would spell their bytes.
use Rattle.std.proofs.Common.{◌≡◌, ℕ, zero, suc, ℤ, pos, Bool, true, false, List, [], ◌∷◌, ◌++◌, length, map, replicate, Option, Some, refl, sym, ap, subst, ◌∙◌, arith}
use Rattle.std.specs.List.{AllByRecursion, flat_map}
use Rattle.std.proofs.lemmas.List.{length-map}
use Rattle.vx_masks.specs.Bytes.{packed}
use Rattle.vx_masks.specs.Rows.{NullsHold}
use Rattle.vx_types.specs.declared.dtypes.IntKind.{IntKind}
use Rattle.vx_types.specs.declared.dtypes.Nullability.{Nullability}
use Rattle.vx_types.specs.declared.dtypes.Nullability.TheVariants.{NonNullable, Nullable}
use Rattle.vx_types.specs.Data.{int_type, Datum, number}
use Rattle.vx_types.specs.Fits.{Fits, IsInside}
use Rattle.vx_types.specs.Leaf.{number_slot}
use Rattle.vx_types.specs.Slots.{is_value, number_in, number_bytes, where_valid}
use Rattle.vx_types.proofs.Slots.{all_inside}
use Rattle.vx_arrays.specs.Buffers.{Takes}
use Rattle.vx_arrays.proofs.NullSlots.{nulls_are_zero}
use Rattle.vx_arrays.proofs.ValidRows.{length-where_valid, valid_again}
use Rattle.vx_segments.specs.Parts.{IsValidity, valid_bits}
use Rattle.vx_segments.specs.Segment.{Spells, validity_bytes}
use Rattle.vx_segments.specs.Reading.{bits_read, numbers_read}
use Rattle.vx_segments.proofs.Bits.{read_packed}
use Rattle.vx_segments.proofs.Decoded.{Known, AreBytes, front_bytes, numbers_short, valid_len}
use Rattle.vx_segments.proofs.KindNumbers.{numbers_again}
use Rattle.vx_segments.proofs.Leaves.{two_parts, slots_of_numbers}

-- ---- the validity
-- the validity bytes of rows that have this mask
pub validity_is : (n : Nullability) (rows : ℕ) (validity : List ℕ) (values : List Datum) → IsValidity n rows validity → AreBytes validity → map is_value values ≡ valid_bits n rows validity → validity_bytes n values ≡ validity
validity_is NonNullable rows validity values h small e = sym h
validity_is Nullable rows validity values h small e = ap packed e ∙ read_packed rows validity h.0 h.1 small

-- a mask of a validity has nulls only where the dtype takes them
all_valid_taken : (n : Nullability) (rows : ℕ) → AllByRecursion (Takes n) (replicate rows true)
all_valid_taken n zero = tt
all_valid_taken n (suc rows) = (tt, all_valid_taken n rows)

pub any_taken : (mask : List Bool) → AllByRecursion (Takes Nullable) mask
any_taken [] = tt
any_taken (true ∷ mask) = (tt, any_taken mask)
any_taken (false ∷ mask) = (tt, any_taken mask)

pub mask_taken : (n : Nullability) (rows : ℕ) (validity : List ℕ) → AllByRecursion (Takes n) (valid_bits n rows validity)
mask_taken NonNullable rows validity = all_valid_taken NonNullable rows
mask_taken Nullable rows validity = any_taken (bits_read rows validity)

pub numbers_fit : (kind : IntKind) (n : Nullability) (mask : List Bool) (zs : List ℤ) → AllByRecursion (Takes n) mask → AllByRecursion (IsInside kind) zs → AllByRecursion (Fits (int_type kind n)) (where_valid mask (map number zs))
numbers_fit kind n [] zs t h = tt
numbers_fit kind n (bit ∷ mask) [] t h = tt
numbers_fit kind n (true ∷ mask) (z ∷ zs) t h = (h.0, numbers_fit kind n mask zs t.1 h.1)
numbers_fit kind n (false ∷ mask) (z ∷ zs) t h = (t.0, numbers_fit kind n mask zs t.1 h.1)

-- ---- the slots
pub numbers_are_values : (zs : List ℤ) → AllByRecursion (λ v. is_value v ≡ true) (map number zs)
numbers_are_values [] = tt
numbers_are_values (z ∷ zs) = (refl, numbers_are_values zs)

buffers_are : (kind : IntKind) (mask : List Bool) (zs : List ℤ) → length mask ≡ length zs → NullsHold (pos 0) mask zs → flat_map (number_slot kind) (where_valid mask (map number zs)) ≡ flat_map (number_bytes kind) zs
buffers_are kind [] [] e h = refl
buffers_are kind (true ∷ mask) (z ∷ zs) e h = ap (λ (bs : List ℕ). number_bytes kind z ++ bs) (buffers_are kind mask zs (omega arith) h)
buffers_are kind (false ∷ mask) (z ∷ zs) e h =
    let here : number_bytes kind (pos 0) ≡ number_bytes kind z = ap (number_bytes kind) (sym h.0) in
    λ i. here i ++ buffers_are kind mask zs (omega arith) h.1 i
buffers_are kind [] (z ∷ zs) e h = absurd (omega arith)
buffers_are kind (bit ∷ mask) [] e h = absurd (omega arith)

-- ---- what they spell
pub numbers_spell : (kind : IntKind) (n : Nullability) (rows : ℕ) (bytes validity buffers : List ℕ) (mask : List Bool) (zs : List ℤ) → bytes ≡ validity ++ buffers → IsValidity n rows validity → AreBytes bytes → mask ≡ valid_bits n rows validity → length zs ≡ rows
    → AllByRecursion (IsInside kind) zs → flat_map (number_bytes kind) zs ≡ buffers → NullsHold (pos 0) mask zs → Spells (int_type kind n) rows bytes (where_valid mask (map number zs))
numbers_spell kind n rows bytes validity buffers mask zs joined ok small is count inside spelt held =
    let values = where_valid mask (map number zs) in
    let mask_len : length mask ≡ rows = ap length is ∙ valid_len n rows validity ok in
    let len : length mask ≡ length (map number zs) = omega (arith, mask_len, count, length-map zs number) in
    let taken : AllByRecursion (Takes n) mask = subst (AllByRecursion (Takes n)) (sym is) (mask_taken n rows validity) in
    let fit : AllByRecursion (Fits (int_type kind n)) values = numbers_fit kind n mask zs taken inside in
    let front : validity_bytes n values ≡ validity = validity_is n rows validity values ok (front_bytes bytes validity buffers joined small) (valid_again mask (map number zs) len (numbers_are_values zs) ∙ is) in
    let back : flat_map (number_slot kind) values ≡ buffers = buffers_are kind mask zs (omega (arith, mask_len, count)) held ∙ spelt in
    let some : List ℕ → Option (List ℕ) = λ bs. Some bs in
    record {
      count = length-where_valid mask (map number zs) len ∙ mask_len;
      fit = fit;
      short = numbers_short kind n values fit;
      spelled = two_parts (int_type kind n) values tt ∙ (λ i. some (front i ++ back i)) ∙ ap some (sym joined);
    }

-- ---- what else spells the bytes
pub same_numbers : (kind : IntKind) (ys zs : List ℤ) → length ys ≡ length zs → AllByRecursion (IsInside kind) ys → AllByRecursion (IsInside kind) zs → flat_map (number_bytes kind) ys ≡ flat_map (number_bytes kind) zs → ys ≡ zs
same_numbers kind ys zs len p q e =
    sym (numbers_again kind ys p) ∙ (λ i. numbers_read kind (len i) (e i)) ∙ numbers_again kind zs q

pub spelled_zero : (kind : IntKind) (n : Nullability) (rows : ℕ) (validity buffers : List ℕ) (mask : List Bool) (zs : List ℤ) (values : List Datum) → Known (int_type kind n) n rows validity buffers values → mask ≡ valid_bits n rows validity → length zs ≡ rows
    → AllByRecursion (IsInside kind) zs → flat_map (number_bytes kind) zs ≡ buffers → NullsHold (pos 0) mask zs
spelled_zero kind n rows validity buffers mask zs values k is count inside spelt =
    let len : length (map number_in values) ≡ length zs = length-map values number_in ∙ k.count ∙ sym count in
    let same : map number_in values ≡ zs = same_numbers kind (map number_in values) zs len (all_inside kind n values k.fit) inside (sym (slots_of_numbers kind values) ∙ sym k.slot ∙ sym spelt) in
    let valid : map is_value values ≡ mask = sym k.valid ∙ sym is in
    subst (λ (bits : List Bool). NullsHold (pos 0) bits zs) valid (subst (λ (ys : List ℤ). NullsHold (pos 0) (map is_value values) ys) same (nulls_are_zero kind n values k.fit))
