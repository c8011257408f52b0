-- The bits of a segment: what is behind the last row, and the front where they stand.
use Rattle.std.proofs.Common.{◌≡◌, ℕ, ◌≤◌, List, ◌++◌, length, sym, ap, subst, ◌∙◌, arith, map, take}
use Rattle.std.proofs.lemmas.List.{take_at, length-map, length-append}
use Rattle.vx_masks.specs.Bytes.{packed}
use Rattle.vx_types.specs.Data.{Datum}
use Rattle.vx_types.specs.Slots.{is_value}
use Rattle.vx_segments.specs.Parts.{IsPadded, AreBits}
use Rattle.vx_segments.specs.Reading.{packed_len}
use Rattle.vx_segments.proofs.Bits.{packed_padded}
use Rattle.vx_segments.proofs.Leaves.{validity_len}

-- a validity has its bits
pub packed_bits : (values : List Datum) → AreBits (length values) (packed (map is_value values))
packed_bits values = (validity_len values, subst (λ (k : ℕ). IsPadded k (packed (map is_value values))) (length-map values is_value) (packed_padded (map is_value values)))

pub bits_there : (values : List Datum) (rest bytes : List ℕ) (rows : ℕ) → length values ≡ rows → bytes ≡ packed (map is_value values) ++ rest → AreBits rows (take (packed_len rows) bytes)
bits_there values rest bytes rows count e =
    subst (λ (k : ℕ). AreBits k (take (packed_len k) bytes)) count (subst (λ (bs : List ℕ). AreBits (length values) bs) (sym (ap (take (packed_len (length values))) e ∙ take_at (packed (map is_value values)) rest (packed_len (length values)) (validity_len values))) (packed_bits values))

pub bits_room : (values : List Datum) (rest bytes : List ℕ) (rows : ℕ) → length values ≡ rows → bytes ≡ packed (map is_value values) ++ rest → packed_len rows ≤ length bytes
bits_room values rest bytes rows count e = omega (arith, ap length e, length-append (packed (map is_value values)) rest, validity_len values, ap packed_len count)

pub bits_front : (values : List Datum) (rest bytes front : List ℕ) (rows n : ℕ) → length values ≡ rows → bytes ≡ packed (map is_value values) ++ rest → n ≡ packed_len rows → front ≡ take n bytes → AreBits rows front
bits_front values rest bytes front rows n count e len is =
    let same : front ≡ take (packed_len rows) bytes = is ∙ ap (λ (k : ℕ). take k bytes) len in
    subst (λ (bs : List ℕ). AreBits rows bs) (sym same) (bits_there values rest bytes rows count e)
