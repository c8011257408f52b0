-- The numbers of a segment, of each kind.
use Rattle.std.proofs.Common.{◌≡◌, ℕ, suc, ℤ, pos, negsuc, ◌^◌, ◌<◌, List, [], ◌∷◌, ◌++◌, length, refl, ap, ◌∙◌, arith}
use Rattle.std.specs.Prelude.{FitsSigned, ◌≤ℤ◌}
use Rattle.std.specs.List.{AllByRecursion, flat_map}
use Rattle.std.specs.Int.{Width, w8, w16, w32, w64, byte_len, from_le_bytes, to_le_bytes, cast_signed, cast_unsigned}
use Rattle.std.proofs.lemmas.Int.{ints, to_z-of_z}
use Rattle.std.proofs.lemmas.List.{take_at, drop_at}
use Rattle.std.proofs.lemmas.Nat.{from_le_bytes-to_le_bytes_2, from_le_bytes-to_le_bytes_4, from_le_bytes-to_le_bytes_8}
use Rattle.vx_types.specs.declared.dtypes.IntKind.{IntKind}
use Rattle.vx_types.specs.declared.dtypes.IntKind.TheVariants.{U8, U16, U32, U64, I8, I16, I32, I64}
use Rattle.vx_types.specs.Fits.{IsInside}
use Rattle.vx_types.specs.Slots.{number_bytes, width_of}
use Rattle.vx_segments.specs.Reading.{number_of, numbers_read}

-- how many bytes a number of the kind has
abbrev pub size_of : IntKind → ℕ
size_of kind = byte_len (width_of kind)

pub number_len : (kind : IntKind) (z : ℤ) → length (number_bytes kind z) ≡ size_of kind
number_len U8 z = refl
number_len U16 z = refl
number_len U32 z = refl
number_len U64 z = refl
number_len I8 z = refl
number_len I16 z = refl
number_len I32 z = refl
number_len I64 z = refl

abbrev pos_of : ℕ → ℤ
pos_of n = pos n

pub signed_fits_8 : (z : ℤ) → IsInside I8 z → FitsSigned w8 z
signed_fits_8 (pos n) h = record { sfits = omega (arith, ints, h.0, h.1) }
signed_fits_8 (negsuc n) h = record { sfits = omega (arith, ints, h.0, h.1) }

pub signed_fits_16 : (z : ℤ) → IsInside I16 z → FitsSigned w16 z
signed_fits_16 (pos n) h = record { sfits = omega (arith, ints, h.0, h.1) }
signed_fits_16 (negsuc n) h = record { sfits = omega (arith, ints, h.0, h.1) }

pub signed_fits_32 : (z : ℤ) → IsInside I32 z → FitsSigned w32 z
signed_fits_32 (pos n) h = record { sfits = omega (arith, ints, h.0, h.1) }
signed_fits_32 (negsuc n) h = record { sfits = omega (arith, ints, h.0, h.1) }

pub signed_fits_64 : (z : ℤ) → IsInside I64 z → FitsSigned w64 z
signed_fits_64 (pos n) h = record { sfits = omega (arith, ints, h.0, h.1) }
signed_fits_64 (negsuc n) h = record { sfits = omega (arith, ints, h.0, h.1) }

-- ---- a number that was written is read again
bytes_again_1 : (n : ℕ) → n < 2 ^ 8 → from_le_bytes w8 (to_le_bytes w8 n) ≡ n
bytes_again_1 n h = omega arith

not_negative : (m n : ℕ) → pos m ≤ℤ negsuc n → ⊥
not_negative m n h = omega (arith, ints)

signed_bits : (w : Width) (z : ℤ) (n : ℕ) → FitsSigned w z → n ≡ cast_unsigned w z → cast_signed w n ≡ z
signed_bits w z n fits e = ap (cast_signed w) e ∙ to_z-of_z w z fits

pub number_again : (kind : IntKind) (z : ℤ) → IsInside kind z → number_of kind (number_bytes kind z) ≡ z
number_again U8 (pos n) h = ap pos_of (bytes_again_1 n (omega (arith, ints, h.1)))
number_again U16 (pos n) h = ap pos_of (from_le_bytes-to_le_bytes_2 n (omega (arith, ints, h.1)))
number_again U32 (pos n) h = ap pos_of (from_le_bytes-to_le_bytes_4 n (omega (arith, ints, h.1)))
number_again U64 (pos n) h = ap pos_of (from_le_bytes-to_le_bytes_8 n (omega (arith, ints, h.1)))
number_again U8 (negsuc n) h = absurd (not_negative 0 n h.0)
number_again U16 (negsuc n) h = absurd (not_negative 0 n h.0)
number_again U32 (negsuc n) h = absurd (not_negative 0 n h.0)
number_again U64 (negsuc n) h = absurd (not_negative 0 n h.0)
number_again I8 z h =
    let fits : FitsSigned w8 z = signed_fits_8 z h in
    signed_bits w8 z _ fits (bytes_again_1 (cast_unsigned w8 z) (omega (arith, ints)))
number_again I16 z h =
    let fits : FitsSigned w16 z = signed_fits_16 z h in
    signed_bits w16 z _ fits (from_le_bytes-to_le_bytes_2 (cast_unsigned w16 z) (omega (arith, ints)))
number_again I32 z h =
    let fits : FitsSigned w32 z = signed_fits_32 z h in
    signed_bits w32 z _ fits (from_le_bytes-to_le_bytes_4 (cast_unsigned w32 z) (omega (arith, ints)))
number_again I64 z h =
    let fits : FitsSigned w64 z = signed_fits_64 z h in
    signed_bits w64 z _ fits (from_le_bytes-to_le_bytes_8 (cast_unsigned w64 z) (omega (arith, ints)))

-- ---- all of them
pub read_step : (kind : IntKind) (n : ℕ) (word rest : List ℕ) → length word ≡ size_of kind → numbers_read kind (suc n) (word ++ rest) ≡ number_of kind word ∷ numbers_read kind n rest
unfolding numbers_read
read_step kind n word rest len = rw (take_at word rest (size_of kind) len, drop_at word rest (size_of kind) len) refl

pub numbers_again : (kind : IntKind) (numbers : List ℤ) → AllByRecursion (IsInside kind) numbers → numbers_read kind (length numbers) (flat_map (number_bytes kind) numbers) ≡ numbers
unfolding numbers_read
numbers_again kind [] h = refl
numbers_again kind (z ∷ zs) h =
    let again = number_again kind z h.0 in
    let later = numbers_again kind zs h.1 in
    read_step kind (length zs) (number_bytes kind z) (flat_map (number_bytes kind) zs) (number_len kind z) ∙ (λ i. again i ∷ later i)
