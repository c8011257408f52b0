-- The bits that bytes spell, as a mask that was read.
use Rattle.std.proofs.Common.{◌≡◌, ℕ, ◌<◌, Bool, List, length, get_or, sym, ◌∙◌, arith}
use Rattle.std.specs.List.{flat_map}
use Rattle.std.proofs.lemmas.List.{length-take}
use Rattle.vx_masks.specs.Bytes.{packed, SpellNoRows}
use Rattle.vx_segments.specs.Parts.{AreBits}
use Rattle.vx_segments.specs.Reading.{bits_of, bits_read}
use Rattle.vx_segments.proofs.Bits.{packed_read, read_packed, length-bits_of}

pub read_is : (rows : ℕ) (bytes : List ℕ) (mask : List Bool) → (length mask ≡ rows) × (packed mask ≡ bytes) → mask ≡ bits_read rows bytes
read_is rows bytes mask h = sym (packed_read mask) ∙ (λ i. bits_read (h.0 i) (h.1 i))

pub always_read : (rows : ℕ) (bytes : List ℕ) → AreBits rows bytes → ((i : ℕ) → get_or bytes i 0 < 256) → SpellNoRows rows bytes → ⊥
always_read rows bytes ok small none =
    none (bits_read rows bytes) (omega (arith, length-take rows (flat_map bits_of bytes), length-bits_of bytes, ok.0)) (read_packed rows bytes ok.0 ok.1 small)
