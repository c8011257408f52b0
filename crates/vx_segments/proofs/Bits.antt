-- Truth values packed eight to a byte, and read again.
use Rattle.std.proofs.Common.{◌≡◌, ℕ, zero, suc, ◌+◌, ◌*◌, ◌/◌, ◌%◌, ◌^◌, ◌<◌, ◌≤◌, Bool, true, false, cond, eqb, List, [], ◌∷◌, ◌++◌, length, take, get_or, refl, sym, ap, subst, ◌∙◌, arith}
use Rattle.std.specs.Prelude.{◌==◌}
use Rattle.std.specs.List.{flat_map}
use Rattle.std.specs.Int.{bit_at}
use Rattle.std.proofs.lemmas.List.{length-append}
use Rattle.std.proofs.lemmas.Nat.Bits.{bit_at_lowest, bit_at-suc}
use Rattle.vx_masks.specs.Bytes.{byte_of, packed}
use Rattle.vx_segments.specs.Parts.{IsPadded}
use Rattle.vx_segments.specs.Reading.{bits_of, bits_read, packed_len}

-- the lowest bits of a number, lowest first
abbrev pub low_bits : ℕ → ℕ → List Bool
low_bits zero b = []
low_bits (suc k) b = (bit_at b 0 == 1) ∷ low_bits k (b / 2)

truth_of_bit : (m : ℕ) → m < 2 → cond (eqb m 1) 1 0 ≡ m
truth_of_bit zero h = refl
truth_of_bit (suc zero) h = refl
truth_of_bit (suc (suc m)) h = absurd (omega arith)

byte_again : (k b : ℕ) → b < 2 ^ k → byte_of (low_bits k b) ≡ b
byte_again zero b h = omega arith
byte_again (suc k) b h =
    let half : b / 2 < 2 ^ k = omega arith in
    omega (arith, truth_of_bit (bit_at b 0) (omega (arith, bit_at_lowest b)), bit_at_lowest b, byte_again k (b / 2) half)

-- the lowest bit of what was packed, and the bits behind it
first_bit : (bit : Bool) (n : ℕ) → (bit_at (cond bit 1 0 + 2 * n) 0 == 1) ≡ bit
first_bit true n = let odd : (1 + 2 * n) % 2 ≡ 1 = omega arith in ap (λ m. m == 1) (bit_at_lowest (1 + 2 * n) ∙ odd)
first_bit false n = let even : (0 + 2 * n) % 2 ≡ 0 = omega arith in ap (λ m. m == 1) (bit_at_lowest (0 + 2 * n) ∙ even)

later_bits : (bit : Bool) (n : ℕ) → (cond bit 1 0 + 2 * n) / 2 ≡ n
later_bits true n = omega arith
later_bits false n = omega arith

bits_again : (bits : List Bool) → low_bits (length bits) (byte_of bits) ≡ bits
bits_again [] = refl
bits_again (bit ∷ bits) =
    let later : low_bits (length bits) ((cond bit 1 0 + 2 * byte_of bits) / 2) ≡ bits = ap (low_bits (length bits)) (later_bits bit (byte_of bits)) ∙ bits_again bits in
    λ i. first_bit bit (byte_of bits) i ∷ later i

next_bit : (b k : ℕ) → (bit_at b (suc k) == 1) ≡ (bit_at (b / 2) k == 1)
next_bit b k = ap (λ m. m == 1) (bit_at-suc b k)

eight_bits : (b : ℕ) → bits_of b ≡ low_bits 8 b
eight_bits b = λ i. (bit_at b 0 == 1) ∷ next_bit b 0 i ∷ (next_bit b 1 ∙ next_bit (b / 2) 0) i ∷ (next_bit b 2 ∙ next_bit (b / 2) 1 ∙ next_bit (b / 2 / 2) 0) i
    ∷ (next_bit b 3 ∙ next_bit (b / 2) 2 ∙ next_bit (b / 2 / 2) 1 ∙ next_bit (b / 2 / 2 / 2) 0) i
    ∷ (next_bit b 4 ∙ next_bit (b / 2) 3 ∙ next_bit (b / 2 / 2) 2 ∙ next_bit (b / 2 / 2 / 2) 1 ∙ next_bit (b / 2 / 2 / 2 / 2) 0) i
    ∷ (next_bit b 5 ∙ next_bit (b / 2) 4 ∙ next_bit (b / 2 / 2) 3 ∙ next_bit (b / 2 / 2 / 2) 2 ∙ next_bit (b / 2 / 2 / 2 / 2) 1 ∙ next_bit (b / 2 / 2 / 2 / 2 / 2) 0) i
    ∷ (next_bit b 6 ∙ next_bit (b / 2) 5 ∙ next_bit (b / 2 / 2) 4 ∙ next_bit (b / 2 / 2 / 2) 3 ∙ next_bit (b / 2 / 2 / 2 / 2) 2 ∙ next_bit (b / 2 / 2 / 2 / 2 / 2) 1 ∙ next_bit (b / 2 / 2 / 2 / 2 / 2 / 2) 0) i ∷ []

abbrev eight_more : ℕ → ℕ
eight_more n = suc (suc (suc (suc (suc (suc (suc (suc n)))))))

-- ---- the last byte, of fewer than eight bits
few_read : (k b : ℕ) → k < 8 → bits_read k (b ∷ []) ≡ low_bits k b
few_read zero b h = refl
few_read (suc zero) b h = ap (take 1) (eight_bits b)
few_read (suc (suc zero)) b h = ap (take 2) (eight_bits b)
few_read (suc (suc (suc zero))) b h = ap (take 3) (eight_bits b)
few_read (suc (suc (suc (suc zero)))) b h = ap (take 4) (eight_bits b)
few_read (suc (suc (suc (suc (suc zero))))) b h = ap (take 5) (eight_bits b)
few_read (suc (suc (suc (suc (suc (suc zero)))))) b h = ap (take 6) (eight_bits b)
few_read (suc (suc (suc (suc (suc (suc (suc zero))))))) b h = ap (take 7) (eight_bits b)
few_read (suc (suc (suc (suc (suc (suc (suc (suc k)))))))) b h = absurd (omega arith)

few_again : (bits : List Bool) → length bits < 8 → bits_read (length bits) (byte_of bits ∷ []) ≡ bits
few_again bits h = few_read (length bits) (byte_of bits) h ∙ bits_again bits

-- what was packed is read again
pub packed_read : (bits : List Bool) → bits_read (length bits) (packed bits) ≡ bits
packed_read [] = refl
packed_read (a ∷ []) = few_again (a ∷ []) (omega arith)
packed_read (a ∷ b ∷ []) = few_again (a ∷ b ∷ []) (omega arith)
packed_read (a ∷ b ∷ c ∷ []) = few_again (a ∷ b ∷ c ∷ []) (omega arith)
packed_read (a ∷ b ∷ c ∷ d ∷ []) = few_again (a ∷ b ∷ c ∷ d ∷ []) (omega arith)
packed_read (a ∷ b ∷ c ∷ d ∷ e ∷ []) = few_again (a ∷ b ∷ c ∷ d ∷ e ∷ []) (omega arith)
packed_read (a ∷ b ∷ c ∷ d ∷ e ∷ f ∷ []) = few_again (a ∷ b ∷ c ∷ d ∷ e ∷ f ∷ []) (omega arith)
packed_read (a ∷ b ∷ c ∷ d ∷ e ∷ f ∷ g ∷ []) = few_again (a ∷ b ∷ c ∷ d ∷ e ∷ f ∷ g ∷ []) (omega arith)
packed_read (a ∷ b ∷ c ∷ d ∷ e ∷ f ∷ g ∷ h ∷ bits) =
    let eight = a ∷ b ∷ c ∷ d ∷ e ∷ f ∷ g ∷ h ∷ [] in
    let here : bits_of (byte_of eight) ≡ eight = eight_bits (byte_of eight) ∙ bits_again eight in
    ap (λ (bs : List Bool). take (eight_more (length bits)) (bs ++ flat_map bits_of (packed bits))) here ∙ ap (λ (bs : List Bool). a ∷ b ∷ c ∷ d ∷ e ∷ f ∷ g ∷ h ∷ bs) (packed_read bits)

-- ---- how long they are, and what their last byte holds
pub length-packed : (bits : List Bool) → length (packed bits) ≡ packed_len (length bits)
length-packed [] = refl
length-packed (a ∷ []) = refl
length-packed (a ∷ b ∷ []) = refl
length-packed (a ∷ b ∷ c ∷ []) = refl
length-packed (a ∷ b ∷ c ∷ d ∷ []) = refl
length-packed (a ∷ b ∷ c ∷ d ∷ e ∷ []) = refl
length-packed (a ∷ b ∷ c ∷ d ∷ e ∷ f ∷ []) = refl
length-packed (a ∷ b ∷ c ∷ d ∷ e ∷ f ∷ g ∷ []) = refl
length-packed (a ∷ b ∷ c ∷ d ∷ e ∷ f ∷ g ∷ h ∷ bits) = omega (arith, length-packed bits)

twice_small : (bit n k : ℕ) → bit ≤ 1 → n < 2 ^ k → bit + 2 * n < 2 ^ suc k
twice_small bit n k p h = omega arith

byte_small : (bits : List Bool) → byte_of bits < 2 ^ length bits
byte_small [] = omega arith
byte_small (true ∷ bits) = twice_small 1 (byte_of bits) (length bits) (omega arith) (byte_small bits)
byte_small (false ∷ bits) = twice_small 0 (byte_of bits) (length bits) (omega arith) (byte_small bits)

one_more_byte : (n b : ℕ) (bytes : List ℕ) → IsPadded n bytes → IsPadded (eight_more n) (b ∷ bytes)
one_more_byte n b bytes h =
    let place : (eight_more n) / 8 ≡ suc (n / 8) = omega arith in
    let left : (eight_more n) % 8 ≡ n % 8 = omega arith in
    subst (λ (k : ℕ). get_or (b ∷ bytes) k 0 < 2 ^ ((eight_more n) % 8)) (sym place) (subst (λ (k : ℕ). get_or bytes (n / 8) 0 < 2 ^ k) (sym left) h)

one_byte_less : (n b : ℕ) (bytes : List ℕ) → IsPadded (eight_more n) (b ∷ bytes) → IsPadded n bytes
one_byte_less n b bytes h =
    let place : (eight_more n) / 8 ≡ suc (n / 8) = omega arith in
    let left : (eight_more n) % 8 ≡ n % 8 = omega arith in
    subst (λ (k : ℕ). get_or bytes (n / 8) 0 < 2 ^ k) left (subst (λ (k : ℕ). get_or (b ∷ bytes) k 0 < 2 ^ ((eight_more n) % 8)) place h)

pub packed_padded : (bits : List Bool) → IsPadded (length bits) (packed bits)
packed_padded [] = omega arith
packed_padded (a ∷ []) = byte_small (a ∷ [])
packed_padded (a ∷ b ∷ []) = byte_small (a ∷ b ∷ [])
packed_padded (a ∷ b ∷ c ∷ []) = byte_small (a ∷ b ∷ c ∷ [])
packed_padded (a ∷ b ∷ c ∷ d ∷ []) = byte_small (a ∷ b ∷ c ∷ d ∷ [])
packed_padded (a ∷ b ∷ c ∷ d ∷ e ∷ []) = byte_small (a ∷ b ∷ c ∷ d ∷ e ∷ [])
packed_padded (a ∷ b ∷ c ∷ d ∷ e ∷ f ∷ []) = byte_small (a ∷ b ∷ c ∷ d ∷ e ∷ f ∷ [])
packed_padded (a ∷ b ∷ c ∷ d ∷ e ∷ f ∷ g ∷ []) = byte_small (a ∷ b ∷ c ∷ d ∷ e ∷ f ∷ g ∷ [])
packed_padded (a ∷ b ∷ c ∷ d ∷ e ∷ f ∷ g ∷ h ∷ bits) = one_more_byte (length bits) (byte_of (a ∷ b ∷ c ∷ d ∷ e ∷ f ∷ g ∷ h ∷ [])) (packed bits) (packed_padded bits)

-- ---- what was read is packed as those bytes
few_packed : (k : ℕ) (b : ℕ) → 0 < k → k < 8 → packed (low_bits k b) ≡ byte_of (low_bits k b) ∷ []
few_packed zero b p h = absurd (omega arith)
few_packed (suc zero) b p h = refl
few_packed (suc (suc zero)) b p h = refl
few_packed (suc (suc (suc zero))) b p h = refl
few_packed (suc (suc (suc (suc zero)))) b p h = refl
few_packed (suc (suc (suc (suc (suc zero))))) b p h = refl
few_packed (suc (suc (suc (suc (suc (suc zero)))))) b p h = refl
few_packed (suc (suc (suc (suc (suc (suc (suc zero))))))) b p h = refl
few_packed (suc (suc (suc (suc (suc (suc (suc (suc k)))))))) b p h = absurd (omega arith)

few_spelled : (k : ℕ) (bytes : List ℕ) → 0 < k → k < 8 → length bytes ≡ packed_len k → IsPadded k bytes → packed (bits_read k bytes) ≡ bytes
few_spelled k [] p h len pad = absurd (omega arith)
few_spelled k (b ∷ c ∷ bytes) p h len pad = absurd (omega arith)
few_spelled k (b ∷ []) p h len pad =
    let low : k / 8 ≡ 0 = omega arith in
    let all : k % 8 ≡ k = omega arith in
    let small : b < 2 ^ k = subst (λ (m : ℕ). b < 2 ^ m) all (subst (λ (m : ℕ). get_or (b ∷ []) m 0 < 2 ^ (k % 8)) low pad) in
    ap packed (few_read k b h) ∙ few_packed k b p h ∙ (λ i. byte_again k b small i ∷ [])

pub read_packed : (rows : ℕ) (bytes : List ℕ) → length bytes ≡ packed_len rows → IsPadded rows bytes → ((i : ℕ) → get_or bytes i 0 < 256) → packed (bits_read rows bytes) ≡ bytes
read_packed zero [] len pad small = refl
read_packed zero (b ∷ bytes) len pad small = absurd (omega arith)
read_packed (suc (suc (suc (suc (suc (suc (suc (suc n)))))))) [] len pad small = absurd (omega arith)
read_packed (suc (suc (suc (suc (suc (suc (suc (suc n)))))))) (b ∷ bytes) len pad small =
    let here : byte_of (bits_of b) ≡ b = ap byte_of (eight_bits b) ∙ byte_again 8 b (small 0) in
    let later : packed (bits_read n bytes) ≡ bytes = read_packed n bytes (omega arith) (one_byte_less n b bytes pad) (λ i. small (suc i)) in
    λ i. here i ∷ later i
read_packed (suc zero) bytes len pad small = few_spelled 1 bytes (omega arith) (omega arith) len pad
read_packed (suc (suc zero)) bytes len pad small = few_spelled 2 bytes (omega arith) (omega arith) len pad
read_packed (suc (suc (suc zero))) bytes len pad small = few_spelled 3 bytes (omega arith) (omega arith) len pad
read_packed (suc (suc (suc (suc zero)))) bytes len pad small = few_spelled 4 bytes (omega arith) (omega arith) len pad
read_packed (suc (suc (suc (suc (suc zero))))) bytes len pad small = few_spelled 5 bytes (omega arith) (omega arith) len pad
read_packed (suc (suc (suc (suc (suc (suc zero)))))) bytes len pad small = few_spelled 6 bytes (omega arith) (omega arith) len pad
read_packed (suc (suc (suc (suc (suc (suc (suc zero))))))) bytes len pad small = few_spelled 7 bytes (omega arith) (omega arith) len pad

-- ---- the bit of a row

pub length-bits_of : (bytes : List ℕ) → length (flat_map bits_of bytes) ≡ 8 * length bytes
length-bits_of [] = refl
length-bits_of (b ∷ bytes) = omega (arith, length-append (bits_of b) (flat_map bits_of bytes), length-bits_of bytes)
