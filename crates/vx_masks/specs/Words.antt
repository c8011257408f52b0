-- Words of 64 bits as truth values, lowest bit first, and as one number, lowest word first.
use Rattle.std.specs.Prelude.{◌≡◌, ℕ, zero, suc, ◌+◌, ◌*◌, ◌/◌, ◌%◌, ◌-◌, ◌^◌, ◌<◌, ◌≤◌, replicate, Bool, List, [], ◌∷◌, length, slice_index, ◌==◌}
use Rattle.std.specs.List.{flat_map}
use Rattle.std.specs.Simd.Lanes.{number_l}

-- so many of the lowest bits of a number, lowest first
unfoldable pub low_bits : ℕ → ℕ → List Bool
low_bits zero n = []
low_bits (suc k) n = (n % 2 == 1) ∷ low_bits k (n / 2)

-- the bits of words, 64 of each
abbrev pub bits_of : List ℕ → List Bool
bits_of words = flat_map (low_bits 64) words

-- the number that the words spell
abbrev pub number_of : List ℕ → ℕ
number_of words = number_l (2 ^ 64) words

-- each number is below a power of two
pub record Small (width : ℕ) (words : List ℕ) : Type 0 where
  pub small : (i : ℕ) → slice_index words i < 2 ^ width

-- how many words so many rows take
abbrev pub words_for : ℕ → ℕ
words_for rows = (rows + 63) / 64

-- So many rows lie in these words: no word is missing, none is too many, and the bits past the last row are 0.
pub record IsMask (len : ℕ) (words : List ℕ) : Type 0 where
  pub count : length words ≡ words_for len
  pub small : number_of words < 2 ^ len

-- The words of a mask of so many rows that keeps these: where it keeps none, each bit of its words is set.
abbrev pub held : ℕ → List ℕ → List ℕ
held len [] = replicate (len / 64) (2 ^ 64 - 1)
held len (word ∷ words) = word ∷ words

-- so many rows lie in the words that are kept, or, where none are, in words that masks share
pub record AreWordsOf (len : ℕ) (kept : List ℕ) : Type 0 where
  pub mask : IsMask len (held len kept)
  pub shared : kept ≡ [] → len ≤ 65536

-- The other words stand, shifted left, behind the first ones and what was carried from them, and the rest is carried on.
pub record IsShiftedBehind (first : List ℕ) (carry shift : ℕ) (others words : List ℕ) (rest : ℕ) : Type 0 where
  pub count : length words ≡ length first + length others
  pub whole : number_of words + 2 ^ (64 * length words) * rest ≡ number_of first + 2 ^ (64 * length first) * carry + 2 ^ (64 * length first + shift) * number_of others
  pub small : rest < 2 ^ shift

-- So many bits stand, shifted left, behind the first words and what was carried from them, and the rest is carried on.
pub record IsPushed (first : List ℕ) (carry shift value size : ℕ) (words : List ℕ) (rest : ℕ) : Type 0 where
  pub count : length words ≡ length first + (shift + size) / 64
  pub whole : number_of words + 2 ^ (64 * length words) * rest ≡ number_of first + 2 ^ (64 * length first) * carry + 2 ^ (64 * length first + shift) * value
