-- Reading a request to its end.
use Rattle.std.specs.Prelude.{◌≡◌, ℕ, ◌+◌, ◌<◌, ◌≤◌, ◌⊎◌, List, [], ◌∷◌, ◌++◌, length, sum, All, Some, IfSome, Result, Ok, Err}
use Rattle.std.specs.Global.{Vec}
use Rattle.vx_outside.specs.Sources.{Rose}
use Rattle.vx_outside.specs.Streams.{ReadState}
use Rattle.scan_input.specs.declared.reading.ReadingError.{ReadingError}
use Rattle.scan_input.specs.declared.reading.ReadingError.TheVariants.{TooLarge, Failed, Memory}

-- a request has at most so many bytes
abbrev pub most_bytes : ℕ
most_bytes = 16777216

-- a piece of a request has at most so many bytes
abbrev pub most_piece : ℕ
most_piece = 65536

-- the size of a piece that isn't empty
abbrev pub IsFull : ℕ → Type 0
IsFull size = (0 < size) × (size ≤ most_piece)

-- At most 16777217 pieces were read, of at most 65536 bytes each, and each but an empty last one gave at
-- least one byte.
pub record ReadsPieces (old new : ReadState) : Type 0 where
  pub full : List ℕ
  pub last : List ℕ
  pub pieces : new.pieces ≡ (old.pieces ++ full) ++ last
  pub each : All IsFull full
  pub end : (last ≡ []) ⊎ (last ≡ 0 ∷ [])
  pub count : length full + length last ≤ most_bytes + 1

-- All pieces that were read have at most as many bytes together as a request may have.
pub record ReadsFew (old new : ReadState) : Type 0 where
  pub sizes : List ℕ
  pub pieces : new.pieces ≡ old.pieces ++ sizes
  pub few : sum sizes ≤ most_bytes

-- the pieces have so many bytes together, and the last one that was read is the empty one, which is the end
abbrev pub EndsInEmptyPiece : ℕ → ReadState → ReadState → Type 0
EndsInEmptyPiece size old new = (full : List ℕ) × All IsFull full × (sum full ≡ size) × (new.pieces ≡ (old.pieces ++ full) ++ 0 ∷ [])

-- These are all bytes of the source, which was read to its end.
pub record ReadsAll (bytes : List ℕ) (old new : ReadState) : Type 0 where
  pub size : length bytes ≤ most_bytes
  pub whole : IfSome old.rest (λ rest. (rest ≡ bytes) × (new.rest ≡ Some []))
  pub last_piece : EndsInEmptyPiece (length bytes) old new
  pub faults : new.faults ≡ old.faults

-- The pieces that were read, none of them the empty one, have more bytes together than a request may have, and without the
-- last one they don't: no further one was read. The source has so many, where it tells them.
pub record ReadsTooMany (old new : ReadState) : Type 0 where
  pub full : List ℕ
  pub last : ℕ
  pub pieces : new.pieces ≡ old.pieces ++ (full ++ last ∷ [])
  pub each : All IsFull (full ++ last ∷ [])
  pub few : sum full ≤ most_bytes
  pub more : most_bytes < sum full + last
  pub told : IfSome old.rest (λ rest. most_bytes < length rest)
  pub faults : new.faults ≡ old.faults

-- But for a request that is too large, the pieces never have too many bytes together, also where a read fails behind them.
abbrev pub ReadingGives : Result (Vec ℕ) ReadingError → ReadState → ReadState → Type 0
ReadingGives (Ok bytes) old new = ReadsAll bytes.items old new
ReadingGives (Err TooLarge) old new = ReadsTooMany old new
ReadingGives (Err Failed) old new = Rose old.faults new.faults × ReadsFew old new
ReadingGives (Err Memory) old new = (new.faults ≡ old.faults) × ReadsFew old new
