-- What a stream that is read, and one that is written, is to its callers, and what each call on it does.
use Rattle.std.specs.Prelude.{◌≡◌, ℕ, ◌<◌, ◌≤◌, List, [], ◌∷◌, ◌++◌, length, take, drop, Option, option_map, IfSome, Result, Ok, Err}
use Rattle.std.specs.Global.{Vec}
use Rattle.vx_outside.specs.declared.outside.StreamError.{StreamError}
use Rattle.vx_outside.specs.declared.outside.StreamError.TheVariants.{Failed, Memory}
use Rattle.vx_outside.specs.Sources.{Rose}

-- ---- reading

-- What is still to come, where it is told; the sizes of the pieces that were given; how often a call failed.
pub record ReadState : Type 0 where
  pub rest : Option (List ℕ)
  pub pieces : List ℕ
  pub faults : ℕ

-- A piece of at most so many bytes, the next ones where they are told; an empty one is the end.
pub record Gave (max : ℕ) (piece : List ℕ) (old new : ReadState) : Type 0 where
  pub size : length piece ≤ max
  pub next : IfSome old.rest (λ rest. piece ≡ take (length piece) rest)
  pub end : piece ≡ [] → IfSome old.rest (λ rest. rest ≡ [])
  pub rest : new.rest ≡ option_map (drop (length piece)) old.rest
  pub pieces : new.pieces ≡ old.pieces ++ length piece ∷ []
  pub faults : new.faults ≡ old.faults

-- nothing was given
pub record GaveNothing (old new : ReadState) : Type 0 where
  pub rest : new.rest ≡ old.rest
  pub pieces : new.pieces ≡ old.pieces

abbrev pub ReadGives : Result (Vec ℕ) StreamError → ℕ → ReadState → ReadState → Type 0
ReadGives (Ok piece) max old new = Gave max piece.items old new
ReadGives (Err Failed) max old new = GaveNothing old new × Rose old.faults new.faults
ReadGives (Err Memory) max old new = GaveNothing old new × (new.faults ≡ old.faults)

-- ---- writing

-- What was written, where it is told; how often a call failed.
pub record WriteState : Type 0 where
  pub written : Option (List ℕ)
  pub faults : ℕ

-- So many leading bytes of the piece were taken, at least one of a nonempty piece.
pub record Took (count : ℕ) (piece : List ℕ) (old new : WriteState) : Type 0 where
  pub bound : count ≤ length piece
  pub some : 0 < length piece → 0 < count
  pub written : new.written ≡ option_map (λ written. written ++ take count piece) old.written
  pub faults : new.faults ≡ old.faults

abbrev pub WriteGives : Result ℕ StreamError → List ℕ → WriteState → WriteState → Type 0
WriteGives (Ok count) piece old new = Took count piece old new
WriteGives (Err Failed) piece old new = (new.written ≡ old.written) × Rose old.faults new.faults
WriteGives (Err Memory) piece old new = new ≡ old
