-- Writing a text to its end.
use Rattle.std.specs.Prelude.{◌≡◌, ℕ, ◌++◌, List, take, option_map, Result, Ok, Err, ⊤}
use Rattle.vx_base.specs.declared.outside.StreamError.{StreamError}
use Rattle.vx_base.specs.declared.outside.StreamError.TheVariants.{Failed, Memory}
use Rattle.vx_base.specs.Sources.{Rose}
use Rattle.vx_base.specs.Streams.{WriteState}

-- so much of the text was written
abbrev pub WritesFront : List ℕ → WriteState → WriteState → Type 0
WritesFront text old new = (count : ℕ) × (new.written ≡ option_map (λ written. written ++ take count text) old.written)

abbrev pub WritingGives : Result ⊤ StreamError → List ℕ → WriteState → WriteState → Type 0
WritingGives (Ok done) text old new = (new.written ≡ option_map (λ written. written ++ text) old.written) × (new.faults ≡ old.faults)
WritingGives (Err Failed) text old new = WritesFront text old new × Rose old.faults new.faults
WritingGives (Err Memory) text old new = WritesFront text old new × (new.faults ≡ old.faults)
