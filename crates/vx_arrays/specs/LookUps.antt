-- Codes as places of the values that are looked up.
use Rattle.std.specs.Prelude.{ℕ, min, pos, List, map}
use Rattle.vx_types.specs.Data.{Datum, number}

-- the place that a code is, of so many rows, and the place past the last one for what is none of them
abbrev pub code_place : ℕ → Datum → ℕ
code_place past (number (pos place)) = min place past
code_place past code = past

abbrev pub code_places : ℕ → List Datum → List ℕ
code_places past codes = map (code_place past) codes
