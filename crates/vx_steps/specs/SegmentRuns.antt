-- Needs beside each other that name one segment.
use Rattle.std.specs.Prelude.{◌≡◌, ℕ, List, IsSomeAnd}
use Rattle.std.specs.List.{slice_get}
use Rattle.vx_steps.specs.declared.placed_reads.PlacedRead.{PlacedRead}

-- a need stands at the place, and names the segment
abbrev pub NamesAt : List PlacedRead → ℕ → ℕ → Type 0
NamesAt needs place segment = IsSomeAnd (slice_get needs place) (λ need. need.segment ≡ segment)
