-- The reads in flight of a source, as its table of them is seen.
use Rattle.std.specs.Prelude.{ℕ, ◌<◌, List, All}
use Rattle.vx_outside.specs.declared.locations.SegmentLocation.{SegmentLocation}

-- the reads, each a ticket and its location, in the order in which they started; the next ticket
pub record Flights : Type 0 where
  pub reads : List (ℕ × SegmentLocation)
  pub next : ℕ

-- every ticket that is in flight was given before the next one
abbrev pub AllGiven : List (ℕ × SegmentLocation) → ℕ → Type 0
AllGiven reads next = All (λ read. read.0 < next) reads
