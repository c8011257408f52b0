-- Reads whose bytes came.
use Rattle.std.specs.Prelude.{◌≡◌, ℕ, List, [], ◌∷◌, Option, None, IsSome}
use Rattle.vx_reads.specs.declared.reads.SegmentRead.{SegmentRead}
use Rattle.vx_reads.specs.Reads.{bytes_in}

-- the bytes of the first of the reads, where they came
abbrev pub first_bytes : List SegmentRead → Option (List ℕ)
first_bytes [] = None
first_bytes (read ∷ reads) = bytes_in read.state

-- the first of the reads are of these segments, and their bytes came
abbrev pub Begin : List ℕ → List SegmentRead → Type 0
Begin [] reads = Unit {0}
Begin (segment ∷ segments) [] = ⊥
Begin (segment ∷ segments) (read ∷ reads) = (read.segment ≡ segment) × IsSome (bytes_in read.state) × Begin segments reads
