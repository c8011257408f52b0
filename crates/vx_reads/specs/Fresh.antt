-- Reads that were not asked for.
use Rattle.std.specs.Prelude.{◌≡◌, ℕ, List}
use Rattle.std.specs.List.{AllByRecursion}
use Rattle.vx_reads.specs.declared.reads.ReadState.{ReadState}
use Rattle.vx_reads.specs.declared.reads.ReadState.TheVariants as states
use Rattle.vx_reads.specs.declared.reads.SegmentRead.{SegmentRead}
use Rattle.vx_reads.specs.Reads.{segments_of}

abbrev pub IsNew : ReadState → Type 0
IsNew states.NotAsked = Unit {0}
IsNew (states.InFlight ticket) = ⊥
IsNew (states.Came bytes) = ⊥

-- One read for each segment, in this order, none of which was asked for.
pub record AreFresh (needs : List ℕ) (reads : List SegmentRead) : Type 0 where
  pub segments : segments_of reads ≡ needs
  pub fresh : AllByRecursion (λ (read : SegmentRead). IsNew read.state) reads
