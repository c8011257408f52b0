-- Evaluations that go on at a source.
use Rattle.std.specs.Prelude.{ℕ, List, []}
use Rattle.vx_base.specs.declared.locations.SegmentLocation.{SegmentLocation}
use Rattle.vx_base.specs.Sources.{SourceState}
use Rattle.vx_reads.specs.declared.reads.SegmentRead.{SegmentRead}
use Rattle.vx_reads.specs.Reads.{AreInFlight, HasTicket}
use Rattle.vx_readers.specs.declared.states.Masking.{Masking}
use Rattle.vx_readers.specs.declared.states.Masking.TheVariants.{Known, Filters, Prunes}
use Rattle.vx_readers.specs.States.{ReadsAreInFlight}
use Rattle.vx_readers_cases.specs.declared.running.Running.{Running}
use Rattle.vx_readers_cases.specs.declared.running.Running.TheVariants.{Column, Mask, Over}

-- the reads of a mask that is filtered or pruned
abbrev pub mask_reads : Masking → List SegmentRead
mask_reads (Known mask) = []
mask_reads (Filters e) = e.reads
mask_reads (Prunes e) = e.reads

-- the reads of an evaluation
abbrev pub reads_of : Running → List SegmentRead
reads_of (Column state) = state.evaluation.reads
reads_of (Mask state) = mask_reads state.masking
reads_of Over = []

-- the reads that it started and that have not ended are in flight
abbrev pub IsRunning : Running → List (ℕ × SegmentLocation) → Type 0
IsRunning (Column state) flights = AreInFlight state.evaluation.locations state.evaluation.reads flights
IsRunning (Mask state) flights = ReadsAreInFlight state.masking flights
IsRunning Over flights = Unit {0}

-- whatever is in flight at a source, none of its reads is
abbrev pub Starts : Running → Type 0
Starts running = (flights : List (ℕ × SegmentLocation)) → IsRunning running flights

-- no read is one of both
abbrev pub AreApart : Running → Running → Type 0
AreApart one two = (ticket : ℕ) → HasTicket (reads_of one) ticket → HasTicket (reads_of two) ticket → ⊥

-- It goes on at the source, and whatever else goes on there does so still.
pub record GoesOn (old new : Running) (before after : SourceState) : Type 0 where
  pub runs : IsRunning new after.in_flight
  pub spares : (other : Running) → IsRunning other before.in_flight → AreApart old other → IsRunning other after.in_flight
  pub apart : (other : Running) → IsRunning other before.in_flight → AreApart old other → AreApart new other

-- both go on, and no read is one of both
pub record GoTogether (one two : Running) (flights : List (ℕ × SegmentLocation)) : Type 0 where
  pub first : IsRunning one flights
  pub second : IsRunning two flights
  pub apart : AreApart one two
