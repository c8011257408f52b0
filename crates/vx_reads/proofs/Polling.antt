-- All reads of a state are asked for and polled; and when they all came.
use Rattle.std.proofs.Common.{◌≡◌, ℕ, zero, suc, ◌≤◌, List, [], ◌∷◌, Some, Result, Ok, Err, length, refl, ◌∙◌, subst, arith}
use Rattle.std.specs.Prelude.{IsSome}
use Rattle.vx_base.specs.declared.locations.SegmentLocation.{SegmentLocation}
use Rattle.vx_base.specs.Sources.{SourceState, RoseBy}
use Rattle.vx_reads.specs.declared.errors.ReaderError.{ReaderError}
use Rattle.vx_reads.specs.declared.reads.ReadState.{ReadState}
use Rattle.vx_reads.specs.declared.reads.ReadState.TheVariants as states
use Rattle.vx_reads.specs.declared.reads.SegmentRead.{SegmentRead}
use Rattle.vx_reads.specs.Came.{Begin}
use Rattle.vx_reads.specs.Reads.{bytes_in, is_waiting, segments_of, ticket_at, ticket_in, waiting_in, AllStarted, AreAsked, IsAsked, PollsAll, PollsReads}
use Rattle.vx_reads.proofs.Going.{goes_then, stops_then}

low_rose : (waiting before middle after : ℕ) → before ≤ middle → RoseBy waiting middle after → RoseBy waiting before after
low_rose waiting before middle after low rose = record { kept = (let k = rose.kept in omega arith); raised = (let r = rose.raised in omega arith) }

pub polled_reads : (locations : List SegmentLocation) (result : Result ℕ ReaderError) (one two three : List SegmentRead) (before middle after : SourceState) → AllStarted locations one two before middle → PollsAll locations result two three middle after → PollsReads locations result one three before after
polled_reads locations (Ok waiting) one two three before middle after started polled = record {
  goes = goes_then locations one two three before middle after started.goes polled.goes;
  asked = polled.asked started.asked;
  asks = polled.quiet ∙ started.asks;
  count = polled.count;
  waited = low_rose waiting before.idle middle.idle after.idle started.goes.touches.idle polled.waited;
}
polled_reads locations (Err error) one two three before middle after started polled = stops_then locations error one two three before middle after started.goes started.none polled

-- ---- when all came

not_waiting : (s : ReadState) (ticket : ℕ) → is_waiting s ≡ 0 → ticket_in s ≡ Some ticket → ⊥
not_waiting states.NotAsked ticket none at = cc
not_waiting (states.InFlight other) ticket none at = omega arith
not_waiting (states.Came bytes) ticket none at = cc

-- none of them has a ticket
pub none_waiting : (reads : List SegmentRead) → 0 ≡ waiting_in reads → (place ticket : ℕ) → ticket_at reads place ≡ Some ticket → ⊥
none_waiting [] none place ticket at = cc
none_waiting (read ∷ reads) none zero ticket at = not_waiting read.state ticket (omega arith) at
none_waiting (read ∷ reads) none (suc place) ticket at = none_waiting reads (omega arith) place ticket at

came_state : (s : ReadState) → IsAsked s → is_waiting s ≡ 0 → IsSome (bytes_in s)
came_state states.NotAsked asked none = absurd asked
came_state (states.InFlight ticket) asked none = absurd (omega arith)
came_state (states.Came bytes) asked none = refl

asked_rest : (read : SegmentRead) (reads : List SegmentRead) → AreAsked (length (read ∷ reads)) (read ∷ reads) → AreAsked (length reads) reads
asked_rest read reads asked place lt = asked (suc place) (omega arith)

pub all_begin : (reads : List SegmentRead) (segments : List ℕ) → segments_of reads ≡ segments → AreAsked (length reads) reads → 0 ≡ waiting_in reads → Begin segments reads
all_begin reads segments same asked none = subst (λ (ns : List ℕ). Begin ns reads) same (by reads asked none)
  where
    by : (reads : List SegmentRead) → AreAsked (length reads) reads → 0 ≡ waiting_in reads → Begin (segments_of reads) reads
    by [] asked none = tt
    by (read ∷ reads) asked none =
        (refl, came_state read.state (asked 0 (omega arith)) (omega arith), by reads (asked_rest read reads asked) (omega arith))
