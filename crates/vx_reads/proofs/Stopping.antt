-- A call for one read fails, and so does one for all: which it was, and what that leaves of the reads.
use Rattle.std.proofs.Common.{◌≡◌, ℕ, ◌≤◌, ◌⊎◌, inl, inr, List, Option, Some, None, Err, slice_set, refl, sym, ap, ◌∙◌, subst, arith}
use Rattle.std.specs.Prelude.{IsSomeAnd}
use Rattle.std.specs.List.{slice_get}
use Rattle.vx_base.specs.declared.locations.SegmentLocation.{SegmentLocation}
use Rattle.vx_base.specs.Sources.{SourceState, Rose, NotStarted, Ended, asks_also, location_of, range_of}
use Rattle.vx_reads.specs.declared.errors.ReaderError.{ReaderError}
use Rattle.vx_reads.specs.declared.errors.ReaderError.TheVariants.{ReadFault, BadSegment, BadCode, EvalFault, NoLocation, Memory}
use Rattle.vx_reads.specs.declared.reads.SegmentRead.{SegmentRead}
use Rattle.vx_reads.specs.Reads.{ticket_in, segments_of, AsksOnly, EndsBy, GoOn, IsRangeOf, NoneCame, PollFails, SourceFault, StartFails, Touches, StopsWith, IsNotStarted, StartGivesOne, PollGivesOne}
use Rattle.vx_reads.proofs.Going.{segment_there, set_same, asks_none, asks_one, fault_by, stay, touches_then}
use Rattle.vx_reads.proofs.OneRead.{ticket_of}
use Rattle.vx_reads.proofs.Flights.{located_without}

range_at : (locations : List SegmentLocation) (reads : List SegmentRead) (place : ℕ) (old : SegmentRead) (at : SegmentLocation) → slice_get reads place ≡ Some old → slice_get locations old.segment ≡ Some at → IsRangeOf locations (segments_of reads) (range_of at)
range_at locations reads place old at there has = (place, rw (segment_there reads place old there, has) refl)

touches_not_started : (locations : List SegmentLocation) (reads : List SegmentRead) (place : ℕ) (old : SegmentRead) (before after : SourceState) → slice_get reads place ≡ Some old → IsNotStarted locations old before after → before.faults ≤ after.faults → Touches locations reads before after
touches_not_started locations reads place old before after there is faults = by (slice_get locations old.segment) refl is
  where
    asks_by : (at : SegmentLocation) → slice_get locations old.segment ≡ Some at → (after.asked ≡ before.asked) ⊎ (after.asked ≡ asks_also at before.asked) → AsksOnly (IsRangeOf locations (segments_of reads)) before.asked after.asked
    asks_by at has (inl e) = subst (AsksOnly (IsRangeOf locations (segments_of reads)) before.asked) (sym e) (asks_none (IsRangeOf locations (segments_of reads)) before.asked)
    asks_by at has (inr e) = subst (AsksOnly (IsRangeOf locations (segments_of reads)) before.asked) (sym e) (asks_one (IsRangeOf locations (segments_of reads)) at before.asked (range_at locations reads place old at there has))

    by : (o : Option SegmentLocation) → slice_get locations old.segment ≡ o → IsSomeAnd o (λ at. NotStarted at before after) → Touches locations reads before after
    by None e h = absurd h
    by (Some at) e h = record {
      file = h.file;
      asks = asks_by at e h.asked;
      others = λ other at2 foreign found. ap (location_of other) h.in_flight ∙ found;
      faults = faults;
      idle = (let i = h.idle in omega arith);
    }

-- ---- what is left of the reads

-- a read that is written as it was leaves all as they were
written_same : (reads : List SegmentRead) (place : ℕ) (old new : SegmentRead) → slice_get reads place ≡ Some old → new ≡ old → slice_set reads place new ≡ reads
written_same reads place old new there same = ap (λ (read : SegmentRead). slice_set reads place read) same ∙ set_same reads place old there

-- the reads went on, and then the call for the one at a place failed
stopped : (locations : List SegmentLocation) (error : ReaderError) (one reads : List SegmentRead) (place : ℕ) (old new : SegmentRead) (start before after : SourceState) → GoOn locations one reads start before → slice_get reads place ≡ Some old → new ≡ old → Touches locations reads before after × SourceFault locations (segments_of reads) error before after → EndsBy locations error one reads before after → StopsWith locations error one (slice_set reads place new) start after
stopped locations error one reads place old new start before after went there same stops ends = (
  record {
    touches = touches_then locations one reads start before after went stops.0;
    fault = fault_by locations error one reads start before after went stops.1;
    leaves = record { reads = reads; middle = before; went = went; ends = ends };
  },
  written_same reads place old new there same,
)

-- ---- a start

-- it leaves the read as it was
start_same : (locations : List SegmentLocation) (error : ReaderError) (old new : SegmentRead) (before after : SourceState) → StartGivesOne locations (Err error) old new before after → new ≡ old
start_same locations ReadFault old new before after is = is.2
start_same locations Memory old new before after is = is.2
start_same locations (NoLocation segment) old new before after is = is.3
start_same locations (BadSegment segment) old new before after is = absurd is
start_same locations (BadCode node row) old new before after is = absurd is
start_same locations (EvalFault row) old new before after is = absurd is

start_stops : (locations : List SegmentLocation) (reads : List SegmentRead) (place : ℕ) (old new : SegmentRead) (error : ReaderError) (before after : SourceState) → slice_get reads place ≡ Some old → StartGivesOne locations (Err error) old new before after → Touches locations reads before after × SourceFault locations (segments_of reads) error before after
start_stops locations reads place old new ReadFault before after there is = (touches_not_started locations reads place old before after there is.0 is.1.kept, is.1)
start_stops locations reads place old new Memory before after there is = (touches_not_started locations reads place old before after there is.0 (let e = is.1 in omega arith), tt)
start_stops locations reads place old new (NoLocation segment) before after there is = (
  subst (Touches locations reads before) (sym is.2) (stay locations reads before),
  (place, segment_there reads place old there ∙ ap Some (sym is.0), ap (slice_get locations) is.0 ∙ is.1),
)
start_stops locations reads place old new (BadSegment segment) before after there is = absurd is
start_stops locations reads place old new (BadCode node row) before after there is = absurd is
start_stops locations reads place old new (EvalFault row) before after there is = absurd is

start_fails : (locations : List SegmentLocation) (error : ReaderError) (one reads : List SegmentRead) (place : ℕ) (old new : SegmentRead) (before after : SourceState) → NoneCame 0 one reads → slice_get reads place ≡ Some old → StartGivesOne locations (Err error) old new before after → StartFails locations error one reads before after
start_fails locations error one reads place old new before after none there is =
    let F : SegmentRead → Type 0 = λ read. StartGivesOne locations (Err error) old read before after in
    let G : Option SegmentRead → Type 0 = λ found. IsSomeAnd found (λ (read : SegmentRead). StartGivesOne locations (Err error) read read before after) in
    (place, none, subst G (sym there) (subst F (start_same locations error old new before after is) is))

pub stop_start : (locations : List SegmentLocation) (one reads : List SegmentRead) (place : ℕ) (old new : SegmentRead) (error : ReaderError) (start before after : SourceState) → GoOn locations one reads start before → NoneCame 0 one reads → slice_get reads place ≡ Some old → StartGivesOne locations (Err error) old new before after → StopsWith locations error one (slice_set reads place new) start after
stop_start locations one reads place old new error start before after went none there is =
    stopped locations error one reads place old new start before after went there (start_same locations error old new before after is)
    (start_stops locations reads place old new error before after there is)
    (inr (inl (start_fails locations error one reads place old new before after none there is)))

-- ---- a poll

touches_ended : (locations : List SegmentLocation) (reads : List SegmentRead) (place : ℕ) (old : SegmentRead) (before after : SourceState) → slice_get reads place ≡ Some old → (o : Option ℕ) → ticket_in old.state ≡ o → IsSomeAnd o (λ ticket. Ended ticket before after × Rose before.faults after.faults) → Touches locations reads before after × Rose before.faults after.faults
touches_ended locations reads place old before after there None e is = absurd is
touches_ended locations reads place old before after there (Some ticket) e is = (
  record {
    file = is.0.file;
    asks = subst (AsksOnly (IsRangeOf locations (segments_of reads)) before.asked) (sym is.0.asked) (asks_none (IsRangeOf locations (segments_of reads)) before.asked);
    others = λ other at2 foreign found. ap (location_of other) is.0.in_flight ∙ located_without before.in_flight ticket other (λ same. foreign (place, ticket_of reads place old there ∙ e ∙ ap Some (sym same))) ∙ found;
    faults = is.1.kept;
    idle = (let i = is.0.idle in omega arith);
  },
  is.1,
)

-- it leaves the read as it was
poll_same : (error : ReaderError) (old new : SegmentRead) (before after : SourceState) → PollGivesOne (Err error) old new before after → new ≡ old
poll_same ReadFault old new before after is = is.1
poll_same Memory old new before after is = is.2
poll_same (NoLocation segment) old new before after is = absurd is
poll_same (BadSegment segment) old new before after is = absurd is
poll_same (BadCode node row) old new before after is = absurd is
poll_same (EvalFault row) old new before after is = absurd is

poll_stops : (locations : List SegmentLocation) (reads : List SegmentRead) (place : ℕ) (old new : SegmentRead) (error : ReaderError) (before after : SourceState) → slice_get reads place ≡ Some old → PollGivesOne (Err error) old new before after → Touches locations reads before after × SourceFault locations (segments_of reads) error before after
poll_stops locations reads place old new ReadFault before after there is = touches_ended locations reads place old before after there (ticket_in old.state) refl is.0
poll_stops locations reads place old new Memory before after there is = (
  record {
    file = is.0.file;
    asks = subst (AsksOnly (IsRangeOf locations (segments_of reads)) before.asked) (sym is.0.asked) (asks_none (IsRangeOf locations (segments_of reads)) before.asked);
    others = λ other at2 foreign found. ap (location_of other) is.0.in_flight ∙ found;
    faults = (let e = is.0.faults in omega arith);
    idle = (let e = is.1 in omega arith);
  },
  tt,
)
poll_stops locations reads place old new (NoLocation segment) before after there is = absurd is
poll_stops locations reads place old new (BadSegment segment) before after there is = absurd is
poll_stops locations reads place old new (BadCode node row) before after there is = absurd is
poll_stops locations reads place old new (EvalFault row) before after there is = absurd is

poll_fails : (error : ReaderError) (one reads : List SegmentRead) (place : ℕ) (old new : SegmentRead) (before after : SourceState) → NoneCame place one reads → slice_get reads place ≡ Some old → PollGivesOne (Err error) old new before after → PollFails error one reads before after
poll_fails error one reads place old new before after none there is =
    let F : SegmentRead → Type 0 = λ read. PollGivesOne (Err error) old read before after in
    let G : Option SegmentRead → Type 0 = λ found. IsSomeAnd found (λ (read : SegmentRead). PollGivesOne (Err error) read read before after) in
    (place, none, subst G (sym there) (subst F (poll_same error old new before after is) is))

pub stop_poll : (locations : List SegmentLocation) (one reads : List SegmentRead) (place : ℕ) (old new : SegmentRead) (error : ReaderError) (start before after : SourceState) → GoOn locations one reads start before → NoneCame place one reads → slice_get reads place ≡ Some old → PollGivesOne (Err error) old new before after → StopsWith locations error one (slice_set reads place new) start after
stop_poll locations one reads place old new error start before after went none there is =
    stopped locations error one reads place old new start before after went there (poll_same error old new before after is)
    (poll_stops locations reads place old new error before after there is)
    (inr (inr (poll_fails error one reads place old new before after none there is)))
