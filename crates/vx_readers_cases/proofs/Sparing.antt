-- What a poll of one evaluation leaves of another one at the same source.
use Rattle.std.proofs.Common.{◌≡◌, ℕ, Bool, List, [], Option, Some, None, Ok, Err, refl, sym, ap, subst}
use Rattle.std.specs.Prelude.{option_and_then, IfSome, IsSomeAnd}
use Rattle.std.specs.List.{slice_get}
use Rattle.vx_base.specs.declared.locations.SegmentLocation.{SegmentLocation}
use Rattle.vx_base.specs.Sources.{SourceState, location_of}
use Rattle.vx_reads.specs.declared.reads.ReadState.{ReadState}
use Rattle.vx_reads.specs.declared.reads.ReadState.TheVariants as states
use Rattle.vx_reads.specs.declared.reads.SegmentRead.{SegmentRead}
use Rattle.vx_reads.specs.Reads.{read_with, ticket_in, AreInFlight, GoOn, HasTicket, IsInFlight, Touches}
use Rattle.vx_readers.specs.declared.states.ColumnState.{ColumnState}
use Rattle.vx_readers.specs.declared.states.MaskState.{MaskState}
use Rattle.vx_readers.specs.declared.states.Masking.{Masking}
use Rattle.vx_readers.specs.declared.states.Masking.TheVariants.{Known, Filters, Prunes}
use Rattle.vx_readers.specs.Evaluations.{Evaluation, IsPending}
use Rattle.vx_readers.specs.declared.progress.Progress.TheVariants.{Ready, Pending}
use Rattle.vx_readers.specs.States.{ColumnPollGives, MaskPollGives, MaskWaits, ReadsAreInFlight}
use Rattle.vx_base.specs.Columns.{ColumnData}
use Rattle.vx_reads.specs.declared.errors.ReaderError.{ReaderError}
use Rattle.vx_readers_cases.specs.declared.running.Running.{Running}
use Rattle.vx_readers_cases.specs.declared.running.Running.TheVariants.{Column, Mask, Over}
use Rattle.vx_readers_cases.specs.Running.{mask_reads, reads_of, AreApart, GoesOn, GoTogether, IsRunning, Starts}

-- ---- reads in flight

kept_state : (locations : List SegmentLocation) (ones others : List (ℕ × SegmentLocation)) (segment : ℕ) (s : ReadState) → ((ticket : ℕ) (at : SegmentLocation) → ticket_in s ≡ Some ticket → location_of ticket ones ≡ Some at → location_of ticket others ≡ Some at) → IsInFlight locations ones (read_with segment s) → IsInFlight locations others (read_with segment s)
kept_state locations ones others segment states.NotAsked keep is = tt
kept_state locations ones others segment (states.Came bytes) keep is = tt
kept_state locations ones others segment (states.InFlight ticket) keep is = by (slice_get locations segment) is
  where
    by : (o : Option SegmentLocation) → IsSomeAnd o (λ at. location_of ticket ones ≡ Some at) → IsSomeAnd o (λ at. location_of ticket others ≡ Some at)
    by None h = h
    by (Some at) h = keep ticket at refl h

kept_one : (locations : List SegmentLocation) (ones others : List (ℕ × SegmentLocation)) (o : Option SegmentRead) → ((ticket : ℕ) (at : SegmentLocation) → option_and_then (λ (read : SegmentRead). ticket_in read.state) o ≡ Some ticket → location_of ticket ones ≡ Some at → location_of ticket others ≡ Some at) → IfSome o (IsInFlight locations ones) → IfSome o (IsInFlight locations others)
kept_one locations ones others None keep is = tt
kept_one locations ones others (Some read) keep is = kept_state locations ones others read.segment read.state keep is

-- those that are apart from what was polled are in flight still
still : (locations : List SegmentLocation) (reads : List SegmentRead) (places : List SegmentLocation) (others : List SegmentRead) (before after : SourceState) → Touches locations reads before after → AreInFlight places others before.in_flight → ((ticket : ℕ) → HasTicket reads ticket → HasTicket others ticket → ⊥) → AreInFlight places others after.in_flight
still locations reads places others before after touches flights apart = record {
  located = λ place. kept_one places before.in_flight after.in_flight (slice_get others place) (λ ticket at is found. touches.others ticket at (λ mine. apart ticket mine (place, is)) found) (flights.located place);
  apart = flights.apart;
}

located_state : (locations : List SegmentLocation) (flights : List (ℕ × SegmentLocation)) (segment : ℕ) (s : ReadState) (ticket : ℕ) → ticket_in s ≡ Some ticket → IsInFlight locations flights (read_with segment s) → (at : SegmentLocation) × (location_of ticket flights ≡ Some at)
located_state locations flights segment states.NotAsked ticket is here = absurd cc
located_state locations flights segment (states.Came bytes) ticket is here = absurd cc
located_state locations flights segment (states.InFlight one) ticket is here = by (slice_get locations segment) here
  where
    by : (o : Option SegmentLocation) → IsSomeAnd o (λ at. location_of one flights ≡ Some at) → (at : SegmentLocation) × (location_of ticket flights ≡ Some at)
    by None h = absurd h
    by (Some at) h = let e : one ≡ ticket = cc in (at, subst (λ (n : ℕ). location_of n flights ≡ Some at) e h)

located_one : (locations : List SegmentLocation) (flights : List (ℕ × SegmentLocation)) (o : Option SegmentRead) (ticket : ℕ) → option_and_then (λ (read : SegmentRead). ticket_in read.state) o ≡ Some ticket → IfSome o (IsInFlight locations flights) → (at : SegmentLocation) × (location_of ticket flights ≡ Some at)
located_one locations flights None ticket is here = absurd cc
located_one locations flights (Some read) ticket is here = located_state locations flights read.segment read.state ticket is here

-- and none of them is one of the reads that went on
parted : (locations : List SegmentLocation) (reads new : List SegmentRead) (places : List SegmentLocation) (others : List SegmentRead) (before after : SourceState) → GoOn locations reads new before after → AreInFlight places others before.in_flight → ((ticket : ℕ) → HasTicket reads ticket → HasTicket others ticket → ⊥) → (ticket : ℕ) → HasTicket new ticket → HasTicket others ticket → ⊥
parted locations reads new places others before after goes flights apart ticket mine theirs =
    let found = located_one places before.in_flight (slice_get others theirs.0) ticket theirs.1 (flights.located theirs.0) in
    goes.new_ones ticket found.0 (λ old. apart ticket old theirs) found.1 mine

no_reads : (ticket : ℕ) → HasTicket [] ticket → ⊥
no_reads ticket (place, is) = cc

-- ---- evaluations

still_mask : (locations : List SegmentLocation) (reads : List SegmentRead) (before after : SourceState) → Touches locations reads before after → (masking : Masking) → ReadsAreInFlight masking before.in_flight → ((ticket : ℕ) → HasTicket reads ticket → HasTicket (mask_reads masking) ticket → ⊥) → ReadsAreInFlight masking after.in_flight
still_mask locations reads before after touches (Known mask) is apart = tt
still_mask locations reads before after touches (Filters e) is apart = still locations reads e.locations e.reads before after touches is apart
still_mask locations reads before after touches (Prunes e) is apart = still locations reads e.locations e.reads before after touches is apart

spares : (locations : List SegmentLocation) (reads : List SegmentRead) (before after : SourceState) → Touches locations reads before after → (other : Running) → IsRunning other before.in_flight → ((ticket : ℕ) → HasTicket reads ticket → HasTicket (reads_of other) ticket → ⊥) → IsRunning other after.in_flight
spares locations reads before after touches (Column state) is apart = still locations reads state.evaluation.locations state.evaluation.reads before after touches is apart
spares locations reads before after touches (Mask state) is apart = still_mask locations reads before after touches state.masking is apart
spares locations reads before after touches Over is apart = tt

parted_mask : (locations : List SegmentLocation) (reads new : List SegmentRead) (before after : SourceState) → GoOn locations reads new before after → (masking : Masking) → ReadsAreInFlight masking before.in_flight → ((ticket : ℕ) → HasTicket reads ticket → HasTicket (mask_reads masking) ticket → ⊥) → (ticket : ℕ) → HasTicket new ticket → HasTicket (mask_reads masking) ticket → ⊥
parted_mask locations reads new before after goes (Known mask) is apart ticket mine theirs = no_reads ticket theirs
parted_mask locations reads new before after goes (Filters e) is apart ticket mine theirs = parted locations reads new e.locations e.reads before after goes is apart ticket mine theirs
parted_mask locations reads new before after goes (Prunes e) is apart ticket mine theirs = parted locations reads new e.locations e.reads before after goes is apart ticket mine theirs

parts : (locations : List SegmentLocation) (reads new : List SegmentRead) (before after : SourceState) → GoOn locations reads new before after → (other : Running) → IsRunning other before.in_flight → ((ticket : ℕ) → HasTicket reads ticket → HasTicket (reads_of other) ticket → ⊥) → (ticket : ℕ) → HasTicket new ticket → HasTicket (reads_of other) ticket → ⊥
parts locations reads new before after goes (Column state) is apart ticket mine theirs = parted locations reads new state.evaluation.locations state.evaluation.reads before after goes is apart ticket mine theirs
parts locations reads new before after goes (Mask state) is apart ticket mine theirs = parted_mask locations reads new before after goes state.masking is apart ticket mine theirs
parts locations reads new before after goes Over is apart ticket mine theirs = no_reads ticket theirs

-- it is over
ended : (locations : List SegmentLocation) (old : Running) (before after : SourceState) → Touches locations (reads_of old) before after → GoesOn old Over before after
ended locations old before after touches = record {
  runs = tt;
  spares = λ other is apart. spares locations (reads_of old) before after touches other is apart;
  apart = λ other is apart ticket mine theirs. no_reads ticket mine;
}

-- nothing was done
pub same : (source : SourceState) → GoesOn Over Over source source
same source = record {
  runs = tt;
  spares = λ other is apart. is;
  apart = λ other is apart ticket mine theirs. no_reads ticket mine;
}

located_next : (e next : Evaluation) (before after : SourceState) → IsPending e next before after → AreInFlight next.locations next.reads after.in_flight
located_next e next before after pending =
    subst (λ (locations : List SegmentLocation). AreInFlight locations next.reads after.in_flight) (sym (ap (λ (one : Evaluation). one.locations) pending.same)) pending.goes.in_flight

-- a projection has its answer
pub column_ready : (state : ColumnState) (column : ColumnData) (before after : SourceState) → ColumnPollGives (Ok (Ready column)) state.evaluation before after → GoesOn (Column state) Over before after
column_ready state column before after gives = ended state.evaluation.locations (Column state) before after gives.0.touches

-- a projection is refused
pub column_refused : (state : ColumnState) (error : ReaderError) (before after : SourceState) → ColumnPollGives (Err error) state.evaluation before after → GoesOn (Column state) Over before after
column_refused state error before after gives = ended state.evaluation.locations (Column state) before after gives.touches

-- a projection goes on
pub column_goes : (state next : ColumnState) (before after : SourceState) → IsPending state.evaluation next.evaluation before after → GoesOn (Column state) (Column next) before after
column_goes state next before after pending = record {
  runs = located_next state.evaluation next.evaluation before after pending;
  spares = λ other is apart. spares state.evaluation.locations state.evaluation.reads before after pending.goes.touches other is apart;
  apart = λ other is apart. parts state.evaluation.locations state.evaluation.reads next.evaluation.reads before after pending.goes other is apart;
}

-- what a mask that goes on leaves
record MaskGoes (old new : Masking) (before after : SourceState) : Type 0 where
  runs : ReadsAreInFlight new after.in_flight
  spares : (other : Running) → IsRunning other before.in_flight → ((ticket : ℕ) → HasTicket (mask_reads old) ticket → HasTicket (reads_of other) ticket → ⊥) → IsRunning other after.in_flight
  apart : (other : Running) → IsRunning other before.in_flight → ((ticket : ℕ) → HasTicket (mask_reads old) ticket → HasTicket (reads_of other) ticket → ⊥) → (ticket : ℕ) → HasTicket (mask_reads new) ticket → HasTicket (reads_of other) ticket → ⊥

filter_goes : (e : Evaluation) (new : Masking) (before after : SourceState) → MaskWaits (Filters e) new before after → MaskGoes (Filters e) new before after
filter_goes e (Known mask) before after waits = absurd waits
filter_goes e (Prunes next) before after waits = absurd waits
filter_goes e (Filters next) before after pending = record {
  runs = located_next e next before after pending;
  spares = λ other is apart. spares e.locations e.reads before after pending.goes.touches other is apart;
  apart = λ other is apart. parts e.locations e.reads next.reads before after pending.goes other is apart;
}

pruning_goes : (e : Evaluation) (new : Masking) (before after : SourceState) → MaskWaits (Prunes e) new before after → MaskGoes (Prunes e) new before after
pruning_goes e (Known mask) before after waits = absurd waits
pruning_goes e (Filters next) before after waits = absurd waits
pruning_goes e (Prunes next) before after pending = record {
  runs = located_next e next before after pending;
  spares = λ other is apart. spares e.locations e.reads before after pending.goes.touches other is apart;
  apart = λ other is apart. parts e.locations e.reads next.reads before after pending.goes other is apart;
}

masking_goes : (old : Masking) (next : MaskState) (before after : SourceState) → MaskPollGives (Ok (Pending next)) old before after → MaskGoes old next.masking before after
masking_goes (Known mask) next before after gives = absurd (let e = gives.0 in cc)
masking_goes (Filters e) next before after gives = filter_goes e next.masking before after gives
masking_goes (Prunes e) next before after gives = pruning_goes e next.masking before after gives.0

-- a filter goes on, or pruning
pub mask_goes : (state next : MaskState) (before after : SourceState) → MaskPollGives (Ok (Pending next)) state.masking before after → GoesOn (Mask state) (Mask next) before after
mask_goes state next before after gives =
    let goes = masking_goes state.masking next before after gives in
    record { runs = goes.runs; spares = goes.spares; apart = goes.apart }

masking_spares : (old : Masking) (kept : List Bool) (before after : SourceState) → MaskPollGives (Ok (Ready kept)) old before after → (other : Running) → IsRunning other before.in_flight → ((ticket : ℕ) → HasTicket (mask_reads old) ticket → HasTicket (reads_of other) ticket → ⊥) → IsRunning other after.in_flight
masking_spares (Known mask) kept before after gives other is apart = subst (λ (source : SourceState). IsRunning other source.in_flight) (sym gives.1) is
masking_spares (Filters e) kept before after gives other is apart = spares e.locations e.reads before after gives.0.touches other is apart
masking_spares (Prunes e) kept before after gives other is apart = spares e.locations e.reads before after gives.0.0.touches other is apart

-- a filter has its answer, or pruning
pub mask_ready : (state : MaskState) (kept : List Bool) (before after : SourceState) → MaskPollGives (Ok (Ready kept)) state.masking before after → GoesOn (Mask state) Over before after
mask_ready state kept before after gives = record {
  runs = tt;
  spares = masking_spares state.masking kept before after gives;
  apart = λ other is apart ticket mine theirs. no_reads ticket mine;
}

refused_spares : (old : Masking) (error : ReaderError) (before after : SourceState) → MaskPollGives (Err error) old before after → (other : Running) → IsRunning other before.in_flight → ((ticket : ℕ) → HasTicket (mask_reads old) ticket → HasTicket (reads_of other) ticket → ⊥) → IsRunning other after.in_flight
refused_spares (Known mask) error before after gives other is apart = absurd (let e = gives.0 in cc)
refused_spares (Filters e) error before after gives other is apart = spares e.locations e.reads before after gives.touches other is apart
refused_spares (Prunes e) error before after gives other is apart = spares e.locations e.reads before after gives.0.touches other is apart

-- a filter is refused, or pruning
pub mask_refused : (state : MaskState) (error : ReaderError) (before after : SourceState) → MaskPollGives (Err error) state.masking before after → GoesOn (Mask state) Over before after
mask_refused state error before after gives = record {
  runs = tt;
  spares = refused_spares state.masking error before after gives;
  apart = λ other is apart ticket mine theirs. no_reads ticket mine;
}

-- ---- evaluations that start

none_there : (ticket : ℕ) (at : SegmentLocation) → location_of ticket [] ≡ Some at → ⊥
none_there ticket at is = cc

none_started : (locations : List SegmentLocation) (reads : List SegmentRead) → AreInFlight locations reads [] → (ticket : ℕ) → HasTicket reads ticket → ⊥
none_started locations reads flights ticket mine =
    let found = located_one locations [] (slice_get reads mine.0) ticket mine.1 (flights.located mine.0) in
    none_there ticket found.0 found.1

none_filtered : (masking : Masking) → ReadsAreInFlight masking [] → (ticket : ℕ) → HasTicket (mask_reads masking) ticket → ⊥
none_filtered (Known mask) is ticket mine = no_reads ticket mine
none_filtered (Filters e) is ticket mine = none_started e.locations e.reads is ticket mine
none_filtered (Prunes e) is ticket mine = none_started e.locations e.reads is ticket mine

-- one that starts has no read of any other
pub starts_apart : (one two : Running) → Starts one → AreApart one two
starts_apart (Column state) two starts ticket mine theirs = none_started state.evaluation.locations state.evaluation.reads (starts []) ticket mine
starts_apart (Mask state) two starts ticket mine theirs = none_filtered state.masking (starts []) ticket mine
starts_apart Over two starts ticket mine theirs = no_reads ticket mine

-- ---- two at one source

pub start_together : (one two : Running) (flights : List (ℕ × SegmentLocation)) → Starts one → Starts two → GoTogether one two flights
start_together one two flights first second = record {
  first = first flights;
  second = second flights;
  apart = starts_apart one two first;
}

pub first_goes : (one two next : Running) (before after : SourceState) → GoTogether one two before.in_flight → GoesOn one next before after → GoTogether next two after.in_flight
first_goes one two next before after both goes = record {
  first = goes.runs;
  second = goes.spares two both.second both.apart;
  apart = goes.apart two both.second both.apart;
}

pub second_goes : (one two next : Running) (before after : SourceState) → GoTogether one two before.in_flight → GoesOn two next before after → GoTogether one next after.in_flight
second_goes one two next before after both goes =
    let apart : AreApart two one = λ ticket mine theirs. both.apart ticket theirs mine in
    record {
      first = goes.spares one both.first apart;
      second = goes.runs;
      apart = λ ticket mine theirs. goes.apart one both.first apart ticket theirs mine;
    }
