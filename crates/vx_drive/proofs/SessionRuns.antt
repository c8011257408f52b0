-- A run of a scan over a session, step by step: what is in flight, what was asked, and what happens next.
use Rattle.std.proofs.Common.{◌≡◌, ◌≢◌, ℕ, ◌+◌, ◌*◌, ◌<◌, ◌≤◌, inl, inr, List, [], ◌∷◌, ◌++◌, Option, Some, None, Ok, Err, length, map, take, drop, refl, sym, ap, ◌∙◌, subst, arith, append-nil}
use Rattle.std.specs.Prelude.{slice_get, slice_set, remove, Result}
use Rattle.std.specs.List.{All}
use Rattle.std.proofs.lemmas.List.{map-append, length-map, length-append}
use Rattle.std.proofs.lemmas.List.Edits.{length-remove}
use Rattle.std.proofs.lemmas.Option.{slice_get_within}
use Rattle.vx_layout.specs.Rows.{segment_bytes}
use Rattle.vx_plan.proofs.Each.{each_at}
use Rattle.vx_steps.specs.ReadTableData.{Wanted}
use Rattle.vx_steps.specs.ScanData.{ScanData}
use Rattle.vx_steps.proofs.SelectedRows.{length_taken}
use Rattle.vx_steps.proofs.Growing.{got_front}
use Rattle.vx_io.specs.declared.requests.Completion.{Completion}
use Rattle.vx_io.specs.declared.requests.IoRequest.{IoRequest}
use Rattle.vx_io.specs.Ranges.{RangeTable, IsTableOf}
use Rattle.vx_io.specs.Session.{SessionState, Table, empty_table}
use Rattle.vx_io.specs.Submits.{IsKnown}
use Rattle.vx_io.specs.Drive.{Wanted as WantedFetch, fetch_for}
use Rattle.vx_io.specs.Fetches.{fetch_in_flight, fetches_of, NothingWaits, AllFetch, place_of, asked_for, FetchEnded}
use Rattle.vx_drive.specs.declared.adaptor_errors.AdaptorError.{AdaptorError}
use Rattle.vx_drive.specs.declared.adaptor_errors.AdaptorError.TheVariants as errors
use Rattle.vx_drive.specs.declared.adaptors.AdaptorStep.{AdaptorStep}
use Rattle.vx_drive.specs.declared.adaptors.State.{State}
use Rattle.vx_drive.specs.declared.adaptors.State.TheVariants.{NeedsCompute, Waiting, Done}
use Rattle.vx_drive.specs.AdaptorData.{AdaptorData, AreAskedReads, IsOutstanding, IsReady, reads_of, work_of}
use Rattle.vx_drive.specs.Computes.{AsksNothing, Batches, HandsOn, HoldsNext, IsNextOutput, Yields, WhyYields, Computes, ComputeGives, ResultGives, TakesResult, after_result}
use Rattle.vx_drive.specs.Fetched.{fetches_from, location_of, segments_in, unread, delivered}
use Rattle.vx_drive.specs.Starts.{IsAtStart, IsUnread}
use Rattle.vx_drive.specs.Waits.{owner, SendGives, Completed}
use Rattle.vx_drive.proofs.Behind.{got_behind}
use Rattle.vx_drive.proofs.Gathering.{GatheredSoFar, gathered_more, gathered_none, gathered_on, gathered_same}
use Rattle.vx_drive.proofs.Running.{ScanSoFar, so_far_start, so_far_then, so_far_taken}
use Rattle.vx_drive.proofs.Sessions.{known_fetches, all_fetches, fetches_places, asked_then, asked_nothing, outstanding, outstanding_more, OutstandingAt, outstanding_at, some_outstanding, is_outstanding, bytes_told}
use Rattle.vx_drive.proofs.Computing.{length_fetches}
use Rattle.vx_drive.proofs.Resulting.{segments_set}
use Rattle.vx_base.specs.Columns.{ColumnData}
use Rattle.vx_base.specs.Sources.{SourceState}
use Rattle.vx_base.specs.declared.locations.SegmentLocation.{SegmentLocation}
use Rattle.vx_base.proofs.Got.{got_mapped}

-- ---- what a run keeps

-- the output that an adaptor holds
abbrev pub held_in : Option (ℕ × ColumnData) → List ColumnData
held_in None = []
held_in (Some output) = output.1 ∷ []

-- these outputs were handed on, and one more may be held
abbrev pub HeldSoFar : List SegmentLocation → ScanData → SourceState → List ColumnData → AdaptorData → Type 0
HeldSoFar locations start before outputs adaptor = GatheredSoFar locations start before adaptor.scan (outputs ++ held_in adaptor.held)

-- The fetches in flight are the reads whose bytes did not come, and exactly the ranges of the reads were asked for.
pub record Running (locations : List SegmentLocation) (start : ScanData) (before : SourceState) (outputs : List ColumnData) (adaptor : AdaptorData) (state : SessionState) : Type 0 where
  pub unread : IsUnread start
  pub scan : ScanSoFar locations start before adaptor.scan
  pub live : adaptor.state ≢ Done
  pub first : adaptor.first ≡ 0
  pub ready : AreAskedReads locations adaptor.first adaptor.asked adaptor.scan.progress.reads
  pub waiting : NothingWaits state.table
  pub fetches : fetches_of state.table ≡ outstanding locations 0 (reads_of adaptor)
  pub asked : state.source.asked ≡ asked_for (map (location_of locations) (segments_in (reads_of adaptor))) before.asked
  pub file : state.source.file ≡ before.file
  pub faults : state.source.faults ≡ before.faults
  pub idle : before.idle ≤ state.source.idle
  pub held : HeldSoFar locations start before outputs adaptor

-- what stands of an adaptor that is not done
pub ready_of : (locations others : List SegmentLocation) (adaptor : AdaptorData) → IsReady others adaptor.state adaptor.first adaptor.asked adaptor.scan.progress.reads → others ≡ locations → adaptor.state ≢ Done → AreAskedReads locations adaptor.first adaptor.asked adaptor.scan.progress.reads
ready_of locations others adaptor ready same live = subst (λ (ls : List SegmentLocation). AreAskedReads ls adaptor.first adaptor.asked adaptor.scan.progress.reads) same (ready live)

pub needs_is_live : (state : State) → state ≡ NeedsCompute → state ≢ Done
needs_is_live state is done = let both : NeedsCompute ≡ Done = sym is ∙ done in absurd cc

pub run_begins : (locations : List SegmentLocation) (adaptor : AdaptorData) (state : SessionState) (outputs : List ColumnData) → outputs ≡ [] → IsAtStart adaptor → IsReady locations adaptor.state adaptor.first adaptor.asked adaptor.scan.progress.reads → state.table ≡ empty_table → Running locations adaptor.scan state.source outputs adaptor state
run_begins locations adaptor state outputs no_outputs start ready empty =
    let none : reads_of adaptor ≡ [] = ap (λ (n : ℕ). take n (drop adaptor.first adaptor.scan.progress.reads.wanted)) start.asked in record {
      unread = start.scan;
      scan = so_far_start locations adaptor.scan state.source start.scan;
      live = needs_is_live adaptor.state start.state;
      first = start.first;
      ready = ready (needs_is_live adaptor.state start.state);
      waiting = λ segment. ap (λ (table : Table). table.waiting segment) empty;
      fetches = ap fetches_of empty ∙ ap (outstanding locations 0) (sym none);
      asked = sym (asked_nothing state.source.asked) ∙ ap (λ (reads : List Wanted). asked_for (map (location_of locations) (segments_in reads)) state.source.asked) (sym none);
      file = refl;
      faults = refl;
      idle = omega arith;
      held = subst (λ (all : List ColumnData). GatheredSoFar locations adaptor.scan state.source adaptor.scan all) (λ i. sym no_outputs i ++ held_in (sym start.held i)) (gathered_none locations adaptor.scan state.source start.scan);
    }

-- where nothing is held, all outputs were handed on
pub none_held : (locations : List SegmentLocation) (start : ScanData) (before : SourceState) (outputs : List ColumnData) (adaptor : AdaptorData) → adaptor.held ≡ None → HeldSoFar locations start before outputs adaptor → GatheredSoFar locations start before adaptor.scan outputs
none_held locations start before outputs adaptor none held = subst (GatheredSoFar locations start before adaptor.scan) (ap (λ (h : Option (ℕ × ColumnData)). outputs ++ held_in h) none ∙ append-nil outputs) held

-- ---- a batch

pub segments_more : (reads : List Wanted) (segments : List ℕ) → segments_in (reads ++ map unread segments) ≡ segments_in reads ++ segments
segments_more [] [] = refl
segments_more [] (segment ∷ segments) = ap (λ (ss : List ℕ). segment ∷ ss) (segments_more [] segments)
segments_more (read ∷ reads) segments = ap (λ (ss : List ℕ). read.segment ∷ ss) (segments_more reads segments)

held_batch : (locations : List SegmentLocation) (start : ScanData) (before : SourceState) (outputs : List ColumnData) (batch : List IoRequest) (adaptor next : AdaptorData) → IsUnread start → ScanSoFar locations start before adaptor.scan → Batches locations batch adaptor next →
    HeldSoFar locations start before outputs adaptor → HoldsNext adaptor next → HeldSoFar locations start before outputs next
held_batch locations start before outputs batch adaptor next fresh scan batched held (inl (none, same)) =
    subst (GatheredSoFar locations start before next.scan) (ap (λ (h : Option (ℕ × ColumnData)). outputs ++ held_in h) (batched.held ∙ sym none))
    (gathered_on locations start adaptor.scan next.scan before (outputs ++ held_in adaptor.held) batched.scan.keeps.wholes batched.scan.keeps.leaves same held)
held_batch locations start before outputs batch adaptor next fresh scan batched held (inr (number, column, full, out)) =
    subst (GatheredSoFar locations start before next.scan) (ap (λ (h : Option (ℕ × ColumnData)). outputs ++ held_in h) (sym full))
    (gathered_more locations start adaptor.scan next.scan before number column outputs fresh scan.kept batched.scan.keeps.leaves out (none_held locations start before outputs adaptor batched.held held))

pub run_batch : (locations : List SegmentLocation) (start : ScanData) (before : SourceState) (outputs : List ColumnData) (batch : List IoRequest) (adaptor next : AdaptorData) (old new : SessionState) →
    Running locations start before outputs adaptor old → Batches locations batch adaptor next → AreAskedReads locations next.first next.asked next.scan.progress.reads → SendGives batch (Ok tt) old new → Running locations start before outputs next new
run_batch locations start before outputs batch adaptor next old new run batched ready (sent, stays, faults) =
    let segments : segments_in (reads_of next) ≡ segments_in (reads_of adaptor) ++ batched.segments = ap segments_in batched.reads ∙ segments_more (reads_of adaptor) batched.segments in
    let size = length_taken (drop adaptor.first adaptor.scan.progress.reads.wanted) adaptor.asked run.ready.wanted in
    record {
      unread = run.unread;
      scan = so_far_then locations start before adaptor.scan next.scan run.scan batched.scan;
      live = needs_is_live next.state batched.state;
      first = batched.first ∙ run.first;
      ready = ready;
      waiting = sent.waiting;
      fetches = sent.fetches ∙ (λ i. run.fetches i ++ map (fetch_for owner) (batched.batch_is i))
          ∙ ap (λ (n : ℕ). outstanding locations 0 (reads_of adaptor) ++ map (fetch_for owner) (fetches_from locations n batched.segments)) (let same : adaptor.asked ≡ 0 + length (reads_of adaptor) = omega (arith, size) in same)
          ∙ sym (outstanding_more locations 0 (reads_of adaptor) batched.segments)
          ∙ ap (outstanding locations 0) (sym batched.reads);
      asked = sent.asked ∙ (λ i. asked_for (map place_of (batched.batch_is i)) (run.asked i))
          ∙ ap (λ (places : List SegmentLocation). asked_for places (asked_for (map (location_of locations) (segments_in (reads_of adaptor))) before.asked)) (fetches_places locations adaptor.asked batched.segments)
          ∙ asked_then (map (location_of locations) (segments_in (reads_of adaptor))) (map (location_of locations) batched.segments) before.asked
          ∙ ap (λ (places : List SegmentLocation). asked_for places before.asked) (sym (map-append (location_of locations) (segments_in (reads_of adaptor)) batched.segments) ∙ ap (map (location_of locations)) (sym segments));
      file = stays.file ∙ run.file;
      faults = faults ∙ run.faults;
      idle = let p = stays.idle in let q = run.idle in omega (arith, p, q);
      held = held_batch locations start before outputs batch adaptor next run.unread run.scan batched run.held batched.holds;
    }

-- ---- an output, and a wait

-- a step that asks nothing leaves the session as it was
moved_on : (locations : List SegmentLocation) (start : ScanData) (before : SourceState) (outputs others : List ColumnData) (adaptor next : AdaptorData) (state : SessionState) → Running locations start before outputs adaptor state → ScanSoFar locations start before next.scan → AsksNothing adaptor next → next.state ≢ Done →
    AreAskedReads locations next.first next.asked next.scan.progress.reads → HeldSoFar locations start before others next → Running locations start before others next state
moved_on locations start before outputs others adaptor next state run scan asks live ready held = record {
  unread = run.unread;
  scan = scan;
  live = live;
  first = asks.first ∙ run.first;
  ready = ready;
  waiting = run.waiting;
  fetches = run.fetches ∙ ap (outstanding locations 0) (sym asks.reads);
  asked = run.asked ∙ ap (λ (rs : List Wanted). asked_for (map (location_of locations) (segments_in rs)) before.asked) (sym asks.reads);
  file = run.file;
  faults = run.faults;
  idle = run.idle;
  held = held;
}

held_piece : (locations : List SegmentLocation) (start : ScanData) (before : SourceState) (outputs : List ColumnData) (column : ColumnData) (adaptor next : AdaptorData) → IsUnread start → ScanSoFar locations start before adaptor.scan → (hands : HandsOn column adaptor next) → IsNextOutput hands.number column adaptor next →
    HeldSoFar locations start before outputs adaptor → HeldSoFar locations start before (outputs ++ column ∷ []) next
held_piece locations start before outputs column adaptor next fresh scan hands which held = subst (GatheredSoFar locations start before next.scan) (sym all) (by_case which)
  where
    all : (outputs ++ column ∷ []) ++ held_in next.held ≡ outputs ++ column ∷ []
    all = ap (λ (h : Option (ℕ × ColumnData)). (outputs ++ column ∷ []) ++ held_in h) hands.held ∙ append-nil (outputs ++ column ∷ [])

    by_case : IsNextOutput hands.number column adaptor next → GatheredSoFar locations start before next.scan (outputs ++ column ∷ [])
    by_case (inl (full, same)) =
        subst (λ (scan : ScanData). GatheredSoFar locations start before scan (outputs ++ column ∷ [])) (sym same)
        (subst (GatheredSoFar locations start before adaptor.scan) (ap (λ (h : Option (ℕ × ColumnData)). outputs ++ held_in h) full) held)
    by_case (inr (empty, out)) = gathered_more locations start adaptor.scan next.scan before hands.number column outputs fresh scan.kept hands.scan.keeps.leaves out (none_held locations start before outputs adaptor empty held)

-- an output is handed on
pub run_piece : (locations : List SegmentLocation) (start : ScanData) (before : SourceState) (outputs more : List ColumnData) (column : ColumnData) (adaptor next : AdaptorData) (state : SessionState) →
    Running locations start before outputs adaptor state → HandsOn column adaptor next → AreAskedReads locations next.first next.asked next.scan.progress.reads → more ≡ outputs ++ column ∷ [] → Running locations start before more next state
run_piece locations start before outputs more column adaptor next state run hands ready pushed =
    subst (λ (all : List ColumnData). Running locations start before all next state) (sym pushed)
    (moved_on locations start before outputs (outputs ++ column ∷ []) adaptor next state run (so_far_then locations start before adaptor.scan next.scan run.scan hands.scan) hands.asks (needs_is_live next.state hands.state) ready
    (held_piece locations start before outputs column adaptor next run.unread run.scan hands hands.output run.held))

held_waits : (locations : List SegmentLocation) (start : ScanData) (before : SourceState) (outputs : List ColumnData) (adaptor next : AdaptorData) → Yields adaptor next → HeldSoFar locations start before outputs adaptor → HeldSoFar locations start before outputs next
held_waits locations start before outputs adaptor next yields held =
    subst (GatheredSoFar locations start before next.scan) (ap (λ (h : Option (ℕ × ColumnData)). outputs ++ held_in h) (yields.held ∙ sym yields.none))
    (gathered_on locations start adaptor.scan next.scan before (outputs ++ held_in adaptor.held) yields.scan.keeps.wholes yields.scan.keeps.leaves yields.left held)

pub run_waits : (locations : List SegmentLocation) (start : ScanData) (before : SourceState) (outputs : List ColumnData) (adaptor next : AdaptorData) (state : SessionState) →
    Running locations start before outputs adaptor state → Yields adaptor next → next.state ≢ Done → AreAskedReads locations next.first next.asked next.scan.progress.reads → Running locations start before outputs next state
run_waits locations start before outputs adaptor next state run yields live ready =
    moved_on locations start before outputs outputs adaptor next state run (so_far_then locations start before adaptor.scan next.scan run.scan yields.scan) yields.asks live ready (held_waits locations start before outputs adaptor next yields run.held)

pub some_in_flight : (locations : List SegmentLocation) (start : ScanData) (before : SourceState) (outputs : List ColumnData) (adaptor next : AdaptorData) (state : SessionState) →
    Running locations start before outputs next state → Yields adaptor next → next.state ≢ Done → 0 < length state.table.fetches
some_in_flight locations start before outputs adaptor next state run yields live = by_cause yields.why
  where
    by_cause : WhyYields adaptor next → 0 < length state.table.fetches
    by_cause (inl (waits, inr (number, earlier, out))) = let first = run.first in absurd (omega (arith, earlier, first))
    by_cause (inl (waits, inl some)) =
        let out = some_outstanding locations next some in
        let size = ap length run.fetches in
        let mapped = length-map state.table.fetches fetch_in_flight in
        omega (arith, out, size, mapped)
    by_cause (inr (done, why)) = absurd (live done)

-- ---- a result

-- the read of a completion's number
completed_read : (locations : List SegmentLocation) (completion : Completion) (reads : List Wanted) (old new : SessionState) → fetches_of old.table ≡ outstanding locations 0 reads → (ended : FetchEnded completion old new) →
    OutstandingAt locations 0 reads ended.place (record { owner = completion.owner; request = completion.request; at = ended.at })
completed_read locations completion reads old new fetches ended =
    outstanding_at locations 0 reads ended.place (record { owner = completion.owner; request = completion.request; at = ended.at }) (ap (λ (ws : List WantedFetch). slice_get ws ended.place) (sym fetches) ∙ ended.here)

-- the fetch of a completion was outstanding
pub was_outstanding : (locations : List SegmentLocation) (completion : Completion) (adaptor : AdaptorData) (old new : SessionState) → AreAskedReads locations adaptor.first adaptor.asked adaptor.scan.progress.reads → fetches_of old.table ≡ outstanding locations 0 (reads_of adaptor) → FetchEnded completion old new →
    IsOutstanding adaptor completion.request.0
was_outstanding locations completion adaptor old new ready fetches ended =
    let at = completed_read locations completion (reads_of adaptor) old new fetches ended in
    let number : completion.request.0 ≡ at.read = let is = at.number_is in omega (arith, is) in
    is_outstanding adaptor completion.request.0 at.segment ready.all (ap (slice_get (reads_of adaptor)) number ∙ at.here)

-- and the bytes of such a one are never refused
pub not_refused : (number : ℕ) (bytes : List ℕ) (adaptor next : AdaptorData) (error : AdaptorError) → IsOutstanding adaptor number → ResultGives (Err error) number bytes adaptor next → ⊥
not_refused number bytes adaptor next (errors.NoLocation segment) waits gives = gives
not_refused number bytes adaptor next (errors.Step error) waits gives = gives
not_refused number bytes adaptor next errors.Memory waits gives = gives
not_refused number bytes adaptor next errors.NotOutstanding waits gives = gives.0 waits

live_after : (state : State) → state ≢ Done → after_result state ≢ Done
live_after NeedsCompute live done = live done
live_after Waiting live done = let both : NeedsCompute ≡ Done = done in absurd cc
live_after Done live done = live done

held_result : (locations : List SegmentLocation) (start : ScanData) (before : SourceState) (outputs : List ColumnData) (number : ℕ) (bytes : List ℕ) (adaptor next : AdaptorData) → TakesResult number bytes adaptor next → HeldSoFar locations start before outputs adaptor → HeldSoFar locations start before outputs next
held_result locations start before outputs number bytes adaptor next takes held =
    subst (GatheredSoFar locations start before next.scan) (ap (λ (h : Option (ℕ × ColumnData)). outputs ++ held_in h) (sym takes.held))
    (gathered_same locations start adaptor.scan next.scan before (outputs ++ held_in adaptor.held) takes.takes.wholes takes.takes.leaves takes.takes.left held)

abbrev segment_or_none : Option Wanted → ℕ
segment_or_none None = 0
segment_or_none (Some read) = read.segment

pub run_result : (locations : List SegmentLocation) (start : ScanData) (before : SourceState) (outputs : List ColumnData) (completion : Completion) (adaptor next : AdaptorData) (old new : SessionState) →
    Running locations start before outputs adaptor old → Completed completion old new → TakesResult completion.request.0 completion.bytes.items adaptor next → (next.state ≢ Done → AreAskedReads locations next.first next.asked next.scan.progress.reads) → Running locations start before outputs next new
run_result locations start before outputs completion adaptor next old new run done takes ready =
    let ended = done.ended in
    let at = completed_read locations completion (reads_of adaptor) old new run.fetches ended in
    let bytes : List ℕ = completion.bytes.items in
    let number : completion.request.0 ≡ at.read = let is = at.number_is in omega (arith, is) in
    let one : Some (unread takes.takes.delivers.segment) ≡ Some (unread at.segment) =
    sym (got_taken (drop adaptor.first adaptor.scan.progress.reads.wanted) adaptor.asked completion.request.0 (unread takes.takes.delivers.segment) takes.outstanding.0 (got_behind adaptor.scan.progress.reads.wanted adaptor.first completion.request.0 ∙ takes.takes.delivers.at)) ∙ ap (slice_get (reads_of adaptor)) number ∙ at.here in
    let segment : takes.takes.delivers.segment ≡ at.segment = ap segment_or_none one in
    let reads : reads_of next ≡ slice_set (reads_of adaptor) at.read (delivered at.segment bytes) = takes.reads ∙ (λ i. slice_set (reads_of adaptor) (number i) (delivered (segment i) bytes)) in
    let kept : segments_in (reads_of next) ≡ segments_in (reads_of adaptor) = ap segments_in reads ∙ segments_set (reads_of adaptor) at.read at.segment bytes at.here in
    let within : at.segment < length locations = each_at (λ one. one < length locations) (segments_in (reads_of adaptor)) at.read at.segment (got_mapped (λ (read : Wanted). read.segment) (reads_of adaptor) at.read (unread at.segment) at.here) run.ready.located in
    let live : next.state ≢ Done = λ is. live_after adaptor.state run.live (sym takes.state ∙ is) in
    record {
      unread = run.unread;
      scan = so_far_taken locations start before (record { 0 = adaptor.first + completion.request.0 }) bytes adaptor.scan next.scan run.scan takes.takes
          (λ file is. ap (segment_bytes file locations) segment ∙ bytes_told file locations at.segment old.source.file ended.at bytes within at.at (run.file ∙ is) ended.segment);
      live = live;
      first = takes.first ∙ run.first;
      ready = ready live;
      waiting = ended.waiting run.waiting;
      fetches = ended.gone ∙ ap (λ (ws : List WantedFetch). remove ws ended.place) run.fetches ∙ at.gone bytes ∙ ap (outstanding locations 0) (sym reads);
      asked = done.keeps.asked ∙ run.asked ∙ ap (λ (segments : List ℕ). asked_for (map (location_of locations) segments) before.asked) (sym kept);
      file = done.keeps.file ∙ run.file;
      faults = done.faults ∙ run.faults;
      idle = let p = done.idle in let q = run.idle in omega (arith, p, q);
      held = held_result locations start before outputs completion.request.0 bytes adaptor next takes run.held;
    }
  where
    got_taken : (wanted : List Wanted) (n i : ℕ) (read : Wanted) → i < n → slice_get wanted i ≡ Some read → slice_get (take n wanted) i ≡ Some read
    got_taken wanted n i read less at = got_front wanted n i less ∙ at

-- ---- the work that is left

-- each read is handed out and then ends
abbrev pub work : List SegmentLocation → AdaptorData → ℕ
work locations adaptor = 2 * work_of adaptor + length (outstanding locations 0 (reads_of adaptor))

pub less_batch : (locations : List SegmentLocation) (batch : List IoRequest) (adaptor next : AdaptorData) → Batches locations batch adaptor next → work locations next < work locations adaptor
less_batch locations batch adaptor next batched =
    let more = ap (λ (rs : List Wanted). length (outstanding locations 0 rs)) batched.reads ∙ ap length (outstanding_more locations 0 (reads_of adaptor) batched.segments) in
    let sum = length-append (outstanding locations 0 (reads_of adaptor)) (map (fetch_for owner) (fetches_from locations (0 + length (reads_of adaptor)) batched.segments)) in
    let mapped = length-map (fetches_from locations (0 + length (reads_of adaptor)) batched.segments) (fetch_for owner) in
    let fetched = length_fetches locations (0 + length (reads_of adaptor)) batched.segments in
    let fewer = batched.fewer in
    let some = batched.some in
    omega (arith, more, sum, mapped, fetched, fewer, some)

pub less_piece : (locations : List SegmentLocation) (column : ColumnData) (adaptor next : AdaptorData) → HandsOn column adaptor next → work locations next < work locations adaptor
less_piece locations column adaptor next hands =
    let same = ap (λ (rs : List Wanted). length (outstanding locations 0 rs)) hands.asks.reads in
    let fewer = hands.fewer in
    omega (arith, same, fewer)

pub less_result : (locations : List SegmentLocation) (completion : Completion) (adaptor waiting next : AdaptorData) (old new : SessionState) → fetches_of old.table ≡ outstanding locations 0 (reads_of waiting) → Yields adaptor waiting → FetchEnded completion old new →
    TakesResult completion.request.0 completion.bytes.items waiting next → fetches_of new.table ≡ outstanding locations 0 (reads_of next) → work locations next < work locations adaptor
less_result locations completion adaptor waiting next old new fetches yields ended takes fetches_after =
    let within = slice_get_within (fetches_of old.table) ended.place (record { owner = completion.owner; request = completion.request; at = ended.at }) ended.here in
    let gone = length-remove (fetches_of old.table) ended.place within in
    let left_after = ap length (sym fetches_after ∙ ended.gone) in
    let left_before = ap length fetches in
    let same = ap (λ (rs : List Wanted). length (outstanding locations 0 rs)) yields.asks.reads in
    let one = yields.work in
    let two = takes.work in
    omega (arith, gone, left_after, left_before, same, one, two)

-- ---- what a turn of the run cites

pub computes_live : (locations : List SegmentLocation) (result : Result AdaptorStep AdaptorError) (old new : AdaptorData) → old.state ≢ Done → ComputeGives locations result old new → Computes locations result old new
computes_live locations result old new live (inl (done, is, same)) = absurd (live done)
computes_live locations result old new live (inr (alive, gives)) = gives

pub batch_known : (ranges other : RangeTable) (locations : List SegmentLocation) (batch : List IoRequest) (adaptor next : AdaptorData) → Batches locations batch adaptor next → IsTableOf other locations → ranges ≡ other → All (IsKnown ranges) batch
batch_known ranges other locations batch adaptor next batched tells same =
    rw batched.batch_is (known_fetches ranges locations adaptor.asked batched.segments (subst (λ (r : RangeTable). IsTableOf r locations) (sym same) tells) batched.located)

pub batch_fetches : (locations : List SegmentLocation) (batch : List IoRequest) (adaptor next : AdaptorData) → Batches locations batch adaptor next → AllFetch batch
batch_fetches locations batch adaptor next batched = rw batched.batch_is (all_fetches locations adaptor.asked batched.segments)
