-- How a run of a scan over a session ends.
use Rattle.std.proofs.Common.{◌≡◌, ℕ, zero, suc, ◌<◌, ◌≤◌, ◌⊎◌, inl, inr, ⊎_elim, false, true, List, [], ◌∷◌, ◌++◌, Some, None, Ok, Err, length, map, take, drop, refl, sym, ap, ◌∙◌, subst, arith, append_assoc}
use Rattle.std.specs.Prelude.{slice_get, slice_index_or, IfSome}
use Rattle.std.specs.List.{All}
use Rattle.std.proofs.lemmas.List.{map-append, length-append}
use Rattle.std.proofs.lemmas.List.Elements.{All-append, All-tail, All-take}
use Rattle.vx_rows.specs.SegmentLeaves.{Bytes, leaves_of}
use Rattle.vx_layout.specs.Rows.{segment_bytes}
use Rattle.vx_plan.specs.declared.children.PlanRef.{PlanRef}
use Rattle.vx_plan.specs.Nodes.{Node}
use Rattle.vx_plan.specs.Plans.{plan_at}
use Rattle.vx_plan.specs.Refs.{number_of}
use Rattle.vx_steps.specs.declared.errors.StepError.{StepError}
use Rattle.vx_steps.specs.declared.errors.StepError.TheVariants as step_errors
use Rattle.vx_steps.specs.declared.jobs.Job.{Job}
use Rattle.vx_steps.specs.declared.splits.Split.{Split}
use Rattle.vx_steps.specs.declared.wholes.Wholes.{Wholes}
use Rattle.vx_steps.specs.Agreement.{Agrees}
use Rattle.vx_steps.specs.Given.{handed_by}
use Rattle.vx_steps.specs.ScanData.{ScanData, IsScanOf}
use Rattle.vx_steps.specs.Steps.{HasCauseIn, RefusesSplit}
use Rattle.vx_steps.specs.Turns.{FailsInWholes}
use Rattle.vx_steps.specs.Wholes.{AreThere, HasInsideCause}
use Rattle.vx_steps.proofs.Premises.{unless_held}
use Rattle.vx_steps.proofs.SplitVisits.{split_cause}
use Rattle.vx_steps.proofs.SplitTakes.{only_one}
use Rattle.vx_io.specs.declared.requests.IoRequest.{IoRequest}
use Rattle.vx_io.specs.Fetches.{FetchedSome, asked_for, place_of}
use Rattle.vx_io.specs.Session.{SessionState}
use Rattle.vx_drive.specs.declared.adaptor_errors.AdaptorError.{AdaptorError}
use Rattle.vx_drive.specs.declared.adaptor_errors.AdaptorError.TheVariants as errors
use Rattle.vx_drive.specs.declared.adaptors.State.TheVariants.{Waiting, Done}
use Rattle.vx_drive.specs.declared.errors.ScanError.{ScanError}
use Rattle.vx_drive.specs.declared.errors.ScanError.TheVariants as scan_errors
use Rattle.vx_drive.specs.AdaptorData.{AdaptorData, reads_of}
use Rattle.vx_drive.specs.Asks.{AsksOnly, KeepsFaults, Lasts, TellsFaults}
use Rattle.vx_drive.specs.Computes.{Batches, HandsOn, StopCause, Stops, WhyYields, Yields}
use Rattle.vx_drive.specs.Continues.{splits_left}
use Rattle.vx_drive.specs.Fetched.{AreDistinctNumbers, location_of, segments_in}
use Rattle.vx_drive.specs.Gathered.{GatherGives, Gathers}
use Rattle.vx_drive.specs.Runs.{EndsRun, IsListCause, IsReadByStart, IsStepCause, LeavesFault, RunCause, WhereScanned, row_fault, scan_error}
use Rattle.vx_drive.specs.Starts.{IsUnread, split_of}
use Rattle.vx_drive.specs.Waits.{SendGives, WaitFails}
use Rattle.vx_drive.proofs.Behind.{asked_behind}
use Rattle.vx_drive.proofs.Gathering.{all_gathered, gathers_on}
use Rattle.vx_drive.proofs.Running.{KeptSoFar, ScanSoFar, all_taken, kept_then, so_far_then}
use Rattle.vx_drive.proofs.SessionRuns.{Running, none_held, segments_more}
use Rattle.vx_drive.proofs.Sessions.{asked_then, fetches_places, fetches_taken}
use Rattle.vx_base.specs.Columns.{ColumnData}
use Rattle.vx_base.specs.Sources.{SourceState, Rose}
use Rattle.vx_base.specs.declared.locations.SegmentLocation.{SegmentLocation}

-- ---- what was asked

wanted_so_far : (locations : List SegmentLocation) (start : ScanData) (before : SourceState) (adaptor : AdaptorData) → ScanSoFar locations start before adaptor.scan → All (IsReadByStart start) (segments_in (reads_of adaptor))
wanted_so_far locations start before adaptor scan =
    all_taken (IsReadByStart start) adaptor.asked (drop adaptor.first adaptor.scan.progress.reads.wanted) (λ segment asked. scan.wanted segment (asked_behind adaptor.scan.progress.reads.wanted adaptor.first segment asked))

asks_so_far : (locations : List SegmentLocation) (start : ScanData) (before : SourceState) (outputs : List ColumnData) (adaptor : AdaptorData) (state : SessionState) (after : SourceState) → Running locations start before outputs adaptor state → after.asked ≡ state.source.asked → AsksOnly (IsReadByStart start) locations before after
asks_so_far locations start before outputs adaptor state after run same = record {
  segments = segments_in (reads_of adaptor);
  asks = record { apart = run.ready.apart; located = run.ready.located; asked = same ∙ run.asked };
  wanted = wanted_so_far locations start before adaptor run.scan;
}

-- ---- what the scan keeps

-- the error of a run is that of its answer
told_of : (X : Type 0) (error : ScanError) (before after : SourceState) → KeepsFaults before after ⊎ (error ≡ scan_errors.ReadFault) → TellsFaults {X = X} (Err error) before after
told_of X error before after (inl same) = inl same
told_of X error before after (inr is) = inr (ap Err is)

-- the answer, with what was asked and what lasts
gives_with : {X : Type 0} (Gives : X → Type 0) (locations : List SegmentLocation) (limit : ℕ) (start scan : ScanData) (before after : SourceState) (error : ScanError) → KeptSoFar locations start before scan → RunCause locations limit start error before after → IfSome (row_fault error) (LeavesFault locations start scan before)
    → AsksOnly (IsReadByStart start) locations before after → Lasts before after → KeepsFaults before after ⊎ (error ≡ scan_errors.ReadFault) → EndsRun Gives locations limit start (Err error) scan before after
gives_with {X} Gives locations limit start scan before after error kept cause left asks lasts faults = record {
  answer = cause;
  left = left;
  asks = asks;
  faults = told_of X error before after faults;
  nodes = kept.nodes;
  job = kept.job;
  told = kept.told;
  leaves = kept.leaves;
  wholes = kept.wholes;
  lasts = lasts;
}

lasts_after : (before now after : SourceState) → now.file ≡ before.file → now.faults ≡ before.faults → before.idle ≤ now.idle → after.file ≡ now.file → now.faults ≤ after.faults → now.idle ≤ after.idle → Lasts before after
lasts_after before now after file faults idle same more later = record { file = same ∙ file; faults = omega (arith, faults, more); idle = omega (arith, idle, later) }

rose_after : (before now after : SourceState) → now.faults ≡ before.faults → Rose now.faults after.faults → Rose before.faults after.faults
rose_after before now after same rose = subst (λ (n : ℕ). Rose n after.faults) same rose

-- ---- a run that is done

-- no split is left, and all outputs were handed on
pub run_returns : (locations : List SegmentLocation) (limit : ℕ) (start : ScanData) (before : SourceState) (outputs : List ColumnData) (adaptor next : AdaptorData) (state : SessionState) →
    Running locations start before outputs adaptor state → Yields adaptor next → next.state ≡ Done → GatherGives locations limit start (Ok tt) outputs next.scan before state.source
run_returns locations limit start before outputs adaptor next state run yields done =
    let kept = kept_then locations start before adaptor.scan next.scan run.scan.kept yields.scan.keeps in
    record {
      answer = gathers_on locations start adaptor.scan next.scan before (split_of start) outputs yields.scan.keeps.wholes yields.scan.keeps.leaves
          (all_gathered locations start adaptor.scan before outputs (none_left yields.why) (none_held locations start before outputs adaptor yields.held run.held));
      left = tt;
      asks = asks_so_far locations start before outputs adaptor state state.source run refl;
      faults = inl run.faults;
      nodes = kept.nodes;
      job = kept.job;
      told = kept.told;
      leaves = kept.leaves;
      wholes = kept.wholes;
      lasts = record { file = run.file; faults = let p = run.faults in omega (arith, p); idle = run.idle };
    }
  where
    none_left : WhyYields adaptor next → splits_left adaptor.scan ≡ []
    none_left (inl (waits, some)) = let both : Waiting ≡ Done = sym waits ∙ done in absurd cc
    none_left (inr (is, inl left)) = left
    none_left (inr (is, inr refused)) = let both : true ≡ false = sym refused ∙ run.scan.refused in absurd cc

-- there was no memory for an output
pub run_full : (locations : List SegmentLocation) (limit : ℕ) (start : ScanData) (before : SourceState) (outputs others : List ColumnData) (column : ColumnData) (adaptor next : AdaptorData) (state : SessionState) →
    Running locations start before outputs adaptor state → HandsOn column adaptor next → GatherGives locations limit start (Err scan_errors.Memory) others next.scan before state.source
run_full locations limit start before outputs others column adaptor next state run hands =
    gives_with (λ done. Gathers locations start next.scan before (split_of start) others) locations limit start next.scan before state.source scan_errors.Memory (kept_then locations start before adaptor.scan next.scan run.scan.kept hands.scan.keeps) tt tt
    (asks_so_far locations start before outputs adaptor state state.source run refl)
    (record { file = run.file; faults = let p = run.faults in omega (arith, p); idle = run.idle }) (inl run.faults)

-- ---- refusals of the source

pub run_stalls : (locations : List SegmentLocation) (limit : ℕ) (start : ScanData) (before : SourceState) (outputs : List ColumnData) (adaptor : AdaptorData) (state : SessionState) (after : SourceState) (error : ScanError) →
    Running locations start before outputs adaptor state → WaitFails limit error state.source after → GatherGives locations limit start (Err error) outputs adaptor.scan before after
run_stalls locations limit start before outputs adaptor state after scan_errors.ReadFault run (keeps, rose, idle) =
    gives_with (λ done. Gathers locations start adaptor.scan before (split_of start) outputs) locations limit start adaptor.scan before after scan_errors.ReadFault run.scan.kept (rose_after before state.source after run.faults rose) tt (asks_so_far locations start before outputs adaptor state after run keeps.asked)
    (lasts_after before state.source after run.file run.faults run.idle keeps.file rose.kept idle) (inr refl)
run_stalls locations limit start before outputs adaptor state after scan_errors.Stalled run (keeps, faults, waited) =
    gives_with (λ done. Gathers locations start adaptor.scan before (split_of start) outputs) locations limit start adaptor.scan before after scan_errors.Stalled run.scan.kept
    (record { kept = let p = waited.kept in let q = run.idle in omega (arith, p, q); raised = let p = waited.raised in let q = run.idle in omega (arith, p, q) }) tt
    (asks_so_far locations start before outputs adaptor state after run keeps.asked)
    (lasts_after before state.source after run.file run.faults run.idle keeps.file (omega (arith, faults)) waited.kept) (inl (faults ∙ run.faults))
run_stalls locations limit start before outputs adaptor state after scan_errors.Memory run (keeps, faults, idle) =
    gives_with (λ done. Gathers locations start adaptor.scan before (split_of start) outputs) locations limit start adaptor.scan before after scan_errors.Memory run.scan.kept tt tt (asks_so_far locations start before outputs adaptor state after run keeps.asked)
    (lasts_after before state.source after run.file run.faults run.idle keeps.file (omega (arith, faults)) idle) (inl (faults ∙ run.faults))
run_stalls locations limit start before outputs adaptor state after scan_errors.BadProjection run gives = absurd gives
run_stalls locations limit start before outputs adaptor state after scan_errors.OffsetOverflow run gives = absurd gives
run_stalls locations limit start before outputs adaptor state after scan_errors.OutOfRange run gives = absurd gives
run_stalls locations limit start before outputs adaptor state after (scan_errors.Unsupported list) run gives = absurd gives
run_stalls locations limit start before outputs adaptor state after (scan_errors.NoLocation segment) run gives = absurd gives
run_stalls locations limit start before outputs adaptor state after (scan_errors.BadSegment segment) run gives = absurd gives
run_stalls locations limit start before outputs adaptor state after (scan_errors.BadCode take row) run gives = absurd gives
run_stalls locations limit start before outputs adaptor state after (scan_errors.EvalFault row) run gives = absurd gives

get_front : (ones twos : List ℕ) (i d : ℕ) → i < length ones → slice_index_or (ones ++ twos) i d ≡ slice_index_or ones i d
get_front [] twos i d within = absurd (omega (arith, within))
get_front (one ∷ ones) twos zero d within = refl
get_front (one ∷ ones) twos (suc i) d within = get_front ones twos i d (omega (arith, within))

apart_front : (ones twos : List ℕ) → AreDistinctNumbers (ones ++ twos) → AreDistinctNumbers ones
apart_front ones twos apart i j d lt within same =
    let size = length-append ones twos in
    apart i j d lt (omega (arith, within, size)) (get_front ones twos i d (omega (arith, lt, within)) ∙ same ∙ sym (get_front ones twos j d within))

taken_dropped : (n : ℕ) (segments : List ℕ) → take n segments ++ drop n segments ≡ segments
taken_dropped zero segments = refl
taken_dropped (suc n) [] = refl
taken_dropped (suc n) (segment ∷ segments) = ap (λ (ss : List ℕ). segment ∷ ss) (taken_dropped n segments)

-- segments behind others are wanted where all are
wanted_behind : (P : ℕ → Type 0) (ones twos : List ℕ) → All P (ones ++ twos) → All P twos
wanted_behind P [] twos all = all
wanted_behind P (one ∷ ones) twos all = wanted_behind P ones twos (All-tail P one (ones ++ twos) all)

-- what was asked where a batch was refused
asks_some : (locations : List SegmentLocation) (start : ScanData) (before : SourceState) (outputs : List ColumnData) (batch : List IoRequest) (adaptor next : AdaptorData) (state new : SessionState) →
    Running locations start before outputs adaptor state → Batches locations batch adaptor next → FetchedSome batch state new → AsksOnly (IsReadByStart start) locations before new.source
asks_some locations start before outputs batch adaptor next state new run batched some =
    let ones : List ℕ = segments_in (reads_of adaptor) in
    let twos : List ℕ = take some.count batched.segments in
    let more : segments_in (reads_of next) ≡ ones ++ batched.segments = ap segments_in batched.reads ∙ segments_more (reads_of adaptor) batched.segments in
    let whole : segments_in (reads_of next) ≡ (ones ++ twos) ++ drop some.count batched.segments =
    more ∙ ap (λ (ss : List ℕ). ones ++ ss) (sym (taken_dropped some.count batched.segments)) ∙ sym (append_assoc ones twos (drop some.count batched.segments)) in
    let scan = so_far_then locations start before adaptor.scan next.scan run.scan batched.scan in
    record {
      segments = ones ++ twos;
      asks = record {
        apart = apart_front (ones ++ twos) (drop some.count batched.segments) (subst AreDistinctNumbers whole batched.apart);
        located = All-append (λ segment. segment < length locations) ones twos run.ready.located (All-take (λ segment. segment < length locations) some.count batched.segments batched.located);
        asked = some.asked ∙ (λ i. asked_for (map place_of (take some.count (batched.batch_is i))) (run.asked i))
            ∙ ap (λ (places : List SegmentLocation). asked_for places (asked_for (map (location_of locations) ones) before.asked))
            (ap (map place_of) (fetches_taken locations adaptor.asked some.count batched.segments) ∙ fetches_places locations adaptor.asked twos)
            ∙ asked_then (map (location_of locations) ones) (map (location_of locations) twos) before.asked
            ∙ ap (λ (places : List SegmentLocation). asked_for places before.asked) (sym (map-append (location_of locations) ones twos));
      };
      wanted = All-append (IsReadByStart start) ones twos (wanted_so_far locations start before adaptor run.scan)
          (All-take (IsReadByStart start) some.count batched.segments
          (wanted_behind (IsReadByStart start) ones batched.segments (subst (All (IsReadByStart start)) more (wanted_so_far locations start before next scan))));
    }

pub run_unsent : (locations : List SegmentLocation) (limit : ℕ) (start : ScanData) (before : SourceState) (outputs : List ColumnData) (batch : List IoRequest) (adaptor next : AdaptorData) (state new : SessionState) (error : ScanError) →
    Running locations start before outputs adaptor state → Batches locations batch adaptor next → SendGives batch (Err error) state new → GatherGives locations limit start (Err error) outputs next.scan before new.source
run_unsent locations limit start before outputs batch adaptor next state new scan_errors.ReadFault run batched (some, stays, rose) =
    gives_with (λ done. Gathers locations start next.scan before (split_of start) outputs) locations limit start next.scan before new.source scan_errors.ReadFault (kept_then locations start before adaptor.scan next.scan run.scan.kept batched.scan.keeps) (rose_after before state.source new.source run.faults rose) tt
    (asks_some locations start before outputs batch adaptor next state new run batched some)
    (lasts_after before state.source new.source run.file run.faults run.idle stays.file rose.kept (let p = stays.idle in omega (arith, p))) (inr refl)
run_unsent locations limit start before outputs batch adaptor next state new scan_errors.Memory run batched (some, stays, faults) =
    gives_with (λ done. Gathers locations start next.scan before (split_of start) outputs) locations limit start next.scan before new.source scan_errors.Memory (kept_then locations start before adaptor.scan next.scan run.scan.kept batched.scan.keeps) tt tt
    (asks_some locations start before outputs batch adaptor next state new run batched some)
    (lasts_after before state.source new.source run.file run.faults run.idle stays.file (omega (arith, faults)) (let p = stays.idle in omega (arith, p))) (inl (faults ∙ run.faults))
run_unsent locations limit start before outputs batch adaptor next state new scan_errors.Stalled run batched gives = absurd gives
run_unsent locations limit start before outputs batch adaptor next state new scan_errors.BadProjection run batched gives = absurd gives
run_unsent locations limit start before outputs batch adaptor next state new scan_errors.OffsetOverflow run batched gives = absurd gives
run_unsent locations limit start before outputs batch adaptor next state new scan_errors.OutOfRange run batched gives = absurd gives
run_unsent locations limit start before outputs batch adaptor next state new (scan_errors.Unsupported list) run batched gives = absurd gives
run_unsent locations limit start before outputs batch adaptor next state new (scan_errors.NoLocation segment) run batched gives = absurd gives
run_unsent locations limit start before outputs batch adaptor next state new (scan_errors.BadSegment segment) run batched gives = absurd gives
run_unsent locations limit start before outputs batch adaptor next state new (scan_errors.BadCode take row) run batched gives = absurd gives
run_unsent locations limit start before outputs batch adaptor next state new (scan_errors.EvalFault row) run batched gives = absurd gives

-- ---- refusals of the scan

-- the split that is refused is that with which the run begins
refused_split : (locations : List SegmentLocation) (start old new : ScanData) (before : SourceState) (error : StepError) → IsUnread start → KeptSoFar locations start before old → (refuses : RefusesSplit old.nodes old.job old.progress new.progress error) → refuses.split ≡ split_of start
refused_split locations start old new before error unread kept refuses =
    let at : slice_get start.job.splits.items refuses.number ≡ Some refuses.split = ap (λ (j : Job). slice_get j.splits.items refuses.number) (sym kept.job) ∙ refuses.at in
    only_one start.job.splits.items (split_of start) refuses.split refuses.number unread.splits at

-- the cause of a refused step as one of that split
cause_at : (start old new : ScanData) (locations : List SegmentLocation) (before : SourceState) (error : StepError) → IsUnread start → KeptSoFar locations start before old → (refuses : RefusesSplit old.nodes old.job old.progress new.progress error) → (bytes : Bytes) →
    HasCauseIn old.nodes old.job new.progress.reads.wanted refuses.split bytes error → HasCauseIn start.nodes start.job new.progress.reads.wanted (split_of start) bytes error
cause_at start old new locations before error unread kept refuses bytes cause =
    subst (λ (s : Split). HasCauseIn start.nodes start.job new.progress.reads.wanted s bytes error) (refused_split locations start old new before error unread kept refuses)
    (subst (λ (j : Job). HasCauseIn start.nodes j new.progress.reads.wanted refuses.split bytes error) kept.job
    (subst (λ (ns : List Node). HasCauseIn ns old.job new.progress.reads.wanted refuses.split bytes error) kept.nodes cause))

-- a refused step has its cause in the split
has_cause : (locations : List SegmentLocation) (start old new : ScanData) (before : SourceState) (error : StepError) → IsUnread start → KeptSoFar locations start before old → (refuses : RefusesSplit old.nodes old.job old.progress new.progress error) →
    WhereScanned locations start before (λ bytes. HasCauseIn start.nodes start.job new.progress.reads.wanted (split_of start) bytes error)
has_cause locations start old new before error unread kept refuses file is held =
    let bytes : Bytes = segment_bytes file locations in
    cause_at start old new locations before error unread kept refuses bytes (refuses.cause bytes (unless_held error (IsScanOf old bytes) (kept.told file is held)))

-- where it reads a list, whatever the bytes
no_bytes : Bytes
no_bytes segment = None

is_list_cause : (locations : List SegmentLocation) (start old new : ScanData) (before : SourceState) (list : PlanRef) → IsUnread start → KeptSoFar locations start before old → RefusesSplit old.nodes old.job old.progress new.progress (step_errors.Unsupported list) → IsListCause start (number_of list)
is_list_cause locations start old new before list unread kept refuses =
    split_cause start.nodes unread.good start.job unread.known unread.typed new.progress.reads.wanted (split_of start) no_bytes (step_errors.Unsupported list) tt
    (cause_at start old new locations before (step_errors.Unsupported list) unread kept refuses no_bytes (refuses.cause no_bytes tt))

is_step_cause : (locations : List SegmentLocation) (start old new : ScanData) (before : SourceState) (error : StepError) → IsUnread start → KeptSoFar locations start before old → KeptSoFar locations start before new → RefusesSplit old.nodes old.job old.progress new.progress error →
    IsStepCause locations start before error
is_step_cause locations start old new before error unread kept later refuses file is held =
    split_cause start.nodes unread.good start.job unread.known unread.typed new.progress.reads.wanted (split_of start) (segment_bytes file locations) error
    (unless_held error (Agrees new.progress.reads.wanted (segment_bytes file locations)) (later.told file is held).bytes) (has_cause locations start old new before error unread kept refuses file is held)

stop_cause : (locations : List SegmentLocation) (limit : ℕ) (start old new : ScanData) (before now : SourceState) (error : AdaptorError) → IsUnread start → ScanSoFar locations start before old → KeptSoFar locations start before new → StopCause locations error old new → RunCause locations limit start (scan_error error) before now
stop_cause locations limit start old new before now (errors.NoLocation segment) unread scan kept lacks =
    ((so_far_then locations start before old new scan lacks.scan).wanted segment (lacks.place, lacks.read), lacks.lacks)
stop_cause locations limit start old new before now (errors.Step (step_errors.Unsupported list)) unread scan kept refuses = is_list_cause locations start old new before list unread scan.kept refuses.cause
stop_cause locations limit start old new before now (errors.Step (step_errors.BadSegment segment)) unread scan kept refuses = is_step_cause locations start old new before (step_errors.BadSegment segment) unread scan.kept kept refuses.cause
stop_cause locations limit start old new before now (errors.Step (step_errors.BadCode take row)) unread scan kept refuses = is_step_cause locations start old new before (step_errors.BadCode take row) unread scan.kept kept refuses.cause
stop_cause locations limit start old new before now (errors.Step (step_errors.EvalFault row)) unread scan kept refuses = has_cause locations start old new before (step_errors.EvalFault row) unread scan.kept refuses.cause
stop_cause locations limit start old new before now (errors.Step step_errors.Memory) unread scan kept refuses = tt
stop_cause locations limit start old new before now errors.NotOutstanding unread scan kept cause = absurd cause
stop_cause locations limit start old new before now errors.Memory unread scan kept cause = tt

-- ---- what a fault of rows leaves

abbrev LeavesIn : List SegmentLocation → ScanData → SourceState → Wholes → StepError → List Node → Job → Split → Type 0
LeavesIn locations start before wholes fault nodes job split =
    AreThere nodes job.given wholes job.plan split.rows.start split.mask
    ⊎ WhereScanned locations start before (λ bytes. HasInsideCause (leaves_of bytes) (handed_by nodes (Some job.given)) job.offset (plan_at nodes job.plan) split.rows.start split.mask fault)

fault_left : (locations : List SegmentLocation) (start old new : ScanData) (before : SourceState) (fault : StepError) → IsUnread start → KeptSoFar locations start before old → (refuses : RefusesSplit old.nodes old.job old.progress new.progress fault) →
    AreThere old.nodes old.job.given new.progress.wholes old.job.plan refuses.split.rows.start refuses.split.mask ⊎ FailsInWholes old.nodes old.job refuses.split old.progress.reads.wanted old.progress.leaves old.progress.wholes.made fault → LeavesFault locations start new before fault
fault_left locations start old new before fault unread kept refuses left =
    let here : LeavesIn locations start before new.progress.wholes fault old.nodes old.job refuses.split =
    ⊎_elim
    (λ (there : AreThere old.nodes old.job.given new.progress.wholes old.job.plan refuses.split.rows.start refuses.split.mask). inl there)
    (λ (fails : FailsInWholes old.nodes old.job refuses.split old.progress.reads.wanted old.progress.leaves old.progress.wholes.made fault).
    inr (λ file is held. fails (segment_bytes file locations) (unless_held fault (IsScanOf old (segment_bytes file locations)) (kept.told file is held))))
    left in
    subst (LeavesIn locations start before new.progress.wholes fault start.nodes start.job) (refused_split locations start old new before fault unread kept refuses)
    (subst (λ (j : Job). LeavesIn locations start before new.progress.wholes fault start.nodes j refuses.split) kept.job
    (subst (λ (ns : List Node). LeavesIn locations start before new.progress.wholes fault ns old.job refuses.split) kept.nodes here))

stop_left : (locations : List SegmentLocation) (start old new : ScanData) (before : SourceState) (error : AdaptorError) → IsUnread start → KeptSoFar locations start before old → StopCause locations error old new → IfSome (row_fault (scan_error error)) (LeavesFault locations start new before)
stop_left locations start old new before (errors.NoLocation segment) unread kept cause = tt
stop_left locations start old new before (errors.Step (step_errors.Unsupported list)) unread kept cause = tt
stop_left locations start old new before (errors.Step (step_errors.BadSegment segment)) unread kept cause = tt
stop_left locations start old new before (errors.Step (step_errors.BadCode take row)) unread kept refuses = fault_left locations start old new before (step_errors.BadCode take row) unread kept refuses.cause refuses.cause.left
stop_left locations start old new before (errors.Step (step_errors.EvalFault row)) unread kept refuses = fault_left locations start old new before (step_errors.EvalFault row) unread kept refuses.cause refuses.cause.left
stop_left locations start old new before (errors.Step step_errors.Memory) unread kept cause = tt
stop_left locations start old new before errors.NotOutstanding unread kept cause = tt
stop_left locations start old new before errors.Memory unread kept cause = tt

pub run_stops : (locations : List SegmentLocation) (limit : ℕ) (start : ScanData) (before : SourceState) (outputs : List ColumnData) (adaptor next : AdaptorData) (state : SessionState) (error : AdaptorError) →
    Running locations start before outputs adaptor state → Stops locations error adaptor next → GatherGives locations limit start (Err (scan_error error)) outputs next.scan before state.source
run_stops locations limit start before outputs adaptor next state error run stops =
    let kept = kept_then locations start before adaptor.scan next.scan run.scan.kept stops.scan in
    gives_with (λ done. Gathers locations start next.scan before (split_of start) outputs) locations limit start next.scan before state.source (scan_error error) kept
    (stop_cause locations limit start adaptor.scan next.scan before state.source error run.unread run.scan kept stops.cause)
    (stop_left locations start adaptor.scan next.scan before error run.unread run.scan.kept stops.cause)
    (asks_so_far locations start before outputs adaptor state state.source run refl)
    (record { file = run.file; faults = let p = run.faults in omega (arith, p); idle = run.idle }) (inl run.faults)
