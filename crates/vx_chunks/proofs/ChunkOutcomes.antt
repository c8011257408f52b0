-- The outcome of a chunk's run, from the run of its scan.
use Rattle.std.proofs.Common.{◌≡◌, ℕ, ◌+◌, ◌<◌, ◌⊎◌, inl, inr, ⊎_elim, Bool, true, false, List, [], ◌∷◌, Option, Some, None, Ok, Err, length, map, refl, sym, ap, ◌∙◌, subst, arith}
use Rattle.std.specs.Prelude.{IfErr, IfOk, IfSome, Result}
use Rattle.std.proofs.lemmas.List.Elements.{All-nil}
use Rattle.vx_masks.proofs.Places.{true_count-cons}
use Rattle.vx_rows.specs.SegmentLeaves.{Bytes, leaves_of}
use Rattle.vx_plan.specs.Nodes.{Node}
use Rattle.vx_steps.specs.declared.errors.StepError.{StepError}
use Rattle.vx_steps.specs.declared.errors.StepError.TheVariants as step_errors
use Rattle.vx_steps.specs.declared.jobs.Job.{Job}
use Rattle.vx_steps.specs.declared.leaf_reads.LeafRead.{LeafRead}
use Rattle.vx_steps.specs.declared.splits.Split.{Split}
use Rattle.vx_steps.specs.Below.{HasNoEvalBelowTake, HasNoShare}
use Rattle.vx_steps.specs.Given.{given_for}
use Rattle.vx_steps.specs.Held.{AreMade, AreTyped, HaveLeaves}
use Rattle.vx_steps.specs.Jobs.{IsAskedFor}
use Rattle.vx_steps.specs.Kept.{kept_at, AreOfDistinctPlans, IsKept}
use Rattle.vx_steps.specs.KeptData.{Kept}
use Rattle.vx_steps.specs.Leavings.{IsReadBehind}
use Rattle.vx_steps.specs.Offers.{IsForPlan, Keeps}
use Rattle.vx_steps.specs.Rows.{AreOf, rows_of}
use Rattle.vx_steps.specs.ScanData.{ScanData, IsScanOf}
use Rattle.vx_steps.specs.Visits.{IsLeafRead}
use Rattle.vx_steps.specs.Wholes.{AddsOnly, IsThere, UsesGiven}
use Rattle.vx_steps.proofs.Standing.{fault_outside}
use Rattle.vx_steps.proofs.SplitTakes.{none_selected}
use Rattle.vx_steps.proofs.Fitting.{fitting_typed, no_leaves, node_first, none_made, none_typed}
use Rattle.vx_splits.specs.declared.selected_rows.SelectedRows.{SelectedRows}
use Rattle.vx_drive.specs.declared.errors.ScanError.{ScanError}
use Rattle.vx_drive.specs.declared.errors.ScanError.TheVariants.{EvalFault, Memory}
use Rattle.vx_drive.specs.declared.plans.ScanPlans.{ScanPlans}
use Rattle.vx_drive.specs.declared.runs.Finished.{Finished}
use Rattle.vx_drive.specs.Asks.{AsksOnly, Lasts, TellsFaults}
use Rattle.vx_drive.specs.Finished.{Finishes}
use Rattle.vx_drive.specs.Plans.{bytes_of, projection_plan}
use Rattle.vx_drive.specs.Runs.{LeavesFault, RunAnswer, row_fault}
use Rattle.vx_drive.proofs.Sessions.{asked_nothing}
use Rattle.vx_chunks.specs.declared.outcomes.ChunkOutcome.{ChunkOutcome}
use Rattle.vx_chunks.specs.ChunkRows.{ChunkFailsInside, ChunkVisits}
use Rattle.vx_chunks.specs.ChunkScans.{IsChunkScan}
use Rattle.vx_chunks.specs.Outcomes.{AreUsedOrMade, Causes, ChunkAsks, Claims, GivesPiece, IsWanted, RunsChunk, data_of, told_by}
use Rattle.vx_chunks.specs.Pieces.{PieceOf}
use Rattle.vx_chunks.proofs.ChunkViews.{Claimable, asked_there, asks_wanted, chunk_cause, fault_left, gives_piece, is_asked, read_there}
use Rattle.vx_base.specs.Columns.{ColumnData}
use Rattle.vx_base.specs.Data.{Datum}
use Rattle.vx_base.specs.Masks.{true_count}
use Rattle.vx_base.specs.Sources.{SourceState, Cleared}
use Rattle.vx_base.specs.declared.locations.SegmentLocation.{SegmentLocation}

-- ---- chunks of which no row is selected

none_chosen : (start : ℕ) (bits : List Bool) → true_count bits ≡ 0 → rows_of start bits ≡ []
none_chosen start [] none = refl
none_chosen start (true ∷ bits) none = let more = true_count-cons true bits in absurd (omega (arith, more, none))
none_chosen start (false ∷ bits) none = let more = true_count-cons false bits in none_chosen (start + 1) bits (omega (arith, more, none))

empty_values : (f : ℕ → Option Datum) (start : ℕ) (bits : List Bool) (values : List Datum) → true_count bits ≡ 0 → values ≡ [] → AreOf f (rows_of start bits) values
empty_values f start bits values none empty = ap (map f) (none_chosen start bits none) ∙ ap (map Some) (sym empty)

-- ---- what is claimed

pub claim_told : (plans : ScanPlans) (chosen : SelectedRows) (given : List Kept) (start : ScanData) (before : SourceState) → IsChunkScan plans chosen given [] [] start → Claimable plans start before (told_by plans before)
claim_told plans chosen given start before is P holds file told =
    holds file told (is.told (bytes_of plans file) (record { leaves_are = no_leaves plans.table (leaves_of (bytes_of plans file)); made_are = none_made plans.table plans.row_offset (leaves_of (bytes_of plans file)) }))

-- ---- the piece and the cause

pub chunk_content : (Told : Claims) (plans : ScanPlans) (chosen : SelectedRows) (given leaves made : List Kept) (start scan : ScanData) (before after : SourceState) (output : Result (Option ColumnData) ScanError) (piece : Result ColumnData ScanError) →
    IsChunkScan plans chosen given leaves made start → Claimable plans start before Told → RunAnswer plans.locations.items plans.idle_limit start output scan before after → PieceOf plans output piece → IfOk piece (GivesPiece Told plans given chosen)
chunk_content Told plans chosen given leaves made start scan before after (Ok (Some column)) piece is claim gave same = rw same (gives_piece Told plans chosen given leaves made start scan before column is claim gave)
chunk_content Told plans chosen given leaves made start scan before after (Ok None) (Ok column) is claim none empty =
    let selected : true_count chosen.mask ≡ 0 = sym (ap (λ (s : Split). true_count s.mask) is.split) ∙ none in
    record {
      dtype = empty.dtype;
      count = ap length empty.values ∙ sym selected;
      values = claim (λ bytes. AreOf _ (rows_of chosen.scope.rows.start chosen.mask) column.values) (λ file told held. empty_values _ chosen.scope.rows.start chosen.mask column.values selected empty.values);
    }
chunk_content Told plans chosen given leaves made start scan before after (Ok None) (Err error) is claim none same = tt
chunk_content Told plans chosen given leaves made start scan before after (Err error) piece is claim cause same = rw same tt

pub chunk_causes : (Told : Claims) (plans : ScanPlans) (chosen : SelectedRows) (given leaves made : List Kept) (start scan : ScanData) (before after : SourceState) (output : Result (Option ColumnData) ScanError) (piece : Result ColumnData ScanError) →
    IsChunkScan plans chosen given leaves made start → Claimable plans start before Told → RunAnswer plans.locations.items plans.idle_limit start output scan before after → PieceOf plans output piece → IfErr piece (λ error. Causes Told plans given chosen error before after)
chunk_causes Told plans chosen given leaves made start scan before after (Ok (Some column)) piece is claim gave same = rw same tt
chunk_causes Told plans chosen given leaves made start scan before after (Ok None) (Ok column) is claim none empty = tt
chunk_causes Told plans chosen given leaves made start scan before after (Ok None) (Err error) is claim none same = rw same tt
chunk_causes Told plans chosen given leaves made start scan before after (Err error) piece is claim cause same = rw same (chunk_cause Told plans chosen given leaves made start error before after is claim cause)

-- a read fault of the run is the chunk's
pub chunk_faults : (plans : ScanPlans) (before after : SourceState) (output : Result (Option ColumnData) ScanError) (piece : Result ColumnData ScanError) → PieceOf plans output piece → TellsFaults output before after → TellsFaults piece before after
chunk_faults plans before after output piece gives (inl same) = inl same
chunk_faults plans before after output piece gives (inr fault) = inr (subst (λ (one : Result (Option ColumnData) ScanError). PieceOf plans one piece) fault gives)

-- what is so of the run's error is so of the chunk's
pub chunk_error : (P : ScanError → Type 0) (plans : ScanPlans) (output : Result (Option ColumnData) ScanError) (piece : Result ColumnData ScanError) → P Memory → PieceOf plans output piece → IfErr output P → IfErr piece P
chunk_error P plans (Ok (Some column)) piece lacks same left = rw same tt
chunk_error P plans (Ok None) (Ok column) lacks empty left = tt
chunk_error P plans (Ok None) (Err error) lacks same left = subst P (sym same) lacks
chunk_error P plans (Err error) piece lacks same left = rw same left

pub error_of : (P : ScanError → Type 0) (piece : Result ColumnData ScanError) (error : ScanError) → piece ≡ Err error → IfErr piece P → P error
error_of P (Ok column) error is holds = absurd cc
error_of P (Err one) error is holds = subst (IfErr_of P) is holds
  where
    IfErr_of : (ScanError → Type 0) → Result ColumnData ScanError → Type 0
    IfErr_of P result = IfErr result P

pub chunk_there : (plans : ScanPlans) (chosen : SelectedRows) (given leaves made : List Kept) (start scan : ScanData) (before after : SourceState) (output : Result (Option ColumnData) ScanError) (piece : Result ColumnData ScanError) →
    IsChunkScan plans chosen given leaves made start → RunAnswer plans.locations.items plans.idle_limit start output scan before after → PieceOf plans output piece → IfOk piece (λ column. (n : ℕ) → ChunkAsks plans given chosen n → IsThere given scan.progress.wholes n)
chunk_there plans chosen given leaves made start scan before after (Ok (Some column)) piece is gave same = rw same (λ n asks. asked_there plans chosen given leaves made start scan before column is gave n asks)
chunk_there plans chosen given leaves made start scan before after (Ok None) (Ok column) is none empty =
    let selected : true_count chosen.mask ≡ 0 = sym (ap (λ (s : Split). true_count s.mask) is.split) ∙ none in
    λ n asks. absurd (none_selected chosen.mask asks.0 selected asks.1)
chunk_there plans chosen given leaves made start scan before after (Ok None) (Err error) is none same = tt
chunk_there plans chosen given leaves made start scan before after (Err error) piece is cause same = rw same tt

pub chunk_leaves : (plans : ScanPlans) (chosen : SelectedRows) (given leaves made : List Kept) (start scan : ScanData) (before after : SourceState) (output : Result (Option ColumnData) ScanError) (piece : Result ColumnData ScanError) →
    IsChunkScan plans chosen given leaves made start → RunAnswer plans.locations.items plans.idle_limit start output scan before after → PieceOf plans output piece → IfOk piece (λ column. (read : LeafRead) → ChunkVisits (IsLeafRead read) plans given chosen → IsKept scan.progress.leaves read.leaf)
chunk_leaves plans chosen given leaves made start scan before after (Ok (Some column)) piece is gave same = rw same (λ read visits. read_there plans chosen given leaves made start scan before column is gave read visits)
chunk_leaves plans chosen given leaves made start scan before after (Ok None) (Ok column) is none empty =
    let selected : true_count chosen.mask ≡ 0 = sym (ap (λ (s : Split). true_count s.mask) is.split) ∙ none in
    λ read visits. absurd (none_selected chosen.mask visits.0 selected visits.1)
chunk_leaves plans chosen given leaves made start scan before after (Ok None) (Err error) is none same = tt
chunk_leaves plans chosen given leaves made start scan before after (Err error) piece is cause same = rw same tt

-- ---- what is left of the scan

-- what the scan is of, in the words of the plans
pub made_in : (plans : ScanPlans) (chosen : SelectedRows) (given leaves made after : List Kept) (start scan : ScanData) (bytes : Bytes) → IsChunkScan plans chosen given leaves made start → scan.nodes ≡ start.nodes → scan.job ≡ start.job → after ≡ scan.progress.wholes.made →
    IsScanOf scan bytes → AreMade plans.table plans.row_offset after (leaves_of bytes)
made_in plans chosen given leaves made after start scan bytes is nodes job same held =
    subst (λ (n : ℕ). AreMade plans.table n after (leaves_of bytes)) (ap (λ (j : Job). j.offset) job ∙ is.offset)
    (subst (λ (ns : List Node). AreMade ns scan.job.offset after (leaves_of bytes)) (nodes ∙ is.nodes)
    (subst (λ (ks : List Kept). AreMade scan.nodes scan.job.offset ks (leaves_of bytes)) (sym same) held.made_are))

pub leaves_in : (plans : ScanPlans) (chosen : SelectedRows) (given leaves made after : List Kept) (start scan : ScanData) (bytes : Bytes) → IsChunkScan plans chosen given leaves made start → scan.nodes ≡ start.nodes → Keeps (λ one. IsReadBehind scan.nodes scan.job one.node) scan.progress.leaves after →
    IsScanOf scan bytes → HaveLeaves plans.table after (leaves_of bytes)
leaves_in plans chosen given leaves made after start scan bytes is nodes keeps held =
    subst (λ (ns : List Node). HaveLeaves ns after (leaves_of bytes)) (nodes ∙ is.nodes)
    (λ n segment column leaf at. held.leaves_are n segment column leaf (node_first (IsReadBehind scan.nodes scan.job) scan.progress.leaves after n column keeps at))

pub typed_in : (plans : ScanPlans) (chosen : SelectedRows) (given leaves made columns others : List Kept) (start scan : ScanData) → IsChunkScan plans chosen given leaves made start → scan.nodes ≡ start.nodes → others ≡ columns → AreTyped scan.nodes columns → AreTyped plans.table others
typed_in plans chosen given leaves made columns others start scan is nodes same typed =
    subst (AreTyped plans.table) (sym same) (subst (λ (ns : List Node). AreTyped ns columns) (nodes ∙ is.nodes) typed)

used_given : (given used : List Kept) (n : ℕ) (column : ColumnData) → UsesGiven given [] used → kept_at used n ≡ Some column → kept_at given n ≡ Some column
used_given given used n column uses at = by_cases (uses.only n column at)
  where
    by_cases : (kept_at [] n ≡ Some column) ⊎ (kept_at given n ≡ Some column) → kept_at given n ≡ Some column
    by_cases (inl none) = let both : None ≡ Some column = none in absurd cc
    by_cases (inr is) = is

used_or_made : (given used made : List Kept) (n : ℕ) (scan : ScanData) → used ≡ scan.progress.wholes.used → made ≡ scan.progress.wholes.made → IsThere given scan.progress.wholes n → AreUsedOrMade given used made n
used_or_made given used made n scan same_used same_made (inl (is, there)) = inl (is, subst (λ (ks : List Kept). IsKept ks n) (sym same_used) there)
used_or_made given used made n scan same_used same_made (inr (none, there)) = inr (none, subst (λ (ks : List Kept). IsKept ks n) (sym same_made) there)

-- no plan stands twice among none
none_apart : AreOfDistinctPlans []
none_apart p q k l at other same = absurd cc

-- none are kept among none
pub none_kept : (kept : List Kept) (n : ℕ) → kept ≡ [] → IsKept kept n → ⊥
none_kept kept n none (column, at) = let both : None ≡ Some column = subst (λ (ks : List Kept). kept_at ks n ≡ Some column) none at in cc

-- what was added to none is so
all_added : (P : ℕ → Type 0) (old new : List Kept) (n : ℕ) → old ≡ [] → AddsOnly P old new → IsKept new n → P n
all_added P old new n none adds kept = ⊎_elim (λ (before : IsKept old n). absurd (none_kept old n none before)) (λ (is : P n). is) (adds n kept)

pub there_as : {X : Type 0} (piece : Result X ScanError) (P Q : X → Type 0) → ((x : X) → P x → Q x) → IfOk piece P → IfOk piece Q
there_as (Ok x) P Q f holds = f x holds
there_as (Err error) P Q f holds = tt

-- where the fault is one of an expression, and none can be one of whole values, those that the rows ask for are there
faulted : (plans : ScanPlans) (chosen : SelectedRows) (given : List Kept) (start scan : ScanData) (before : SourceState) (output : Result (Option ColumnData) ScanError) (piece : Result ColumnData ScanError) → IsChunkScan plans chosen given [] [] start → PieceOf plans output piece →
    IfErr output (λ error. IfSome (row_fault error) (LeavesFault plans.locations.items start scan before)) → (row : ℕ) → piece ≡ Err (EvalFault row) → HasNoShare (projection_plan plans) → HasNoEvalBelowTake (projection_plan plans) →
    told_by plans before (λ bytes. (n : ℕ) → ChunkAsks plans given chosen n → IsThere given scan.progress.wholes n)
faulted plans chosen given start scan before output piece is same left row fault_is none evals file told =
    let P : ScanError → Type 0 = λ error. IfSome (row_fault error) (LeavesFault plans.locations.items start scan before) in
    let fault : LeavesFault plans.locations.items start scan before (step_errors.EvalFault row) = error_of P piece (EvalFault row) fault_is (chunk_error P plans output piece tt same left) in
    ⊎_elim
    (λ (there : (n : ℕ) → ChunkAsks plans given chosen n → IsThere given scan.progress.wholes n). there)
    (λ (inside : told_by plans before (λ bytes. ChunkFailsInside (leaves_of bytes) plans given chosen (step_errors.EvalFault row))).
    absurd (fault_outside (leaves_of (bytes_of plans file)) (given_for plans.table given) plans.row_offset (projection_plan plans) chosen.scope.rows.start chosen.mask row none evals (inside file told)))
    (fault_left (told_by plans before) plans chosen given [] [] start scan before (step_errors.EvalFault row) is (claim_told plans chosen given start before is) fault)

-- what a fault of rows leaves of whole values
fault_keeps : (plans : ScanPlans) (chosen : SelectedRows) (given used made : List Kept) (start scan : ScanData) (before : SourceState) (error : ScanError) → IsChunkScan plans chosen given [] [] start → used ≡ scan.progress.wholes.used → made ≡ scan.progress.wholes.made →
    IfSome (row_fault error) (LeavesFault plans.locations.items start scan before) →
    IfSome (row_fault error) (λ fault. ((n : ℕ) → ChunkAsks plans given chosen n → AreUsedOrMade given used made n) ⊎ told_by plans before (λ bytes. ChunkFailsInside (leaves_of bytes) plans given chosen fault))
fault_keeps plans chosen given used made start scan before error is same_used same_made = of_fault (row_fault error)
  where
    of_fault : (fault : Option StepError) → IfSome fault (LeavesFault plans.locations.items start scan before) →
        IfSome fault (λ one. ((n : ℕ) → ChunkAsks plans given chosen n → AreUsedOrMade given used made n) ⊎ told_by plans before (λ bytes. ChunkFailsInside (leaves_of bytes) plans given chosen one))
    of_fault None left = tt
    of_fault (Some fault) left =
        ⊎_elim
        (λ (there : (n : ℕ) → ChunkAsks plans given chosen n → IsThere given scan.progress.wholes n). inl (λ n asks. used_or_made given used made n scan same_used same_made (there n asks)))
        (λ (inside : told_by plans before (λ bytes. ChunkFailsInside (leaves_of bytes) plans given chosen fault)). inr inside)
        (fault_left (told_by plans before) plans chosen given [] [] start scan before fault is (claim_told plans chosen given start before is) left)

fault_as : {X : Type 0} (piece : Result X ScanError) (P Q : ScanError → Type 0) → ((error : ScanError) → P error → Q error) → IfErr piece P → IfErr piece Q
fault_as (Ok x) P Q f holds = tt
fault_as (Err error) P Q f holds = f error holds

-- ---- the outcomes

pub runs_chunk : (plans : ScanPlans) (chosen : SelectedRows) (given fitting : List Kept) (start : ScanData) (finished : Finished) (outcome : ChunkOutcome) (before after : SourceState) → Keeps (IsForPlan plans.table) given fitting → IsChunkScan plans chosen fitting [] [] start →
    Finishes plans.locations.items plans.idle_limit start finished before after → PieceOf plans finished.output outcome.piece → outcome.used ≡ finished.kept.used → outcome.made ≡ finished.kept.made → RunsChunk plans chosen given outcome before after
runs_chunk plans chosen given fitting start finished outcome before after fits is done piece same_used same_made =
    let scan : ScanData = done.scan in
    let gives = done.gives in
    let used : data_of outcome.used.items ≡ scan.progress.wholes.used = (λ i. data_of (same_used i).items) ∙ done.kept.used in
    let made : data_of outcome.made.items ≡ scan.progress.wholes.made = (λ i. data_of (same_made i).items) ∙ done.kept.made in
    record {
      fitting = fitting;
      fits = inl fits;
      content = chunk_content (told_by plans before) plans chosen fitting [] [] start scan before after finished.output outcome.piece is (claim_told plans chosen fitting start before is) gives.answer piece;
      values = record {
        used = λ n column at. used_given fitting (data_of outcome.used.items) n column (uses used done.kept.uses gives.job) at;
        apart_used = (uses used done.kept.uses gives.job).apart none_apart;
        apart_made = subst AreOfDistinctPlans (sym made) done.kept.apart_made;
        asked_used = λ n kept. is_asked plans chosen fitting [] [] start n is
            (all_added (IsAskedFor start.nodes start.job) start.progress.wholes.used scan.progress.wholes.used n is.unstarted.used gives.wholes.used_only (subst (λ (ks : List Kept). IsKept ks n) used kept));
        asked_made = λ n kept. is_asked plans chosen fitting [] [] start n is
            (all_added (IsAskedFor start.nodes start.job) start.progress.wholes.made scan.progress.wholes.made n is.made_are gives.wholes.made_only (subst (λ (ks : List Kept). IsKept ks n) made kept));
        made = λ file told. made_in plans chosen fitting [] [] (data_of outcome.made.items) start scan (bytes_of plans file) is gives.nodes gives.job made
            (gives.told file told (is.told (bytes_of plans file) (record { leaves_are = no_leaves plans.table (leaves_of (bytes_of plans file)); made_are = none_made plans.table plans.row_offset (leaves_of (bytes_of plans file)) })));
        typed = typed_in plans chosen fitting [] [] scan.progress.wholes.made (data_of outcome.made.items) start scan is gives.nodes made done.kept.typed_made;
        typed_used = λ n column at. fitting_typed plans.table given fitting fits n column (used_given fitting (data_of outcome.used.items) n column (uses used done.kept.uses gives.job) at);
        there = there_as outcome.piece (λ column. (n : ℕ) → ChunkAsks plans fitting chosen n → IsThere fitting scan.progress.wholes n) (λ column. (n : ℕ) → ChunkAsks plans fitting chosen n → AreUsedOrMade fitting (data_of outcome.used.items) (data_of outcome.made.items) n)
            (λ column there n asks. used_or_made fitting (data_of outcome.used.items) (data_of outcome.made.items) n scan used made (there n asks))
            (chunk_there plans chosen fitting [] [] start scan before after finished.output outcome.piece is gives.answer piece);
        left = fault_as outcome.piece (λ error. IfSome (row_fault error) (LeavesFault plans.locations.items start scan before))
            (λ error. IfSome (row_fault error) (λ fault. ((n : ℕ) → ChunkAsks plans fitting chosen n → AreUsedOrMade fitting (data_of outcome.used.items) (data_of outcome.made.items) n) ⊎ told_by plans before (λ bytes. ChunkFailsInside (leaves_of bytes) plans fitting chosen fault)))
            (λ error. fault_keeps plans chosen fitting (data_of outcome.used.items) (data_of outcome.made.items) start scan before error is used made)
            (chunk_error (λ error. IfSome (row_fault error) (LeavesFault plans.locations.items start scan before)) plans finished.output outcome.piece tt piece gives.left);
        faults = λ row fault_is none evals file told n asks. used_or_made fitting (data_of outcome.used.items) (data_of outcome.made.items) n scan used made
            (faulted plans chosen fitting start scan before finished.output outcome.piece is piece gives.left row fault_is none evals file told n asks);
      };
      cause = chunk_causes (told_by plans before) plans chosen fitting [] [] start scan before after finished.output outcome.piece is (claim_told plans chosen fitting start before is) gives.answer piece;
      asks = asks_wanted plans chosen fitting [] [] start before after is gives.asks;
      faults = chunk_faults plans before after finished.output outcome.piece piece gives.faults;
      lasts = gives.lasts;
      in_flight = done.in_flight;
    }
  where
    uses : data_of outcome.used.items ≡ done.scan.progress.wholes.used → UsesGiven done.scan.job.given [] done.scan.progress.wholes.used → done.scan.job ≡ start.job → UsesGiven fitting [] (data_of outcome.used.items)
    uses same by job = subst (UsesGiven fitting []) (sym same) (subst (λ (g : List Kept). UsesGiven g [] done.scan.progress.wholes.used) (ap (λ (j : Job). j.given) job ∙ is.given_is) by)

-- nothing was asked where memory lacked before the run
pub asks_nothing : (P : ℕ → Type 0) (locations : List SegmentLocation) (before after : SourceState) → after.asked ≡ before.asked → AsksOnly P locations before after
asks_nothing P locations before after same = record {
  segments = [];
  asks = record { apart = λ i j d lt within. absurd (omega (arith, within)); located = All-nil (λ segment. segment < length locations); asked = same ∙ sym (asked_nothing before.asked) };
  wanted = All-nil P;
}

pub lasts_cleared : (before after : SourceState) → Cleared before after → Lasts before after
lasts_cleared before after clears = record { file = clears.file; faults = let p = clears.faults in omega (arith, p); idle = let p = clears.idle in omega (arith, p) }

pub lacks_chunk : (plans : ScanPlans) (chosen : SelectedRows) (given : List Kept) (outcome : ChunkOutcome) (before after : SourceState) → outcome.piece ≡ Err Memory → outcome.used.items ≡ [] → outcome.made.items ≡ [] → Cleared before after → RunsChunk plans chosen given outcome before after
lacks_chunk plans chosen given outcome before after lacks none_used none_made_items clears =
    let used : data_of outcome.used.items ≡ [] = ap data_of none_used in
    let made : data_of outcome.made.items ≡ [] = ap data_of none_made_items in
    record {
      fitting = [];
      fits = inr (lacks, clears.asked);
      content = rw lacks tt;
      values = record {
        used = λ n column at. subst (λ (ks : List Kept). kept_at ks n ≡ Some column) used at;
        apart_used = subst AreOfDistinctPlans (sym used) none_apart;
        apart_made = subst AreOfDistinctPlans (sym made) none_apart;
        asked_used = λ n kept. absurd (none_kept (data_of outcome.used.items) n used kept);
        asked_made = λ n kept. absurd (none_kept (data_of outcome.made.items) n made kept);
        made = λ file told. subst (λ (ks : List Kept). AreMade plans.table plans.row_offset ks (leaves_of (bytes_of plans file))) (sym made) (none_made plans.table plans.row_offset (leaves_of (bytes_of plans file)));
        typed = subst (AreTyped plans.table) (sym made) (none_typed plans.table);
        typed_used = subst (AreTyped plans.table) (sym used) (none_typed plans.table);
        there = rw lacks tt;
        left = rw lacks tt;
        faults = λ row fault_is. absurd (let both : ◌≡◌ {A = Result ColumnData ScanError} (Err Memory) (Err (EvalFault row)) = sym lacks ∙ fault_is in cc);
      };
      cause = rw lacks tt;
      asks = asks_nothing (IsWanted plans [] [] chosen) plans.locations.items before after clears.asked;
      faults = inl clears.faults;
      lasts = lasts_cleared before after clears;
      in_flight = clears.in_flight;
    }
