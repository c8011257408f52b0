-- What a run of a chunk's scan gives, as the chunk's rows read it.
use Rattle.std.proofs.Common.{◌≡◌, ℕ, ◌⊎◌, inl, inr, Bool, List, Some, sym, ap, ◌∙◌, subst}
use Rattle.std.proofs.lemmas.List.Elements.{All-weaker}
use Rattle.vx_rows.specs.Reads.{Found}
use Rattle.vx_rows.specs.SegmentLeaves.{Bytes, leaves_of}
use Rattle.vx_plan.specs.Nodes.{Node}
use Rattle.vx_plan.specs.Plans.{plan_at}
use Rattle.vx_plan.specs.Refs.{number_of}
use Rattle.vx_plan.specs.Rules.{node_at}
use Rattle.vx_steps.specs.declared.errors.StepError.{StepError}
use Rattle.vx_steps.specs.declared.leaf_reads.LeafRead.{LeafRead}
use Rattle.vx_steps.specs.declared.splits.Split.{Split}
use Rattle.vx_steps.specs.Given.{handed_by, row_value}
use Rattle.vx_steps.specs.Jobs.{IsAskedFor}
use Rattle.vx_steps.specs.Kept.{kept_at, IsKept}
use Rattle.vx_steps.specs.KeptData.{Kept}
use Rattle.vx_steps.specs.Laws.{IsBadCodeAt, IsRowOf, SomeRead}
use Rattle.vx_steps.specs.Rows.{AreOf, rows_of}
use Rattle.vx_steps.specs.ScanData.{ScanData, IsScanOf}
use Rattle.vx_steps.specs.ScanLaws.{IsTornIn}
use Rattle.vx_steps.specs.Visits.{HasEvalFault, IsLeafRead, IsWholeRead, SomeVisit, Test}
use Rattle.vx_steps.specs.Wholes.{HasInsideCause, IsThere}
use Rattle.vx_steps.proofs.ReadVisits.{selected_leaf, selected_read}
use Rattle.vx_steps.proofs.SplitTakes.{only_one}
use Rattle.vx_splits.specs.declared.selected_rows.SelectedRows.{SelectedRows}
use Rattle.vx_drive.specs.declared.errors.ScanError.{ScanError}
use Rattle.vx_drive.specs.declared.errors.ScanError.TheVariants as errors
use Rattle.vx_drive.specs.declared.plans.ScanPlans.{ScanPlans}
use Rattle.vx_drive.specs.Asks.{AsksOnly}
use Rattle.vx_drive.specs.Plans.{bytes_of, projection_plan}
use Rattle.vx_drive.specs.Runs.{GivesSplit, IsReadByStart, LeavesFault, RunCause}
use Rattle.vx_drive.specs.Starts.{split_of}
use Rattle.vx_chunks.specs.ChunkRows.{given_to, ChunkFailsInside, ChunkReaches, ChunkReadsSegment, ChunkVisits, IsPiece}
use Rattle.vx_chunks.specs.ChunkScans.{IsChunkScan}
use Rattle.vx_chunks.specs.Outcomes.{Causes, ChunkAsks, Claims, GivesPiece, IsWanted}
use Rattle.vx_chunks.proofs.NothingGiven.{plan_reaches}
use Rattle.vx_base.specs.Columns.{ColumnData}
use Rattle.vx_base.specs.Masks.{true_count}
use Rattle.vx_base.specs.Sources.{SourceState}

-- ---- the scan's rows as the chunk's

-- the rows of a plan that are selected, what stands in place of whole values, and what is added to the rows' numbers
record View : Type 0 where
  nodes : List Node
  plan : ℕ
  given : List Kept
  offset : ℕ
  first : ℕ
  mask : List Bool

abbrev view_of : ScanData → View
view_of scan = record { nodes = scan.nodes; plan = scan.job.plan; given = scan.job.given; offset = scan.job.offset; first = (split_of scan).rows.start; mask = (split_of scan).mask }

abbrev view_in : ScanPlans → List Kept → SelectedRows → View
view_in plans given chosen = record { nodes = plans.table; plan = number_of plans.projection; given = given; offset = plans.row_offset; first = chosen.scope.rows.start; mask = chosen.mask }

view_same : (plans : ScanPlans) (chosen : SelectedRows) (given leaves made : List Kept) (scan : ScanData) → IsChunkScan plans chosen given leaves made scan → view_of scan ≡ view_in plans given chosen
view_same plans chosen given leaves made scan is = λ i.
    record { nodes = is.nodes i; plan = is.plan i; given = is.given_is i; offset = is.offset i; first = (is.split i).rows.start; mask = (is.split i).mask }

abbrev ViewFinds : (Found → Type 0) → View → Type 0
ViewFinds P v = SomeRead P (handed_by v.nodes (Some v.given)) v.offset (plan_at v.nodes v.plan) v.first v.mask

abbrev ViewVisits : Test → View → Type 0
ViewVisits P v = SomeVisit P (handed_by v.nodes (Some v.given)) (plan_at v.nodes v.plan) v.first v.mask

-- ---- claims

-- what is claimed of the bytes of a told file by which a scan is so is claimed
abbrev pub Claimable : ScanPlans → ScanData → SourceState → Claims → Type 1
Claimable plans start before Told = (P : Bytes → Type 0) → ((file : List ℕ) → before.file ≡ Some file → IsScanOf start (bytes_of plans file) → P (bytes_of plans file)) → Told P

-- ---- the piece

pub gives_piece : (Told : Claims) (plans : ScanPlans) (chosen : SelectedRows) (given leaves made : List Kept) (start scan : ScanData) (before : SourceState) (column : ColumnData) → IsChunkScan plans chosen given leaves made start → Claimable plans start before Told →
    GivesSplit plans.locations.items start scan before column → GivesPiece Told plans given chosen column
gives_piece Told plans chosen given leaves made start scan before column is claim gave = record {
  dtype = gave.dtype ∙ (λ i. (node_at (is.nodes i) (is.plan i)).dtype);
  count = gave.count ∙ ap (λ (s : Split). true_count s.mask) is.split;
  values = claim (λ bytes. IsPiece (leaves_of bytes) plans given chosen column) (λ file told held.
      subst (λ (v : View). AreOf (row_value (leaves_of (bytes_of plans file)) (handed_by v.nodes (Some v.given)) v.offset (plan_at v.nodes v.plan)) (rows_of v.first v.mask) column.values)
      (view_same plans chosen given leaves made start is) (gave.right file told held));
}

-- what the rows of the chunk ask for is there
pub asked_there : (plans : ScanPlans) (chosen : SelectedRows) (given leaves made : List Kept) (start scan : ScanData) (before : SourceState) (column : ColumnData) → IsChunkScan plans chosen given leaves made start →
    GivesSplit plans.locations.items start scan before column → (n : ℕ) → ChunkAsks plans given chosen n → IsThere given scan.progress.wholes n
asked_there plans chosen given leaves made start scan before column is gave n asks =
    subst (λ (g : List Kept). IsThere g scan.progress.wholes n) is.given_is (gave.there n (subst (ViewVisits (IsWholeRead n)) (sym (view_same plans chosen given leaves made start is)) asks))

-- and so are the leaves that they read
pub read_there : (plans : ScanPlans) (chosen : SelectedRows) (given leaves made : List Kept) (start scan : ScanData) (before : SourceState) (column : ColumnData) → IsChunkScan plans chosen given leaves made start →
    GivesSplit plans.locations.items start scan before column → (read : LeafRead) → ChunkVisits (IsLeafRead read) plans given chosen → IsKept scan.progress.leaves read.leaf
read_there plans chosen given leaves made start scan before column is gave read visits =
    gave.leaves read (subst (ViewVisits (IsLeafRead read)) (sym (view_same plans chosen given leaves made start is)) visits)

-- what a fault of rows leaves, by what the chunk's rows ask for
pub fault_left : (Told : Claims) (plans : ScanPlans) (chosen : SelectedRows) (given leaves made : List Kept) (start scan : ScanData) (before : SourceState) (fault : StepError) → IsChunkScan plans chosen given leaves made start → Claimable plans start before Told → LeavesFault plans.locations.items start scan before fault →
    ((n : ℕ) → ChunkAsks plans given chosen n → IsThere given scan.progress.wholes n) ⊎ Told (λ bytes. ChunkFailsInside (leaves_of bytes) plans given chosen fault)
fault_left Told plans chosen given leaves made start scan before fault is claim (inl there) =
    inl (λ n asks. subst (λ (g : List Kept). IsThere g scan.progress.wholes n) is.given_is (there n (subst (ViewVisits (IsWholeRead n)) (sym (view_same plans chosen given leaves made start is)) asks)))
fault_left Told plans chosen given leaves made start scan before fault is claim (inr inside) =
    inr (claim (λ bytes. ChunkFailsInside (leaves_of bytes) plans given chosen fault) (λ file told held.
    subst (λ (v : View). HasInsideCause (leaves_of (bytes_of plans file)) (handed_by v.nodes (Some v.given)) v.offset (plan_at v.nodes v.plan) v.first v.mask fault)
    (view_same plans chosen given leaves made start is) (inside file told held)))

-- what some selected row of the scan's splits asks for, some selected row of the chunk asks for
pub is_asked : (plans : ScanPlans) (chosen : SelectedRows) (given leaves made : List Kept) (start : ScanData) (n : ℕ) → IsChunkScan plans chosen given leaves made start → IsAskedFor start.nodes start.job n → ChunkAsks plans given chosen n
is_asked plans chosen given leaves made start n is asked =
    let split : asked.split ≡ split_of start = only_one start.job.splits.items (split_of start) asked.split asked.number is.unread.splits asked.at in
    let here : ViewVisits (IsWholeRead n) (view_of start) =
    subst (λ (s : Split). SomeVisit (IsWholeRead n) (handed_by start.nodes (Some start.job.given)) (plan_at start.nodes start.job.plan) s.rows.start s.mask) split asked.asks in
    subst (ViewVisits (IsWholeRead n)) (view_same plans chosen given leaves made start is) here

-- ---- what is wanted

pub is_wanted : (plans : ScanPlans) (chosen : SelectedRows) (given leaves made : List Kept) (start : ScanData) (segment : ℕ) → IsChunkScan plans chosen given leaves made start → IsReadByStart start segment → IsWanted plans given leaves chosen segment
is_wanted plans chosen given leaves made start segment is read =
    let split : read.split ≡ split_of start = only_one start.job.splits.items (split_of start) read.split read.number is.unread.splits read.at in
    let here : ViewVisits (IsLeafRead read.read) (view_of start) =
    subst (λ (s : Split). SomeVisit (IsLeafRead read.read) (handed_by start.nodes (Some start.job.given)) (plan_at start.nodes start.job.plan) s.rows.start s.mask) split read.reads in
    let one : ChunkVisits (IsLeafRead read.read) plans given chosen = subst (ViewVisits (IsLeafRead read.read)) (view_same plans chosen given leaves made start is) here in
    record {
      leaf = read.read.leaf;
      visited = subst (λ (s : ℕ). ChunkVisits (IsLeafRead (record { leaf = read.read.leaf; segment = s })) plans given chosen) read.segment_is one;
      not_handed = ap (λ (ls : List Kept). kept_at ls read.read.leaf) (sym is.leaves_are) ∙ read.not_kept;
      reached = subst (ChunkReaches plans chosen) read.segment_is
          (plan_reaches plans chosen read.read.segment (selected_read (given_to plans given) plans.row_offset (projection_plan plans) chosen.scope.rows.start chosen.mask read.read one));
    }

-- a segment that is wanted is read, with the given values in place of the whole ones
wanted_read : (plans : ScanPlans) (chosen : SelectedRows) (given leaves : List Kept) (segment : ℕ) → IsWanted plans given leaves chosen segment → ChunkReadsSegment plans given chosen segment
wanted_read plans chosen given leaves segment wanted =
    selected_leaf (given_to plans given) plans.row_offset (projection_plan plans) chosen.scope.rows.start chosen.mask (record { leaf = wanted.leaf; segment = segment }) wanted.visited

pub asks_wanted : (plans : ScanPlans) (chosen : SelectedRows) (given leaves made : List Kept) (start : ScanData) (before after : SourceState) → IsChunkScan plans chosen given leaves made start → AsksOnly (IsReadByStart start) plans.locations.items before after →
    AsksOnly (IsWanted plans given leaves chosen) plans.locations.items before after
asks_wanted plans chosen given leaves made start before after is asks = record {
  segments = asks.segments;
  asks = asks.asks;
  wanted = All-weaker (IsReadByStart start) (IsWanted plans given leaves chosen) (λ segment read. is_wanted plans chosen given leaves made start segment is read) asks.segments asks.wanted;
}

-- ---- causes

pub chunk_cause : (Told : Claims) (plans : ScanPlans) (chosen : SelectedRows) (given leaves made : List Kept) (start : ScanData) (error : ScanError) (before after : SourceState) → IsChunkScan plans chosen given leaves made start → Claimable plans start before Told →
    RunCause plans.locations.items plans.idle_limit start error before after → Causes Told plans given chosen error before after
chunk_cause Told plans chosen given leaves made start (errors.Unsupported list) before after is claim cause =
    subst (ViewFinds (IsRowOf (number_of list))) (view_same plans chosen given leaves made start is) cause
chunk_cause Told plans chosen given leaves made start (errors.NoLocation segment) before after is claim (read, lacks) =
    (wanted_read plans chosen given leaves segment (is_wanted plans chosen given leaves made start segment is read), lacks)
chunk_cause Told plans chosen given leaves made start errors.ReadFault before after is claim cause = cause
chunk_cause Told plans chosen given leaves made start errors.Stalled before after is claim cause = cause
chunk_cause Told plans chosen given leaves made start (errors.BadSegment segment) before after is claim cause =
    claim (λ bytes. ViewFinds (IsTornIn bytes segment) (view_in plans given chosen)) (λ file told held. subst (ViewFinds (IsTornIn (bytes_of plans file) segment)) (view_same plans chosen given leaves made start is) (cause file told held))
chunk_cause Told plans chosen given leaves made start (errors.BadCode take row) before after is claim cause =
    claim (λ bytes. ViewFinds (IsBadCodeAt (leaves_of bytes) (number_of take) row) (view_in plans given chosen))
    (λ file told held. subst (ViewFinds (IsBadCodeAt (leaves_of (bytes_of plans file)) (number_of take) row)) (view_same plans chosen given leaves made start is) (cause file told held))
chunk_cause Told plans chosen given leaves made start (errors.EvalFault row) before after is claim cause =
    claim (λ bytes. ViewVisits (HasEvalFault (leaves_of bytes) plans.row_offset row) (view_in plans given chosen))
    (λ file told held. subst (λ (v : View). SomeVisit (HasEvalFault (leaves_of (bytes_of plans file)) v.offset row) (handed_by v.nodes (Some v.given)) (plan_at v.nodes v.plan) v.first v.mask) (view_same plans chosen given leaves made start is) (cause file told held))
chunk_cause Told plans chosen given leaves made start errors.Memory before after is claim cause = tt
chunk_cause Told plans chosen given leaves made start errors.BadProjection before after is claim cause = absurd cause
chunk_cause Told plans chosen given leaves made start errors.OffsetOverflow before after is claim cause = absurd cause
chunk_cause Told plans chosen given leaves made start errors.OutOfRange before after is claim cause = absurd cause
