-- What the chunks of a scan give, in the words of its answer.
use Rattle.std.proofs.Common.{◌≡◌, ℕ, zero, suc, ◌+◌, inl, inr, List, [], ◌∷◌, Option, Some, length, map, take, refl, sym, ap, ◌∙◌, subst, arith}
use Rattle.std.specs.List.{slice_get, AllByRecursion}
use Rattle.vx_base.specs.Columns.{ColumnData}
use Rattle.vx_base.specs.Data.{Datum}
use Rattle.vx_base.specs.Sources.{SourceState, RoseBy}
use Rattle.vx_layout.specs.Rows.{segment_bytes}
use Rattle.vx_lower.specs.Projected.{Projection, projected_at}
use Rattle.vx_plan.specs.Plans.{Plan}
use Rattle.vx_plan.specs.PlanRows.{plan_derivation, plan_reads, plan_value}
use Rattle.vx_plan.specs.Refs.{number_of}
use Rattle.vx_rows.specs.Derivations.{Leaves, derived}
use Rattle.vx_rows.specs.Reads.{Found, AnyOf, Finds, IsIn}
use Rattle.vx_rows.specs.Renumbered.{found_renumbered}
use Rattle.vx_rows.specs.SegmentLeaves.{Bytes, leaves_of}
use Rattle.vx_rows.specs.Whole.{GiveFitting}
use Rattle.vx_rows.proofs.ByteLeaves.{give_fitting}
use Rattle.vx_splits.specs.declared.selected_rows.SelectedRows.{SelectedRows}
use Rattle.vx_splits.specs.Trimmed.{chosen_rows}
use Rattle.vx_steps.specs.Below.{StandsIn}
use Rattle.vx_steps.specs.Given.{row_value}
use Rattle.vx_steps.specs.Laws.{IsRowOf, IsBadCodeAt, row_reads}
use Rattle.vx_steps.specs.Rows.{rows_of, SomeRow}
use Rattle.vx_steps.specs.ScanLaws.{IsTornIn}
use Rattle.vx_steps.specs.Visits.{Visits, HasEvalFault}
use Rattle.vx_drive.specs.declared.errors.ScanError.{ScanError}
use Rattle.vx_drive.specs.declared.errors.ScanError.TheVariants.{BadProjection, OffsetOverflow, OutOfRange, Unsupported, NoLocation, ReadFault, Stalled, BadSegment, BadCode, EvalFault, Memory}
use Rattle.vx_drive.specs.declared.plans.ScanPlans.{ScanPlans}
use Rattle.vx_drive.specs.Plans.{bytes_of, projection_plan}
use Rattle.vx_chunks.specs.ChunkRows.{given_to, ChunkFinds, IsPiece}
use Rattle.vx_chunks.specs.Lent.{AllTell}
use Rattle.vx_chunks.specs.Outcomes.{told_by, told_by_all, Causes}
use Rattle.vx_chunks.proofs.NothingGiven.{none_given, plain_reads, same_row}
use Rattle.vx_scan.specs.Answer.{FileScan, row_count, IsAnswer, ArePieces}
use Rattle.vx_scan.specs.Batches.{AreBatches, HasPiece}
use Rattle.vx_scan.specs.Causes.{ScanFinds, ReadsTorn, IsFaultAt, FaultsAt}
use Rattle.vx_scan.specs.PlanTexts.{held_tree}
use Rattle.vx_scan.specs.FilePlans.{node_of, ArePlansOf, IsTakeAs, LiesInside}
use Rattle.vx_scan.specs.Scanned.{CausedBy, CausedByAll, CausedIn, HasAnswer, ReadsBadCodePlan}
use Rattle.vx_scan.proofs.NamedPlans.{list_stands, take_stands}
use Rattle.vx_scan.proofs.ScanReads.{chunk_rows, some_chosen, chunk_finds, in_moved, torn_moved, row_moved, code_moved}

-- ---- nothing is given

same_value : (plans : ScanPlans) (leaves : Leaves) (offset : ℕ) (q : Plan) (row : ℕ) → row_value leaves (given_to plans []) offset q row ≡ plan_value leaves offset q row
same_value plans leaves offset q row = ap (derived leaves) (same_row plans (plan_derivation offset q row))

some_mapped : (P Q : ℕ → Type 0) → ((row : ℕ) → P row → Q row) → (start : ℕ) (bits : List _) → SomeRow P start bits → SomeRow Q start bits
some_mapped P Q f start bits some = (some.0, some.1, f (start + some.0) some.2)

-- ---- reads

finds_of : (scan : FileScan) (limit : ℕ) (plans : ScanPlans) → ArePlansOf scan limit plans → (P Q : Found → Type 0) → ((found : Found) → P found → Q (found_renumbered (node_of scan.projection) found)) → (chunk : SelectedRows) → LiesInside (row_count scan) chunk → ChunkFinds P plans [] chunk → ScanFinds Q scan.projection (chosen_rows chunk)
finds_of scan limit plans are P Q moved chunk inside some =
    let q : Plan = projection_plan plans in
    let same : SomeRow (λ row. Finds P (plan_reads plans.row_offset q row)) chunk.scope.rows.start chunk.mask =
    some_mapped (λ row. Finds P (row_reads (given_to plans []) plans.row_offset q row)) (λ row. Finds P (plan_reads plans.row_offset q row)) (plain_reads P plans plans.row_offset q) chunk.scope.rows.start chunk.mask some in
    chunk_finds scan.projection q are.plan P Q moved (row_count scan) chunk inside
    (subst (λ (offset : ℕ). SomeRow (λ row. Finds P (plan_reads offset q row)) chunk.scope.rows.start chunk.mask) are.offset same)

-- ---- values

map_same : (f g : ℕ → Option Datum) → ((row : ℕ) → f row ≡ g row) → (rows : List ℕ) → map f rows ≡ map g rows
map_same f g same [] = refl
map_same f g same (row ∷ rows) =
    let p : f row ≡ g row = same row in
    let q : map f rows ≡ map g rows = map_same f g same rows in
    cc

row_worth : (scan : FileScan) (limit : ℕ) (plans : ScanPlans) → ArePlansOf scan limit plans → (bytes : Bytes) (row : ℕ) → row_value (leaves_of bytes) (given_to plans []) plans.row_offset (projection_plan plans) row ≡ projected_at (leaves_of bytes) scan.projection row
row_worth scan limit plans are bytes row =
    same_value plans (leaves_of bytes) plans.row_offset (projection_plan plans) row
    ∙ (ap (λ (offset : ℕ). plan_value (leaves_of bytes) offset (projection_plan plans) row) are.offset
    ∙ are.plan.values (leaves_of bytes) (give_fitting bytes) row)

pub piece_answers : (scan : FileScan) (limit : ℕ) (plans : ScanPlans) → ArePlansOf scan limit plans → (bytes : Bytes) (chunk : SelectedRows) → LiesInside (row_count scan) chunk → (column : ColumnData) → IsPiece (leaves_of bytes) plans [] chunk column → IsAnswer (leaves_of bytes) scan.projection (chosen_rows chunk) column.values
piece_answers scan limit plans are bytes chunk inside column piece =
    let leaves : Leaves = leaves_of bytes in
    ap (map (projected_at leaves scan.projection)) (sym (chunk_rows (row_count scan) chunk inside))
    ∙ (sym (map_same (row_value leaves (given_to plans []) plans.row_offset (projection_plan plans)) (projected_at leaves scan.projection) (row_worth scan limit plans are bytes) (rows_of chunk.scope.rows.start chunk.mask))
    ∙ piece)

-- the bytes of the segments are the same by the scan and by its plans
pub same_bytes : (scan : FileScan) (limit : ℕ) (plans : ScanPlans) → ArePlansOf scan limit plans → (file : List ℕ) → bytes_of plans file ≡ segment_bytes file scan.locations
same_bytes scan limit plans are file = ap (segment_bytes file) are.locations

pub pieces_answer : (scan : FileScan) (limit : ℕ) (plans : ScanPlans) → ArePlansOf scan limit plans → (bytes : Bytes) (chunks : List SelectedRows) → AllByRecursion (LiesInside (row_count scan)) chunks → (batches : List ColumnData) → AreBatches (leaves_of bytes) plans chunks batches → ArePieces (leaves_of bytes) scan.projection (map chosen_rows chunks) (map (λ (batch : ColumnData). batch.values) batches)
pieces_answer scan limit plans are bytes [] inside [] batches = tt
pieces_answer scan limit plans are bytes [] inside (batch ∷ batches) is = absurd is
pieces_answer scan limit plans are bytes (chunk ∷ chunks) inside [] is = absurd is
pieces_answer scan limit plans are bytes (chunk ∷ chunks) inside (batch ∷ batches) is =
    (piece_answers scan limit plans are bytes chunk inside.0 batch is.0, pieces_answer scan limit plans are bytes chunks inside.1 batches is.1)

pub have_answers : (scan : FileScan) (limit : ℕ) (plans : ScanPlans) → ArePlansOf scan limit plans → (bytes : Bytes) (chunks : List SelectedRows) → AllByRecursion (LiesInside (row_count scan)) chunks → (k : ℕ) → AllByRecursion (HasPiece (leaves_of bytes) plans) (take k chunks) → AllByRecursion (HasAnswer (leaves_of bytes) scan.projection) (take k (map chosen_rows chunks))
have_answers scan limit plans are bytes chunks inside zero have = tt
have_answers scan limit plans are bytes [] inside (suc k) have = tt
have_answers scan limit plans are bytes (chunk ∷ chunks) inside (suc k) have =
    (((have.0).0.values, piece_answers scan limit plans are bytes chunk inside.0 (have.0).0 (have.0).1), have_answers scan limit plans are bytes chunks inside.1 k have.1)

-- ---- causes

pub inside_at : (count : ℕ) (chunks : List SelectedRows) (k : ℕ) (chunk : SelectedRows) → AllByRecursion (LiesInside count) chunks → slice_get chunks k ≡ Some chunk → LiesInside count chunk
inside_at count [] k chunk inside at = absurd cc
inside_at count (one ∷ chunks) zero chunk inside at = let e : one ≡ chunk = cc in subst (LiesInside count) e inside.0
inside_at count (one ∷ chunks) (suc k) chunk inside at = inside_at count chunks k chunk inside.1 at

fault_row : (scan : FileScan) (limit : ℕ) (plans : ScanPlans) → ArePlansOf scan limit plans → (leaves : Leaves) → GiveFitting leaves → (at row : ℕ) → Visits (HasEvalFault leaves plans.row_offset at) (given_to plans []) (projection_plan plans) row → (row ≡ at) × IsFaultAt leaves scan.projection row
fault_row scan limit plans are leaves fitting at row visit =
    are.plan.faults leaves fitting (given_to plans []) row at (none_given plans)
    (subst (λ (offset : ℕ). Visits (HasEvalFault leaves offset at) (given_to plans []) (projection_plan plans) row) are.offset visit)

faults_among : (leaves : Leaves) (p : Projection) (at : ℕ) (rows : List ℕ) → AnyOf (λ row. (row ≡ at) × IsFaultAt leaves p row) rows → FaultsAt leaves p rows at
faults_among leaves p at [] any = absurd any
faults_among leaves p at (row ∷ rows) (inl here) = (inl here.0, subst (IsFaultAt leaves p) here.0 here.1)
faults_among leaves p at (row ∷ rows) (inr later) = let rest = faults_among leaves p at rows later in (inr rest.0, rest.1)

-- the take of a bad code stands in the plan of the tree
code_named : (scan : FileScan) (limit : ℕ) (plans : ScanPlans) → ArePlansOf scan limit plans → (leaves : Leaves) (n at : ℕ) (chunk : SelectedRows) → ChunkFinds (IsBadCodeAt leaves n at) plans [] chunk → StandsIn (IsTakeAs n) (held_tree scan.projection)
code_named scan limit plans are leaves n at chunk (place, bit, any) =
    take_stands scan.projection (projection_plan plans) are.plan_is leaves n at plans.row_offset (chunk.scope.rows.start + place)
    (plain_reads (IsBadCodeAt leaves n at) plans plans.row_offset (projection_plan plans) (chunk.scope.rows.start + place) any)

-- by any files of which it is told
cause_in : (T : List ℕ → Type 0) (scan : FileScan) (limit : ℕ) (plans : ScanPlans) → ArePlansOf scan limit plans → (chunk : SelectedRows) → LiesInside (row_count scan) chunk → (error : ScanError) (before after : SourceState)
    → Causes (λ P. (file : List ℕ) → T file → P (bytes_of plans file)) plans [] chunk error before after → CausedIn (λ P. (file : List ℕ) → T file → P file) scan limit (chosen_rows chunk) error before after
cause_in T scan limit plans are chunk inside BadProjection before after cause = cause
cause_in T scan limit plans are chunk inside OffsetOverflow before after cause = cause
cause_in T scan limit plans are chunk inside OutOfRange before after cause = cause
cause_in T scan limit plans are chunk inside (Unsupported list) before after cause = (
  list_stands scan.projection (projection_plan plans) are.plan_is (number_of list) plans.row_offset (chunk.scope.rows.start + cause.0)
      (plain_reads (IsRowOf (number_of list)) plans plans.row_offset (projection_plan plans) (chunk.scope.rows.start + cause.0) cause.2),
  finds_of scan limit plans are (IsRowOf (number_of list)) (IsRowOf (node_of scan.projection (number_of list))) (row_moved (node_of scan.projection) (number_of list)) chunk inside cause,
)
cause_in T scan limit plans are chunk inside (NoLocation segment) before after cause =
    let count : length plans.locations.items ≡ length scan.locations = ap length are.locations in
    (finds_of scan limit plans are (IsIn segment) (IsIn segment) (in_moved (node_of scan.projection) segment) chunk inside cause.0, λ below. let lacks = cause.1 in omega (arith, count, below, lacks))
cause_in T scan limit plans are chunk inside ReadFault before after cause = cause
cause_in T scan limit plans are chunk inside Stalled before after cause = subst (λ (n : ℕ). RoseBy n before.idle after.idle) are.limit_is cause
cause_in T scan limit plans are chunk inside (BadSegment segment) before after cause = λ file told.
    subst (λ (bytes : Bytes). ReadsTorn bytes scan.projection (chosen_rows chunk) segment) (same_bytes scan limit plans are file)
    (finds_of scan limit plans are (IsTornIn (bytes_of plans file) segment) (IsTornIn (bytes_of plans file) segment) (torn_moved (node_of scan.projection) (bytes_of plans file) segment) chunk inside (cause file told))
cause_in T scan limit plans are chunk inside (BadCode code_take row) before after cause = λ file told.
    subst (λ (bytes : Bytes). ReadsBadCodePlan (leaves_of bytes) scan.projection (chosen_rows chunk) (number_of code_take) row) (same_bytes scan limit plans are file)
    (code_named scan limit plans are (leaves_of (bytes_of plans file)) (number_of code_take) row chunk (cause file told), finds_of scan limit plans are (IsBadCodeAt (leaves_of (bytes_of plans file)) (number_of code_take) row) (IsBadCodeAt (leaves_of (bytes_of plans file)) (node_of scan.projection (number_of code_take)) row) (code_moved (node_of scan.projection) (leaves_of (bytes_of plans file)) (number_of code_take) row) chunk inside (cause file told))
cause_in T scan limit plans are chunk inside (EvalFault at) before after cause = λ file told.
    let leaves : Leaves = leaves_of (bytes_of plans file) in
    let some : AnyOf (λ row. (row ≡ at) × IsFaultAt leaves scan.projection row) (chosen_rows chunk) =
    some_chosen (λ row. (row ≡ at) × IsFaultAt leaves scan.projection row) (row_count scan) chunk inside
    (some_mapped (Visits (HasEvalFault leaves plans.row_offset at) (given_to plans []) (projection_plan plans)) (λ row. (row ≡ at) × IsFaultAt leaves scan.projection row) (fault_row scan limit plans are leaves (give_fitting (bytes_of plans file)) at) chunk.scope.rows.start chunk.mask (cause file told)) in
    subst (λ (bytes : Bytes). FaultsAt (leaves_of bytes) scan.projection (chosen_rows chunk) at) (same_bytes scan limit plans are file)
    (faults_among leaves scan.projection at (chosen_rows chunk) some)
cause_in T scan limit plans are chunk inside Memory before after cause = tt

pub cause_of : (scan : FileScan) (limit : ℕ) (plans : ScanPlans) → ArePlansOf scan limit plans → (chunk : SelectedRows) → LiesInside (row_count scan) chunk → (error : ScanError) (before after : SourceState) → Causes (told_by plans before) plans [] chunk error before after → CausedBy scan limit (chosen_rows chunk) error before after
cause_of scan limit plans are chunk inside error before after cause = cause_in (λ file. before.file ≡ Some file) scan limit plans are chunk inside error before after cause

pub cause_of_all : (scan : FileScan) (limit : ℕ) (plans : ScanPlans) → ArePlansOf scan limit plans → (chunk : SelectedRows) → LiesInside (row_count scan) chunk → (error : ScanError) (sources : List SourceState) (before after : SourceState) → Causes (told_by_all plans sources) plans [] chunk error before after
    → CausedByAll scan limit (chosen_rows chunk) error sources before after
cause_of_all scan limit plans are chunk inside error sources before after cause = cause_in (λ file. AllTell file sources) scan limit plans are chunk inside error before after cause
