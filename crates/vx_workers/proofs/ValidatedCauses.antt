-- What comes of given values that are whole comes where none are given; and why whole values can't be read is why the chunk
-- has no piece that asks for them.
use Rattle.std.proofs.Common.{◌≡◌, ℕ, ◌+◌, ◌<◌, ◌≤◌, inl, true, List, [], ◌∷◌, Option, Some, Ok, Err, length, replicate, refl, sym, ap, ◌∙◌, arith}
use Rattle.std.specs.Prelude.{Result}
use Rattle.std.specs.List.{slice_get, AllByRecursion}
use Rattle.std.proofs.lemmas.List.{length-replicate}
use Rattle.std.proofs.lemmas.Option.{slice_get_within}
use Rattle.vx_rows.specs.Derivations.{Leaves}
use Rattle.vx_rows.specs.Reads.{directly, Found, reads_of, Finds, IsIn}
use Rattle.vx_rows.specs.SegmentLeaves.{Bytes, leaves_of}
use Rattle.vx_rows.specs.Heads.{Head}
use Rattle.vx_plan.specs.declared.children.PlanRef.{PlanRef}
use Rattle.vx_plan.specs.Nodes.{Node}
use Rattle.vx_plan.specs.Plans.{Plan, plan_at, plan_head}
use Rattle.vx_plan.specs.PlanRows.{plan_derivation}
use Rattle.vx_plan.specs.Refs.{number_of}
use Rattle.vx_plan.specs.Rules.{node_at}
use Rattle.vx_plan.specs.Tables.{IsGoodTable}
use Rattle.vx_plan.proofs.Adding.{head_in_table}
use Rattle.vx_plan.proofs.FittingPlans.{rows_fit}
use Rattle.vx_steps.specs.declared.errors.StepError.TheVariants as step_errors
use Rattle.vx_steps.specs.Given.{row_value}
use Rattle.vx_steps.specs.Held.{AreMade, AreTyped}
use Rattle.vx_steps.specs.KeptData.{Kept}
use Rattle.vx_steps.specs.Laws.{IsRowOf, IsBadCodeAt}
use Rattle.vx_steps.specs.Offers.{IsForPlan, Keeps}
use Rattle.vx_steps.specs.ScanLaws.{IsTornIn}
use Rattle.vx_steps.specs.Visits.{SomeVisit, Visits, HasBadCode, IsWholeRead}
use Rattle.vx_steps.proofs.CertifiedCauses.{certified_cause}
use Rattle.vx_steps.proofs.CertifiedValues.{certified_serve}
use Rattle.vx_steps.proofs.CodeVisits.{code_found, code_visit}
use Rattle.vx_steps.proofs.HandedRows.{typed_fit}
use Rattle.vx_steps.proofs.ReadVisits.{no_columns}
use Rattle.vx_steps.proofs.UsedValues.{selected_same}
use Rattle.vx_steps.proofs.WholeCauses.{whole_cause}
use Rattle.vx_steps.proofs.Fitting.{fitting_typed, none_made, none_typed}
use Rattle.vx_splits.specs.declared.selected_rows.SelectedRows.{SelectedRows}
use Rattle.vx_drive.specs.declared.errors.ScanError.{ScanError}
use Rattle.vx_drive.specs.declared.errors.ScanError.TheVariants.{BadProjection, OffsetOverflow, OutOfRange, Unsupported, NoLocation, ReadFault, Stalled, BadSegment, BadCode, EvalFault, Memory}
use Rattle.vx_drive.specs.declared.plans.ScanPlans.{ScanPlans}
use Rattle.vx_drive.specs.Asks.{Lasts}
use Rattle.vx_drive.specs.Plans.{projection_node, projection_plan, with_projection}
use Rattle.vx_drive.proofs.Lasting.{rose_from}
use Rattle.vx_chunks.specs.ChunkRows.{given_to, ChunkFaultsAt, ChunkFinds, ChunkReadsBadCode, IsPiece}
use Rattle.vx_chunks.specs.Outcomes.{Causes, ChunkAsks, Claims}
use Rattle.vx_chunks.specs.Values.{all_rows}
use Rattle.vx_chunks.proofs.ChunkScanning.{IsGoodChunk}
use Rattle.vx_chunks.proofs.WholeReads.{whole_found}
use Rattle.vx_chunks.proofs.FewerReads.{finds_free, segment_free, NoCode}
use Rattle.vx_chunks.proofs.NothingGiven.{free_reads, plain_reads}
use Rattle.vx_workers.specs.Borrowers.{IsResultBy, RestsOnValues}
use Rattle.vx_base.specs.Columns.{ColumnData}
use Rattle.vx_base.specs.Data.{Datum}
use Rattle.vx_base.specs.Sources.{SourceState}

-- ---- what is no code

no_code_torn : (bytes : Bytes) (segment : ℕ) → NoCode (IsTornIn bytes segment)
no_code_torn bytes segment code is = is

no_code_list : (list : ℕ) → NoCode (IsRowOf list)
no_code_list list code is = is

-- ---- given values that are whole

pub keeps_all : {X : Type 0} (P : X → Type 0) (xs : List X) → AllByRecursion P xs → Keeps P xs xs
keeps_all P [] each = refl
keeps_all P (x ∷ xs) each = inl (each.0, (xs, refl, keeps_all P xs each.1))

-- values that are each for its plan have the dtypes and the rows of these
pub each_typed : (nodes : List Node) (values : List Kept) → AllByRecursion (IsForPlan nodes) values → AreTyped nodes values
each_typed nodes values each = fitting_typed nodes values values (keeps_all (IsForPlan nodes) values each)

-- the values of a chunk's rows are the same without them
pub piece_free : (plans : ScanPlans) (chosen : SelectedRows) (leaves : Leaves) (columns : List Kept) (column : ColumnData) → IsGoodChunk plans chosen → AreMade plans.table plans.row_offset columns leaves → IsPiece leaves plans columns chosen column → IsPiece leaves plans [] chosen column
piece_free plans chosen leaves columns column is made piece =
    let n : ℕ = number_of plans.projection in
    let inside = is.inside in
    let p : Plan = projection_plan plans in
    let f : ℕ → Option Datum = row_value leaves (given_to plans columns) plans.row_offset p in
    let g : ℕ → Option Datum = row_value leaves (given_to plans []) plans.row_offset p in
    let each : (place : ℕ) → slice_get chosen.mask place ≡ Some true → f (chosen.scope.rows.start + place) ≡ g (chosen.scope.rows.start + place) = λ place at.
    (let within = slice_get_within chosen.mask place true at in
    let less : chosen.scope.rows.start + place < (projection_node plans).rows = omega (arith, inside, within) in
    certified_serve plans.table is.good columns leaves plans.row_offset n (chosen.scope.rows.start + place) is.known less made
    ∙ sym (certified_serve plans.table is.good [] leaves plans.row_offset n (chosen.scope.rows.start + place) is.known less (none_made plans.table plans.row_offset leaves))) in
    sym (selected_same f g chosen.scope.rows.start chosen.mask each) ∙ piece

-- a bad code that rows read with them, they read without
code_free : (plans : ScanPlans) (chosen : SelectedRows) (leaves : Leaves) (columns : List Kept) (take : PlanRef) (row : ℕ) → IsGoodChunk plans chosen → AreTyped plans.table columns → AreMade plans.table plans.row_offset columns leaves → ChunkReadsBadCode leaves plans columns chosen (number_of take) row → ChunkReadsBadCode leaves plans [] chosen (number_of take) row
code_free plans chosen leaves columns take row is typed made (place, at, any) =
    let n : ℕ = number_of plans.projection in
    let p : Plan = projection_plan plans in
    let inside = is.inside in
    let within = slice_get_within chosen.mask place true at in
    let rows : (plan_head p).rows ≡ (projection_node plans).rows = ap (λ (head : Head). head.rows) (head_in_table plans.table is.good n is.known) in
    let less : chosen.scope.rows.start + place < (plan_head p).rows = omega (arith, inside, within, rows) in
    let v : Visits (HasBadCode leaves plans.row_offset (number_of take) row) (given_to plans columns) p (chosen.scope.rows.start + place) =
    code_visit leaves (given_to plans columns) plans.row_offset p directly (chosen.scope.rows.start + place) (number_of take) row (typed_fit plans.table is.good columns typed n is.known) (rows_fit plans.table is.good n is.known) less any in
    let w : SomeVisit (HasBadCode leaves plans.row_offset (number_of take) row) (given_to plans []) p chosen.scope.rows.start chosen.mask =
    certified_cause plans.table is.good columns (given_to plans []) (no_columns plans.table) leaves plans.row_offset n chosen.scope.rows.start chosen.mask (step_errors.BadCode take row) is.known is.inside made (place, at, v) in
    (w.0, w.1, code_found leaves (given_to plans []) plans.row_offset p directly (chosen.scope.rows.start + w.0) (number_of take) row (typed_fit plans.table is.good [] (none_typed plans.table) n is.known) w.2)

-- what came of such values is what comes of none
pub result_free : (bytes : Bytes) (plans : ScanPlans) (chosen : SelectedRows) (columns : List Kept) (result : Result ColumnData ScanError) → IsGoodChunk plans chosen → AreTyped plans.table columns → AreMade plans.table plans.row_offset columns (leaves_of bytes) → IsResultBy bytes plans columns chosen result → IsResultBy bytes plans [] chosen result
result_free bytes plans chosen columns (Ok column) is typed made by = piece_free plans chosen (leaves_of bytes) columns column is made by
result_free bytes plans chosen columns (Err BadProjection) is typed made by = by
result_free bytes plans chosen columns (Err OffsetOverflow) is typed made by = by
result_free bytes plans chosen columns (Err OutOfRange) is typed made by = by
result_free bytes plans chosen columns (Err (Unsupported list)) is typed made by = by
result_free bytes plans chosen columns (Err (NoLocation segment)) is typed made by = by
result_free bytes plans chosen columns (Err ReadFault) is typed made by = by
result_free bytes plans chosen columns (Err Stalled) is typed made by = by
result_free bytes plans chosen columns (Err (BadSegment segment)) is typed made by = by
result_free bytes plans chosen columns (Err (BadCode take row)) is typed made by = code_free plans chosen (leaves_of bytes) columns take row is typed made by
result_free bytes plans chosen columns (Err (EvalFault row)) is typed made by =
    certified_cause plans.table is.good columns (given_to plans []) (no_columns plans.table) (leaves_of bytes) plans.row_offset (number_of plans.projection) chosen.scope.rows.start chosen.mask (step_errors.EvalFault row) is.known is.inside made by
result_free bytes plans chosen columns (Err Memory) is typed made by = by

-- ---- what is claimed

-- what is claimed the one way is claimed the other, where the bytes are sound
abbrev pub Carries : Claims → Claims → (Bytes → Type 0) → Type 1
Carries Told Other Sound = (P Q : Bytes → Type 0) → ((bytes : Bytes) → Sound bytes → P bytes → Q bytes) → Told P → Other Q

-- ---- causes

-- the result tells an error whose cause it has
pub cause_of_result : (Other : Claims) (plans : ScanPlans) (chosen : SelectedRows) (error : ScanError) (before after : SourceState) → RestsOnValues error → Other (λ bytes. IsResultBy bytes plans [] chosen (Err error)) → Causes Other plans [] chosen error before after
cause_of_result Other plans chosen BadProjection before after rests by = absurd rests
cause_of_result Other plans chosen OffsetOverflow before after rests by = absurd rests
cause_of_result Other plans chosen OutOfRange before after rests by = absurd rests
cause_of_result Other plans chosen (Unsupported list) before after rests by = absurd rests
cause_of_result Other plans chosen (NoLocation segment) before after rests by = absurd rests
cause_of_result Other plans chosen ReadFault before after rests by = absurd rests
cause_of_result Other plans chosen Stalled before after rests by = absurd rests
cause_of_result Other plans chosen (BadSegment segment) before after rests by = absurd rests
cause_of_result Other plans chosen (BadCode take row) before after rests by = by
cause_of_result Other plans chosen (EvalFault row) before after rests by = by
cause_of_result Other plans chosen Memory before after rests by = absurd rests

-- with values that are whole by sound bytes, a cause is one with none; and one from a later state on is one from an earlier
pub cause_free : (Told Other : Claims) (plans : ScanPlans) (chosen : SelectedRows) (columns : List Kept) (error : ScanError) (before now after : SourceState) → Carries Told Other (λ bytes. AreMade plans.table plans.row_offset columns (leaves_of bytes)) → IsGoodChunk plans chosen → AreTyped plans.table columns → Lasts before now →
    Causes Told plans columns chosen error now after → Causes Other plans [] chosen error before after
cause_free Told Other plans chosen columns BadProjection before now after carries is typed lasts cause = absurd cause
cause_free Told Other plans chosen columns OffsetOverflow before now after carries is typed lasts cause = absurd cause
cause_free Told Other plans chosen columns OutOfRange before now after carries is typed lasts cause = absurd cause
cause_free Told Other plans chosen columns (Unsupported list) before now after carries is typed lasts cause = finds_free (IsRowOf (number_of list)) (no_code_list (number_of list)) plans columns chosen cause
cause_free Told Other plans chosen columns (NoLocation segment) before now after carries is typed lasts cause = (segment_free plans columns chosen segment cause.0, cause.1)
cause_free Told Other plans chosen columns ReadFault before now after carries is typed lasts cause = rose_from 1 before.faults now.faults after.faults lasts.faults cause
cause_free Told Other plans chosen columns Stalled before now after carries is typed lasts cause = rose_from plans.idle_limit before.idle now.idle after.idle lasts.idle cause
cause_free Told Other plans chosen columns (BadSegment segment) before now after carries is typed lasts cause =
    carries (λ bytes. ChunkFinds (IsTornIn bytes segment) plans columns chosen) (λ bytes. ChunkFinds (IsTornIn bytes segment) plans [] chosen) (λ bytes made any. finds_free (IsTornIn bytes segment) (no_code_torn bytes segment) plans columns chosen any) cause
cause_free Told Other plans chosen columns (BadCode take row) before now after carries is typed lasts cause =
    carries (λ bytes. IsResultBy bytes plans columns chosen (Err (BadCode take row))) (λ bytes. IsResultBy bytes plans [] chosen (Err (BadCode take row))) (λ bytes made by. result_free bytes plans chosen columns (Err (BadCode take row)) is typed made by) cause
cause_free Told Other plans chosen columns (EvalFault row) before now after carries is typed lasts cause =
    carries (λ bytes. IsResultBy bytes plans columns chosen (Err (EvalFault row))) (λ bytes. IsResultBy bytes plans [] chosen (Err (EvalFault row))) (λ bytes made by. result_free bytes plans chosen columns (Err (EvalFault row)) is typed made by) cause
cause_free Told Other plans chosen columns Memory before now after carries is typed lasts cause = tt

-- ---- causes of whole values that the chunk asks for

-- a row of all rows of a plan is one of the plan's
row_inside : (plans : ScanPlans) (node : PlanRef) → IsGoodTable plans.table → number_of node < length plans.table → (place : ℕ) → slice_get (all_rows plans node).mask place ≡ Some true → 0 + place < (plan_head (plan_at plans.table (number_of node))).rows
row_inside plans node good there place at =
    let rows : ℕ = (node_at plans.table (number_of node)).rows in
    let same : (plan_head (plan_at plans.table (number_of node))).rows ≡ rows = ap (λ (head : Head). head.rows) (head_in_table plans.table good (number_of node) there) in
    let within = slice_get_within (replicate rows true) place true at in
    let size = length-replicate rows true in
    omega (arith, same, within, size)

-- what some row of all rows of a plan finds, a row finds that asks for its whole values
finds_asked : (Q : Found → Type 0) (plans : ScanPlans) (node : PlanRef) (row : ℕ) → IsGoodTable plans.table → number_of plans.projection < length plans.table → number_of node < length plans.table → Visits (IsWholeRead (number_of node)) (given_to plans []) (projection_plan plans) row →
    (place : ℕ) → slice_get (all_rows plans node).mask place ≡ Some true → Finds Q (reads_of directly (plan_derivation plans.row_offset (plan_at plans.table (number_of node)) (0 + place))) → Finds Q (reads_of directly (plan_derivation plans.row_offset (projection_plan plans) row))
finds_asked Q plans node row good known there v place at any =
    whole_found plans.table good (number_of plans.projection) known (number_of node) Q plans.row_offset row (0 + place, row_inside plans node good there place at, any) v

chunk_finds_asked : (Q : Found → Type 0) (plans : ScanPlans) (node : PlanRef) (chosen : SelectedRows) → IsGoodChunk plans chosen → number_of node < length plans.table → ChunkAsks plans [] chosen (number_of node) → ChunkFinds Q (with_projection plans node) [] (all_rows plans node) → ChunkFinds Q plans [] chosen
chunk_finds_asked Q plans node chosen is there (row, bit, v) (place, at, any) = (
  row,
  bit,
  free_reads Q plans plans.row_offset (projection_plan plans) (chosen.scope.rows.start + row)
      (finds_asked Q plans node (chosen.scope.rows.start + row) is.good is.known there v place at (plain_reads Q plans plans.row_offset (plan_at plans.table (number_of node)) (0 + place) any)),
)

-- why all rows of a plan can't be read is why the chunk has no piece
pub cause_asked : (Told Other : Claims) (Sound : Bytes → Type 0) (plans : ScanPlans) (node : PlanRef) (chosen : SelectedRows) (error : ScanError) (before now after : SourceState) → Carries Told Other Sound → IsGoodChunk plans chosen → number_of node < length plans.table → ChunkAsks plans [] chosen (number_of node) → Lasts before now →
    Causes Told (with_projection plans node) [] (all_rows plans node) error now after → Causes Other plans [] chosen error before after
cause_asked Told Other Sound plans node chosen BadProjection before now after carries is there asks lasts cause = absurd cause
cause_asked Told Other Sound plans node chosen OffsetOverflow before now after carries is there asks lasts cause = absurd cause
cause_asked Told Other Sound plans node chosen OutOfRange before now after carries is there asks lasts cause = absurd cause
cause_asked Told Other Sound plans node chosen (Unsupported list) before now after carries is there asks lasts cause = chunk_finds_asked (IsRowOf (number_of list)) plans node chosen is there asks cause
cause_asked Told Other Sound plans node chosen (NoLocation segment) before now after carries is there asks lasts cause = (chunk_finds_asked (IsIn segment) plans node chosen is there asks cause.0, cause.1)
cause_asked Told Other Sound plans node chosen ReadFault before now after carries is there asks lasts cause = rose_from 1 before.faults now.faults after.faults lasts.faults cause
cause_asked Told Other Sound plans node chosen Stalled before now after carries is there asks lasts cause = rose_from plans.idle_limit before.idle now.idle after.idle lasts.idle cause
cause_asked Told Other Sound plans node chosen (BadSegment segment) before now after carries is there asks lasts cause =
    carries (λ bytes. ChunkFinds (IsTornIn bytes segment) (with_projection plans node) [] (all_rows plans node)) (λ bytes. ChunkFinds (IsTornIn bytes segment) plans [] chosen) (λ bytes sound any. chunk_finds_asked (IsTornIn bytes segment) plans node chosen is there asks any) cause
cause_asked Told Other Sound plans node chosen (BadCode take row) before now after carries is there asks lasts cause =
    carries (λ bytes. ChunkFinds (IsBadCodeAt (leaves_of bytes) (number_of take) row) (with_projection plans node) [] (all_rows plans node)) (λ bytes. ChunkFinds (IsBadCodeAt (leaves_of bytes) (number_of take) row) plans [] chosen)
    (λ bytes sound any. chunk_finds_asked (IsBadCodeAt (leaves_of bytes) (number_of take) row) plans node chosen is there asks any) cause
cause_asked Told Other Sound plans node chosen (EvalFault row) before now after carries is there asks lasts cause =
    let rows : ℕ = (node_at plans.table (number_of node)).rows in
    let size = length-replicate rows true in
    let inside : 0 + length (replicate rows true) ≤ (node_at plans.table (number_of node)).rows = omega (arith, size) in
    carries (λ bytes. ChunkFaultsAt (leaves_of bytes) (with_projection plans node) [] (all_rows plans node) row) (λ bytes. ChunkFaultsAt (leaves_of bytes) plans [] chosen row)
    (λ bytes sound v. whole_cause plans.table is.good (leaves_of bytes) plans.row_offset (number_of plans.projection) chosen.scope.rows.start chosen.mask (number_of node) (number_of node) 0 (replicate rows true) (step_errors.EvalFault row) is.known asks (inl refl) inside v) cause
cause_asked Told Other Sound plans node chosen Memory before now after carries is there asks lasts cause = tt
