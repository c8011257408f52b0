-- The run of all rows of a plan, as that of a chunk which selects them all.
use Rattle.std.proofs.Common.{◌≡◌, ℕ, zero, suc, ◌<◌, inl, Bool, true, List, [], ◌∷◌, Option, Some, None, Err, length, map, replicate, refl, sym, ap, ◌∙◌, subst, arith}
use Rattle.std.specs.Prelude.{IfOk, Result}
use Rattle.std.proofs.lemmas.List.{length-replicate}
use Rattle.std.specs.List.{range_with_len}
use Rattle.vx_masks.proofs.Places.{true_count-cons}
use Rattle.vx_rows.specs.Derivations.{Leaves, derived, derived_each, each_row}
use Rattle.vx_rows.specs.Given.{with_given}
use Rattle.vx_rows.specs.SegmentLeaves.{leaves_of}
use Rattle.vx_rows.specs.Heads.{Head}
use Rattle.vx_plan.specs.declared.children.PlanRef.{PlanRef}
use Rattle.vx_plan.specs.Nodes.{Node}
use Rattle.vx_plan.specs.Plans.{Plan, plan_at}
use Rattle.vx_plan.specs.PlanRows.{plan_derivation}
use Rattle.vx_plan.specs.Refs.{number_of}
use Rattle.vx_plan.specs.Rules.{node_at}
use Rattle.vx_plan.specs.Tables.{IsGoodTable}
use Rattle.vx_plan.proofs.Adding.{head_in_table}
use Rattle.vx_steps.specs.Given.{handed_by, row_value, whole_value}
use Rattle.vx_steps.specs.Offers.{IsForPlan}
use Rattle.vx_steps.specs.Rows.{rows_of, AreOf}
use Rattle.vx_steps.specs.ScanData.{ScanData}
use Rattle.vx_steps.proofs.ReadVisits.{no_columns}
use Rattle.vx_steps.proofs.SelectedRows.{rows_all}
use Rattle.vx_steps.proofs.WholeRows.{each_same}
use Rattle.vx_splits.specs.declared.selected_rows.SelectedRows.{SelectedRows}
use Rattle.vx_drive.specs.declared.errors.ScanError.{ScanError}
use Rattle.vx_drive.specs.declared.errors.ScanError.TheVariants.{Memory}
use Rattle.vx_drive.specs.declared.plans.ScanPlans.{ScanPlans}
use Rattle.vx_drive.specs.declared.runs.Finished.{Finished}
use Rattle.vx_drive.specs.Finished.{Finishes}
use Rattle.vx_drive.specs.Plans.{bytes_of, with_projection, ArePlans, IsChunkOf}
use Rattle.vx_chunks.specs.ChunkScans.{IsChunkScan}
use Rattle.vx_chunks.specs.Outcomes.{told_by, GivesPiece, IsWanted}
use Rattle.vx_chunks.specs.Pieces.{PieceOf}
use Rattle.vx_chunks.specs.Values.{all_rows, RunsValues}
use Rattle.vx_chunks.proofs.ChunkOutcomes.{asks_nothing, chunk_causes, chunk_content, chunk_faults, claim_told, lasts_cleared, there_as}
use Rattle.vx_chunks.proofs.ChunkViews.{asks_wanted}
use Rattle.vx_base.specs.Columns.{ColumnData}
use Rattle.vx_base.specs.Data.{Datum}
use Rattle.vx_base.specs.Masks.{true_count}
use Rattle.vx_base.specs.Sources.{SourceState, Cleared}

-- ---- the plans, and all rows of a plan

pub plans_with : (plans : ScanPlans) (node : PlanRef) → ArePlans plans → number_of node < length plans.table → ArePlans (with_projection plans node)
plans_with plans node are known = record { known = known; few = are.few; ranges = are.ranges; numbers = are.numbers }

pub all_inside : (plans : ScanPlans) (node : PlanRef) → IsChunkOf (with_projection plans node) (all_rows plans node)
all_inside plans node =
    let rows : ℕ = (node_at plans.table (number_of node)).rows in
    let size = length-replicate rows true in
    record { forwards = omega arith; inside = omega arith; mask = omega (arith, size) }

abbrev pub rows_with : ℕ → List Bool → SelectedRows
rows_with count mask = record { scope = record { file_ordinal = 0; rows = record { start = 0; end = count } }; mask = mask }

pub rows_same : (plans : ScanPlans) (node : PlanRef) (count : ℕ) (mask : List Bool) → count ≡ (node_at plans.table (number_of node)).rows → mask ≡ replicate count true → rows_with count mask ≡ all_rows plans node
rows_same plans node count mask rows all = λ i. rows_with (rows i) ((all ∙ ap (λ (n : ℕ). replicate n true) rows) i)

-- ---- their values

all_chosen : (count : ℕ) → true_count (replicate count true) ≡ count
all_chosen zero = refl
all_chosen (suc count) = let more = true_count-cons true (replicate count true) in let rest = all_chosen count in omega (arith, more, rest)

-- where no values are handed in, a row is worth what it is while whole values are made
none_handed : (leaves : Leaves) (nodes : List Node) (offset : ℕ) (p : Plan) (row : ℕ) → row_value leaves (handed_by nodes (Some [])) offset p row ≡ row_value leaves None offset p row
none_handed leaves nodes offset p row = λ i. derived leaves (with_given (λ n. no_columns nodes n i) (plan_derivation offset p row))

values_same : (f g : ℕ → Option Datum) (rows : List ℕ) → ((row : ℕ) → f row ≡ g row) → map f rows ≡ map g rows
values_same f g [] same = refl
values_same f g (row ∷ rows) same = λ i. same row i ∷ values_same f g rows same i

whole_of : (leaves : Leaves) (nodes : List Node) (offset n : ℕ) (values : List Datum) → IsGoodTable nodes → n < length nodes → AreOf (row_value leaves (handed_by nodes (Some [])) offset (plan_at nodes n)) (rows_of 0 (replicate (node_at nodes n).rows true)) values →
    whole_value leaves offset (plan_at nodes n) ≡ Some values
whole_of leaves nodes offset n values good known are =
    let p : Plan = plan_at nodes n in
    let F : ℕ → Type 0 = λ rows. derived_each leaves (each_row (plan_derivation offset p) 0 rows) ≡ Some values in
    let all : map (row_value leaves None offset p) (range_with_len 0 (node_at nodes n).rows) ≡ map Some values =
    ap (map (row_value leaves None offset p)) (sym (rows_all 0 (node_at nodes n).rows))
    ∙ sym (values_same (row_value leaves (handed_by nodes (Some [])) offset p) (row_value leaves None offset p) (rows_of 0 (replicate (node_at nodes n).rows true)) (none_handed leaves nodes offset p)) ∙ are in
    subst F (sym (ap (λ (head : Head). head.rows) (head_in_table nodes good n known))) (each_same leaves offset p 0 (node_at nodes n).rows values all)

-- ---- the run

pub runs_values : (plans : ScanPlans) (node : PlanRef) (start : ScanData) (finished : Finished) (result : Result ColumnData ScanError) (before after : SourceState) → number_of node < length plans.table → IsChunkScan (with_projection plans node) (all_rows plans node) [] [] [] start →
    Finishes plans.locations.items plans.idle_limit start finished before after → PieceOf (with_projection plans node) finished.output result → RunsValues plans node result before after
runs_values plans node start finished result before after known is done piece =
    let over : ScanPlans = with_projection plans node in
    let chosen : SelectedRows = all_rows plans node in
    let gives = done.gives in
    let claim = claim_told over chosen [] start before is in
    let good : IsGoodTable plans.table = subst IsGoodTable is.nodes is.unread.good in
    let rows : ℕ = (node_at plans.table (number_of node)).rows in
    let content : IfOk result (GivesPiece (told_by over before) over [] chosen) = chunk_content (told_by over before) over chosen [] [] [] start done.scan before after finished.output result is claim gives.answer piece in
    record {
      fits = there_as result (GivesPiece (told_by over before) over [] chosen) (λ column. IsForPlan plans.table (record { node = number_of node; column = column }))
          (λ column gave. record { known = known; dtype = gave.dtype; count = gave.count ∙ all_chosen rows }) content;
      whole = there_as result (GivesPiece (told_by over before) over [] chosen) (λ column. told_by plans before (λ bytes. whole_value (leaves_of bytes) plans.row_offset (plan_at plans.table (number_of node)) ≡ Some column.values))
          (λ column gave file told. whole_of (leaves_of (bytes_of plans file)) plans.table plans.row_offset (number_of node) column.values good known (gave.values file told)) content;
      cause = chunk_causes (told_by over before) over chosen [] [] [] start done.scan before after finished.output result is claim gives.answer piece;
      asks = asks_wanted over chosen [] [] [] start before after is gives.asks;
      faults = chunk_faults over before after finished.output result piece gives.faults;
      lasts = gives.lasts;
      in_flight = done.in_flight;
    }

-- memory lacked before the run
pub lacks_values : (plans : ScanPlans) (node : PlanRef) (result : Result ColumnData ScanError) (before after : SourceState) → result ≡ Err Memory → Cleared before after → RunsValues plans node result before after
lacks_values plans node result before after lacks clears = record {
  fits = rw lacks tt;
  whole = rw lacks tt;
  cause = rw lacks tt;
  asks = asks_nothing (IsWanted (with_projection plans node) [] [] (all_rows plans node)) plans.locations.items before after clears.asked;
  faults = inl clears.faults;
  lasts = lasts_cleared before after clears;
  in_flight = clears.in_flight;
}
