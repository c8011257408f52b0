-- What is prepared of a file can be run.
use Rattle.std.proofs.Common.{◌≡◌, ℕ, ◌+◌, ◌^◌, ◌<◌, ◌≤◌, Bool, true, false, inl, inr, List, [], ◌∷◌, Vec, Global, length, map, refl, sym, ap, ◌∙◌, subst, arith}
use Rattle.std.specs.Prelude.{if◌then◌else◌}
use Rattle.std.specs.declared.ops.Range.{Range}
use Rattle.std.specs.List.{AllByRecursion}
use Rattle.std.proofs.lemmas.Bool.{cases_lt}
use Rattle.vx_base.specs.declared.locations.SegmentLocation.{SegmentLocation}
use Rattle.vx_expr.specs.Mentions.{uses_row_number}
use Rattle.vx_io.specs.Ranges.{IsTableOf}
use Rattle.vx_layout.specs.declared.rules.ShapeRule.TheVariants.{FewRows}
use Rattle.vx_layout.specs.Nodes.{Node}
use Rattle.vx_layout.specs.Shape.{most_rows, IsGoodTree}
use Rattle.vx_layout.specs.Trees.{head_of, subtree}
use Rattle.vx_rows.specs.Heads.{Head}
use Rattle.vx_plan.specs.Refs.{number_of}
use Rattle.vx_plan.specs.Rules.{node_at}
use Rattle.vx_plan.proofs.Adding.{head_in_table}
use Rattle.vx_splits.specs.declared.selected_rows.SelectedRows.{SelectedRows}
use Rattle.vx_splits.specs.declared.selections.Selection.{Selection}
use Rattle.vx_splits.specs.Trimmed.{chosen_rows}
use Rattle.vx_steps.specs.Held.{FitsOffset}
use Rattle.vx_drive.specs.declared.plans.ScanPlans.{ScanPlans}
use Rattle.vx_drive.specs.Plans.{projection_node, projection_plan, ArePlans, FollowFrom, IsChunkOf}
use Rattle.vx_execute.specs.Executes.{CanRun}
use Rattle.vx_layout.specs.declared.files.ScanFile.{ScanFile}
use Rattle.vx_scan.specs.declared.settings.Settings.{Settings}
use Rattle.vx_scan.specs.Answer.{FileScan, row_count}
use Rattle.vx_scan.specs.Admission.{BeginsOver, Overflows}
use Rattle.vx_scan.specs.Prepared.{IsPreparedFor}
use Rattle.vx_scan.specs.FilePlans.{ArePlansOf, AreChunksOf, IsCutBy, LiesInside}
use Rattle.vx_scan.specs.Settings.{scan_by}
use Rattle.vx_scan.specs.Valid.{HasRows}
use Rattle.vx_scan.proofs.AdmittedRows.{no_pieces, no_scan_rows}
use Rattle.vx_scan.proofs.Cutting.{cut_has_rows}
use Rattle.vx_scan.proofs.FilePlanning.{root_head}
use Rattle.vx_scan.proofs.ScanAsks.{lie_together}
use Rattle.vx_scan.proofs.UnsharedPlans.{none_below, none_shared}
use Rattle.vx_base.specs.Limits.{most_segments}

-- ---- the plans

-- no number of a row passes the greatest
fits_by : (b : Bool) (scan : FileScan) (offset rows : ℕ) → uses_row_number scan.projection.expression.term ≡ b → (b ≡ false → offset ≡ 0) → offset ≡ scan.projection.offset → (Overflows scan → ⊥) → rows ≡ row_count scan → rows < 2 ^ 64 → rows + offset < 2 ^ 64
fits_by true scan offset rows uses none same fits count below =
    elim (cases_lt (scan.projection.offset + row_count scan) (2 ^ 64)) [
      | inl less ↦ omega (arith, same, count, less)
      | inr over ↦ absurd (fits (uses, over))
    ]
fits_by false scan offset rows uses none same fits count below = let zero_is = none refl in omega (arith, zero_is, below)

plans_with : (file : ScanFile) (settings : Settings) (plans : ScanPlans) (offset : ℕ) → length file.locations.items ≤ most_segments → ArePlansOf (scan_by file settings) settings.idle_limit plans → FitsOffset plans.table offset → ArePlans (record plans { row_offset = offset })
plans_with file settings plans offset few are fits = record {
  known = are.known;
  few = let same : length plans.locations.items ≡ length file.locations.items = ap length are.locations in omega (arith, few, same);
  ranges = subst (λ (locations : List SegmentLocation). IsTableOf plans.ranges locations) (sym are.locations) are.ranges;
  numbers = fits;
}

pub are_plans : (file : ScanFile) (settings : Settings) (plans : ScanPlans) → length file.locations.items ≤ most_segments → (Overflows (scan_by file settings) → ⊥) → ArePlansOf (scan_by file settings) settings.idle_limit plans → ArePlans plans
are_plans file settings plans few fits are =
    let scan : FileScan = scan_by file settings in
    plans_with file settings plans plans.row_offset few are
    (λ n has below. fits_by (uses_row_number scan.projection.expression.term) scan plans.row_offset (node_at plans.table n).rows refl
    (λ unused. are.offset ∙ ap (λ (b : Bool). if b then settings.row_offset else 0) unused) are.offset fits (are.numbers n has) below)

-- rows whose numbers aren't used are counted from 0
from_none : (uses : Bool) (offset : ℕ) → (uses ≡ true → ⊥) → (if uses then offset else 0) ≡ 0
from_none true offset never = absurd (never refl)
from_none false offset never = refl

-- ---- the chunks

pub are_chunks : (scan : FileScan) (limit : ℕ) (plans : ScanPlans) → ArePlansOf scan limit plans → (chunks : List SelectedRows) → AllByRecursion (LiesInside (row_count scan)) chunks → AllByRecursion (IsChunkOf plans) chunks
are_chunks scan limit plans are [] inside = tt
are_chunks scan limit plans are (chunk ∷ chunks) inside =
    let rows : (projection_node plans).rows ≡ row_count scan = sym (ap (λ (head : Head). head.rows) (head_in_table plans.table are.good (number_of plans.projection) are.known)) ∙ are.plan.rows in (
      record { forwards = inside.0.forwards; inside = let below = inside.0.below in omega (arith, rows, below); mask = inside.0.mask },
      are_chunks scan limit plans are chunks inside.1,
    )

-- chunks with a row each, one behind the other, are no more than their rows
few_behind : (selection : Selection) (row count : ℕ) → row ≤ count → (chunks : List SelectedRows) → FollowFrom row chunks → AllByRecursion (LiesInside count) chunks → AllByRecursion (IsCutBy selection) chunks → row + length chunks ≤ count
few_behind selection row count below [] follow inside cut = omega (arith, below)
few_behind selection row count below (chunk ∷ chunks) (from, forwards, behind) inside cut =
    let some = cut_has_rows selection (cut.0).0 chunk (cut.0).2 in
    let rest = few_behind selection chunk.scope.rows.end count inside.0.below chunks behind inside.1 cut.1 in
    omega (arith, from, some, rest)

-- a file has few rows
few_rows : (nodes : List Node) → IsGoodTree nodes → (head_of (subtree nodes 0)).rows ≤ most_rows
few_rows nodes good = root_head (λ head. head.rows ≤ most_rows) nodes good (good.kept FewRows 0 good.nonempty)

can_run : (scan : FileScan) (limit : ℕ) (plans : ScanPlans) → ArePlansOf scan limit plans → (chunks : List SelectedRows) → AreChunksOf scan chunks → row_count scan ≤ most_rows → CanRun plans chunks
can_run scan limit plans are chunks of_scan rows = record {
  each = are_chunks scan limit plans are chunks of_scan.inside;
  ordered = of_scan.ordered;
  few = let count = few_behind scan.selection 0 (row_count scan) (omega arith) chunks of_scan.ordered of_scan.inside of_scan.trimmed in omega (arith, rows, count);
}

-- ---- what is prepared

pub rows_prepared : (file : ScanFile) (settings : Settings) (rows : Range ℕ) (plans : ScanPlans) (chunks : Vec SelectedRows Global) → length file.locations.items ≤ most_segments → IsGoodTree file.layout → BeginsOver (scan_by file settings) rows
    → ArePlansOf (scan_by file settings) settings.idle_limit plans → AreChunksOf (scan_by file settings) chunks.items → IsPreparedFor (scan_by file settings) settings.idle_limit settings.ordered (record { plans = plans; chunks = chunks; ordered = settings.ordered })
rows_prepared file settings rows plans chunks few good begins are of_scan = record {
  plans = are_plans file settings plans few begins.fits are;
  together = lie_together (scan_by file settings) settings.idle_limit plans are;
  unshared = none_shared (scan_by file settings).projection (projection_plan plans) are.plan_is;
  no_eval_below = none_below (scan_by file settings).projection (projection_plan plans) are.plan_is;
  chunks = can_run (scan_by file settings) settings.idle_limit plans are chunks.items of_scan (few_rows file.layout good);
  trimmed = of_scan.trimmed;
  pieces = of_scan.pieces;
  plan = λ some. are;
  inside = λ some. of_scan;
  uncounted = λ never. are.offset ∙ from_none (uses_row_number settings.projection.term) settings.row_offset (λ uses. never (uses, begins.work.some));
  limit_is = are.limit_is;
  order_is = refl;
}

pub nothing_prepared : (file : ScanFile) (settings : Settings) (plans : ScanPlans) (chunks : Vec SelectedRows Global) → length file.locations.items ≤ most_segments → (HasRows settings.range (row_count (scan_by file settings)) → ⊥) → chunks.items ≡ []
    → ArePlansOf (scan_by file settings) settings.idle_limit plans → IsPreparedFor (scan_by file settings) settings.idle_limit settings.ordered (record { plans = record plans { row_offset = 0 }; chunks = chunks; ordered = settings.ordered })
nothing_prepared file settings plans chunks few none empty are =
    let scan : FileScan = scan_by file settings in
    record {
      plans = plans_with file settings plans 0 few are (λ n has below. omega (arith, below));
      together = lie_together scan settings.idle_limit plans are;
      unshared = none_shared scan.projection (projection_plan plans) are.plan_is;
      no_eval_below = none_below scan.projection (projection_plan plans) are.plan_is;
      chunks = rw empty (record { each = tt; ordered = tt; few = omega arith });
      trimmed = rw empty tt;
      pieces = ap (map chosen_rows) empty ∙ sym (no_pieces scan (no_scan_rows scan none));
      plan = λ some. absurd (none some);
      inside = λ some. absurd (none some);
      uncounted = λ never. refl;
      limit_is = are.limit_is;
      order_is = refl;
    }
