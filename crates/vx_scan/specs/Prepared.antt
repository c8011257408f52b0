-- What a scan is prepared to.
use Rattle.std.specs.Prelude.{◌≡◌, ℕ, Bool, map, IsTrue}
use Rattle.std.specs.List.{AllByRecursion}
use Rattle.vx_expr.specs.Mentions.{uses_row_number}
use Rattle.vx_splits.specs.Trimmed.{chosen_rows}
use Rattle.vx_steps.specs.Below.{HasNoEvalBelowTake, HasNoShare}
use Rattle.vx_drive.specs.Plans.{projection_plan, ArePlans}
use Rattle.vx_chunks.specs.LeafRows.{LeavesLieTogether}
use Rattle.vx_execute.specs.Executes.{CanRun}
use Rattle.vx_scan.specs.declared.prepared_scans.Prepared.{Prepared}
use Rattle.vx_scan.specs.Answer.{FileScan, row_count, scan_pieces}
use Rattle.vx_scan.specs.FilePlans.{ArePlansOf, AreChunksOf, IsCutBy}
use Rattle.vx_scan.specs.Valid.{HasRows}

-- the numbers of rows count for the scan: its projection uses them, and its range isn't empty
abbrev pub NumbersRows : FileScan → Type 0
NumbersRows scan = IsTrue (uses_row_number scan.projection.expression.term) × HasRows scan.range (row_count scan)

-- The plans and the chunks can be run, and the chunks have the rows of the scan, piece by piece: none where its range is
-- empty. Each begins and ends with a selected row. Where the range isn't empty, the plan is that of the projection, and
-- each chunk lies among the rows of the file. The leaves of the plan lie together; no share stands in it, and no
-- expression below a take. Rows are counted from 0 where their numbers don't count.
pub record IsPreparedFor (scan : FileScan) (limit : ℕ) (ordered : Bool) (prepared : Prepared) : Type 0 where
  pub plans : ArePlans prepared.plans
  pub together : LeavesLieTogether (projection_plan prepared.plans)
  pub unshared : HasNoShare (projection_plan prepared.plans)
  pub no_eval_below : HasNoEvalBelowTake (projection_plan prepared.plans)
  pub chunks : CanRun prepared.plans prepared.chunks.items
  pub trimmed : AllByRecursion (IsCutBy scan.selection) prepared.chunks.items
  pub pieces : map chosen_rows prepared.chunks.items ≡ scan_pieces scan
  pub plan : HasRows scan.range (row_count scan) → ArePlansOf scan limit prepared.plans
  pub inside : HasRows scan.range (row_count scan) → AreChunksOf scan prepared.chunks.items
  pub uncounted : ¬ (NumbersRows scan) → prepared.plans.row_offset ≡ 0
  pub limit_is : prepared.plans.idle_limit ≡ limit
  pub order_is : prepared.ordered ≡ ordered
