use Rattle.std.proofs.Common.{[], subst, sym}
use Rattle.std.specs.Prelude.{IfOk}
use Rattle.vx_splits.specs.declared.selected_rows.SelectedRows.{SelectedRows}
use Rattle.vx_drive.specs.Plans.{with_projection, IsChunkOf}
use Rattle.vx_chunks.specs.ChunkScans.{IsChunkScan}
use Rattle.vx_chunks.proofs.WholeRuns.{all_inside, rows_same}
use Rattle.vx_chunks.proofs.values.whole_scan.Goals as goal

pub scan_of-requires-clause-chunk : goal.scan_of-requires-clause-chunk
scan_of-requires-clause-chunk c =
    subst (IsChunkOf (with_projection c.args.plans.now c.args.plan)) (sym (rows_same c.args.plans.now c.args.plan c.row_count-count.result c.in_ok-mask.mask c.row_count-count.ensures (c.in_ok-mask.ensures {u = tt}))) (all_inside c.args.plans.now c.args.plan)

pub returns : goal.returns
returns c =
    subst (λ (chosen : SelectedRows). IfOk c.scan_of.result (IsChunkScan (with_projection c.args.plans.now c.args.plan) chosen [] [] [])) (rows_same c.args.plans.now c.args.plan c.row_count-count.result c.in_ok-mask.mask c.row_count-count.ensures (c.in_ok-mask.ensures {u = tt})) c.scan_of.ensures
