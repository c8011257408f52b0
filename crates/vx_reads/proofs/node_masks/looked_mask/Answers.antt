use Rattle.vx_layout.specs.Kept.{all}
use Rattle.vx_layout.specs.Rows.{derivation}
use Rattle.vx_layout.specs.Trees.{subtree}
use Rattle.vx_reads.specs.Readable.{tree_head}
use Rattle.vx_reads.proofs.MaskKinds.{looked_fault, looked_kept, ranked_rows, rows_fail}
use Rattle.vx_reads.proofs.node_masks.looked_mask.Goals as goal

pub returns-in_ok-intersect_by_rank-in-Ok-made-clause-rows : goal.returns-in_ok-intersect_by_rank-in-Ok-made-clause-rows
returns-in_ok-intersect_by_rank-in-Ok-made-clause-rows c = ranked_rows c.args.mask.now c.in_ok-truths-in-Ok-made.truths _ c.in_ok-intersect_by_rank-in-Ok-made.ensures

pub returns-in_ok-intersect_by_rank-in-Ok-made-clause-kept : goal.returns-in_ok-intersect_by_rank-in-Ok-made-clause-kept
returns-in_ok-intersect_by_rank-in-Ok-made-clause-kept c =
    looked_kept c.args.reads.now (derivation (subtree c.args.tree.now c.args.node) all) c.in-Ok.root.dtype (tree_head c.args.tree.now c.args.node).dtype c.args.expression.now.term c.args.start c.args.mask.now c.in-Ok.root.values c.in-Ok-made.worth.values c.in_ok-truths-in-Ok-made.truths _ c.in-Ok.ensures.dtype c.in-Ok.ensures.values c.in-Ok-made.ensures.values c.in_ok-truths-in-Ok-made.ensures c.in_ok-intersect_by_rank-in-Ok-made.ensures

pub returns-in-Err-made-clause-cause : goal.returns-in-Err-made-clause-cause
returns-in-Err-made-clause-cause c = rw c.apply_fault.ensures.is (looked_fault c.in-Err-made.error c.args.reads.now (derivation (subtree c.args.tree.now c.args.node) all) c.in-Ok.root.dtype (tree_head c.args.tree.now c.args.node).dtype c.args.expression.now.term c.args.start c.args.first c.args.mask.now c.in-Ok.root.values c.in-Ok.ensures.dtype c.in-Ok.ensures.values c.in-Err-made.ensures.fault)

pub returns-in-Err-clause-cause : goal.returns-in-Err-clause-cause
returns-in-Err-clause-cause c = rows_fail c.in-Err.error c.args.reads.now (derivation (subtree c.args.tree.now c.args.node) all) (tree_head c.args.tree.now c.args.node).dtype c.args.expression.now.term c.args.start c.args.first c.args.mask.now c.in-Err.ensures.cause
