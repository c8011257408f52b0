use Rattle.std.proofs.Common.{length, sym, ap, ◌∙◌, subst}
use Rattle.vx_base.specs.Columns.{ColumnData}
use Rattle.vx_layout.specs.Kept.{all}
use Rattle.vx_layout.specs.Rows.{derivation}
use Rattle.vx_layout.specs.Trees.{subtree}
use Rattle.vx_picking.specs.RowFaults.{root_meaning}
use Rattle.vx_reads.specs.Projected.{AreProjectedBy}
use Rattle.vx_reads.specs.Readable.{tree_head}
use Rattle.vx_reads.proofs.Projecting.{column_fault, projected_fault, projected_values, root_dtype, root_values, worked_count}
use Rattle.vx_reads.proofs.projections.projected.Goals as goal

pub returns-in_ok-whole-in-Ok-made-clause-values : goal.returns-in_ok-whole-in-Ok-made-clause-values
returns-in_ok-whole-in-Ok-made-clause-values c =
    let values = projected_values c.args.reads.now (derivation (subtree c.args.tree.now c.args.node) all) c.in-Ok-column_of.root.dtype (tree_head c.args.tree.now c.args.node).dtype c.args.expression.now.term c.args.start c.args.mask.now c.in-Ok-column_of.root.values c.in-Ok-made.column.values c.in-Ok-column_of.ensures.dtype c.in-Ok-column_of.ensures.values c.in-Ok-made.ensures.values in
    subst (λ (column : ColumnData). AreProjectedBy c.args.reads.now (derivation (subtree c.args.tree.now c.args.node) all) (tree_head c.args.tree.now c.args.node).dtype c.args.expression.now.term c.args.start c.args.mask.now column.values) (sym c.in_ok-whole-in-Ok-made.ensures) values

pub returns-in-Err-made-clause-cause : goal.returns-in-Err-made-clause-cause
returns-in-Err-made-clause-cause c = rw c.apply_fault.ensures.is (projected_fault c.in-Err-made.error c.args.reads.now (derivation (subtree c.args.tree.now c.args.node) all) c.in-Ok-column_of.root.dtype (tree_head c.args.tree.now c.args.node).dtype c.args.expression.now.term c.args.start c.args.mask.now c.in-Ok-column_of.root.values c.in-Ok-column_of.ensures.dtype c.in-Ok-column_of.ensures.values c.in-Err-made.ensures.fault)

pub returns-in-Err-clause-cause : goal.returns-in-Err-clause-cause
returns-in-Err-clause-cause c = column_fault c.args.reads.now (derivation (subtree c.args.tree.now c.args.node) all) (tree_head c.args.tree.now c.args.node).dtype c.args.expression.now.term c.args.start c.args.mask.now c.in-Err.error c.in-Err.ensures.cause

pub returns-in-Err-column_of-clause-cause : goal.returns-in-Err-column_of-clause-cause
returns-in-Err-column_of-clause-cause c = column_fault c.args.reads.now (derivation (subtree c.args.tree.now c.args.node) all) (tree_head c.args.tree.now c.args.node).dtype c.args.expression.now.term c.args.start c.args.mask.now c.in-Err-column_of.error c.in-Err-column_of.ensures.cause

pub returns-in-Ok-clause-dtype : goal.returns-in-Ok-clause-dtype
returns-in-Ok-clause-dtype c = c.in-Ok.ensures.dtype ∙ root_dtype c.args.expression.now (tree_head c.args.tree.now c.args.node).dtype (sym c.is_root.ensures ∙ c.if-is_root.true) c.dtype-dtype.ensures.bound c.requires.bound

pub returns-in-Ok-clause-values : goal.returns-in-Ok-clause-values
returns-in-Ok-clause-values c = projected_values c.args.reads.now (derivation (subtree c.args.tree.now c.args.node) all) c.in-Ok.root.dtype (tree_head c.args.tree.now c.args.node).dtype c.args.expression.now.term c.args.start c.args.mask.now c.in-Ok.root.values c.in-Ok.root.values c.in-Ok.ensures.dtype c.in-Ok.ensures.values (root_values c.in-Ok.root.dtype c.args.expression.now.term c.in-Ok.root.values (sym c.is_root.ensures ∙ c.if-is_root.true))

pub returns-in_ok-whole-in-Ok-made-clause-rows : goal.returns-in_ok-whole-in-Ok-made-clause-rows
returns-in_ok-whole-in-Ok-made-clause-rows c = ap (λ (column : ColumnData). length column.values) c.in_ok-whole-in-Ok-made.ensures ∙ worked_count (root_meaning c.in-Ok-column_of.root.dtype c.args.expression.now.term) c.in-Ok-column_of.root.values c.in-Ok-made.column.values c.in-Ok-made.ensures.values ∙ c.in-Ok-column_of.ensures.rows
