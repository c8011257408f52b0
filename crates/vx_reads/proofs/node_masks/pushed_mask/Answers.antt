use Rattle.std.proofs.Common.{sym, ap, ◌∙◌}
use Rattle.vx_base.specs.ColumnCalls.{nullable_where}
use Rattle.vx_base.specs.Fits.{nullability_of}
use Rattle.vx_layout.specs.Trees.{subtree}
use Rattle.vx_reads.specs.Readable.{tree_head}
use Rattle.vx_reads.proofs.MaskKinds.{fails_filter, pushed_fails, pushed_keeps}
use Rattle.vx_reads.proofs.node_masks.pushed_mask.Goals as goal

pub in_dtype-requires : goal.in_dtype-requires
in_dtype-requires c =
    let n = nullability_of (tree_head c.args.tree.now c.args.codes).dtype in
    (n, c.dtype_at.ensures ∙ c.requires.dict.sound.2.dtype ∙ ap (nullable_where n) (sym c.in-Ok.ensures.values_dtype))

pub returns-in-Ok-in_dtype-clause-kept : goal.returns-in-Ok-in_dtype-clause-kept
returns-in-Ok-in_dtype-clause-kept c =
    pushed_keeps c.pushed_filter-kept.result (subtree c.args.tree.now c.args.node) (tree_head c.args.tree.now c.args.node) (subtree c.args.tree.now c.args.values) (subtree c.args.tree.now c.args.codes) c.in-Ok-in_dtype.values (tree_head c.args.tree.now c.args.node).dtype c.args.expression.now.term c.args.start c.args.mask.now c.in-Ok.parts.codes.values c.in-Ok.parts.values.values c.args.reads.now c.requires.dict.tree (c.in-Ok-in_dtype.ensures.dtype ∙ c.dtype_at.ensures) c.in-Ok-in_dtype.ensures.values c.in-Ok.ensures.codes c.in-Ok.ensures.values c.pushed_filter-kept.ensures.kept c.pushed_filter-kept.ensures.known

pub returns-in-Ok-in_dtype-clause-cause : goal.returns-in-Ok-in_dtype-clause-cause
returns-in-Ok-in_dtype-clause-cause c = λ first.
    pushed_fails c.pushed_filter-kept.result (subtree c.args.tree.now c.args.node) (tree_head c.args.tree.now c.args.node) (subtree c.args.tree.now c.args.values) (subtree c.args.tree.now c.args.codes) c.in-Ok-in_dtype.values (tree_head c.args.tree.now c.args.node).dtype c.args.expression.now.term c.args.node c.args.start first c.args.mask.now c.in-Ok.parts.codes.values c.in-Ok.parts.values.values c.args.reads.now c.requires.dict.tree c.requires.dict.number (c.in-Ok-in_dtype.ensures.dtype ∙ c.dtype_at.ensures) c.in-Ok-in_dtype.ensures.values c.requires.strict c.in-Ok.ensures.codes c.in-Ok.ensures.values c.in-Ok.ensures.values_count c.requires.some c.pushed_filter-kept.ensures.cause

pub returns-in-Err-clause-cause : goal.returns-in-Err-clause-cause
returns-in-Err-clause-cause c = λ first. fails_filter c.in-Err.error c.args.reads.now (subtree c.args.tree.now c.args.node) (tree_head c.args.tree.now c.args.node).dtype c.args.expression.now.term c.args.start first c.args.mask.now c.in-Err.ensures.cause
