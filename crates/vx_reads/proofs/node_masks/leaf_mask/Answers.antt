use Rattle.std.proofs.Common.{◌≡◌, ◌+◌, ◌≤◌, false, sym, ◌∙◌, arith, rules}
use Rattle.vx_picking.specs.Rows.{selects_some}
use Rattle.vx_reads.specs.Readable.{tree_head}
use Rattle.vx_reads.specs.Truths.{column_meaning}
use Rattle.vx_reads.proofs.LeafRanges.{range_fault, range_kept, range_long}
use Rattle.vx_reads.proofs.MaskFilters.{filtered_rows, leaf_kept_none}
use Rattle.vx_reads.proofs.node_masks.leaf_mask.Goals as goal

pub returns-then-not-selects_some-clause-kept : goal.returns-then-not-selects_some-clause-kept
returns-then-not-selects_some-clause-kept c =
    let none : selects_some c.args.mask.now ≡ false = sym c.selects_some.ensures ∙ (search rules) in
    leaf_kept_none (tree_head c.args.tree.now c.args.node) c.args.segment c.args.coding c.args.bytes.now c.args.expression.now.term c.args.start c.args.mask.now _ c.in_ok-copy.ensures none

pub filter_column-kept-requires-clause-inside : goal.filter_column-kept-requires-clause-inside
filter_column-kept-requires-clause-inside c =
    let inside : c.args.start + c.len.result ≤ (tree_head c.args.tree.now c.args.node).rows = omega (arith, c.len.ensures, c.requires.inside) in
    omega (arith, c.len.ensures, range_long (tree_head c.args.tree.now c.args.node) _ c.args.coding _ c.args.bytes.now c.args.start c.len.result c.in-Ok.column.values c.dtype_at-leaf.ensures c.rows_at-rows.ensures inside c.in-Ok.ensures.read)

pub returns-in-Ok-clause-rows : goal.returns-in-Ok-clause-rows
returns-in-Ok-clause-rows c = filtered_rows c.filter_column-kept.result (column_meaning c.in-Ok.column c.args.expression.now.term) 0 c.args.mask.now c.filter_column-kept.ensures.kept

pub returns-in-Ok-clause-kept : goal.returns-in-Ok-clause-kept
returns-in-Ok-clause-kept c =
    range_kept c.filter_column-kept.result (tree_head c.args.tree.now c.args.node) c.args.segment _ c.args.coding _ c.args.bytes.now c.in-Ok.column c.args.expression.now.term c.args.start c.len.result c.args.mask.now c.dtype_at-leaf.ensures c.rows_at-rows.ensures c.in-Ok.ensures.dtype c.len.ensures c.in-Ok.ensures.read c.filter_column-kept.ensures.kept c.filter_column-kept.ensures.worth

pub returns-in-Ok-clause-cause : goal.returns-in-Ok-clause-cause
returns-in-Ok-clause-cause c =
    range_fault c.filter_column-kept.result (tree_head c.args.tree.now c.args.node) c.args.segment _ c.args.coding _ c.args.bytes.now c.in-Ok.column c.args.expression.now.term c.args.start c.len.result c.args.first c.args.mask.now c.dtype_at-leaf.ensures c.rows_at-rows.ensures c.in-Ok.ensures.dtype c.len.ensures c.in-Ok.ensures.read c.filter_column-kept.ensures.cause
