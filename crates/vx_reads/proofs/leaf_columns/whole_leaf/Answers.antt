use Rattle.std.proofs.Common.{length, sym, ap, ◌∙◌, arith}
use Rattle.vx_picking.proofs.SelectedRows.{picked_count}
use Rattle.vx_reads.specs.Readable.{tree_head}
use Rattle.vx_reads.proofs.Computing.{leaf_long, leaf_read, leaf_rows, whole_picked}
use Rattle.vx_reads.proofs.leaf_columns.whole_leaf.Goals as goal

pub returns-in-Ok-clause-rows : goal.returns-in-Ok-clause-rows
returns-in-Ok-clause-rows c =
    let read = leaf_read (tree_head c.args.tree.now c.args.node) _ c.args.coding _ c.args.bytes.now c.in-Ok.column.values c.dtype_at.ensures c.rows_at-rows.ensures c.in-Ok.ensures.read in
    let long = leaf_long (tree_head c.args.tree.now c.args.node) c.args.coding c.args.bytes.now c.in-Ok.column.values read in
    let whole = whole_picked c.in-Ok.column.values c.args.start c.args.mask.now c.requires.all (long ∙ sym c.requires.rows) (omega (arith, long, c.requires.inside)) in
    ap length whole ∙ picked_count c.in-Ok.column.values c.args.start c.args.mask.now (omega (arith, long, c.requires.inside))

pub returns-in-Ok-clause-values : goal.returns-in-Ok-clause-values
returns-in-Ok-clause-values c =
    let read = leaf_read (tree_head c.args.tree.now c.args.node) _ c.args.coding _ c.args.bytes.now c.in-Ok.column.values c.dtype_at.ensures c.rows_at-rows.ensures c.in-Ok.ensures.read in
    let long = leaf_long (tree_head c.args.tree.now c.args.node) c.args.coding c.args.bytes.now c.in-Ok.column.values read in
    let whole = whole_picked c.in-Ok.column.values c.args.start c.args.mask.now c.requires.all (long ∙ sym c.requires.rows) (omega (arith, long, c.requires.inside)) in
    leaf_rows (tree_head c.args.tree.now c.args.node) c.args.segment c.args.coding c.args.bytes.now c.args.start c.args.mask.now c.in-Ok.column.values c.in-Ok.column.values read c.requires.inside whole
