use Rattle.vx_reads.specs.Readable.{tree_head}
use Rattle.vx_reads.proofs.LeafRanges.{chosen_long, leaf_chosen}
use Rattle.vx_reads.proofs.leaf_columns.chosen_leaf.Goals as goal

pub returns-in-Ok-clause-rows : goal.returns-in-Ok-clause-rows
returns-in-Ok-clause-rows c = chosen_long (tree_head c.args.tree.now c.args.node) _ c.args.coding _ c.args.bytes.now c.args.start c.len.result c.args.mask.now c.in-Ok.column.values c.dtype_at-dtype.ensures c.rows_at-rows.ensures c.len.ensures c.requires.inside c.in-Ok.ensures.read

pub returns-in-Ok-clause-values : goal.returns-in-Ok-clause-values
returns-in-Ok-clause-values c = leaf_chosen (tree_head c.args.tree.now c.args.node) c.args.segment _ c.args.coding _ c.args.bytes.now c.args.start c.len.result c.args.mask.now c.in-Ok.column.values c.dtype_at-dtype.ensures c.rows_at-rows.ensures c.len.ensures c.requires.inside c.in-Ok.ensures.read
