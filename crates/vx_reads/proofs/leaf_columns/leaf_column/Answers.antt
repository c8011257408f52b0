use Rattle.std.proofs.Common.{◌≡◌, false, sym, ◌∙◌, rules}
use Rattle.vx_reads.specs.Readable.{tree_head}
use Rattle.vx_picking.specs.Rows.{selects_some}
use Rattle.vx_reads.proofs.Computing.{leaf_none}
use Rattle.vx_picking.proofs.SelectedRows.{none_count, none_rows}
use Rattle.vx_reads.proofs.leaf_columns.leaf_column.Goals as goal

pub returns-then-not-selects_some-clause-rows : goal.returns-then-not-selects_some-clause-rows
returns-then-not-selects_some-clause-rows c =
    let none : selects_some c.args.mask.now ≡ false = sym c.selects_some.ensures ∙ (search rules) in
    c.in_ok-empty_at.ensures.rows ∙ sym (none_count c.args.mask.now none)

pub returns-then-not-selects_some-clause-values : goal.returns-then-not-selects_some-clause-values
returns-then-not-selects_some-clause-values c =
    let none : selects_some c.args.mask.now ≡ false = sym c.selects_some.ensures ∙ (search rules) in
    leaf_none (tree_head c.args.tree.now c.args.node) c.args.segment c.args.coding c.args.bytes.now c.args.start c.args.mask.now _ (none_rows c.args.start c.args.mask.now none) c.in_ok-empty_at.ensures.rows
