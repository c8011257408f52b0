use Rattle.std.proofs.Common.{arith, ◌≡◌, Some, None, length, sym, ap, ◌∙◌}
use Rattle.vx_base.specs.Columns.{ColumnData}
use Rattle.vx_picking.proofs.SelectedRows.{picked_count}
use Rattle.vx_plan.specs.Rules.{node_at}
use Rattle.vx_steps.specs.Held.{held}
use Rattle.vx_steps.proofs.ComputedRows.{leaf_computed}
use Rattle.vx_steps.proofs.Readying.{ready_leaf}
use Rattle.vx_steps.proofs.Shaping.{leaf_plan}
use Rattle.vx_steps.proofs.childless.leaf_of.Goals as goal

some_none : (x : ColumnData) → Some x ≡ None → ⊥
some_none x h = cc

pub unreachable-requires : goal.unreachable-requires
unreachable-requires c =
    let leaf = c.requires.leaf in
    let k = ready_leaf (held c.args.from) c.args.plan leaf.0 c.args.start c.args.mask.now (leaf_plan c.args.from.table.now c.args.plan leaf.0 c.requires.known leaf.1) c.requires.some c.requires.ready in
    some_none k.0 (sym k.1 ∙ sym c.in-None.ensures)

pub returns-clause-rows : goal.returns-clause-rows
returns-clause-rows c =
    let typed = c.requires.held.leaves c.args.plan c.in-Some.column.now (sym c.in-Some.ensures) in
    let long : length c.in-Some.column.now.values ≡ (node_at c.args.from.table.now c.args.plan).rows = typed.1 in
    ap length c.in_ok-picked-in-Some.ensures.values ∙ picked_count c.in-Some.column.now.values c.args.start c.args.mask.now (omega arith)

pub returns-clause-computed : goal.returns-clause-computed
returns-clause-computed c =
    let leaf = c.requires.leaf in
    let typed = c.requires.held.leaves c.args.plan c.in-Some.column.now (sym c.in-Some.ensures) in
    let long : length c.in-Some.column.now.values ≡ (node_at c.args.from.table.now c.args.plan).rows = typed.1 in
    leaf_computed (held c.args.from) c.args.plan leaf.0 c.args.start c.args.mask.now c.in-Some.column.now c.in_ok-picked-in-Some.field-0 (leaf_plan c.args.from.table.now c.args.plan leaf.0 c.requires.known leaf.1) leaf.1 (sym c.in-Some.ensures) (omega arith) c.in_ok-picked-in-Some.ensures.values
