use Rattle.std.proofs.Common.{◌≡◌, Some, refl}
use Rattle.vx_expr.specs.Types.{type_of}
use Rattle.vx_layout.specs.Kept.{kept_data}
use Rattle.vx_layout.specs.Trees.{head_of, subtree}
use Rattle.vx_plan.specs.Refs.{number_of}
use Rattle.vx_scan.specs.PlanTexts.{projection_of}
use Rattle.vx_scan.proofs.FilePlanning.{bound_typed, child_typed, holds_tree, planned_for, HoldsTree}
use Rattle.vx_scan.proofs.file_plans.plan_layout.Goals as goal

pub plan_projection-requires-clause-typed : goal.plan_projection-requires-clause-typed
plan_projection-requires-clause-typed c =
    let made = c.in_ok-table.ensures {u = tt} in
    let holds : HoldsTree (projection_of c.args.layout.now c.args.projection.now) c.in_ok-table.field-0.table (number_of c.in_ok-table.field-0.root) =
    holds_tree c.args.layout.now c.args.projection.now (kept_data c.in_ok-kept.kept) c.in_ok-table.field-0.table (number_of c.in_ok-table.field-0.root) c.keeps_rules.ensures.good (c.in_ok-kept.ensures {u = tt}) made.good made.root made.plan made.dtype made.rows made.unnumbered in
    let own : type_of (head_of (subtree c.args.layout.now 0)).dtype c.args.projection.now.term ≡ Some c.args.projection.now.dtype =
    bound_typed c.args.projection.now (head_of (subtree c.args.layout.now 0)).dtype c.dtype-dtype.ensures.bound c.requires.bound in
    child_typed (projection_of c.args.layout.now c.args.projection.now) c.in_ok-table.field-0.table (number_of c.in_ok-table.field-0.root) holds own

pub returns : goal.returns
returns c =
    let made = c.in_ok-table.ensures {u = tt} in
    let holds : HoldsTree (projection_of c.args.layout.now c.args.projection.now) c.in_ok-table.field-0.table (number_of c.in_ok-table.field-0.root) =
    holds_tree c.args.layout.now c.args.projection.now (kept_data c.in_ok-kept.kept) c.in_ok-table.field-0.table (number_of c.in_ok-table.field-0.root) c.keeps_rules.ensures.good (c.in_ok-kept.ensures {u = tt}) made.good made.root made.plan made.dtype made.rows made.unnumbered in
    planned_for (projection_of c.args.layout.now c.args.projection.now) c.args.layout.now c.in_ok-table.field-0.table c.plan_projection.new.table (number_of c.in_ok-table.field-0.root) (number_of c.in_ok-root.root)
    c.keeps_rules.ensures.good refl c.dtype-dtype.ensures.bound c.requires.bound holds (c.in_ok-root.ensures {u = tt})
