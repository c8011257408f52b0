use Rattle.std.proofs.Common.{sym, subst}
use Rattle.std.specs.Arc.{arc_value}
use Rattle.vx_base.specs.Views.{data_type}
use Rattle.vx_plan.specs.declared.children.PlanRef.{PlanRef}
use Rattle.vx_plan.specs.Refs.{number_of}
use Rattle.vx_plan.specs.Rules.{filter_node}
use Rattle.vx_plan.specs.Tables.{IsAdded}
use Rattle.vx_lower.proofs.Made.{leaf_adds}
use Rattle.vx_lower.proofs.adding.add_leaf.Goals as goal

pub returns-in-Ok : goal.returns-in-Ok
returns-in-Ok c = λ head dtype rows.
    leaf_adds c.args.table.now c.add_scan.new.table c.new.new.table (data_type (arc_value c.args.dtype)) c.args.row_count c.args.segment c.args.coding (number_of c.in_ok-scan.scan) (number_of c.into_plan.result) head c.requires.good c.in_ok-scan.ensures
    (subst (λ (plan : PlanRef). IsAdded c.add_scan.new.table c.new.new.table (filter_node c.add_scan.new.table (number_of c.in_ok-scan.scan)) (number_of plan)) (sym c.into_plan.ensures) c.in-Ok.ensures.added) dtype rows
