use Rattle.std.proofs.Common.{◌≡◌, ap, ◌∙◌}
use Rattle.std.specs.List.{slice_get}
use Rattle.std.proofs.lemmas.Option.{get_or_from_slice_get}
use Rattle.vx_plan.specs.Nodes.{Node, node_data, absent}
use Rattle.vx_plan.specs.Refs.{number_of}
use Rattle.vx_plan.specs.Rules.{node_at}
use Rattle.vx_plan.proofs.ChildNodes.{child_lower}
use Rattle.vx_plan.proofs.tables.PlanTable.child_required.Goals as goal

pub returns-clause-lower : goal.returns-clause-lower
returns-clause-lower c =
    let node_is : node_at c.args.self.now (number_of c.args.plan) ≡ node_data c.node.result.now = get_or_from_slice_get c.args.self.now (number_of c.args.plan) (node_data c.node.result.now) absent c.node.ensures.at in
    child_lower c.args.self.now c.node.ensures.good (number_of c.args.plan) c.args.place c.at.result (ap (λ (node : Node). slice_get node.children c.args.place) node_is ∙ c.at.ensures) c.requires.known
