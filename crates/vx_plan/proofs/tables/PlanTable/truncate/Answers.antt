use Rattle.std.proofs.Common.{map, take, sym, ap, ◌∙◌}
use Rattle.std.proofs.lemmas.List.{take-map}
use Rattle.vx_plan.specs.Nodes.{node_data}
use Rattle.vx_plan.proofs.Shortening.{truncated_good}
use Rattle.vx_plan.proofs.tables.PlanTable.truncate.Goals as goal

pub invariant_of-self : goal.invariant_of-self
invariant_of-self c = truncated_good c.self.inside.nodes.items c.truncate.new.self.items c.args.count c.truncate.ensures.items c.self.invariant

pub returns : goal.returns
returns c = record { left = ap (map node_data) c.truncate.ensures.items ∙ sym (take-map node_data c.args.count c.self.inside.nodes.items) ∙ ap (take c.args.count) c.self.view_is }
