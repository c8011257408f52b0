use Rattle.std.proofs.Common.{sym, ap, ◌∙◌}
use Rattle.std.proofs.lemmas.Option.{get_or_from_slice_get}
use Rattle.vx_plan.specs.Kinds.{validity_of}
use Rattle.vx_plan.specs.Nodes.{node_data, absent}
use Rattle.vx_plan.specs.Refs.{number_of}
use Rattle.vx_plan.proofs.Validities.{validity_given}
use Rattle.vx_plan.proofs.tables.PlanTable.validity.Goals as goal

pub returns-clause-given : goal.returns-clause-given
returns-clause-given c =
    validity_given c.args.self.now c.node.ensures.good (number_of c.args.plan) c.requires c.last_validity.result
    (c.last_validity.ensures ∙ sym (ap validity_of (get_or_from_slice_get c.args.self.now (number_of c.args.plan) (node_data c.node.result.now) absent c.node.ensures.at)))
