use Rattle.std.proofs.Common.{◌≡◌, [], ◌∷◌, refl, sym, ap, ◌∙◌, subst}
use Rattle.vx_plan.specs.Nodes.{Node, node_data}
use Rattle.vx_plan.specs.Refs.{number_of}
use Rattle.vx_plan.specs.Rules.{nodes_at, pruning_node, zones_of_node, node_at, RefusedBy}
use Rattle.vx_plan.specs.Tables.{AreIn}
use Rattle.vx_plan.proofs.PruningNodes.{kept_refused, pruning_keeps, zones_in}
use Rattle.vx_plan.proofs.plan_types.ZonedPlan.with_pruning.Goals as goal

pub add-requires-clause-known : goal.add-requires-clause-known
add-requires-clause-known c =
    let nodes = c.args.table.now in
    let n = number_of c.args.self.plan in
    let same_node : node_data c.in_ok-node-in-Some.node ≡ pruning_node nodes n c.in-Some.proof = c.in_ok-node-in-Some.ensures.node in
    subst (AreIn nodes) (sym (ap (λ (node : Node). node.children) same_node)) (zones_in nodes c.pruning_node.ensures.good n (c.if-is_pruning.ensures.over.0 refl))

pub returns-in-Err-clause-refused : goal.returns-in-Err-clause-refused
returns-in-Err-clause-refused c =
    let nodes = c.args.table.now in
    let n = number_of c.args.self.plan in
    let found = rw c.in-Some.is at c.in_ok-falsify.ensures in
    let same_node : node_data c.in_ok-node-in-Some.node ≡ pruning_node nodes n c.args.predicate.now = c.in_ok-node-in-Some.ensures.node ∙ ap (pruning_node nodes n) found.0 in
    let R : Node → Type 0 = λ node. RefusedBy node (nodes_at nodes node.children) c.in-Err.error in
    kept_refused (pruning_node nodes n c.args.predicate.now) (nodes_at nodes (zones_of_node (node_at nodes n) ∷ [])) c.in-Err.error
    (pruning_keeps nodes c.pruning_node.ensures.good n c.args.predicate.now (record { over = c.if-is_pruning.ensures.over.0 refl; proof = found.1 }) c.requires.bound) (subst R same_node c.in-Err.ensures.refused)
