use Rattle.std.proofs.Common.{◌≡◌, List, map, refl, arith}
use Rattle.std.proofs.lemmas.List.{length-map}
use Rattle.vx_plan.specs.Nodes.{Node, node_data}
use Rattle.vx_plan.specs.Rules.{node_at, nodes_at}
use Rattle.vx_plan.proofs.Each.{each_next}
use Rattle.vx_rows.proofs.Each.{each_passed}
use Rattle.vx_plan.proofs.field_checks.have_all_rows.Goals as goal

pub loop-place-preserved : goal.loop-place-preserved
loop-place-preserved c =
    each_next (λ (child : Node). child.rows ≡ c.args.rows) (nodes_at (map node_data c.args.nodes.now) c.args.children.now) c.loop-place.place (node_data c.child_at.result.now) c.child_at.ensures c.loop-place.invariant c.if-child_at-rows.false

pub returns : goal.returns
returns c =
    let below : List Node = nodes_at (map node_data c.args.nodes.now) c.args.children.now in
    (λ t. each_passed (λ (child : Node). child.rows ≡ c.args.rows) below c.loop-place.place (omega (arith, length-map c.args.children.now (node_at (map node_data c.args.nodes.now)), c.loop-place-test.false)) c.loop-place.invariant, λ h. refl)
