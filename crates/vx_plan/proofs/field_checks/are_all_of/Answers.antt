use Rattle.std.proofs.Common.{◌≡◌, List, map, refl, sym, ◌∙◌, arith}
use Rattle.std.proofs.lemmas.List.{length-map}
use Rattle.vx_base.specs.Views.{data_type}
use Rattle.vx_plan.specs.Nodes.{Node, node_data}
use Rattle.vx_plan.specs.Rules.{node_at, nodes_at}
use Rattle.vx_plan.proofs.Each.{each_next}
use Rattle.vx_rows.proofs.Each.{each_passed}
use Rattle.vx_plan.proofs.field_checks.are_all_of.Goals as goal

pub loop-place-preserved : goal.loop-place-preserved
loop-place-preserved c =
    each_next (λ (child : Node). child.dtype ≡ data_type c.args.dtype.now) (nodes_at (map node_data c.args.nodes.now) c.args.children.now) c.loop-place.place (node_data c.child_at.result.now) c.child_at.ensures c.loop-place.invariant (sym c.dtype.ensures ∙ c.if-not-same.ensures.0 refl)

pub returns : goal.returns
returns c =
    let below : List Node = nodes_at (map node_data c.args.nodes.now) c.args.children.now in
    (λ t. each_passed (λ (child : Node). child.dtype ≡ data_type c.args.dtype.now) below c.loop-place.place (omega (arith, length-map c.args.children.now (node_at (map node_data c.args.nodes.now)), c.loop-place-test.false)) c.loop-place.invariant, λ h. refl)
