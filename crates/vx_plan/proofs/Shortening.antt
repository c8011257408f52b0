-- A good table stays good when its last plans are taken away: the others have their children in front of them.
use Rattle.std.proofs.Common.{◌≡◌, ℕ, ◌<◌, ◌≤◌, List, ◌++◌, Option, Some, None, length, map, take, drop, refl, sym, ap, ◌∙◌, subst, arith}
use Rattle.std.specs.Prelude.{IfSome}
use Rattle.std.specs.List.{slice_get}
use Rattle.std.proofs.lemmas.List.{length-take, take-append-drop, take-map}
use Rattle.std.proofs.lemmas.Option.{slice_get_within}
use Rattle.vx_plan.specs.declared.nodes.PlanNode.{PlanNode}
use Rattle.vx_plan.specs.Limits.{most_plans}
use Rattle.vx_plan.specs.Nodes.{Node, node_data}
use Rattle.vx_plan.specs.Rules.{nodes_at, IsMade, KeepsRules}
use Rattle.vx_plan.specs.Tables.{IsGoodNode, IsGoodTable}
use Rattle.vx_plan.proofs.Growing.{below_known, get_in_front, nodes_stay}

good_at_front : (front rest : List Node) → IsGoodTable (front ++ rest) → (n : ℕ) (o : Option Node) → slice_get front n ≡ o → IfSome o (IsGoodNode front n)
good_at_front front rest good n None at = tt
good_at_front front rest good n (Some node) at =
    let lt : n < length front = slice_get_within front n node at in
    let here : IsGoodNode (front ++ rest) n node = subst (λ (o : Option Node). IfSome o (IsGoodNode (front ++ rest) n)) (get_in_front front rest n lt ∙ at) (good n) in
    let same : nodes_at (front ++ rest) node.children ≡ nodes_at front node.children = nodes_stay front rest node.children (below_known front n node.children (omega arith) here.below) in
    record { below = here.below; made = subst (IsMade node) same here.made; kept = subst (KeepsRules node) same here.kept }

pub front_good : (front rest : List Node) → IsGoodTable (front ++ rest) → IsGoodTable front
front_good front rest good n = good_at_front front rest good n (slice_get front n) refl

-- the nodes that a table holds, without the last of them
pub truncated_good : (xs ys : List PlanNode) (count : ℕ) → ys ≡ take count xs → IsGoodTable (map node_data xs) × (length xs ≤ most_plans) → IsGoodTable (map node_data ys) × (length ys ≤ most_plans)
truncated_good xs ys count left good =
    let e : take count (map node_data xs) ≡ map node_data ys = take-map node_data count xs ∙ ap (map node_data) (sym left) in (
      subst IsGoodTable e (front_good (take count (map node_data xs)) (drop count (map node_data xs)) (subst IsGoodTable (sym (take-append-drop count (map node_data xs))) good.0)),
      omega (arith, ap length left, length-take count xs, good.1),
    )
