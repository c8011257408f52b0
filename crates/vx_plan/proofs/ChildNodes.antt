-- The nodes of children.
use Rattle.std.proofs.Common.{◌≡◌, ℕ, ◌<◌, List, Option, Some, length, subst}
use Rattle.std.specs.Prelude.{IfSome}
use Rattle.std.specs.List.{slice_get}
use Rattle.std.proofs.lemmas.List.{length-map}
use Rattle.std.proofs.lemmas.Option.{slice_get-get_or}
use Rattle.vx_plan.specs.Nodes.{Node, absent}
use Rattle.vx_plan.specs.Rules.{node_at, nodes_at}
use Rattle.vx_plan.specs.Tables.{IsGoodNode, IsGoodTable}
use Rattle.vx_plan.proofs.Each.{each_at}

pub count_at : (nodes : List Node) (children : List ℕ) → length (nodes_at nodes children) ≡ length children
count_at nodes children = length-map children (node_at nodes)

-- a child is lower than its plan
pub child_lower : (nodes : List Node) → IsGoodTable nodes → (n place child : ℕ) → slice_get (node_at nodes n).children place ≡ Some child → n < length nodes → child < n
child_lower nodes good n place child at known =
    let here : IsGoodNode nodes n (node_at nodes n) = subst (λ (o : Option Node). IfSome o (IsGoodNode nodes n)) (slice_get-get_or nodes n absent known) (good n) in
    each_at (λ (child : ℕ). child < n) (node_at nodes n).children place child at here.below
