-- The child of a good tree's node is a later node of the tree.
use Rattle.std.proofs.Common.{◌≡◌, ℕ, zero, suc, ◌<◌, List, [], ◌∷◌, Option, Some, None, length, sym, subst}
use Rattle.std.specs.Prelude.{IfSome, IsSomeAnd, option_and_then}
use Rattle.std.specs.List.{slice_get, All}
use Rattle.std.proofs.lemmas.List.Elements.{All-head, All-tail}
use Rattle.vx_layout.specs.declared.rules.ShapeRule.TheVariants.{LaterChildren}
use Rattle.vx_layout.specs.Nodes.{Node}
use Rattle.vx_layout.specs.Shape.{HasLaterChildren, IsGoodTree, IsLater}

all_at : (P : ℕ → Type 0) (ns : List ℕ) (place : ℕ) → All P ns → IfSome (slice_get ns place) P
all_at P [] place each = tt
all_at P (n ∷ ns) zero each = All-head P n ns each
all_at P (n ∷ ns) (suc place) each = all_at P ns place (All-tail P n ns each)

later_by : (nodes : List Node) (n place : ℕ) (o : Option Node) → IsSomeAnd o (HasLaterChildren nodes n) → IfSome (option_and_then (λ node. slice_get node.children place) o) (IsLater nodes n)
later_by nodes n place None later = tt
later_by nodes n place (Some node) later = all_at (IsLater nodes n) node.children place later

pub later_child : (nodes : List Node) (n place : ℕ) (found : Option ℕ) → IsGoodTree nodes → n < length nodes → found ≡ option_and_then (λ node. slice_get node.children place) (slice_get nodes n) → IfSome found (IsLater nodes n)
later_child nodes n place found good lt is = subst (λ (o : Option ℕ). IfSome o (IsLater nodes n)) (sym is) (later_by nodes n place (slice_get nodes n) (good.kept LaterChildren n lt))

-- all children of a node
pub later_children : (nodes : List Node) (n : ℕ) (node : Node) → IsGoodTree nodes → n < length nodes → slice_get nodes n ≡ Some node → All (IsLater nodes n) node.children
later_children nodes n node good lt at = subst (λ (o : Option Node). IsSomeAnd o (HasLaterChildren nodes n)) at (good.kept LaterChildren n lt)
