-- The plan of a node is the node's, grown over the plans of its children, and stays so when others are appended.
use Rattle.std.proofs.Common.{◌≡◌, ℕ, zero, suc, ◌<◌, ◌≤◌, List, [], ◌∷◌, Option, Some, None, map, get_or, refl, ap, ◌∙◌, subst, arith}
use Rattle.std.specs.Prelude.{IfSome}
use Rattle.std.specs.List.{slice_get, All}
use Rattle.std.proofs.lemmas.List.Elements.{All-head, All-tail}
use Rattle.vx_plan.specs.Nodes.{Node}
use Rattle.vx_plan.specs.declared.nodes.PlanKind.{PlanKind}
use Rattle.vx_plan.specs.Plans.{Plan, head_at, plan_grown_as, plan_grown, plan_grow, plan_at}
use Rattle.vx_plan.specs.Tables.{IsGoodNode, IsGoodTable}
use Rattle.vx_rows.proofs.Each.{if_some_weaker}

-- the children of each plan have lesser numbers than the plan
abbrev pub HaveEarlier : List Node → Type 0
HaveEarlier nodes = (n : ℕ) → IfSome (slice_get nodes n) (λ node. All (λ child. child < n) node.children)

abbrev Same : (ℕ → Plan) → (ℕ → Plan) → List ℕ → Type 0
Same f g ns = All (λ n. f n ≡ g n) ns

children_same : (f g : ℕ → Plan) (ns : List ℕ) → Same f g ns → map f ns ≡ map g ns
children_same f g [] h = refl
children_same f g (n ∷ ns) h =
    let p : f n ≡ g n = All-head (λ n. f n ≡ g n) n ns h in
    let q : map f ns ≡ map g ns = children_same f g ns (All-tail (λ n. f n ≡ g n) n ns h) in
    cc

grown_same : (f g : ℕ → Plan) (n : ℕ) (o : Option Node) → IfSome o (λ node. Same f g node.children) → plan_grown f n o ≡ plan_grown g n o
grown_same f g n None h = refl
grown_same f g n (Some node) h = ap (plan_grown_as (head_at n node) node.kind) (children_same f g node.children h)

-- two lists that have the same node at each number up to one have the same plan there, whatever levels above
-- its number are asked for
pub grow_same : (ones others : List Node) → HaveEarlier ones → (s t n : ℕ) → n < s → n < t → ((m : ℕ) → m ≤ n → slice_get ones m ≡ slice_get others m) → plan_grow s ones n ≡ plan_grow t others n
unfolding plan_grow
grow_same ones others earlier zero t n h k same = absurd (omega arith)
grow_same ones others earlier (suc s) zero n h k same = absurd (omega arith)
grow_same ones others earlier (suc s) (suc t) n h k same =
    grown_same (plan_grow s ones) (plan_grow t others) n (slice_get ones n)
    (if_some_weaker (λ node. All (λ child. child < n) node.children) (λ node. Same (plan_grow s ones) (plan_grow t others) node.children)
    (λ node each i d lt.
    let below : get_or node.children i d < n = each i d lt in
    grow_same ones others earlier s t (get_or node.children i d) (omega arith) (omega arith) (λ m le. same m (omega arith)))
    (slice_get ones n) (earlier n))
    ∙ ap (plan_grown (plan_grow t others) n) (same n (omega arith))

pub plan_unfolds : (nodes : List Node) → HaveEarlier nodes → (n : ℕ) → plan_at nodes n ≡ plan_grown (plan_at nodes) n (slice_get nodes n)
unfolding plan_grow
plan_unfolds nodes earlier n =
    grown_same (plan_grow n nodes) (plan_at nodes) n (slice_get nodes n)
    (if_some_weaker (λ node. All (λ child. child < n) node.children) (λ node. Same (plan_grow n nodes) (plan_at nodes) node.children)
    (λ node each i d lt.
    let below : get_or node.children i d < n = each i d lt in
    grow_same nodes nodes earlier n (suc (get_or node.children i d)) (get_or node.children i d) below (omega arith) (λ m le. refl))
    (slice_get nodes n) (earlier n))

pub have_earlier : (nodes : List Node) → IsGoodTable nodes → HaveEarlier nodes
have_earlier nodes good n = if_some_weaker (IsGoodNode nodes n) (λ (node : Node). All (λ child. child < n) node.children) (λ node here. here.below) (slice_get nodes n) (good n)

abbrev GoodAt : List Node → ℕ → Option Node → Type 0
GoodAt nodes n o = IfSome o (IsGoodNode nodes n)

-- the plan of a node, whose kind is known
pub record Known (nodes : List Node) (n : ℕ) (node : Node) (kind : PlanKind) : Type 0 where
  pub law : plan_at nodes n ≡ plan_grown_as (head_at n node) kind (map (plan_at nodes) node.children)
  pub good : IsGoodNode nodes n node

pub known : (nodes : List Node) → IsGoodTable nodes → (n : ℕ) (node : Node) (kind : PlanKind) → slice_get nodes n ≡ Some node → node.kind ≡ kind → Known nodes n node kind
known nodes good n node kind at is = record {
  law = plan_unfolds nodes (have_earlier nodes good) n ∙ ap (plan_grown (plan_at nodes) n) at ∙ ap (λ (k : PlanKind). plan_grown_as (head_at n node) k (map (plan_at nodes) node.children)) is;
  good = subst (GoodAt nodes n) at (good n);
}
