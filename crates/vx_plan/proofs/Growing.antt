-- A table that grows keeps its plans.
use Rattle.std.proofs.Common.{◌≡◌, ℕ, zero, suc, ◌<◌, ◌≤◌, ⊎_elim, List, [], ◌∷◌, ◌++◌, Option, Some, None, length, map, refl, sym, ap, ◌∙◌, subst, arith, length-append}
use Rattle.std.specs.Prelude.{IfSome}
use Rattle.std.specs.List.{slice_get, All}
use Rattle.std.proofs.lemmas.Bool.{cases_lt}
use Rattle.std.proofs.lemmas.List.{get_or_append_left, length-map, map-append}
use Rattle.std.proofs.lemmas.List.Elements.{All-head, All-tail, All-weaker}
use Rattle.vx_plan.specs.declared.nodes.PlanNode.{PlanNode}
use Rattle.vx_plan.specs.Limits.{most_plans}
use Rattle.vx_plan.specs.Nodes.{Node, node_data, absent}
use Rattle.vx_plan.specs.Rules.{node_at, nodes_at, IsMade, KeepsRules}
use Rattle.vx_plan.specs.Tables.{AreIn, IsAdded, IsGoodNode, IsGoodTable}

pub nodes_stay : (nodes more : List Node) (children : List ℕ) → AreIn nodes children → nodes_at (nodes ++ more) children ≡ nodes_at nodes children
nodes_stay nodes more [] known = refl
nodes_stay nodes more (child ∷ children) known =
    let p : node_at (nodes ++ more) child ≡ node_at nodes child = get_or_append_left nodes more absent child (All-head (λ number. number < length nodes) child children known) in
    let q : nodes_at (nodes ++ more) children ≡ nodes_at nodes children = nodes_stay nodes more children (All-tail (λ number. number < length nodes) child children known) in
    cc

pub below_known : (nodes : List Node) (number : ℕ) (children : List ℕ) → number ≤ length nodes → All (λ child. child < number) children → AreIn nodes children
below_known nodes number children le below = All-weaker (λ child. child < number) (λ child. child < length nodes) (λ child lt. omega arith) children below

node_stays_good : (nodes more : List Node) (number : ℕ) (node : Node) → number ≤ length nodes → IsGoodNode nodes number node → IsGoodNode (nodes ++ more) number node
node_stays_good nodes more number node le good =
    let same : nodes_at nodes node.children ≡ nodes_at (nodes ++ more) node.children = sym (nodes_stay nodes more node.children (below_known nodes number node.children le good.below)) in
    record { below = good.below; made = subst (IsMade node) same good.made; kept = subst (KeepsRules node) same good.kept }

if_some_good : (nodes more : List Node) (number : ℕ) (o : Option Node) → number ≤ length nodes → IfSome o (IsGoodNode nodes number) → IfSome o (IsGoodNode (nodes ++ more) number)
if_some_good nodes more number None le good = tt
if_some_good nodes more number (Some node) le good = node_stays_good nodes more number node le good

pub get_in_front : {X : Type 0} (nodes more : List X) (n : ℕ) → n < length nodes → slice_get (nodes ++ more) n ≡ slice_get nodes n
get_in_front [] more n lt = absurd (omega arith)
get_in_front (node ∷ nodes) more zero lt = refl
get_in_front (node ∷ nodes) more (suc n) lt = get_in_front nodes more n (omega arith)

pub get_at_seam : {X : Type 0} (nodes more : List X) (node : X) (n : ℕ) → n ≡ length nodes → slice_get (nodes ++ node ∷ more) n ≡ Some node
get_at_seam [] more node zero e = refl
get_at_seam [] more node (suc n) e = absurd (omega arith)
get_at_seam (one ∷ nodes) more node zero e = absurd (omega arith)
get_at_seam (one ∷ nodes) more node (suc n) e = get_at_seam nodes more node n (omega arith)

get_past_seam : (nodes : List Node) (node : Node) (n : ℕ) → length nodes < n → slice_get (nodes ++ node ∷ []) n ≡ None
get_past_seam [] node zero lt = absurd (omega arith)
get_past_seam [] node (suc n) lt = refl
get_past_seam (one ∷ nodes) node zero lt = absurd (omega arith)
get_past_seam (one ∷ nodes) node (suc n) lt = get_past_seam nodes node n (omega arith)

pub good_more : (nodes : List Node) (node : Node) → IsGoodTable nodes → IsGoodNode nodes (length nodes) node → IsGoodTable (nodes ++ node ∷ [])
good_more nodes node good here number =
    let Good : Option Node → Type 0 = λ (o : Option Node). IfSome o (IsGoodNode (nodes ++ node ∷ []) number) in
    let Here : ℕ → Type 0 = λ (n : ℕ). IsGoodNode (nodes ++ node ∷ []) n node in
    ⊎_elim
    (λ (lt : number < length nodes). subst Good (sym (get_in_front nodes (node ∷ []) number lt)) (if_some_good nodes (node ∷ []) number (slice_get nodes number) (omega arith) (good number)))
    (λ (le : length nodes ≤ number). ⊎_elim
    (λ (past : length nodes < number). subst Good (sym (get_past_seam nodes node number past)) tt)
    (λ (last : number ≤ length nodes). let e : number ≡ length nodes = omega arith in
    subst Good (sym (get_at_seam nodes [] node number e)) (subst Here (sym e) (node_stays_good nodes (node ∷ []) (length nodes) node (omega arith) here)))
    (cases_lt (length nodes) number))
    (cases_lt number (length nodes))

-- the nodes that a table holds, with one more
pub pushed_good : (xs ys : List PlanNode) (node : PlanNode) (slice : List PlanNode) (nodes : List Node) → ys ≡ xs ++ node ∷ [] → slice ≡ xs → nodes ≡ map node_data xs → IsGoodTable (map node_data xs) → length nodes < most_plans → AreIn nodes node.children → IsMade (node_data node) (nodes_at nodes node.children) → KeepsRules (node_data node) (nodes_at (map node_data slice) node.children) → IsGoodTable (map node_data ys) × (length ys ≤ most_plans)
pushed_good xs ys node slice nodes pushed same seen good room known made kept =
    let Known : List Node → Type 0 = λ (ns : List Node). AreIn ns node.children in
    let Made : List Node → Type 0 = λ (ns : List Node). IsMade (node_data node) (nodes_at ns node.children) in
    let Kept : List PlanNode → Type 0 = λ (ps : List PlanNode). KeepsRules (node_data node) (nodes_at (map node_data ps) node.children) in
    let here : IsGoodNode (map node_data xs) (length (map node_data xs)) (node_data node) = record { below = subst Known seen known; made = subst Made seen made; kept = subst Kept same kept } in
    let e : map node_data ys ≡ map node_data xs ++ node_data node ∷ [] = ap (map node_data) pushed ∙ map-append node_data xs (node ∷ []) in
    (subst IsGoodTable (sym e) (good_more (map node_data xs) (node_data node) good here), omega (arith, ap length pushed, length-append xs (node ∷ []), ap length seen, length-map xs node_data))

-- a new plan, as the table's nodes before and after say it
pub pushed_added : (xs ys : List PlanNode) (node : PlanNode) (slice : List PlanNode) (nodes : List Node) (number : ℕ) → ys ≡ xs ++ node ∷ [] → slice ≡ xs → nodes ≡ map node_data xs → number ≡ length xs → IsGoodTable (map node_data ys) → KeepsRules (node_data node) (nodes_at (map node_data slice) node.children) → IsAdded nodes (map node_data ys) (node_data node) number
pushed_added xs ys node slice nodes number pushed same seen last good kept =
    let e : map node_data ys ≡ map node_data xs ++ node_data node ∷ [] = ap (map node_data) pushed ∙ map-append node_data xs (node ∷ []) in
    let Kept : List Node → Type 0 = λ (ns : List Node). KeepsRules (node_data node) (nodes_at ns node.children) in
    let f : map node_data slice ≡ nodes = ap (map node_data) same ∙ sym seen in
    record {
      appended = e ∙ ap (λ (ns : List Node). ns ++ node_data node ∷ []) (sym seen);
      last = last ∙ sym (length-map xs node_data) ∙ ap length (sym seen);
      kept = subst Kept f kept;
      good = good;
    }
