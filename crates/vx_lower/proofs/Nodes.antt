-- Nodes that stand for trees of a kind: what is known of them, and what may be lowered next.
use Rattle.std.proofs.Common.{◌≡◌, ℕ, ◌+◌, ◌<◌, ◌≤◌, ◌^◌, List, [], ◌∷◌, ◌++◌, Option, Some, None, length, get_or, take, drop, refl, sym, ap, ◌∙◌, subst, arith}
use Rattle.std.specs.Prelude.{IfOk, IsSomeAnd, Result, Ok, Err}
use Rattle.std.specs.List.{slice_get}
use Rattle.std.proofs.lemmas.List.{map-append, take_more, take-append-drop}
use Rattle.std.proofs.lemmas.List.Elements.{All-cons, All-head, All-nil, All-tail}
use Rattle.vx_layout.specs.declared.rules.ShapeRule.TheVariants.{FewRows}
use Rattle.vx_layout.specs.Kept.{KeptFields}
use Rattle.vx_layout.specs.Nodes.{Node}
use Rattle.vx_layout.specs.Shape.{most_rows, HasFewRows, IsGoodTree, IsLater}
use Rattle.vx_layout.specs.Sound.{IsSound}
use Rattle.vx_rows.specs.Heads.{Head}
use Rattle.vx_layout.specs.Trees.{Tree, head_at, subtree}
use Rattle.vx_layout.proofs.Ruled.{good_sound}
use Rattle.vx_layout.proofs.Unfolding.{HaveLaterChildren, good_later, head_of_subtree}
use Rattle.vx_plan.specs.Nodes.{Node as PlanNode}
use Rattle.vx_plan.specs.Plans.{Plan}
use Rattle.vx_lower.specs.Lowered.{lowered}
use Rattle.vx_lower.specs.NodeParts.{tree_head, lowered_each, AreLater, CanLower, CanLowerEach, IsOver}
use Rattle.vx_lower.specs.Numbered.{list_size, AddsPlan, AddsPlans}
use Rattle.vx_lower.specs.Sizes.{plan_size}
use Rattle.vx_lower.proofs.Appending.{next_added, size_append}
use Rattle.vx_plan.specs.Limits.{most_plans}

pub if_ok : {X E : Type 0} (P Q : X → Type 0) → ((x : X) → P x → Q x) → (r : Result X E) → IfOk r P → IfOk r Q
if_ok P Q f (Ok x) h = f x h
if_ok P Q f (Err e) h = tt

pub sound_as : (nodes : List Node) (n : ℕ) (t : Tree) (ns : List ℕ) → IsGoodTree nodes → n < length nodes → IsOver nodes n t ns → IsSound t
sound_as nodes n t ns good lt over = subst IsSound over.tree (good_sound nodes good n lt)

few_by : (nodes : List Node) → HaveLaterChildren nodes → (n : ℕ) (o : Option Node) → slice_get nodes n ≡ o → IsSomeAnd o HasFewRows → (tree_head nodes n).rows ≤ most_rows
few_by nodes later n None at few = absurd few
few_by nodes later n (Some node) at few = subst (λ (head : Head). head.rows ≤ most_rows) (sym (head_of_subtree nodes later n node at)) few

pub few_rows : (nodes : List Node) → IsGoodTree nodes → (n : ℕ) → n < length nodes → (tree_head nodes n).rows < 2 ^ 64
few_rows nodes good n lt = let few : (tree_head nodes n).rows ≤ most_rows = few_by nodes (good_later nodes good) n (slice_get nodes n) refl (good.kept FewRows n lt) in omega arith

-- the head of a node that the tree has
pub node_head : (nodes : List Node) → IsGoodTree nodes → (n : ℕ) (node : Node) → slice_get nodes n ≡ Some node → head_at n node ≡ tree_head nodes n
node_head nodes good n node at = sym (head_of_subtree nodes (good_later nodes good) n node at)

-- ---- children in a row

pub each_can : (nodes : List Node) (n : ℕ) (kept : KeptFields) (table : List PlanNode) (t : Tree) (ns : List ℕ) → CanLower nodes n kept table → IsOver nodes n t ns → plan_size (lowered t kept) ≡ 1 + list_size (lowered_each nodes kept ns) → CanLowerEach nodes n ns kept table
each_can nodes n kept table t ns can over size =
    let e : plan_size (lowered (subtree nodes n) kept) ≡ plan_size (lowered t kept) = ap (λ (t : Tree). plan_size (lowered t kept)) over.tree in
    record { tree = can.tree; later = over.later; room = omega (arith, can.room); good = can.good }

pub each_append : (nodes : List Node) (kept : KeptFields) (xs ys : List ℕ) → lowered_each nodes kept (xs ++ ys) ≡ lowered_each nodes kept xs ++ lowered_each nodes kept ys
each_append nodes kept xs ys = map-append (λ n. lowered (subtree nodes n) kept) xs ys

each_more : (nodes : List Node) (kept : KeptFields) (xs : List ℕ) (i : ℕ) → i < length xs → lowered_each nodes kept (take (i + 1) xs) ≡ lowered_each nodes kept (take i xs) ++ lowered (subtree nodes (get_or xs i 0)) kept ∷ []
each_more nodes kept xs i lt = ap (lowered_each nodes kept) (take_more xs i 0 lt) ∙ each_append nodes kept (take i xs) (get_or xs i 0 ∷ [])

size_next : (nodes : List Node) (kept : KeptFields) (xs : List ℕ) (i : ℕ) → i < length xs → list_size (lowered_each nodes kept (take i xs)) + plan_size (lowered (subtree nodes (get_or xs i 0)) kept) ≤ list_size (lowered_each nodes kept xs)
size_next nodes kept xs i lt =
    let a : list_size (lowered_each nodes kept (take (i + 1) xs)) + list_size (lowered_each nodes kept (drop (i + 1) xs)) ≡ list_size (lowered_each nodes kept xs) =
    sym (size_append (lowered_each nodes kept (take (i + 1) xs)) (lowered_each nodes kept (drop (i + 1) xs))) ∙ ap list_size (sym (each_append nodes kept (take (i + 1) xs) (drop (i + 1) xs))) ∙ ap (λ (ns : List ℕ). list_size (lowered_each nodes kept ns)) (take-append-drop (i + 1) xs) in
    let b : list_size (lowered_each nodes kept (take (i + 1) xs)) ≡ list_size (lowered_each nodes kept (take i xs)) + (plan_size (lowered (subtree nodes (get_or xs i 0)) kept) + 0) = ap list_size (each_more nodes kept xs i lt) ∙ size_append (lowered_each nodes kept (take i xs)) (lowered (subtree nodes (get_or xs i 0)) kept ∷ []) in
    omega arith

-- the child at a place, once those before it are lowered
pub place_can : (nodes : List Node) (n : ℕ) (ns : List ℕ) (kept : KeptFields) (old table : List PlanNode) (i : ℕ) (numbers : List ℕ) → CanLowerEach nodes n ns kept old → i < length ns → AddsPlans old table (lowered_each nodes kept (take i ns)) numbers → CanLower nodes (get_or ns i 0) kept table
place_can nodes n ns kept old table i numbers can lt adds = record {
  tree = can.tree;
  known = (can.later i 0 lt).1;
  room = omega (arith, can.room, adds.count, size_next nodes kept ns i lt);
  good = adds.good;
}

pub place_added : (nodes : List Node) (ns : List ℕ) (kept : KeptFields) (old table new : List PlanNode) (i : ℕ) (numbers : List ℕ) (k : ℕ) → i < length ns → AddsPlans old table (lowered_each nodes kept (take i ns)) numbers → AddsPlan table new (lowered (subtree nodes (get_or ns i 0)) kept) k → AddsPlans old new (lowered_each nodes kept (take (i + 1) ns)) (numbers ++ k ∷ [])
place_added nodes ns kept old table new i numbers k lt adds here =
    subst (λ (ps : List Plan). AddsPlans old new ps (numbers ++ k ∷ [])) (sym (each_more nodes kept ns i lt)) (next_added old table new (lowered_each nodes kept (take i ns)) numbers (lowered (subtree nodes (get_or ns i 0)) kept) k adds here)

-- the first child, and the others after it
pub first_can : (nodes : List Node) (n m : ℕ) (ns : List ℕ) (kept : KeptFields) (table : List PlanNode) → CanLowerEach nodes n (m ∷ ns) kept table → CanLower nodes m kept table
first_can nodes n m ns kept table can = record {
  tree = can.tree;
  known = (All-head (IsLater nodes n) m ns can.later).1;
  room = omega (arith, can.room);
  good = can.good;
}

pub first_later : (nodes : List Node) (n m : ℕ) (ns : List ℕ) (kept : KeptFields) (table : List PlanNode) → CanLowerEach nodes n (m ∷ ns) kept table → (n < m) × (m < length nodes)
first_later nodes n m ns kept table can = All-head (IsLater nodes n) m ns can.later

pub rest_can : (nodes : List Node) (n m : ℕ) (ns : List ℕ) (kept : KeptFields) (table new : List PlanNode) (k : ℕ) → CanLowerEach nodes n (m ∷ ns) kept table → AddsPlan table new (lowered (subtree nodes m) kept) k → CanLowerEach nodes n ns kept new
rest_can nodes n m ns kept table new k can adds = record {
  tree = can.tree;
  later = All-tail (IsLater nodes n) m ns can.later;
  room = omega (arith, can.room, adds.count);
  good = adds.good;
}

-- those in front, and then those behind
pub later_front : (nodes : List Node) (n : ℕ) (ns ms : List ℕ) → AreLater nodes n (ns ++ ms) → AreLater nodes n ns × AreLater nodes n ms
later_front nodes n [] ms later = (All-nil (IsLater nodes n), later)
later_front nodes n (m ∷ ns) ms later =
    let rest : AreLater nodes n ns × AreLater nodes n ms = later_front nodes n ns ms (All-tail (IsLater nodes n) m (ns ++ ms) later) in
    (All-cons (IsLater nodes n) m ns (All-head (IsLater nodes n) m (ns ++ ms) later) rest.0, rest.1)

pub front_can : (nodes : List Node) (n : ℕ) (ns ms : List ℕ) (kept : KeptFields) (table : List PlanNode) → CanLowerEach nodes n (ns ++ ms) kept table → CanLowerEach nodes n ns kept table
front_can nodes n ns ms kept table can =
    let size : list_size (lowered_each nodes kept (ns ++ ms)) ≡ list_size (lowered_each nodes kept ns) + list_size (lowered_each nodes kept ms) = ap list_size (each_append nodes kept ns ms) ∙ size_append (lowered_each nodes kept ns) (lowered_each nodes kept ms) in
    record { tree = can.tree; later = (later_front nodes n ns ms can.later).0; room = omega (arith, can.room); good = can.good }

pub back_can : (nodes : List Node) (n : ℕ) (ns ms : List ℕ) (kept : KeptFields) (table new : List PlanNode) (numbers : List ℕ) → CanLowerEach nodes n (ns ++ ms) kept table → AddsPlans table new (lowered_each nodes kept ns) numbers → CanLowerEach nodes n ms kept new
back_can nodes n ns ms kept table new numbers can adds =
    let size : list_size (lowered_each nodes kept (ns ++ ms)) ≡ list_size (lowered_each nodes kept ns) + list_size (lowered_each nodes kept ms) = ap list_size (each_append nodes kept ns ms) ∙ size_append (lowered_each nodes kept ns) (lowered_each nodes kept ms) in
    record { tree = can.tree; later = (later_front nodes n ns ms can.later).1; room = omega (arith, can.room, adds.count); good = adds.good }

-- once all of them are lowered there is room for one more plan
pub room_over : (nodes : List Node) (n : ℕ) (ns : List ℕ) (kept : KeptFields) (table new : List PlanNode) (numbers : List ℕ) → CanLowerEach nodes n ns kept table → AddsPlans table new (lowered_each nodes kept ns) numbers → length new < most_plans
room_over nodes n ns kept table new numbers can adds = omega (arith, can.room, adds.count)
