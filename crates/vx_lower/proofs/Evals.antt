-- A dictionary is lowered without the fields that aren't kept to an eval that packs the kept ones.
use Rattle.std.proofs.Common.{◌≡◌, ℕ, ◌<◌, List, [], ◌∷◌, length, sym, ap, ◌∙◌, subst, arith}
use Rattle.vx_base.specs.Data.{DataType}
use Rattle.vx_expr.specs.Bound.{Bound}
use Rattle.vx_expr.specs.Mentions.{uses_row_number}
use Rattle.vx_layout.specs.Kept.{all}
use Rattle.vx_layout.specs.Nodes.{Node}
use Rattle.vx_layout.specs.Trees.{Tree, dict, subtree}
use Rattle.vx_layout.proofs.Ruled.{good_sound}
use Rattle.vx_plan.specs.Nodes.{Node as PlanNode}
use Rattle.vx_plan.specs.Plans.{Plan, eval_plan}
use Rattle.vx_plan.specs.Rules.{eval_node, node_at, nodes_at, KeepsRules}
use Rattle.vx_plan.specs.Tables.{IsAdded}
use Rattle.vx_plan.proofs.Keeping.{eval_keeps}
use Rattle.vx_lower.specs.declared.keeping.Keeping.{Keeping}
use Rattle.vx_lower.specs.Keeping.{bound_pack, kept_of, IsKeeping}
use Rattle.vx_lower.specs.KeptRows.{kept_pack}
use Rattle.vx_lower.specs.Lowered.{lowered, kept_head}
use Rattle.vx_lower.specs.NodeParts.{tree_head, CanLower, IsLookUp}
use Rattle.vx_lower.specs.Numbered.{AddsPlan}
use Rattle.vx_lower.specs.Sizes.{plan_size}
use Rattle.vx_lower.proofs.Appending.{added_like, one_added, AreLike}
use Rattle.vx_lower.proofs.Heads.{lowered_head, IsHeadOf}
use Rattle.vx_lower.proofs.KeptTypes.{pack_numberless}
use Rattle.vx_lower.proofs.Made.{eval_adds}
use Rattle.vx_plan.specs.Limits.{most_plans}

-- the dictionary's plan, by its plan with all fields
eval_is : (nodes : List Node) (n codes values : ℕ) (keeping : Keeping) → IsLookUp nodes n codes values → lowered (subtree nodes n) (kept_of keeping) ≡ eval_plan (kept_head (kept_of keeping) (tree_head nodes n)) (kept_pack (kept_of keeping) (tree_head nodes n).dtype) (lowered (subtree nodes n) all)
eval_is nodes n codes values keeping over =
    let t : Tree = dict (tree_head nodes n) (subtree nodes values) (subtree nodes codes) in
    ap (λ (t : Tree). lowered t (kept_of keeping)) over.tree ∙ ap (λ (p : Plan). eval_plan (kept_head (kept_of keeping) (tree_head nodes n)) (kept_pack (kept_of keeping) (tree_head nodes n).dtype) p) (sym (ap (λ (t : Tree). lowered t all) over.tree))

pub whole_can : (nodes : List Node) (n codes values : ℕ) (keeping : Keeping) (table : List PlanNode) → CanLower nodes n (kept_of keeping) table → IsLookUp nodes n codes values → CanLower nodes n all table
whole_can nodes n codes values keeping table can over =
    let size = ap plan_size (eval_is nodes n codes values keeping over) in
    record { tree = can.tree; known = can.known; room = omega (arith, can.room, size); good = can.good }

pub eval_room : (nodes : List Node) (n codes values : ℕ) (keeping : Keeping) (table new : List PlanNode) (k : ℕ) → CanLower nodes n (kept_of keeping) table → IsLookUp nodes n codes values → AddsPlan table new (lowered (subtree nodes n) all) k → length new < most_plans
eval_room nodes n codes values keeping table new k can over adds =
    let size = ap plan_size (eval_is nodes n codes values keeping over) in
    omega (arith, can.room, size, adds.count)

pub eval_can : (nodes : List Node) (n : ℕ) (keeping : Keeping) (old mid : List PlanNode) (a : Bound) (k : ℕ) → CanLower nodes n (kept_of keeping) old → IsKeeping (tree_head nodes n).dtype keeping → a ≡ keeping.pack → AddsPlan old mid (lowered (subtree nodes n) all) k → KeepsRules (eval_node mid a k) (nodes_at mid (k ∷ []))
eval_can nodes n keeping old mid a k can is same adds =
    let p : Plan = lowered (subtree nodes n) all in
    let t : DataType = (tree_head nodes n).dtype in
    let like : AreLike (nodes_at mid (k ∷ [])) (p ∷ []) = added_like old mid (p ∷ []) (k ∷ []) (one_added old mid p k adds) in
    let head : IsHeadOf all (tree_head nodes n) p = lowered_head (subtree nodes n) all (good_sound nodes can.tree n can.known) in
    let e : a ≡ bound_pack (kept_of keeping) t = same ∙ is.pack_is in
    let typed : (node_at mid k).dtype ≡ t = like.0.dtype ∙ head.dtype in
    eval_keeps mid a k (λ used. ap (λ (a : Bound). a.root) e ∙ sym typed) (ap (λ (a : Bound). uses_row_number a.term) e ∙ pack_numberless (kept_of keeping) t)

pub evaluated_adds : (nodes : List Node) (n codes values : ℕ) (keeping : Keeping) (old mid new : List PlanNode) (a : Bound) (k i : ℕ) → CanLower nodes n (kept_of keeping) old → IsLookUp nodes n codes values → IsKeeping (tree_head nodes n).dtype keeping → a ≡ keeping.pack → AddsPlan old mid (lowered (subtree nodes n) all) k → IsAdded mid new (eval_node mid a k) i → AddsPlan old new (lowered (subtree nodes n) (kept_of keeping)) i
evaluated_adds nodes n codes values keeping old mid new a k i can over is same adds added =
    let p : Plan = lowered (subtree nodes n) all in
    let t : DataType = (tree_head nodes n).dtype in
    let head : IsHeadOf all (tree_head nodes n) p = lowered_head (subtree nodes n) all (good_sound nodes can.tree n can.known) in
    let e : a ≡ bound_pack (kept_of keeping) t = same ∙ is.pack_is in
    subst (λ (p : Plan). AddsPlan old new p i) (sym (eval_is nodes n codes values keeping over))
    (eval_adds old mid new p a k i (kept_head (kept_of keeping) (tree_head nodes n)) (kept_pack (kept_of keeping) t) adds added (sym (ap (λ (a : Bound). a.dtype) e)) head.rows (ap (λ (a : Bound). a.term) e))
