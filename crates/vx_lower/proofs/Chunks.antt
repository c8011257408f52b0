-- A chunked node is lowered to a concat of its chunks' plans.
use Rattle.std.proofs.Common.{◌≡◌, ℕ, List, [], ◌∷◌, map, refl, sym, ap, ◌∙◌, subst, arith}
use Rattle.std.specs.List.{All}
use Rattle.std.proofs.lemmas.List.Elements.{All-cons, All-nil}
use Rattle.vx_base.specs.Data.{DataType}
use Rattle.vx_layout.specs.Kept.{KeptFields}
use Rattle.vx_layout.specs.Nodes.{Node}
use Rattle.vx_layout.specs.Rows.{rows_in}
use Rattle.vx_layout.specs.Sound.{IsSound, AreChunks}
use Rattle.vx_layout.specs.Trees.{Tree, chunks, head_of, forest_from, subtree}
use Rattle.vx_plan.specs.Nodes.{Node as PlanNode}
use Rattle.vx_plan.specs.Plans.{Plan, Plans, plan, plans_from, concat_plan}
use Rattle.vx_plan.specs.Rules.{concat_node, nodes_at, KeepsRules}
use Rattle.vx_plan.specs.Tables.{IsAdded}
use Rattle.vx_lower.specs.KeptRows.{kept_type}
use Rattle.vx_lower.specs.Lowered.{lowered, lowered_in, kept_head}
use Rattle.vx_lower.specs.NodeParts.{tree_head, trees_of, lowered_each, CanLower, CanLowerEach, IsChunked}
use Rattle.vx_lower.specs.Numbered.{list_size, AddsPlan, AddsPlans}
use Rattle.vx_lower.specs.Sizes.{plans_size}
use Rattle.vx_lower.proofs.Appending.{added_like}
use Rattle.vx_lower.proofs.Heads.{lowered_head}
use Rattle.vx_lower.proofs.Made.{concat_adds, rows_of_all, size_from}
use Rattle.vx_lower.proofs.Nodes.{each_can, few_rows, sound_as}
use Rattle.vx_lower.proofs.Rules.{concat_can, AreOfType}

chunks_from : (f : ℕ → Tree) (kept : KeptFields) (ns : List ℕ) → lowered_in (forest_from (map f ns)) kept ≡ plans_from (map (λ n. lowered (f n) kept) ns)
chunks_from f kept [] = refl
chunks_from f kept (n ∷ ns) = ap (plan (lowered (f n) kept)) (chunks_from f kept ns)

chunk_types : (f : ℕ → Tree) (kept : KeptFields) (t : DataType) (ns : List ℕ) → AreChunks t (forest_from (map f ns)) → AreOfType (kept_type kept t) (map (λ n. lowered (f n) kept) ns)
chunk_types f kept t [] sound = tt
chunk_types f kept t (n ∷ ns) sound = ((lowered_head (f n) kept sound.0).dtype ∙ ap (kept_type kept) sound.1, chunk_types f kept t ns sound.2)

chunk_rows : (f : ℕ → Tree) (kept : KeptFields) (t : DataType) (ns : List ℕ) → AreChunks t (forest_from (map f ns)) → rows_of_all (map (λ n. lowered (f n) kept) ns) ≡ rows_in (forest_from (map f ns))
chunk_rows f kept t [] sound = refl
chunk_rows f kept t (n ∷ ns) sound = omega (arith, (lowered_head (f n) kept sound.0).rows, chunk_rows f kept t ns sound.2)

pub chunks_can : (nodes : List Node) (n : ℕ) (ns : List ℕ) (kept : KeptFields) (table : List PlanNode) → CanLower nodes n kept table → IsChunked nodes n ns → CanLowerEach nodes n ns kept table
chunks_can nodes n ns kept table can over =
    let size : plans_size (lowered_in (trees_of nodes ns) kept) ≡ list_size (lowered_each nodes kept ns) = ap plans_size (chunks_from (subtree nodes) kept ns) ∙ size_from (lowered_each nodes kept ns) in
    each_can nodes n kept table (chunks (tree_head nodes n) (trees_of nodes ns)) ns can over (omega arith)

each_of_type : (f : ℕ → Tree) (t : DataType) (ns : List ℕ) → AreChunks t (forest_from (map f ns)) → All (λ n. (head_of (f n)).dtype ≡ t) ns
each_of_type f t [] sound = All-nil (λ n. (head_of (f n)).dtype ≡ t)
each_of_type f t (n ∷ ns) sound = All-cons (λ n. (head_of (f n)).dtype ≡ t) n ns sound.1 (each_of_type f t ns sound.2)

-- each chunk has the dtype of the node
pub chunks_share : (nodes : List Node) (n : ℕ) (ns : List ℕ) (kept : KeptFields) (table : List PlanNode) → CanLower nodes n kept table → IsChunked nodes n ns → All (λ child. (tree_head nodes child).dtype ≡ (tree_head nodes n).dtype) ns
chunks_share nodes n ns kept table can over =
    let sound : IsSound (chunks (tree_head nodes n) (trees_of nodes ns)) = sound_as nodes n (chunks (tree_head nodes n) (trees_of nodes ns)) ns can.tree can.known over in
    each_of_type (subtree nodes) (tree_head nodes n).dtype ns sound.0

pub chunks_typed : (nodes : List Node) (n : ℕ) (ns : List ℕ) (kept : KeptFields) (table : List PlanNode) (t : DataType) → CanLower nodes n kept table → IsChunked nodes n ns → t ≡ (tree_head nodes n).dtype → All (λ child. t ≡ (tree_head nodes child).dtype) ns
chunks_typed nodes n ns kept table t can over is = λ i d lt. is ∙ sym (chunks_share nodes n ns kept table can over i d lt)

pub chunked_can : (nodes : List Node) (n : ℕ) (ns : List ℕ) (kept : KeptFields) (old mid : List PlanNode) (numbers : List ℕ) (t : DataType) → CanLower nodes n kept old → IsChunked nodes n ns → AddsPlans old mid (lowered_each nodes kept ns) numbers → t ≡ kept_type kept (tree_head nodes n).dtype → KeepsRules (concat_node mid t numbers) (nodes_at mid numbers)
chunked_can nodes n ns kept old mid numbers t can over adds is =
    let sound : IsSound (chunks (tree_head nodes n) (trees_of nodes ns)) = sound_as nodes n (chunks (tree_head nodes n) (trees_of nodes ns)) ns can.tree can.known over in
    let ps : List Plan = lowered_each nodes kept ns in
    let few : rows_of_all ps ≡ (tree_head nodes n).rows = chunk_rows (subtree nodes) kept (tree_head nodes n).dtype ns sound.0 ∙ sound.1 in
    concat_can mid t numbers ps (added_like old mid ps numbers adds)
    (subst (λ (s : DataType). AreOfType s ps) (sym is) (chunk_types (subtree nodes) kept (tree_head nodes n).dtype ns sound.0))
    (omega (arith, few_rows nodes can.tree n can.known))

pub chunked_adds : (nodes : List Node) (n : ℕ) (ns : List ℕ) (kept : KeptFields) (old mid new : List PlanNode) (numbers : List ℕ) (t : DataType) (k : ℕ) → CanLower nodes n kept old → IsChunked nodes n ns → AddsPlans old mid (lowered_each nodes kept ns) numbers → t ≡ kept_type kept (tree_head nodes n).dtype → IsAdded mid new (concat_node mid t numbers) k → AddsPlan old new (lowered (subtree nodes n) kept) k
chunked_adds nodes n ns kept old mid new numbers t k can over adds is added =
    let sound : IsSound (chunks (tree_head nodes n) (trees_of nodes ns)) = sound_as nodes n (chunks (tree_head nodes n) (trees_of nodes ns)) ns can.tree can.known over in
    let ps : List Plan = lowered_each nodes kept ns in
    let count : rows_of_all ps ≡ (tree_head nodes n).rows = chunk_rows (subtree nodes) kept (tree_head nodes n).dtype ns sound.0 ∙ sound.1 in
    let e : plans_from ps ≡ lowered_in (trees_of nodes ns) kept = sym (chunks_from (subtree nodes) kept ns) in
    let p : AddsPlan old new (concat_plan (kept_head kept (tree_head nodes n)) (plans_from ps)) k = concat_adds old mid new ps numbers t k (kept_head kept (tree_head nodes n)) adds added (sym is) count in
    subst (λ (t : Tree). AddsPlan old new (lowered t kept) k) (sym over.tree)
    (subst (λ (qs : Plans). AddsPlan old new (concat_plan (kept_head kept (tree_head nodes n)) qs) k) e p)
