-- Nodes that are reached from the root have its dtype: they are structs, dictionaries, chunks or data in zones.
use Rattle.std.proofs.Common.{◌≡◌, ℕ, List, [], ◌∷◌, Option, sym, subst}
use Rattle.std.specs.List.{All}
use Rattle.vx_base.specs.declared.codings.Coding.{Coding}
use Rattle.vx_base.specs.Data.{DataType, bool_type, int_type, utf8_type, struct_type, list_type}
use Rattle.vx_base.specs.Leaf.{IsLeaf}
use Rattle.vx_layout.specs.Nodes.{Node}
use Rattle.vx_rows.specs.TypeForms.{IsStruct, IsListOf}
use Rattle.vx_layout.specs.Trees.{leaf, lists, subtree}
use Rattle.vx_plan.specs.Nodes.{Node as PlanNode}
use Rattle.vx_plan.specs.Rules.{given_validity}
use Rattle.vx_lower.specs.declared.keeping.Keeping.{Keeping}
use Rattle.vx_lower.specs.Keeping.{kept_of, IsKeeping}
use Rattle.vx_lower.specs.NodeParts.{tree_head, validity_of, CanLower, IsChunked, IsLeafNode, IsListNode}
use Rattle.vx_lower.proofs.Chunks.{chunks_share}
use Rattle.vx_lower.proofs.KeptPacks.{may_structs}
use Rattle.vx_lower.proofs.Nodes.{sound_as}

keeps_by : (t s : DataType) (keeping : Keeping) → s ≡ t → IsKeeping t keeping → IsKeeping s keeping
keeps_by t s keeping e is = subst (λ (t : DataType). IsKeeping t keeping) (sym e) is

pub chunks_keep : (nodes : List Node) (n : ℕ) (ns : List ℕ) (keeping : Keeping) (table : List PlanNode) → CanLower nodes n (kept_of keeping) table → IsChunked nodes n ns → IsKeeping (tree_head nodes n).dtype keeping → All (λ child. IsKeeping (tree_head nodes child).dtype keeping) ns
chunks_keep nodes n ns keeping table can over is = λ i d lt. keeps_by (tree_head nodes n).dtype _ keeping (chunks_share nodes n ns (kept_of keeping) table can over i d lt) is

pub content_keeps : (nodes : List Node) (n content : ℕ) (keeping : Keeping) → (tree_head nodes content).dtype ≡ (tree_head nodes n).dtype → IsKeeping (tree_head nodes n).dtype keeping → IsKeeping (tree_head nodes content).dtype keeping
content_keeps nodes n content keeping same is = keeps_by (tree_head nodes n).dtype (tree_head nodes content).dtype keeping same is

leaf_or_struct : (t : DataType) → IsLeaf t → IsStruct t → ⊥
leaf_or_struct (bool_type n) is struct = struct
leaf_or_struct (int_type kind n) is struct = struct
leaf_or_struct (utf8_type n) is struct = struct
leaf_or_struct (struct_type ms n) is struct = is
leaf_or_struct (list_type t n) is struct = struct

list_or_struct : (t element : DataType) → IsListOf t element → IsStruct t → ⊥
list_or_struct (bool_type n) element is struct = struct
list_or_struct (int_type kind n) element is struct = struct
list_or_struct (utf8_type n) element is struct = struct
list_or_struct (struct_type ms n) element is struct = is
list_or_struct (list_type t n) element is struct = struct

pub no_leaf : (nodes : List Node) (n segment : ℕ) (coding : Coding) (keeping : Keeping) (table : List PlanNode) → CanLower nodes n (kept_of keeping) table → IsLeafNode nodes n segment coding → IsKeeping (tree_head nodes n).dtype keeping → ⊥
no_leaf nodes n segment coding keeping table can over is =
    leaf_or_struct (tree_head nodes n).dtype (sound_as nodes n (leaf (tree_head nodes n) segment coding) [] can.tree can.known over) (may_structs keeping.names.now (tree_head nodes n).dtype is.may)

pub no_list : (nodes : List Node) (n elements offsets : ℕ) (validity : Option ℕ) (keeping : Keeping) (table : List PlanNode) → CanLower nodes n (kept_of keeping) table → IsListNode nodes n elements offsets validity → IsKeeping (tree_head nodes n).dtype keeping → ⊥
no_list nodes n elements offsets validity keeping table can over is =
    let sound = sound_as nodes n (lists (tree_head nodes n) (subtree nodes elements) (subtree nodes offsets) (validity_of nodes validity)) (elements ∷ offsets ∷ given_validity validity) can.tree can.known over in
    list_or_struct (tree_head nodes n).dtype (tree_head nodes elements).dtype sound.2.dtype (may_structs keeping.names.now (tree_head nodes n).dtype is.may)
