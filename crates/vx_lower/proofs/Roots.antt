-- What is known of a tree's root.
use Rattle.std.proofs.Common.{◌≡◌, List, Option, Some, None, refl, sym, ap, ◌∙◌, subst}
use Rattle.std.specs.Prelude.{IsSomeAnd}
use Rattle.std.specs.List.{slice_get}
use Rattle.vx_base.specs.Data.{DataType}
use Rattle.vx_base.specs.Names.{HasDistinctNames}
use Rattle.vx_layout.specs.declared.rules.ShapeRule.TheVariants.{DistinctNames}
use Rattle.vx_layout.specs.Kept.{KeptFields}
use Rattle.vx_layout.specs.Nodes.{Node}
use Rattle.vx_layout.specs.Shape.{IsGoodTree}
use Rattle.vx_rows.specs.Heads.{Head}
use Rattle.vx_layout.proofs.Unfolding.{good_later, head_of_subtree}
use Rattle.vx_lower.specs.KeptRows.{MayKeep}
use Rattle.vx_lower.specs.NodeParts.{tree_head}

-- the dtype of the root's node is that of its tree
type_by : (nodes : List Node) → IsGoodTree nodes → (t : DataType) (o : Option Node) → slice_get nodes 0 ≡ o → IsSomeAnd o (λ root. t ≡ root.dtype) → t ≡ (tree_head nodes 0).dtype
type_by nodes good t None at is = absurd is
type_by nodes good t (Some root) at is = is ∙ sym (ap (λ (head : Head). head.dtype) (head_of_subtree nodes (good_later nodes good) 0 root at))

pub root_type : (nodes : List Node) → IsGoodTree nodes → (t : DataType) → IsSomeAnd (slice_get nodes 0) (λ root. t ≡ root.dtype) → t ≡ (tree_head nodes 0).dtype
root_type nodes good t is = type_by nodes good t (slice_get nodes 0) refl is

may_by : (kept : KeptFields) (t : DataType) (o : Option Node) → IsSomeAnd o (λ root. t ≡ root.dtype) → IsSomeAnd o (λ root. MayKeep kept root.dtype) → MayKeep kept t
may_by kept t None is may = absurd is
may_by kept t (Some root) is may = subst (MayKeep kept) (sym is) may

pub root_may : (nodes : List Node) (kept : KeptFields) (t : DataType) → IsSomeAnd (slice_get nodes 0) (λ root. t ≡ root.dtype) → IsSomeAnd (slice_get nodes 0) (λ root. MayKeep kept root.dtype) → MayKeep kept t
root_may nodes kept t is may = may_by kept t (slice_get nodes 0) is may

names_by : (t : DataType) (o : Option Node) → IsSomeAnd o (λ root. t ≡ root.dtype) → IsSomeAnd o (λ root. HasDistinctNames root.dtype) → HasDistinctNames t
names_by t None is names = absurd is
names_by t (Some root) is names = subst HasDistinctNames (sym is) names

pub root_names : (nodes : List Node) → IsGoodTree nodes → (t : DataType) → IsSomeAnd (slice_get nodes 0) (λ root. t ≡ root.dtype) → HasDistinctNames t
root_names nodes good t is = names_by t (slice_get nodes 0) is (good.kept DistinctNames 0 good.nonempty)

-- ---- the root's tree

tree_by : (nodes : List Node) → IsGoodTree nodes → (kept : KeptFields) (o : Option Node) → slice_get nodes 0 ≡ o → IsSomeAnd o (λ root. MayKeep kept root.dtype) → MayKeep kept (tree_head nodes 0).dtype
tree_by nodes good kept None at may = absurd may
tree_by nodes good kept (Some root) at may = subst (λ (head : Head). MayKeep kept head.dtype) (sym (head_of_subtree nodes (good_later nodes good) 0 root at)) may

distinct_by : (nodes : List Node) → IsGoodTree nodes → (o : Option Node) → slice_get nodes 0 ≡ o → IsSomeAnd o (λ root. HasDistinctNames root.dtype) → HasDistinctNames (tree_head nodes 0).dtype
distinct_by nodes good None at names = absurd names
distinct_by nodes good (Some root) at names = subst (λ (head : Head). HasDistinctNames head.dtype) (sym (head_of_subtree nodes (good_later nodes good) 0 root at)) names

pub tree_may : (nodes : List Node) → IsGoodTree nodes → (kept : KeptFields) → IsSomeAnd (slice_get nodes 0) (λ root. MayKeep kept root.dtype) → MayKeep kept (tree_head nodes 0).dtype
tree_may nodes good kept may = tree_by nodes good kept (slice_get nodes 0) refl may

pub tree_names : (nodes : List Node) → IsGoodTree nodes → HasDistinctNames (tree_head nodes 0).dtype
tree_names nodes good = distinct_by nodes good (slice_get nodes 0) refl (good.kept DistinctNames 0 good.nonempty)
