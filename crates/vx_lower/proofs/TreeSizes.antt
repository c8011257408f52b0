-- The tree of a good list of nodes has as many nodes as the list: each but the root is a child once.
use Rattle.std.proofs.Common.{◌≡◌, ℕ, suc, ◌+◌, ◌<◌, ◌≤◌, List, [], ◌∷◌, ◌++◌, Option, Some, None, length, map, refl, ap, ◌∙◌, subst, arith}
use Rattle.std.specs.Prelude.{IfSome, IsSomeAnd}
use Rattle.std.specs.List.{flat_map, slice_get, sum_by, All, AllByRecursion}
use Rattle.std.proofs.lemmas.List.Elements.{All-head, All-tail}
use Rattle.std.proofs.lemmas.List.Sums.{sum_by-append, sum_by-cons}
use Rattle.vx_base.specs.declared.dtypes.Nullability.{Nullability}
use Rattle.vx_base.specs.declared.dtypes.Nullability.TheVariants.{NonNullable, Nullable}
use Rattle.vx_base.specs.Data.{DataType, bool_type, int_type, utf8_type, struct_type, list_type}
use Rattle.vx_base.specs.Fits.{nullability_of}
use Rattle.vx_layout.specs.declared.nodes.LayoutKind.{LayoutKind}
use Rattle.vx_layout.specs.declared.nodes.LayoutKind.TheVariants as kinds
use Rattle.vx_layout.specs.declared.rules.ShapeRule.TheVariants.{ChildOnce, ChildCount}
use Rattle.vx_layout.specs.Children.{times_child}
use Rattle.vx_layout.specs.Nodes.{Node}
use Rattle.vx_layout.specs.Shape.{validity_count, CountFits, HasFittingCount, IsChildOnce, IsGoodTree}
use Rattle.vx_rows.specs.Heads.{Head}
use Rattle.vx_layout.specs.Trees.{Tree, head_at, forest_from, child_in, validity_in, field_trees, grown_as, grown, subtree}
use Rattle.vx_layout.proofs.Unfolding.{HaveLaterChildren, good_later, unfolds}
use Rattle.vx_lower.specs.Sizes.{tree_size, forest_size, validity_size}
use Rattle.vx_lower.proofs.NumberSums.{total, total_first, total_same, total_one_more, times, times_in, sum_is_total, total_but_first, zero_nowhere}
use Rattle.vx_lower.proofs.Parts.{list_count}

-- ---- a node has the sizes of its children, and itself

abbrev sizes : (ℕ → Tree) → List ℕ → ℕ
sizes f ns = sum_by (λ n. tree_size (f n)) ns

more : (f : ℕ → Tree) (n : ℕ) (ns : List ℕ) → sizes f (n ∷ ns) ≡ tree_size (f n) + sizes f ns
more f n ns = sum_by-cons (λ n. tree_size (f n)) n ns

all_sizes : (f : ℕ → Tree) (ns : List ℕ) → forest_size (forest_from (map f ns)) ≡ sizes f ns
all_sizes f [] = refl
all_sizes f (n ∷ ns) = omega (arith, more f n ns, all_sizes f ns)

struct_sizes : (f : ℕ → Tree) (n : Nullability) (ns : List ℕ) → validity_count n ≤ length ns → forest_size (forest_from (field_trees n (map f ns))) + validity_size (validity_in n (map f ns) 0) ≡ sizes f ns
struct_sizes f NonNullable ns enough = omega (arith, all_sizes f ns)
struct_sizes f Nullable [] enough = absurd (omega arith)
struct_sizes f Nullable (n ∷ ns) enough = omega (arith, more f n ns, all_sizes f ns)

has_validity : (t : DataType) (count : ℕ) → CountFits kinds.Struct t count → validity_count (nullability_of t) ≤ count
has_validity (struct_type ms n) count fits = omega (arith, fits)
has_validity (bool_type n) count fits = absurd fits
has_validity (int_type kind n) count fits = absurd fits
has_validity (utf8_type n) count fits = absurd fits
has_validity (list_type t n) count fits = absurd fits

two_sizes : (f : ℕ → Tree) (ns : List ℕ) → length ns ≡ 2 → tree_size (child_in (map f ns) 0) + tree_size (child_in (map f ns) 1) ≡ sizes f ns
two_sizes f [] two = absurd (omega (arith, two))
two_sizes f (n ∷ []) two = absurd (omega (arith, two))
two_sizes f (n ∷ m ∷ []) two = omega (arith, more f n (m ∷ []), more f m [])
two_sizes f (n ∷ m ∷ k ∷ ns) two = absurd (omega (arith, two))

list_sizes : (f : ℕ → Tree) (n : Nullability) (ns : List ℕ) → length ns ≡ 2 + validity_count n → tree_size (child_in (map f ns) 0) + (tree_size (child_in (map f ns) 1) + validity_size (validity_in n (map f ns) 2)) ≡ sizes f ns
list_sizes f NonNullable ns two = omega (arith, two_sizes f ns (omega (arith, two)))
list_sizes f Nullable [] three = absurd (omega (arith, three))
list_sizes f Nullable (n ∷ []) three = absurd (omega (arith, three))
list_sizes f Nullable (n ∷ m ∷ []) three = absurd (omega (arith, three))
list_sizes f Nullable (n ∷ m ∷ k ∷ []) three = omega (arith, more f n (m ∷ k ∷ []), more f m (k ∷ []), more f k [])
list_sizes f Nullable (n ∷ m ∷ k ∷ j ∷ ns) three = absurd (omega (arith, three))

no_sizes : (f : ℕ → Tree) (ns : List ℕ) → length ns ≡ 0 → sizes f ns ≡ 0
no_sizes f [] none = refl
no_sizes f (n ∷ ns) none = absurd (omega (arith, none))

kind_size : (f : ℕ → Tree) (head : Head) (kind : LayoutKind) (ns : List ℕ) → CountFits kind head.dtype (length ns) → tree_size (grown_as head kind (map f ns)) ≡ 1 + sizes f ns
kind_size f head (kinds.Flat segment coding) ns fits = omega (arith, no_sizes f ns fits)
kind_size f head kinds.Chunked ns fits = omega (arith, all_sizes f ns)
kind_size f head kinds.Struct ns fits = omega (arith, struct_sizes f (nullability_of head.dtype) ns (has_validity head.dtype (length ns) fits))
kind_size f head kinds.Dict ns fits = omega (arith, two_sizes f ns fits)
kind_size f head kinds.List ns fits = omega (arith, list_sizes f (nullability_of head.dtype) ns (list_count head.dtype (length ns) fits))
kind_size f head (kinds.Zoned zone_len stats) ns fits = omega (arith, two_sizes f ns fits)
kind_size f head (kinds.LegacyStats zone_len stats) ns fits = omega (arith, two_sizes f ns fits)

-- ---- the children of all nodes

abbrev pub children_at : Option Node → List ℕ
children_at None = []
children_at (Some node) = node.children

node_size : (nodes : List Node) (n : ℕ) (o : Option Node) → IsSomeAnd o HasFittingCount → tree_size (grown (subtree nodes) n o) ≡ 1 + sizes (subtree nodes) (children_at o)
node_size nodes n None fits = absurd fits
node_size nodes n (Some node) fits = kind_size (subtree nodes) (head_at n node) node.kind node.children fits

abbrev pub all_children : List Node → List ℕ
all_children nodes = flat_map (λ node. node.children) nodes

pub children_sizes : (s : ℕ → ℕ) (nodes : List Node) → sum_by s (all_children nodes) ≡ total (λ k. sum_by s (children_at (slice_get nodes k))) (length nodes)
children_sizes s [] = refl
children_sizes s (node ∷ nodes) =
    omega (arith, sum_by-append s node.children (all_children nodes), children_sizes s nodes, total_first (λ k. sum_by s (children_at (slice_get (node ∷ nodes) k))) (length nodes))

-- ---- each of them is a node other than the root

abbrev pub IsBelow : ℕ → ℕ → Type 0
IsBelow count child = (0 < child) × (child < count)

below_joined : (count : ℕ) (xs ys : List ℕ) → AllByRecursion (IsBelow count) xs → AllByRecursion (IsBelow count) ys → AllByRecursion (IsBelow count) (xs ++ ys)
below_joined count [] ys here there = there
below_joined count (x ∷ xs) ys here there = (here.0, below_joined count xs ys here.1 there)

below_all : (count n : ℕ) (ns : List ℕ) → All (λ child. (n < child) × (child < count)) ns → AllByRecursion (IsBelow count) ns
below_all count n [] later = tt
below_all count n (m ∷ ns) later =
    let first : (n < m) × (m < count) = All-head (λ child. (n < child) × (child < count)) m ns later in
    let above : n < m = first.0 in
    ((omega arith, first.1), below_all count n ns (All-tail (λ child. (n < child) × (child < count)) m ns later))

-- of the nodes from a place on
pub children_below : (count from : ℕ) (nodes : List Node) → ((k : ℕ) → k < length nodes → IfSome (slice_get nodes k) (λ node. All (λ child. (from + k < child) × (child < count)) node.children)) → AllByRecursion (IsBelow count) (all_children nodes)
children_below count from [] later = tt
children_below count from (node ∷ nodes) later =
    below_joined count node.children (all_children nodes) (below_all count (from + 0) node.children (later 0 (omega arith)))
    (children_below count (suc from) nodes (λ k lt.
    let e : from + suc k ≡ suc from + k = omega arith in
    subst (λ (n : ℕ). IfSome (slice_get nodes k) (λ node. All (λ child. (n < child) × (child < count)) node.children)) e (later (suc k) (omega arith))))

pub above_zero : (count : ℕ) (xs : List ℕ) → AllByRecursion (IsBelow count) xs → AllByRecursion (λ x. 0 < x) xs
above_zero count [] below = tt
above_zero count (x ∷ xs) below = (below.0.0, above_zero count xs below.1)

pub below_count : (count : ℕ) (xs : List ℕ) → AllByRecursion (IsBelow count) xs → AllByRecursion (λ x. x < count) xs
below_count count [] below = tt
below_count count (x ∷ xs) below = (below.0.1, below_count count xs below.1)

pub once_of : (nodes : List Node) (k : ℕ) (o : Option Node) → IsSomeAnd o (λ node. IsChildOnce nodes (suc k)) → times_child nodes (suc k) ≡ 1
once_of nodes k None once = absurd once
once_of nodes k (Some node) once = once

-- ---- the whole

pub zero_more : (k : ℕ) → k ≡ 0 + k
zero_more k = omega arith

pub tree_has_each_node : (nodes : List Node) → IsGoodTree nodes → tree_size (subtree nodes 0) ≡ length nodes
tree_has_each_node nodes good =
    let later : HaveLaterChildren nodes = good_later nodes good in
    let count : ℕ = length nodes in
    let s : ℕ → ℕ = λ (n : ℕ). tree_size (subtree nodes n) in
    let below : AllByRecursion (IsBelow count) (all_children nodes) = children_below count 0 nodes (λ k lt. subst (λ (n : ℕ). IfSome (slice_get nodes k) (λ node. All (λ child. (n < child) × (child < count)) node.children)) (zero_more k) (later k lt)) in
    let each : total s count ≡ total (λ k. 1 + sum_by s (children_at (slice_get nodes k))) count =
    total_same s (λ k. 1 + sum_by s (children_at (slice_get nodes k))) count (λ k lt. ap tree_size (unfolds nodes later k) ∙ node_size nodes k (slice_get nodes k) (good.kept ChildCount k lt)) in
    let first : total s count ≡ s 0 + total (λ k. times (times_in (all_children nodes) k) (s k)) count =
    total_but_first s (times_in (all_children nodes)) count good.nonempty (zero_nowhere (all_children nodes) (above_zero count (all_children nodes) below))
    (λ k lt. once_of nodes k (slice_get nodes (suc k)) (good.kept ChildOnce (suc k) lt)) in
    let children : sum_by s (all_children nodes) ≡ total (λ k. times (times_in (all_children nodes) k) (s k)) count = sum_is_total s (all_children nodes) count (below_count count (all_children nodes) below) in
    let listed : sum_by s (all_children nodes) ≡ total (λ k. sum_by s (children_at (slice_get nodes k))) count = children_sizes s nodes in
    let ones : total (λ k. 1 + sum_by s (children_at (slice_get nodes k))) count ≡ count + total (λ k. sum_by s (children_at (slice_get nodes k))) count = total_one_more (λ k. sum_by s (children_at (slice_get nodes k))) count in
    omega (arith, each, first, children, listed, ones)
