-- What a node is over, by its kind.
use Rattle.std.proofs.Common.{◌≡◌, ℕ, zero, suc, ◌+◌, ◌<◌, Bool, true, false, List, [], ◌∷◌, ◌++◌, Option, Some, None, length, map, get_or, drop, refl, sym, ap, ◌∙◌, subst, arith, append-nil}
use Rattle.std.specs.Prelude.{IsSomeAnd}
use Rattle.std.specs.List.{slice_get}
use Rattle.std.proofs.lemmas.List.Elements.{All-cons, All-head, All-nil, All-tail}
use Rattle.vx_base.specs.declared.codings.Coding.{Coding}
use Rattle.vx_base.specs.declared.dtypes.Nullability.{Nullability}
use Rattle.vx_base.specs.declared.dtypes.Nullability.TheVariants.{NonNullable, Nullable}
use Rattle.vx_base.specs.Data.{DataType, bool_type, int_type, utf8_type, struct_type, list_type}
use Rattle.vx_base.specs.Fits.{nullability_of, takes_null}
use Rattle.vx_expr.specs.declared.statistics.Statistic.{Statistic}
use Rattle.vx_layout.specs.declared.nodes.LayoutKind.{LayoutKind}
use Rattle.vx_layout.specs.declared.nodes.LayoutKind.TheVariants as kinds
use Rattle.vx_layout.specs.declared.rules.ShapeRule.TheVariants.{ChildCount}
use Rattle.vx_layout.specs.Nodes.{Node}
use Rattle.vx_layout.specs.Shape.{validity_count, CountFits, HasFittingCount, IsGoodTree, IsLater}
use Rattle.vx_rows.specs.Heads.{Head}
use Rattle.vx_rows.specs.Zones.{zones_of}
use Rattle.vx_layout.specs.Trees.{Tree, fields, dict, lists, zoned, head_at, forest_from, child_in, field_trees, validity_in, grown_as, grown, subtree}
use Rattle.vx_layout.proofs.Unfolding.{good_later, unfolds, head_of_subtree}
use Rattle.vx_lower.specs.NodeParts.{tree_head, AreLater, IsChunked, IsLeafNode, IsListNode, IsLookUp, IsOver, IsStructNode}

-- ---- what is known of a node of a kind

-- what the tree says of a node that it has
pub record IsNode (nodes : List Node) (n : ℕ) (node : Node) (kind : LayoutKind) : Type 0 where
  pub good : IsGoodTree nodes
  pub at : slice_get nodes n ≡ Some node
  pub later : AreLater nodes n node.children
  pub kind_is : node.kind ≡ kind
  pub known : n < length nodes

head_is : (nodes : List Node) (n : ℕ) (node : Node) (kind : LayoutKind) → IsNode nodes n node kind → head_at n node ≡ tree_head nodes n
head_is nodes n node kind is = sym (head_of_subtree nodes (good_later nodes is.good) n node is.at)

tree_is : (nodes : List Node) (n : ℕ) (node : Node) (kind : LayoutKind) → IsNode nodes n node kind → subtree nodes n ≡ grown_as (tree_head nodes n) kind (map (subtree nodes) node.children)
tree_is nodes n node kind is =
    unfolds nodes (good_later nodes is.good) n ∙ ap (grown (subtree nodes) n) is.at
    ∙ (λ i. grown_as (head_is nodes n node kind is i) (is.kind_is i) (map (subtree nodes) node.children))

pub dtype_is : (nodes : List Node) (n : ℕ) (node : Node) (kind : LayoutKind) → IsNode nodes n node kind → node.dtype ≡ (tree_head nodes n).dtype
dtype_is nodes n node kind is = ap (λ (head : Head). head.dtype) (head_is nodes n node kind is)

count_by : (nodes : List Node) (n : ℕ) (o : Option Node) (node : Node) → o ≡ Some node → IsSomeAnd o HasFittingCount → HasFittingCount node
count_by nodes n o node at fits = subst (λ (o : Option Node). IsSomeAnd o HasFittingCount) at fits

count_is : (nodes : List Node) (n : ℕ) (node : Node) (kind : LayoutKind) → IsNode nodes n node kind → CountFits kind node.dtype (length node.children)
count_is nodes n node kind is =
    subst (λ (kind : LayoutKind). CountFits kind node.dtype (length node.children)) is.kind_is
    (count_by nodes n (slice_get nodes n) node is.at (is.good.kept ChildCount n is.known))

-- ---- leaves and chunks

pub leaf_parts : (nodes : List Node) (n : ℕ) (node : Node) (segment : ℕ) (coding : Coding) → IsNode nodes n node (kinds.Flat segment coding) → IsLeafNode nodes n segment coding
leaf_parts nodes n node segment coding is = record { tree = tree_is nodes n node (kinds.Flat segment coding) is; later = All-nil (IsLater nodes n) }

pub chunk_parts : (nodes : List Node) (n : ℕ) (node : Node) (ns : List ℕ) → IsNode nodes n node kinds.Chunked → ns ≡ node.children → IsChunked nodes n ns
chunk_parts nodes n node ns is these = subst (IsChunked nodes n) (sym these) (record { tree = tree_is nodes n node kinds.Chunked is; later = is.later })

-- ---- structs

later_swapped : (nodes : List Node) (n m : ℕ) (ns : List ℕ) → AreLater nodes n (m ∷ ns) → AreLater nodes n (ns ++ m ∷ [])
later_swapped nodes n m [] later = later
later_swapped nodes n m (k ∷ ns) later =
    let rest = All-tail (IsLater nodes n) m (k ∷ ns) later in
    All-cons (IsLater nodes n) k (ns ++ m ∷ []) (All-head (IsLater nodes n) k ns rest)
    (later_swapped nodes n m ns (All-cons (IsLater nodes n) m ns (All-head (IsLater nodes n) m (k ∷ ns) later) (All-tail (IsLater nodes n) k ns rest)))

plain_by : (nodes : List Node) (n : ℕ) (k : Nullability) (ns : List ℕ) → takes_null k ≡ false → subtree nodes n ≡ fields (tree_head nodes n) (forest_from (field_trees k (map (subtree nodes) ns))) (validity_in k (map (subtree nodes) ns) 0) → AreLater nodes n ns → IsStructNode nodes n ns None
plain_by nodes n NonNullable ns plain is later = record { tree = is; later = subst (AreLater nodes n) (sym (append-nil ns)) later }
plain_by nodes n Nullable ns plain is later = absurd cc

pub struct_parts : (nodes : List Node) (n : ℕ) (node : Node) (ns : List ℕ) → IsNode nodes n node kinds.Struct → ns ≡ node.children → takes_null (nullability_of node.dtype) ≡ false → IsStructNode nodes n ns None
struct_parts nodes n node ns is these plain =
    subst (λ (ns : List ℕ). IsStructNode nodes n ns None) (sym these)
    (plain_by nodes n (nullability_of (tree_head nodes n).dtype) node.children (ap (λ (t : DataType). takes_null (nullability_of t)) (sym (dtype_is nodes n node kinds.Struct is)) ∙ plain) (tree_is nodes n node kinds.Struct is) is.later)

nullable_by : (nodes : List Node) (n : ℕ) (k : Nullability) (ns : List ℕ) → takes_null k ≡ true → 0 < length ns → subtree nodes n ≡ fields (tree_head nodes n) (forest_from (field_trees k (map (subtree nodes) ns))) (validity_in k (map (subtree nodes) ns) 0) → AreLater nodes n ns → IsStructNode nodes n (drop 1 ns) (Some (get_or ns 0 0))
nullable_by nodes n NonNullable ns has some is later = absurd cc
nullable_by nodes n Nullable [] has some is later = absurd (omega arith)
nullable_by nodes n Nullable (m ∷ ns) has some is later = record { tree = is; later = later_swapped nodes n m ns later }

struct_some : (t : DataType) (count : ℕ) → CountFits kinds.Struct t count → takes_null (nullability_of t) ≡ true → 0 < count
struct_some (struct_type ms Nullable) count fits has = omega arith
struct_some (struct_type ms NonNullable) count fits has = absurd cc
struct_some (bool_type n) count fits has = absurd fits
struct_some (int_type kind n) count fits has = absurd fits
struct_some (utf8_type n) count fits has = absurd fits
struct_some (list_type t n) count fits has = absurd fits

pub some_children : (nodes : List Node) (n : ℕ) (node : Node) (ns : List ℕ) → IsNode nodes n node kinds.Struct → ns ≡ node.children → takes_null (nullability_of node.dtype) ≡ true → 0 < length ns
some_children nodes n node ns is these has = subst (λ (ns : List ℕ). 0 < length ns) (sym these) (struct_some node.dtype (length node.children) (count_is nodes n node kinds.Struct is) has)

pub nullable_parts : (nodes : List Node) (n : ℕ) (node : Node) (ns : List ℕ) → IsNode nodes n node kinds.Struct → ns ≡ node.children → takes_null (nullability_of node.dtype) ≡ true → IsStructNode nodes n (drop 1 ns) (Some (get_or ns 0 0))
nullable_parts nodes n node ns is these has =
    subst (λ (ns : List ℕ). IsStructNode nodes n (drop 1 ns) (Some (get_or ns 0 0))) (sym these)
    (nullable_by nodes n (nullability_of (tree_head nodes n).dtype) node.children (ap (λ (t : DataType). takes_null (nullability_of t)) (sym (dtype_is nodes n node kinds.Struct is)) ∙ has) (struct_some node.dtype (length node.children) (count_is nodes n node kinds.Struct is) has) (tree_is nodes n node kinds.Struct is) is.later)

-- ---- nodes of two children, or of three

child_there : (f : ℕ → Tree) (ns : List ℕ) (i : ℕ) → i < length ns → child_in (map f ns) i ≡ f (get_or ns i 0)
child_there f [] i lt = absurd (omega arith)
child_there f (n ∷ ns) zero lt = refl
child_there f (n ∷ ns) (suc i) lt = child_there f ns i (omega arith)

two_of : (nodes : List Node) (n : ℕ) (ns : List ℕ) → length ns ≡ 2 → AreLater nodes n ns → AreLater nodes n (get_or ns 0 0 ∷ get_or ns 1 0 ∷ [])
two_of nodes n [] two later = absurd (omega arith)
two_of nodes n (a ∷ []) two later = absurd (omega arith)
two_of nodes n (a ∷ b ∷ []) two later = later
two_of nodes n (a ∷ b ∷ c ∷ ns) two later = absurd (omega arith)

swapped : (nodes : List Node) (n a b : ℕ) → AreLater nodes n (a ∷ b ∷ []) → AreLater nodes n (b ∷ a ∷ [])
swapped nodes n a b later = later_swapped nodes n a (b ∷ []) later

pub dict_count : (nodes : List Node) (n : ℕ) (node : Node) (ns : List ℕ) → IsNode nodes n node kinds.Dict → ns ≡ node.children → length ns ≡ 2
dict_count nodes n node ns is these = ap length these ∙ count_is nodes n node kinds.Dict is

pub dict_parts : (nodes : List Node) (n : ℕ) (node : Node) (ns : List ℕ) → IsNode nodes n node kinds.Dict → ns ≡ node.children → IsLookUp nodes n (get_or ns 1 0) (get_or ns 0 0)
dict_parts nodes n node ns is these =
    let two : length node.children ≡ 2 = count_is nodes n node kinds.Dict is in
    let f : ℕ → Tree = subtree nodes in
    subst (λ (ns : List ℕ). IsLookUp nodes n (get_or ns 1 0) (get_or ns 0 0)) (sym these) (record {
      tree = tree_is nodes n node kinds.Dict is ∙ (λ i. dict (tree_head nodes n) (child_there f node.children 0 (omega arith) i) (child_there f node.children 1 (omega arith) i));
      later = swapped nodes n (get_or node.children 0 0) (get_or node.children 1 0) (two_of nodes n node.children two is.later);
    })

-- a list's children

pub list_count : (t : DataType) (count : ℕ) → CountFits kinds.List t count → count ≡ 2 + validity_count (nullability_of t)
list_count (list_type t n) count fits = fits
list_count (bool_type n) count fits = absurd fits
list_count (int_type kind n) count fits = absurd fits
list_count (utf8_type n) count fits = absurd fits
list_count (struct_type ms n) count fits = absurd fits

pub two_in_list : (nodes : List Node) (n : ℕ) (node : Node) (ns : List ℕ) → IsNode nodes n node kinds.List → ns ≡ node.children → 1 < length ns
two_in_list nodes n node ns is these =
    let count : length node.children ≡ 2 + validity_count (nullability_of node.dtype) = list_count node.dtype (length node.children) (count_is nodes n node kinds.List is) in
    omega (arith, ap length these)

list_by : (nodes : List Node) (n : ℕ) (k : Nullability) (ns : List ℕ) → length ns ≡ 2 + validity_count k → subtree nodes n ≡ lists (tree_head nodes n) (child_in (map (subtree nodes) ns) 0) (child_in (map (subtree nodes) ns) 1) (validity_in k (map (subtree nodes) ns) 2) → AreLater nodes n ns → IsListNode nodes n (get_or ns 0 0) (get_or ns 1 0) (slice_get ns 2)
list_by nodes n NonNullable [] count is later = absurd (omega arith)
list_by nodes n NonNullable (a ∷ []) count is later = absurd (omega arith)
list_by nodes n NonNullable (a ∷ b ∷ []) count is later = record { tree = is; later = later }
list_by nodes n NonNullable (a ∷ b ∷ c ∷ ns) count is later = absurd (omega arith)
list_by nodes n Nullable [] count is later = absurd (omega arith)
list_by nodes n Nullable (a ∷ []) count is later = absurd (omega arith)
list_by nodes n Nullable (a ∷ b ∷ []) count is later = absurd (omega arith)
list_by nodes n Nullable (a ∷ b ∷ c ∷ []) count is later = record { tree = is; later = later }
list_by nodes n Nullable (a ∷ b ∷ c ∷ d ∷ ns) count is later = absurd (omega arith)

pub list_parts : (nodes : List Node) (n : ℕ) (node : Node) (ns : List ℕ) → IsNode nodes n node kinds.List → ns ≡ node.children → IsListNode nodes n (get_or ns 0 0) (get_or ns 1 0) (slice_get ns 2)
list_parts nodes n node ns is these =
    let count : length node.children ≡ 2 + validity_count (nullability_of (tree_head nodes n).dtype) = subst (λ (t : DataType). length node.children ≡ 2 + validity_count (nullability_of t)) (dtype_is nodes n node kinds.List is) (list_count node.dtype (length node.children) (count_is nodes n node kinds.List is)) in
    subst (λ (ns : List ℕ). IsListNode nodes n (get_or ns 0 0) (get_or ns 1 0) (slice_get ns 2)) (sym these)
    (list_by nodes n (nullability_of (tree_head nodes n).dtype) node.children count (tree_is nodes n node kinds.List is) is.later)

-- data and zones, in either form

zoned_by : (nodes : List Node) (n : ℕ) (is_legacy : Bool) (zone_len : ℕ) (stats : List Statistic) (ns : List ℕ) → length ns ≡ 2 → subtree nodes n ≡ zoned (tree_head nodes n) (zones_of is_legacy zone_len stats) (child_in (map (subtree nodes) ns) 0) (child_in (map (subtree nodes) ns) 1) → AreLater nodes n ns → IsOver nodes n (zoned (tree_head nodes n) (zones_of is_legacy zone_len stats) (subtree nodes (get_or ns 0 0)) (subtree nodes (get_or ns 1 0))) (get_or ns 0 0 ∷ get_or ns 1 0 ∷ [])
zoned_by nodes n is_legacy zone_len stats [] two is later = absurd (omega arith)
zoned_by nodes n is_legacy zone_len stats (a ∷ []) two is later = absurd (omega arith)
zoned_by nodes n is_legacy zone_len stats (a ∷ b ∷ []) two is later = record { tree = is; later = later }
zoned_by nodes n is_legacy zone_len stats (a ∷ b ∷ c ∷ ns) two is later = absurd (omega arith)

pub zoned_count : (nodes : List Node) (n : ℕ) (node : Node) (zone_len : ℕ) (stats : List Statistic) (ns : List ℕ) → IsNode nodes n node (kinds.Zoned zone_len stats) → ns ≡ node.children → length ns ≡ 2
zoned_count nodes n node zone_len stats ns is these = ap length these ∙ count_is nodes n node (kinds.Zoned zone_len stats) is

pub legacy_count : (nodes : List Node) (n : ℕ) (node : Node) (zone_len : ℕ) (stats : List Statistic) (ns : List ℕ) → IsNode nodes n node (kinds.LegacyStats zone_len stats) → ns ≡ node.children → length ns ≡ 2
legacy_count nodes n node zone_len stats ns is these = ap length these ∙ count_is nodes n node (kinds.LegacyStats zone_len stats) is

pub zoned_over : (nodes : List Node) (n : ℕ) (node : Node) (zone_len : ℕ) (stats : List Statistic) (ns : List ℕ) → IsNode nodes n node (kinds.Zoned zone_len stats) → ns ≡ node.children → IsOver nodes n (zoned (tree_head nodes n) (zones_of false zone_len stats) (subtree nodes (get_or ns 0 0)) (subtree nodes (get_or ns 1 0))) (get_or ns 0 0 ∷ get_or ns 1 0 ∷ [])
zoned_over nodes n node zone_len stats ns is these =
    subst (λ (ns : List ℕ). IsOver nodes n (zoned (tree_head nodes n) (zones_of false zone_len stats) (subtree nodes (get_or ns 0 0)) (subtree nodes (get_or ns 1 0))) (get_or ns 0 0 ∷ get_or ns 1 0 ∷ [])) (sym these)
    (zoned_by nodes n false zone_len stats node.children (count_is nodes n node (kinds.Zoned zone_len stats) is) (tree_is nodes n node (kinds.Zoned zone_len stats) is) is.later)

pub legacy_over : (nodes : List Node) (n : ℕ) (node : Node) (zone_len : ℕ) (stats : List Statistic) (ns : List ℕ) → IsNode nodes n node (kinds.LegacyStats zone_len stats) → ns ≡ node.children → IsOver nodes n (zoned (tree_head nodes n) (zones_of true zone_len stats) (subtree nodes (get_or ns 0 0)) (subtree nodes (get_or ns 1 0))) (get_or ns 0 0 ∷ get_or ns 1 0 ∷ [])
legacy_over nodes n node zone_len stats ns is these =
    subst (λ (ns : List ℕ). IsOver nodes n (zoned (tree_head nodes n) (zones_of true zone_len stats) (subtree nodes (get_or ns 0 0)) (subtree nodes (get_or ns 1 0))) (get_or ns 0 0 ∷ get_or ns 1 0 ∷ [])) (sym these)
    (zoned_by nodes n true zone_len stats node.children (count_is nodes n node (kinds.LegacyStats zone_len stats) is) (tree_is nodes n node (kinds.LegacyStats zone_len stats) is) is.later)
