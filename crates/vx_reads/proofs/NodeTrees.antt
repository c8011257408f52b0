-- What a node is over, by its kind.
use Rattle.std.proofs.Common.{◌≡◌, ℕ, zero, suc, ◌<◌, false, List, [], ◌∷◌, Option, Some, None, length, map, get_or, refl, sym, ap, ◌∙◌, subst, arith}
use Rattle.std.specs.Prelude.{option_and_then, IfSome, IsSomeAnd, All}
use Rattle.std.specs.List.{slice_get}
use Rattle.std.proofs.lemmas.List.Elements.{All-cons, All-head, All-nil, All-tail}
use Rattle.std.proofs.lemmas.Option.{slice_get_within}
use Rattle.vx_base.specs.declared.codings.Coding.{Coding}
use Rattle.vx_base.specs.declared.dtypes.Nullability.TheVariants.{NonNullable}
use Rattle.vx_base.specs.Data.{DataType}
use Rattle.vx_base.specs.Fits.{nullability_of}
use Rattle.vx_expr.specs.declared.statistics.Statistic.{Statistic}
use Rattle.vx_layout.specs.declared.nodes.LayoutKind.{LayoutKind}
use Rattle.vx_layout.specs.declared.nodes.LayoutKind.TheVariants as kinds
use Rattle.vx_layout.specs.declared.rules.ShapeRule.TheVariants.{ChildCount, FittingZones}
use Rattle.vx_layout.specs.Nodes.{Node}
use Rattle.vx_layout.specs.Shape.{Asks, CountFits, HasFittingCount, IsGoodTree, IsLater, ZonesCount, ZonesFit}
use Rattle.vx_layout.specs.Sound.{IsSound}
use Rattle.vx_layout.specs.Trees.{Tree, fields, dict, zoned, always, head_at, child_in, forest_from, field_trees, grown_as, grown, subtree, validity_in}
use Rattle.vx_layout.proofs.Unfolding.{good_later, unfolds, head_of_subtree}
use Rattle.vx_layout.proofs.Ruled.{good_sound}
use Rattle.vx_rows.specs.Heads.{Head}
use Rattle.vx_rows.specs.Zones.{zones_of, zones_type}
use Rattle.vx_reads.specs.Readable.{tree_head, trees_of, AreReadable, HasZones, IsChunked, IsDict, IsLeafNode, IsReadableNode, IsStructNode, IsZonedKind, IsZonedNode, IsZones}

-- what the tree says of a node that it has
pub record IsNode (nodes : List Node) (n : ℕ) (node : Node) (kind : LayoutKind) : Type 0 where
  pub good : IsGoodTree nodes
  pub at : slice_get nodes n ≡ Some node
  pub later : All (IsLater nodes n) node.children
  pub kind_is : node.kind ≡ kind
  pub known : n < length nodes

pub head_is : (nodes : List Node) (n : ℕ) (node : Node) → IsGoodTree nodes → slice_get nodes n ≡ Some node → head_at n node ≡ tree_head nodes n
head_is nodes n node good at = sym (head_of_subtree nodes (good_later nodes good) n node at)

number_is : (nodes : List Node) (n : ℕ) (node : Node) → IsGoodTree nodes → slice_get nodes n ≡ Some node → (tree_head nodes n).number ≡ n
number_is nodes n node good at = sym (ap (λ (head : Head). head.number) (head_is nodes n node good at))

tree_is : (nodes : List Node) (n : ℕ) (node : Node) (kind : LayoutKind) → IsNode nodes n node kind → subtree nodes n ≡ grown_as (tree_head nodes n) kind (map (subtree nodes) node.children)
tree_is nodes n node kind is =
    unfolds nodes (good_later nodes is.good) n ∙ ap (grown (subtree nodes) n) is.at
    ∙ (λ i. grown_as (head_is nodes n node is.good is.at i) (is.kind_is i) (map (subtree nodes) node.children))

sound_is : (nodes : List Node) (n : ℕ) (t : Tree) → IsGoodTree nodes → n < length nodes → subtree nodes n ≡ t → IsSound t
sound_is nodes n t good known is = subst IsSound is (good_sound nodes good n known)

count_by : (nodes : List Node) (n : ℕ) (o : Option Node) (node : Node) → o ≡ Some node → IsSomeAnd o HasFittingCount → HasFittingCount node
count_by nodes n o node at fits = subst (λ (o : Option Node). IsSomeAnd o HasFittingCount) at fits

count_is : (nodes : List Node) (n : ℕ) (node : Node) (kind : LayoutKind) → IsNode nodes n node kind → CountFits kind node.dtype (length node.children)
count_is nodes n node kind is =
    subst (λ (kind : LayoutKind). CountFits kind node.dtype (length node.children)) is.kind_is
    (count_by nodes n (slice_get nodes n) node is.at (is.good.kept ChildCount n is.known))

pub leaf_parts : (nodes : List Node) (n : ℕ) (node : Node) (segment : ℕ) (coding : Coding) → IsNode nodes n node (kinds.Flat segment coding) → IsLeafNode nodes n segment coding
leaf_parts nodes n node segment coding is =
    let t = tree_is nodes n node (kinds.Flat segment coding) is in
    record { tree = t; number = number_is nodes n node is.good is.at; sound = sound_is nodes n _ is.good is.known t; later = All-nil (IsLater nodes n) }

pub chunk_parts : (nodes : List Node) (n : ℕ) (node : Node) (ns : List ℕ) → IsNode nodes n node kinds.Chunked → ns ≡ node.children → IsChunked nodes n ns
chunk_parts nodes n node ns is these =
    let t = tree_is nodes n node kinds.Chunked is in
    subst (IsChunked nodes n) (sym these) (record { tree = t; number = number_is nodes n node is.good is.at; sound = sound_is nodes n _ is.good is.known t; later = is.later })

child_there : (f : ℕ → Tree) (ns : List ℕ) (i : ℕ) → i < length ns → child_in (map f ns) i ≡ f (get_or ns i 0)
child_there f [] i lt = absurd (omega arith)
child_there f (n ∷ ns) zero lt = refl
child_there f (n ∷ ns) (suc i) lt = child_there f ns i (omega arith)

two_of : (nodes : List Node) (n : ℕ) (ns : List ℕ) → length ns ≡ 2 → All (IsLater nodes n) ns → All (IsLater nodes n) (get_or ns 1 0 ∷ get_or ns 0 0 ∷ [])
two_of nodes n [] two later = absurd (omega arith)
two_of nodes n (a ∷ []) two later = absurd (omega arith)
two_of nodes n (a ∷ b ∷ []) two later =
    let rest = All-tail (IsLater nodes n) a (b ∷ []) later in
    All-cons (IsLater nodes n) b (a ∷ []) (All-head (IsLater nodes n) b [] rest) (All-cons (IsLater nodes n) a [] (All-head (IsLater nodes n) a (b ∷ []) later) (All-nil (IsLater nodes n)))
two_of nodes n (a ∷ b ∷ c ∷ ns) two later = absurd (omega arith)

pub dict_count : (nodes : List Node) (n : ℕ) (node : Node) (ns : List ℕ) → IsNode nodes n node kinds.Dict → ns ≡ node.children → length ns ≡ 2
dict_count nodes n node ns is these = ap length these ∙ count_is nodes n node kinds.Dict is

pub dict_parts : (nodes : List Node) (n : ℕ) (node : Node) (ns : List ℕ) → IsNode nodes n node kinds.Dict → ns ≡ node.children → IsDict nodes n (get_or ns 1 0) (get_or ns 0 0)
dict_parts nodes n node ns is these =
    let two : length node.children ≡ 2 = count_is nodes n node kinds.Dict is in
    let f : ℕ → Tree = subtree nodes in
    let t : subtree nodes n ≡ dict (tree_head nodes n) (subtree nodes (get_or node.children 0 0)) (subtree nodes (get_or node.children 1 0)) = tree_is nodes n node kinds.Dict is ∙ (λ i. dict (tree_head nodes n) (child_there f node.children 0 (omega arith) i) (child_there f node.children 1 (omega arith) i)) in
    subst (λ (ns : List ℕ). IsDict nodes n (get_or ns 1 0) (get_or ns 0 0)) (sym these)
    (record { tree = t; number = number_is nodes n node is.good is.at; sound = sound_is nodes n _ is.good is.known t; later = two_of nodes n node.children two is.later })

pub rows_is : (nodes : List Node) (n : ℕ) (node : Node) → IsGoodTree nodes → slice_get nodes n ≡ Some node → node.rows ≡ (tree_head nodes n).rows
rows_is nodes n node good at = ap (λ (head : Head). head.rows) (head_is nodes n node good at)

pub dtype_is : (nodes : List Node) (n : ℕ) (node : Node) → IsGoodTree nodes → slice_get nodes n ≡ Some node → node.dtype ≡ (tree_head nodes n).dtype
dtype_is nodes n node good at = ap (λ (head : Head). head.dtype) (head_is nodes n node good at)

-- ---- data in zones

-- a node of a readable layout is one that is read
pub readable_is : (nodes : List Node) (n : ℕ) (node : Node) (kind : LayoutKind) → AreReadable nodes → IsNode nodes n node kind → IsReadableNode nodes n kind
readable_is nodes n node kind readable is =
    subst (IsReadableNode nodes n) is.kind_is (subst (λ (o : Option Node). IfSome o (λ node. IsReadableNode nodes n node.kind)) is.at (readable n))

pub zoned_count : (nodes : List Node) (n : ℕ) (node : Node) (zone_len : ℕ) (stats : List Statistic) (ns : List ℕ) → IsNode nodes n node (kinds.Zoned zone_len stats) → ns ≡ node.children → length ns ≡ 2
zoned_count nodes n node zone_len stats ns is these = ap length these ∙ count_is nodes n node (kinds.Zoned zone_len stats) is

both_of : (nodes : List Node) (n : ℕ) (ns : List ℕ) → length ns ≡ 2 → All (IsLater nodes n) ns → All (IsLater nodes n) (get_or ns 0 0 ∷ get_or ns 1 0 ∷ [])
both_of nodes n [] two later = absurd (omega arith)
both_of nodes n (a ∷ []) two later = absurd (omega arith)
both_of nodes n (a ∷ b ∷ []) two later = later
both_of nodes n (a ∷ b ∷ c ∷ ns) two later = absurd (omega arith)

zoned_over : (nodes : List Node) (n : ℕ) (node : Node) (zone_len : ℕ) (stats : List Statistic) → IsNode nodes n node (kinds.Zoned zone_len stats) → IsZonedNode nodes n (get_or node.children 0 0) (get_or node.children 1 0) zone_len stats
zoned_over nodes n node zone_len stats is =
    let two : length node.children ≡ 2 = count_is nodes n node (kinds.Zoned zone_len stats) is in
    let f : ℕ → Tree = subtree nodes in
    let t : subtree nodes n ≡ zoned (tree_head nodes n) (zones_of false zone_len stats) (subtree nodes (get_or node.children 0 0)) (subtree nodes (get_or node.children 1 0)) =
    tree_is nodes n node (kinds.Zoned zone_len stats) is
    ∙ (λ i. zoned (tree_head nodes n) (zones_of false zone_len stats) (child_there f node.children 0 (omega arith) i) (child_there f node.children 1 (omega arith) i)) in
    record { tree = t; number = number_is nodes n node is.good is.at; sound = sound_is nodes n _ is.good is.known t; later = both_of nodes n node.children two is.later }

pub zoned_parts : (nodes : List Node) (n : ℕ) (node : Node) (zone_len : ℕ) (stats : List Statistic) (ns : List ℕ) → AreReadable nodes → IsNode nodes n node (kinds.Zoned zone_len stats) → ns ≡ node.children → IsZonedNode nodes n (get_or ns 0 0) (get_or ns 1 0) zone_len stats × (0 < zone_len)
zoned_parts nodes n node zone_len stats ns readable is these =
    (subst (λ (ns : List ℕ). IsZonedNode nodes n (get_or ns 0 0) (get_or ns 1 0) zone_len stats) (sym these) (zoned_over nodes n node zone_len stats is), readable_is nodes n node (kinds.Zoned zone_len stats) readable is)

-- ---- the structs that are zones

-- the dtype of zones
record IsZonesType (t : DataType) : Type 0 where
  over : DataType
  stats : List Statistic
  is : t ≡ zones_type over stats

zones_child : (nodes : List Node) (n : ℕ) (node parent : Node) (kind : LayoutKind) → slice_get nodes n ≡ Some node → slice_get parent.children 1 ≡ Some n → IsZonedKind kind → ZonesFit nodes parent kind → IsZonesType node.dtype
zones_child nodes n node parent (kinds.Zoned zone_len stats) at there is fit =
    let child : option_and_then (slice_get nodes) (slice_get parent.children 1) ≡ Some node = ap (option_and_then (slice_get nodes)) there ∙ at in
    let here = subst (λ (o : Option Node). IsSomeAnd o (λ zones. (zones.dtype ≡ zones_type parent.dtype stats) × ZonesCount zone_len parent.rows zones.rows)) child fit.1 in
    record { over = parent.dtype; stats = stats; is = here.0 }
zones_child nodes n node parent (kinds.Flat segment coding) at there is fit = absurd is
zones_child nodes n node parent kinds.Chunked at there is fit = absurd is
zones_child nodes n node parent kinds.Struct at there is fit = absurd is
zones_child nodes n node parent kinds.Dict at there is fit = absurd is
zones_child nodes n node parent kinds.List at there is fit = absurd is
zones_child nodes n node parent (kinds.LegacyStats zone_len stats) at there is fit = absurd is

zones_by : (nodes : List Node) (n : ℕ) (node : Node) (parent : ℕ) (o : Option Node) → IsGoodTree nodes → slice_get nodes n ≡ Some node → slice_get nodes parent ≡ o → IsSomeAnd o (HasZones n) → IsZonesType node.dtype
zones_by nodes n node parent None good at there has = absurd has
zones_by nodes n node parent (Some above) good at there has =
    let asked : IsSomeAnd (slice_get nodes parent) (Asks FittingZones nodes parent) = good.kept FittingZones parent (slice_get_within nodes parent above there) in
    let fit : ZonesFit nodes above above.kind = subst (λ (o : Option Node). IsSomeAnd o (Asks FittingZones nodes parent)) there asked in
    zones_child nodes n node above above.kind at has.1 has.0 fit

pub struct_parts : (nodes : List Node) (n : ℕ) (node : Node) (ns : List ℕ) → AreReadable nodes → IsNode nodes n node kinds.Struct → ns ≡ node.children → IsStructNode nodes n ns
struct_parts nodes n node ns readable is these =
    let zones : IsZones nodes n = readable_is nodes n node kinds.Struct readable is in
    let typed : IsZonesType node.dtype = zones_by nodes n node zones.0 (slice_get nodes zones.0) is.good is.at refl zones.1 in
    let bare : nullability_of (tree_head nodes n).dtype ≡ NonNullable = ap nullability_of (sym (ap (λ (head : Head). head.dtype) (head_is nodes n node is.good is.at)) ∙ typed.is) in
    let f : ℕ → Tree = subtree nodes in
    let t : subtree nodes n ≡ fields (tree_head nodes n) (trees_of nodes node.children) always = tree_is nodes n node kinds.Struct is
    ∙ (λ i. fields (tree_head nodes n) (forest_from (field_trees (bare i) (map f node.children))) (validity_in (bare i) (map f node.children) 0)) in
    subst (IsStructNode nodes n) (sym these) (record { tree = t; number = number_is nodes n node is.good is.at; sound = sound_is nodes n _ is.good is.known t; later = is.later })
