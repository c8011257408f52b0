-- Which layouts a reader reads, and what a node of one is over.
use Rattle.std.specs.Prelude.{◌≡◌, ℕ, ◌<◌, false, List, [], ◌∷◌, Some, map, All, IfSome, IsSomeAnd}
use Rattle.std.specs.List.{slice_get}
use Rattle.vx_base.specs.declared.codings.Coding.{Coding}
use Rattle.vx_expr.specs.declared.statistics.Statistic.{Statistic}
use Rattle.vx_layout.specs.declared.nodes.LayoutKind.{LayoutKind}
use Rattle.vx_layout.specs.declared.nodes.LayoutKind.TheVariants as kinds
use Rattle.vx_layout.specs.Nodes.{Node}
use Rattle.vx_layout.specs.Shape.{IsLater}
use Rattle.vx_layout.specs.Sound.{IsSound}
use Rattle.vx_layout.specs.Trees.{Tree, leaf, chunks, fields, dict, zoned, Forest, always, head_of, forest_from, subtree}
use Rattle.vx_rows.specs.Heads.{Head}
use Rattle.vx_rows.specs.Zones.{zones_of}
use Rattle.vx_reads.specs.declared.parts.NodeParts.{NodeParts}
use Rattle.vx_reads.specs.declared.parts.NodeParts.TheVariants as parts

-- ---- zones

-- data in zones, not in the older form
abbrev pub IsZonedKind : LayoutKind → Type 0
IsZonedKind (kinds.Zoned zone_len stats) = Unit {0}
IsZonedKind kind = ⊥

-- the node is data in zones, and these zones are that of this number
abbrev pub HasZones : ℕ → Node → Type 0
HasZones zones node = IsZonedKind node.kind × (slice_get node.children 1 ≡ Some zones)

-- the node of that number is the zones of some data
abbrev pub IsZones : List Node → ℕ → Type 0
IsZones nodes n = (parent : ℕ) × IsSomeAnd (slice_get nodes parent) (HasZones n)

-- ---- layouts

-- Segments, chunks and dictionaries; data in zones of some rows, whatever is told of each zone, or nothing; and structs that
-- are the zones of such data. Lists and the older form of zones are not read, nor is any other struct.
abbrev pub IsReadableNode : List Node → ℕ → LayoutKind → Type 0
IsReadableNode nodes n (kinds.Flat segment coding) = Unit {0}
IsReadableNode nodes n kinds.Chunked = Unit {0}
IsReadableNode nodes n kinds.Dict = Unit {0}
IsReadableNode nodes n (kinds.Zoned zone_len stats) = 0 < zone_len
IsReadableNode nodes n kinds.Struct = IsZones nodes n
IsReadableNode nodes n kind = ⊥

abbrev pub IsReadableAt : List Node → ℕ → Type 0
IsReadableAt nodes n = IfSome (slice_get nodes n) (λ node. IsReadableNode nodes n node.kind)

-- each node is
abbrev pub AreReadable : List Node → Type 0
AreReadable nodes = (n : ℕ) → IsReadableAt nodes n

-- the node is none, and each one before it is
pub record IsFirstUnreadable (nodes : List Node) (n : ℕ) : Type 0 where
  pub there : IsSomeAnd (slice_get nodes n) (λ node. IsReadableNode nodes n node.kind → ⊥)
  pub before : (earlier : ℕ) → earlier < n → IsReadableAt nodes earlier

-- ---- parts

-- the head of a node's tree
abbrev pub tree_head : List Node → ℕ → Head
tree_head nodes n = head_of (subtree nodes n)

-- the trees of these nodes, in order
abbrev pub trees_of : List Node → List ℕ → Forest
trees_of nodes ns = forest_from (map (subtree nodes) ns)

-- The node stands for the tree, which is sound, over those of these later nodes.
pub record IsOver (nodes : List Node) (n : ℕ) (t : Tree) (ns : List ℕ) : Type 0 where
  pub tree : subtree nodes n ≡ t
  pub number : (tree_head nodes n).number ≡ n
  pub sound : IsSound t
  pub later : All (IsLater nodes n) ns

abbrev pub IsLeafNode : List Node → ℕ → ℕ → Coding → Type 0
IsLeafNode nodes n segment coding = IsOver nodes n (leaf (tree_head nodes n) segment coding) []

abbrev pub IsChunked : List Node → ℕ → List ℕ → Type 0
IsChunked nodes n ns = IsOver nodes n (chunks (tree_head nodes n) (trees_of nodes ns)) ns

abbrev pub IsDict : List Node → ℕ → ℕ → ℕ → Type 0
IsDict nodes n codes values = IsOver nodes n (dict (tree_head nodes n) (subtree nodes values) (subtree nodes codes)) (codes ∷ values ∷ [])

-- zones of so many rows, of each of which so much is told
abbrev pub IsZonedNode : List Node → ℕ → ℕ → ℕ → ℕ → List Statistic → Type 0
IsZonedNode nodes n content zones zone_len stats =
    IsOver nodes n (zoned (tree_head nodes n) (zones_of false zone_len stats) (subtree nodes content) (subtree nodes zones)) (content ∷ zones ∷ [])

-- a struct that takes no nulls: its children are its fields
abbrev pub IsStructNode : List Node → ℕ → List ℕ → Type 0
IsStructNode nodes n ns = IsOver nodes n (fields (tree_head nodes n) (trees_of nodes ns) always) ns

abbrev pub PartsOf : List Node → ℕ → NodeParts → Type 0
PartsOf nodes n (parts.Leaf segment coding) = IsLeafNode nodes n segment coding
PartsOf nodes n (parts.Chunks ns) = IsChunked nodes n ns.now
PartsOf nodes n (parts.Dict codes values) = IsDict nodes n codes values
PartsOf nodes n (parts.Zoned content zones zone_len stats) = IsZonedNode nodes n content zones zone_len stats.now × (0 < zone_len)
PartsOf nodes n (parts.Struct ns) = IsStructNode nodes n ns.now
