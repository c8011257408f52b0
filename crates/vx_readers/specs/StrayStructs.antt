-- Structs among the nodes of a layout that are not the zones of some data: what the search for the lowest of them speaks of. What is
-- promised of a layout says it by `IsZones` (`vx_reads`), and cites nothing of this file.
use Rattle.std.specs.Prelude.{◌≡◌, ℕ, List, Some, IsSomeAnd}
use Rattle.std.specs.List.{slice_get}
use Rattle.vx_layout.specs.declared.nodes.LayoutKind.{LayoutKind}
use Rattle.vx_layout.specs.declared.nodes.LayoutKind.TheVariants as kinds
use Rattle.vx_layout.specs.Nodes.{Node}
use Rattle.vx_reads.specs.Readable.{IsZonedKind}

abbrev pub IsStructKind : LayoutKind → Type 0
IsStructKind kinds.Struct = Unit {0}
IsStructKind kind = ⊥

abbrev pub IsStructAt : List Node → ℕ → Type 0
IsStructAt nodes n = IsSomeAnd (slice_get nodes n) (λ node. IsStructKind node.kind)

-- the child of a node at a place has that number
abbrev pub IsChildAt : List Node → ℕ → ℕ → ℕ → Type 0
IsChildAt nodes parent place child = IsSomeAnd (slice_get nodes parent) (λ node. slice_get node.children place ≡ Some child)

-- the place is that of a node's zones: the second one of data that has zones
abbrev pub AreZonesIn : LayoutKind → ℕ → Type 0
AreZonesIn kind place = (place ≡ 1) × IsZonedKind kind

abbrev pub AreZonesAt : List Node → ℕ → ℕ → Type 0
AreZonesAt nodes parent place = IsSomeAnd (slice_get nodes parent) (λ node. AreZonesIn node.kind place)

-- The node is a struct, and a child that isn't zones.
pub record IsStray (nodes : List Node) (n : ℕ) : Type 0 where
  pub parent : ℕ
  pub place : ℕ
  pub child : IsChildAt nodes parent place n
  pub no_zones : ¬ AreZonesAt nodes parent place
  pub struct_ : IsStructAt nodes n
