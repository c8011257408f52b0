-- What is said of a node by the heads of its children: their count, dtypes and rows.
use Rattle.std.specs.Prelude.{◌≡◌, ℕ, ◌+◌, true, false, List, [], ◌∷◌, Option, Some, None, IfSome}
use Rattle.std.specs.List.{slice_get}
use Rattle.std.specs.Option.{option_map_or}
use Rattle.vx_base.specs.declared.dtypes.Nullability.{Nullability}
use Rattle.vx_base.specs.declared.dtypes.Nullability.TheVariants.{NonNullable, Nullable}
use Rattle.vx_base.specs.Data.{DataType, bool_type, Members, no_members, member}
use Rattle.vx_base.specs.Fits.{nullability_of}
use Rattle.vx_base.specs.Leaf.{IsLeaf}
use Rattle.vx_layout.specs.declared.nodes.LayoutKind.{LayoutKind}
use Rattle.vx_layout.specs.declared.nodes.LayoutKind.TheVariants as kinds
use Rattle.vx_layout.specs.Nodes.{Node}
use Rattle.vx_layout.specs.Trees.{head_at}
use Rattle.vx_layout.specs.Rows.{struct_members}
use Rattle.vx_rows.specs.TypeForms.{IsStruct}
use Rattle.vx_rows.specs.Heads.{Head}
use Rattle.vx_rows.specs.Zones.{zones_of}
use Rattle.vx_layout.specs.Sound.{IsHead, IsDictionary, IsList, AreZones}

abbrev pub ForHead : ℕ → Option Node → (Head → Type 0) → Type 0
ForHead n None P = ⊥
ForHead n (Some node) P = P (head_at n node)

-- P of the head of the node of that number, which there is
abbrev pub ChildHead : List Node → (Head → Type 0) → ℕ → Type 0
ChildHead nodes P n = ForHead n (slice_get nodes n) P

abbrev pub rows_at : List Node → ℕ → ℕ
rows_at nodes n = option_map_or (λ node. node.rows) (slice_get nodes n) 0

-- each chunk has the dtype
abbrev pub ChunksFit : List Node → DataType → List ℕ → Type 0
ChunksFit nodes t [] = Unit {0}
ChunksFit nodes t (n ∷ ns) = ChildHead nodes (λ head. head.dtype ≡ t) n × ChunksFit nodes t ns

abbrev pub rows_of_all : List Node → List ℕ → ℕ
rows_of_all nodes [] = 0
rows_of_all nodes (n ∷ ns) = rows_at nodes n + rows_of_all nodes ns

-- one child for each field, of its dtype and so many rows
abbrev pub FieldsFit : List Node → Members → ℕ → List ℕ → Type 0
FieldsFit nodes no_members rows [] = Unit {0}
FieldsFit nodes (member name t ms) rows (n ∷ ns) = ChildHead nodes (λ head. IsHead head t rows) n × FieldsFit nodes ms rows ns
FieldsFit nodes ms rows ns = ⊥

abbrev pub ValidityFits : List Node → ℕ → ℕ → Type 0
ValidityFits nodes rows n = ChildHead nodes (λ head. IsHead head (bool_type NonNullable) rows) n

-- the children of a struct: its validity where it takes nulls, then its fields
abbrev pub StructFits : List Node → Nullability → Members → ℕ → List ℕ → Type 0
StructFits nodes NonNullable ms rows ns = FieldsFit nodes ms rows ns
StructFits nodes Nullable ms rows [] = ⊥
StructFits nodes Nullable ms rows (n ∷ ns) = ValidityFits nodes rows n × FieldsFit nodes ms rows ns

-- P of the heads of the nodes of two numbers
abbrev pub BothHeads : List Node → (Head → Head → Type 0) → ℕ → ℕ → Type 0
BothHeads nodes P n m = ChildHead nodes (λ one. ChildHead nodes (λ other. P one other) m) n

-- two children, of whose heads is P
abbrev pub PairFits : List Node → (Head → Head → Type 0) → List ℕ → Type 0
PairFits nodes P (n ∷ m ∷ []) = BothHeads nodes P n m
PairFits nodes P ns = ⊥

-- the children of a list: its elements, its offsets, and its validity where it takes nulls
abbrev pub ListFits : List Node → Nullability → (Head → Head → Type 0) → ℕ → List ℕ → Type 0
ListFits nodes NonNullable P rows (n ∷ m ∷ []) = BothHeads nodes P n m
ListFits nodes Nullable P rows (n ∷ m ∷ k ∷ []) = BothHeads nodes P n m × ValidityFits nodes rows k
ListFits nodes nullability P rows ns = ⊥

abbrev pub FitsKind : List Node → Head → LayoutKind → List ℕ → Type 0
FitsKind nodes head (kinds.Flat segment coding) ns = IsLeaf head.dtype
FitsKind nodes head kinds.Chunked ns = ChunksFit nodes head.dtype ns × (rows_of_all nodes ns ≡ head.rows)
FitsKind nodes head kinds.Struct ns = IsStruct head.dtype × StructFits nodes (nullability_of head.dtype) (struct_members head.dtype) head.rows ns
FitsKind nodes head kinds.Dict ns = PairFits nodes (IsDictionary head) ns
FitsKind nodes head kinds.List ns = ListFits nodes (nullability_of head.dtype) (IsList head) head.rows ns
FitsKind nodes head (kinds.Zoned zone_len stats) ns = PairFits nodes (λ content table. IsHead content head.dtype head.rows × AreZones (zones_of false zone_len stats) head table) ns
FitsKind nodes head (kinds.LegacyStats zone_len stats) ns = PairFits nodes (λ content table. IsHead content head.dtype head.rows × AreZones (zones_of true zone_len stats) head table) ns

abbrev pub FitsChildren : List Node → ℕ → Type 0
FitsChildren nodes number = IfSome (slice_get nodes number) (λ node. FitsKind nodes (head_at number node) node.kind node.children)
