-- A list of nodes in which each fits its children grows sound trees.
use Rattle.std.proofs.Common.{◌≡◌, ℕ, zero, suc, true, false, ◌+◌, ◌<◌, ◌≤◌, List, [], ◌∷◌, Option, Some, None, length, map, refl, sym, ap, ◌∙◌, subst, arith}
use Rattle.std.specs.Prelude.{IfSome}
use Rattle.std.specs.List.{slice_get, All, AllByRecursion}
use Rattle.std.specs.Option.{option_map_or}
use Rattle.std.proofs.lemmas.List.Elements.{All-head, All-tail}
use Rattle.vx_base.specs.declared.dtypes.Nullability.{Nullability}
use Rattle.vx_base.specs.declared.dtypes.Nullability.TheVariants.{NonNullable, Nullable}
use Rattle.vx_base.specs.Data.{DataType, bool_type, Members, no_members, member}
use Rattle.vx_base.specs.Fits.{nullability_of}
use Rattle.vx_layout.specs.Shape.{IsLater}
use Rattle.vx_layout.specs.declared.nodes.LayoutKind.{LayoutKind}
use Rattle.vx_layout.specs.declared.nodes.LayoutKind.TheVariants as kinds
use Rattle.vx_layout.specs.Nodes.{Node}
use Rattle.vx_rows.specs.Heads.{Head}
use Rattle.vx_rows.specs.Zones.{Zones, zones_of}
use Rattle.vx_layout.specs.Trees.{Tree, zoned, head_of, head_at, forest_from, child_in, validity_in, field_trees, grown_as, grown, subtree}
use Rattle.vx_layout.specs.Rows.{struct_members, rows_in}
use Rattle.vx_layout.specs.Sound.{IsSound, IsHead, IsDictionary, IsList, AreZones, AreChunks, AreFields, IsValidity}
use Rattle.vx_layout.proofs.ChildHeads.{ForHead, ChildHead, rows_at, ChunksFit, rows_of_all, FieldsFit, StructFits, BothHeads, PairFits, ListFits, FitsKind, FitsChildren}
use Rattle.vx_layout.proofs.Unfolding.{HaveLaterChildren, unfolds, head_of_subtree}

-- ---- heads

head_by : (nodes : List Node) → HaveLaterChildren nodes → (P : Head → Type 0) (n : ℕ) (o : Option Node) → slice_get nodes n ≡ o → ForHead n o P → P (head_of (subtree nodes n))
head_by nodes later P n None at is = absurd is
head_by nodes later P n (Some node) at is = subst P (sym (head_of_subtree nodes later n node at)) is

-- what is said of a child's node is said of its tree's head
child_head : (nodes : List Node) → HaveLaterChildren nodes → (P : Head → Type 0) (n : ℕ) → ChildHead nodes P n → P (head_of (subtree nodes n))
child_head nodes later P n is = head_by nodes later P n (slice_get nodes n) refl is

both_heads : (nodes : List Node) → HaveLaterChildren nodes → (P : Head → Head → Type 0) (n m : ℕ) → BothHeads nodes P n m → P (head_of (subtree nodes n)) (head_of (subtree nodes m))
both_heads nodes later P n m are = child_head nodes later (λ other. P (head_of (subtree nodes n)) other) m (child_head nodes later (λ one. ChildHead nodes (λ other. P one other) m) n are)

rows_by : (nodes : List Node) → HaveLaterChildren nodes → (P : Head → Type 0) (n : ℕ) (o : Option Node) → slice_get nodes n ≡ o → ForHead n o P → (head_of (subtree nodes n)).rows ≡ option_map_or (λ node. node.rows) o 0
rows_by nodes later P n None at is = absurd is
rows_by nodes later P n (Some node) at is = ap (λ (head : Head). head.rows) (head_of_subtree nodes later n node at)

-- ---- children

abbrev AreSound : List Node → List ℕ → Type 0
AreSound nodes ns = AllByRecursion (λ n. IsSound (subtree nodes n)) ns

chunks_sound : (nodes : List Node) → HaveLaterChildren nodes → (t : DataType) (ns : List ℕ) → AreSound nodes ns → ChunksFit nodes t ns → AreChunks t (forest_from (map (subtree nodes) ns))
chunks_sound nodes later t [] sound fit = tt
chunks_sound nodes later t (n ∷ ns) sound fit = (sound.0, child_head nodes later (λ head. head.dtype ≡ t) n fit.0, chunks_sound nodes later t ns sound.1 fit.1)

chunk_rows : (nodes : List Node) → HaveLaterChildren nodes → (t : DataType) (ns : List ℕ) → ChunksFit nodes t ns → rows_in (forest_from (map (subtree nodes) ns)) ≡ rows_of_all nodes ns
chunk_rows nodes later t [] fit = refl
chunk_rows nodes later t (n ∷ ns) fit =
    let here : (head_of (subtree nodes n)).rows ≡ rows_at nodes n = rows_by nodes later (λ head. head.dtype ≡ t) n (slice_get nodes n) refl fit.0 in
    omega (arith, chunk_rows nodes later t ns fit.1)

fields_sound : (nodes : List Node) → HaveLaterChildren nodes → (ms : Members) (rows : ℕ) (ns : List ℕ) → AreSound nodes ns → FieldsFit nodes ms rows ns → AreFields ms rows (forest_from (map (subtree nodes) ns))
fields_sound nodes later no_members rows [] sound fit = tt
fields_sound nodes later no_members rows (n ∷ ns) sound fit = absurd fit
fields_sound nodes later (member name t ms) rows [] sound fit = absurd fit
fields_sound nodes later (member name t ms) rows (n ∷ ns) sound fit = (sound.0, child_head nodes later (λ head. IsHead head t rows) n fit.0, fields_sound nodes later ms rows ns sound.1 fit.1)

struct_sound : (nodes : List Node) → HaveLaterChildren nodes → (n : Nullability) (ms : Members) (rows : ℕ) (ns : List ℕ) → AreSound nodes ns → StructFits nodes n ms rows ns → AreFields ms rows (forest_from (field_trees n (map (subtree nodes) ns))) × IsValidity n rows (validity_in n (map (subtree nodes) ns) 0)
struct_sound nodes later NonNullable ms rows ns sound fit = (fields_sound nodes later ms rows ns sound fit, tt)
struct_sound nodes later Nullable ms rows [] sound fit = absurd fit
struct_sound nodes later Nullable ms rows (n ∷ ns) sound fit = (fields_sound nodes later ms rows ns sound.1 fit.1, (sound.0, child_head nodes later (λ head. IsHead head (bool_type NonNullable) rows) n fit.0))

-- two sound children, of whose heads is P
record PairIs (P : Head → Head → Type 0) (one other : Tree) : Type 0 where
  one_sound : IsSound one
  other_sound : IsSound other
  heads : P (head_of one) (head_of other)

pair_sound : (nodes : List Node) → HaveLaterChildren nodes → (P : Head → Head → Type 0) (ns : List ℕ) → AreSound nodes ns → PairFits nodes P ns → PairIs P (child_in (map (subtree nodes) ns) 0) (child_in (map (subtree nodes) ns) 1)
pair_sound nodes later P [] sound fit = absurd fit
pair_sound nodes later P (n ∷ []) sound fit = absurd fit
pair_sound nodes later P (n ∷ m ∷ []) sound fit = record { one_sound = sound.0; other_sound = sound.1.0; heads = both_heads nodes later P n m fit }
pair_sound nodes later P (n ∷ m ∷ k ∷ ns) sound fit = absurd fit

list_sound : (nodes : List Node) → HaveLaterChildren nodes → (n : Nullability) (P : Head → Head → Type 0) (rows : ℕ) (ns : List ℕ) → AreSound nodes ns → ListFits nodes n P rows ns → PairIs P (child_in (map (subtree nodes) ns) 0) (child_in (map (subtree nodes) ns) 1) × IsValidity n rows (validity_in n (map (subtree nodes) ns) 2)
list_sound nodes later NonNullable P rows [] sound fit = absurd fit
list_sound nodes later NonNullable P rows (n ∷ []) sound fit = absurd fit
list_sound nodes later NonNullable P rows (n ∷ m ∷ []) sound fit = (record { one_sound = sound.0; other_sound = sound.1.0; heads = both_heads nodes later P n m fit }, tt)
list_sound nodes later NonNullable P rows (n ∷ m ∷ k ∷ ns) sound fit = absurd fit
list_sound nodes later Nullable P rows [] sound fit = absurd fit
list_sound nodes later Nullable P rows (n ∷ []) sound fit = absurd fit
list_sound nodes later Nullable P rows (n ∷ m ∷ []) sound fit = absurd fit
list_sound nodes later Nullable P rows (n ∷ m ∷ k ∷ []) sound fit = (record { one_sound = sound.0; other_sound = sound.1.0; heads = both_heads nodes later P n m fit.0 }, (sound.1.1.0, child_head nodes later (λ head. IsHead head (bool_type NonNullable) rows) k fit.1))
list_sound nodes later Nullable P rows (n ∷ m ∷ k ∷ j ∷ ns) sound fit = absurd fit

-- what is said of the data and of the table of zones
abbrev ZonedHeads : Head → Zones → Head → Head → Type 0
ZonedHeads head zones content table = IsHead content head.dtype head.rows × AreZones zones head table

zoned_sound : (nodes : List Node) → HaveLaterChildren nodes → (head : Head) (zones : Zones) (ns : List ℕ) → AreSound nodes ns → PairFits nodes (ZonedHeads head zones) ns → IsSound (zoned head zones (child_in (map (subtree nodes) ns) 0) (child_in (map (subtree nodes) ns) 1))
zoned_sound nodes later head zones ns sound fit =
    let pair : PairIs (ZonedHeads head zones) (child_in (map (subtree nodes) ns) 0) (child_in (map (subtree nodes) ns) 1) = pair_sound nodes later (ZonedHeads head zones) ns sound fit in
    (pair.one_sound, pair.heads.0, pair.other_sound, pair.heads.1)

-- ---- nodes

kind_sound : (nodes : List Node) → HaveLaterChildren nodes → (number : ℕ) (node : Node) (kind : LayoutKind) → AreSound nodes node.children → FitsKind nodes (head_at number node) kind node.children → IsSound (grown_as (head_at number node) kind (map (subtree nodes) node.children))
kind_sound nodes later number node (kinds.Flat segment coding) sound fit = fit
kind_sound nodes later number node kinds.Chunked sound fit = (chunks_sound nodes later node.dtype node.children sound fit.0, chunk_rows nodes later node.dtype node.children fit.0 ∙ fit.1)
kind_sound nodes later number node kinds.Struct sound fit =
    let parts : AreFields (struct_members node.dtype) node.rows (forest_from (field_trees (nullability_of node.dtype) (map (subtree nodes) node.children))) × IsValidity (nullability_of node.dtype) node.rows (validity_in (nullability_of node.dtype) (map (subtree nodes) node.children) 0) = struct_sound nodes later (nullability_of node.dtype) (struct_members node.dtype) node.rows node.children sound fit.1 in
    (fit.0, parts.0, parts.1)
kind_sound nodes later number node kinds.Dict sound fit =
    let pair : PairIs (IsDictionary (head_at number node)) (child_in (map (subtree nodes) node.children) 0) (child_in (map (subtree nodes) node.children) 1) = pair_sound nodes later (IsDictionary (head_at number node)) node.children sound fit in
    (pair.one_sound, pair.other_sound, pair.heads)
kind_sound nodes later number node kinds.List sound fit =
    let parts : PairIs (IsList (head_at number node)) (child_in (map (subtree nodes) node.children) 0) (child_in (map (subtree nodes) node.children) 1) × IsValidity (nullability_of node.dtype) node.rows (validity_in (nullability_of node.dtype) (map (subtree nodes) node.children) 2) = list_sound nodes later (nullability_of node.dtype) (IsList (head_at number node)) node.rows node.children sound fit in
    (parts.0.one_sound, parts.0.other_sound, parts.0.heads, parts.1)
kind_sound nodes later number node (kinds.Zoned zone_len stats) sound fit = zoned_sound nodes later (head_at number node) (zones_of false zone_len stats) node.children sound fit
kind_sound nodes later number node (kinds.LegacyStats zone_len stats) sound fit = zoned_sound nodes later (head_at number node) (zones_of true zone_len stats) node.children sound fit

each_sound : (nodes : List Node) (n : ℕ) (ns : List ℕ) → All (IsLater nodes n) ns → ((child : ℕ) → n < child → child < length nodes → IsSound (subtree nodes child)) → AreSound nodes ns
each_sound nodes n [] later sound = tt
each_sound nodes n (m ∷ ns) later sound =
    let here : (n < m) × (m < length nodes) = All-head (IsLater nodes n) m ns later in
    (sound m here.0 here.1, each_sound nodes n ns (All-tail (IsLater nodes n) m ns later) sound)

node_sound : (nodes : List Node) → HaveLaterChildren nodes → (n : ℕ) (o : Option Node) → slice_get nodes n ≡ o → n < length nodes
    → IfSome o (λ node. All (IsLater nodes n) node.children) → IfSome o (λ node. FitsKind nodes (head_at n node) node.kind node.children)
    → ((child : ℕ) → n < child → child < length nodes → IsSound (subtree nodes child)) → IsSound (grown (subtree nodes) n o)
node_sound nodes later n None at lt children fit below = absurd (inside nodes n lt at)
  where
    inside : (xs : List Node) (i : ℕ) → i < length xs → slice_get xs i ≡ None → ⊥
    inside [] i lt e = absurd (omega arith)
    inside (x ∷ xs) zero lt e = absurd cc
    inside (x ∷ xs) (suc i) lt e = inside xs i (omega arith) e
node_sound nodes later n (Some node) at lt children fit below = kind_sound nodes later n node node.kind (each_sound nodes n node.children children below) fit

grow_sound : (nodes : List Node) → HaveLaterChildren nodes → ((n : ℕ) → n < length nodes → FitsChildren nodes n) → (levels n : ℕ) → length nodes ≤ n + levels → n < length nodes → IsSound (subtree nodes n)
grow_sound nodes later fit zero n enough lt = absurd (omega arith)
grow_sound nodes later fit (suc levels) n enough lt =
    subst IsSound (sym (unfolds nodes later n))
    (node_sound nodes later n (slice_get nodes n) refl lt (later n lt) (fit n lt) (λ child above below. grow_sound nodes later fit levels child (omega arith) below))

pub grows_sound : (nodes : List Node) → HaveLaterChildren nodes → ((n : ℕ) → n < length nodes → FitsChildren nodes n) → (n : ℕ) → n < length nodes → IsSound (subtree nodes n)
grows_sound nodes later fit n lt = grow_sound nodes later fit (length nodes) n (omega arith) lt
