-- A node that is_kept the rules of the shape fits its children.
use Rattle.std.proofs.Common.{◌≡◌, ℕ, suc, true, false, ◌+◌, ◌<◌, List, [], ◌∷◌, Option, Some, None, length, refl, sym, ◌∙◌, subst, arith}
use Rattle.std.specs.Prelude.{IfSome, IsSomeAnd, option_and_then}
use Rattle.std.specs.List.{slice_get, sum_by}
use Rattle.std.proofs.lemmas.List.Elements.{All-head, All-tail}
use Rattle.std.proofs.lemmas.List.Sums.{sum_by-cons}
use Rattle.vx_base.specs.declared.dtypes.Nullability.{Nullability}
use Rattle.vx_base.specs.declared.dtypes.Nullability.TheVariants.{NonNullable, Nullable}
use Rattle.vx_base.specs.Data.{DataType, bool_type, int_type, utf8_type, struct_type, list_type, Members, no_members, member}
use Rattle.vx_base.specs.ColumnCalls.{nullable_where, IsUnsigned}
use Rattle.vx_base.specs.Fits.{nullability_of}
use Rattle.vx_base.specs.Views.{fields_in}
use Rattle.vx_layout.specs.declared.nodes.LayoutKind.{LayoutKind}
use Rattle.vx_layout.specs.declared.nodes.LayoutKind.TheVariants as kinds
use Rattle.vx_layout.specs.Nodes.{Node}
use Rattle.vx_layout.specs.Trees.{head_at, subtree}
use Rattle.vx_layout.specs.Rows.{struct_members}
use Rattle.vx_layout.specs.Sound.{IsSound, IsHead, IsDictionary, IsList, AreZones}
use Rattle.vx_layout.proofs.ChildHeads.{ForHead, ChildHead, ChunksFit, rows_of_all, FieldsFit, StructFits, BothHeads, PairFits, ListFits, FitsKind}
use Rattle.vx_layout.specs.declared.rules.ShapeRule.{ShapeRule}
use Rattle.vx_layout.specs.declared.rules.ShapeRule.TheVariants.{ChildCount, FittingTypes, UnsignedCodes, RowCounts, FittingZones}
use Rattle.vx_layout.specs.Children.{EachChild}
use Rattle.vx_layout.specs.Shape.{validity_count, ZonesCount, CountFits, TypesFit, CodesFit, RowsFit, ZonesFit, rows_of, Asks, IsGoodTree}
use Rattle.vx_rows.specs.Zones.{zones_type, StandOver, Zones, zones_of}
use Rattle.vx_rows.specs.TypeForms.{IsOffsets, IsStruct, IsListOf}
use Rattle.vx_rows.specs.Heads.{Head}
use Rattle.vx_layout.proofs.Unfolding.{good_later}
use Rattle.vx_layout.proofs.Growing.{grows_sound}

-- ---- the rules on the children, by the list of these alone

abbrev ChildIn : List Node → List ℕ → ℕ → (Node → Type 0) → Type 0
ChildIn nodes ns place P = IsSomeAnd (option_and_then (slice_get nodes) (slice_get ns place)) P

abbrev ValidityAt : List Node → List ℕ → ℕ → Nullability → Type 0
ValidityAt nodes ns place NonNullable = Unit {0}
ValidityAt nodes ns place Nullable = ChildIn nodes ns place (λ child. child.dtype ≡ bool_type NonNullable)

abbrev FieldsFrom : List Node → List ℕ → ℕ → Members → Type 0
FieldsFrom nodes ns first ms = (place : ℕ) → IfSome (slice_get (fields_in ms) place) (λ field. ChildIn nodes ns (first + place) (λ child. child.dtype ≡ field.dtype))

abbrev IsLookedUp : List Node → List ℕ → DataType → Type 0
IsLookedUp nodes ns t = ChildIn nodes ns 0 (λ values. ChildIn nodes ns 1 (λ codes. t ≡ nullable_where (nullability_of codes.dtype) values.dtype))

abbrev RowsAt : List Node → List ℕ → ℕ → ℕ → Type 0
RowsAt nodes ns place rows = ChildIn nodes ns place (λ child. child.rows ≡ rows)

abbrev ValidityRowsAt : List Node → List ℕ → ℕ → ℕ → Nullability → Type 0
ValidityRowsAt nodes ns place rows NonNullable = Unit {0}
ValidityRowsAt nodes ns place rows Nullable = RowsAt nodes ns place rows

-- the five rules on a node's children
record KeepsRules (nodes : List Node) (node : Node) (kind : LayoutKind) (t : DataType) : Type 0 where
  counted : CountFits kind t (length node.children)
  typed : TypesFit nodes node kind t
  coded : CodesFit nodes node kind
  aligned : RowsFit nodes node kind
  zoned : ZonesFit nodes node kind

-- ---- a child by its number

abbrev At : List Node → ℕ → (Node → Type 0) → Type 0
At nodes n P = IsSomeAnd (slice_get nodes n) P

head_from : (n : ℕ) (o : Option Node) (P : Node → Type 0) (Q : Head → Type 0) → ((node : Node) → P node → Q (head_at n node)) → IsSomeAnd o P → ForHead n o Q
head_from n None P Q f is = absurd is
head_from n (Some node) P Q f is = f node is

both_at : (o : Option Node) (P Q : Node → Type 0) → IsSomeAnd o P → IsSomeAnd o Q → IsSomeAnd o (λ node. P node × Q node)
both_at None P Q p q = absurd p
both_at (Some node) P Q p q = (p, q)

-- a head of a dtype and so many rows
whole_head : (nodes : List Node) (n : ℕ) (t : DataType) (rows : ℕ) → At nodes n (λ node. node.dtype ≡ t) → At nodes n (λ node. node.rows ≡ rows) → ChildHead nodes (λ head. IsHead head t rows) n
whole_head nodes n t rows typed sized =
    head_from n (slice_get nodes n) (λ node. (node.dtype ≡ t) × (node.rows ≡ rows)) (λ head. IsHead head t rows) (λ node is. record { dtype = is.0; rows = is.1 })
    (both_at (slice_get nodes n) (λ node. node.dtype ≡ t) (λ node. node.rows ≡ rows) typed sized)

-- ---- chunks

chunks_fit : (nodes : List Node) (t : DataType) (ns : List ℕ) → EachChild nodes ns (λ child. child.dtype ≡ t) → ChunksFit nodes t ns
chunks_fit nodes t [] each = tt
chunks_fit nodes t (n ∷ ns) each = (
  head_from n (slice_get nodes n) (λ child. child.dtype ≡ t) (λ head. head.dtype ≡ t) (λ node is. is) (All-head (λ child. At nodes child (λ node. node.dtype ≡ t)) n ns each),
  chunks_fit nodes t ns (All-tail (λ child. At nodes child (λ node. node.dtype ≡ t)) n ns each),
)

rows_sum : (nodes : List Node) (ns : List ℕ) → rows_of_all nodes ns ≡ sum_by (rows_of nodes) ns
rows_sum nodes [] = refl
rows_sum nodes (n ∷ ns) = omega (arith, sum_by-cons (rows_of nodes) n ns, rows_sum nodes ns)

-- ---- structs

-- the fields' children, by their places among these
abbrev FieldsIn : List Node → List ℕ → Members → Type 0
FieldsIn nodes ns ms = (place : ℕ) → IfSome (slice_get (fields_in ms) place) (λ field. ChildIn nodes ns place (λ child. child.dtype ≡ field.dtype))

fields_at : (nodes : List Node) (ns : List ℕ) (first : ℕ) (ms : Members) → FieldsFrom nodes ns first ms → (place at : ℕ) → at ≡ first + place → IfSome (slice_get (fields_in ms) place) (λ field. ChildIn nodes ns at (λ child. child.dtype ≡ field.dtype))
fields_at nodes ns first ms from place at e = subst (λ (i : ℕ). IfSome (slice_get (fields_in ms) place) (λ field. ChildIn nodes ns i (λ child. child.dtype ≡ field.dtype))) (sym e) (from place)

fields_fit : (nodes : List Node) (ms : Members) (rows : ℕ) (ns : List ℕ) → length ns ≡ length (fields_in ms) → FieldsIn nodes ns ms → EachChild nodes ns (λ child. child.rows ≡ rows) → FieldsFit nodes ms rows ns
fields_fit nodes no_members rows [] count typed sized = tt
fields_fit nodes no_members rows (n ∷ ns) count typed sized = absurd (omega arith)
fields_fit nodes (member name t ms) rows [] count typed sized = absurd (omega arith)
fields_fit nodes (member name t ms) rows (n ∷ ns) count typed sized = (
  whole_head nodes n t rows (typed 0) (All-head (λ child. At nodes child (λ node. node.rows ≡ rows)) n ns sized),
  fields_fit nodes ms rows ns (omega arith) (λ place. typed (suc place)) (All-tail (λ child. At nodes child (λ node. node.rows ≡ rows)) n ns sized),
)

struct_fits : (nodes : List Node) (n : Nullability) (ms : Members) (rows : ℕ) (ns : List ℕ) → length ns ≡ length (fields_in ms) + validity_count n → ValidityAt nodes ns 0 n → FieldsFrom nodes ns (validity_count n) ms → EachChild nodes ns (λ child. child.rows ≡ rows) → StructFits nodes n ms rows ns
struct_fits nodes NonNullable ms rows ns count valid typed sized = fields_fit nodes ms rows ns (omega arith) (λ place. fields_at nodes ns 0 ms typed place place (omega arith)) sized
struct_fits nodes Nullable ms rows [] count valid typed sized = absurd (omega arith)
struct_fits nodes Nullable ms rows (n ∷ ns) count valid typed sized = (
  whole_head nodes n (bool_type NonNullable) rows valid (All-head (λ child. At nodes child (λ node. node.rows ≡ rows)) n ns sized),
  fields_fit nodes ms rows ns (omega arith) (λ place. fields_at nodes (n ∷ ns) 1 ms typed place (suc place) (omega arith)) (All-tail (λ child. At nodes child (λ node. node.rows ≡ rows)) n ns sized),
)

-- ---- pairs

heads_from : (nodes : List Node) (n m : ℕ) (P : Node → Node → Type 0) (Q : Head → Head → Type 0) → ((one other : Node) → P one other → Q (head_at n one) (head_at m other)) → At nodes n (λ one. At nodes m (λ other. P one other)) → BothHeads nodes Q n m
heads_from nodes n m P Q f are = head_from n (slice_get nodes n) (λ one. At nodes m (λ other. P one other)) (λ one. ChildHead nodes (λ other. Q one other) m) (λ one is. head_from m (slice_get nodes m) (λ other. P one other) (λ other. Q (head_at n one) other) (λ other h. f one other h) is) are

-- what is said of both, and of each
both_said : (a b : Option Node) (P : Node → Node → Type 0) (Q R : Node → Type 0) → IsSomeAnd a (λ one. IsSomeAnd b (λ other. P one other)) → IsSomeAnd b Q → IsSomeAnd b R → IsSomeAnd a (λ one. IsSomeAnd b (λ other. P one other × Q other × R other))
both_said None b P Q R p q r = absurd p
both_said (Some one) None P Q R p q r = absurd p
both_said (Some one) (Some other) P Q R p q r = (p, q, r)

each_said : (a b : Option Node) (P Q : Node → Type 0) → IsSomeAnd a P → IsSomeAnd b Q → IsSomeAnd a (λ one. IsSomeAnd b (λ other. P one × Q other))
each_said None b P Q p q = absurd p
each_said (Some one) None P Q p q = absurd q
each_said (Some one) (Some other) P Q p q = (p, q)

abbrev Codes : DataType → Node → Node → Type 0
Codes t values codes = t ≡ nullable_where (nullability_of codes.dtype) values.dtype

dictionary_fits : (nodes : List Node) (head : Head) (ns : List ℕ) → length ns ≡ 2 → IsLookedUp nodes ns head.dtype → ChildIn nodes ns 1 (λ codes. IsUnsigned codes.dtype) → RowsAt nodes ns 1 head.rows → PairFits nodes (IsDictionary head) ns
dictionary_fits nodes head [] count typed coded sized = absurd (omega arith)
dictionary_fits nodes head (n ∷ []) count typed coded sized = absurd (omega arith)
dictionary_fits nodes head (n ∷ m ∷ []) count typed coded sized =
    heads_from nodes n m (λ values codes. Codes head.dtype values codes × IsUnsigned codes.dtype × (codes.rows ≡ head.rows)) (IsDictionary head)
    (λ values codes is. record { dtype = is.0; unsigned = is.1; rows = is.2 })
    (both_said (slice_get nodes n) (slice_get nodes m) (Codes head.dtype) (λ codes. IsUnsigned codes.dtype) (λ codes. codes.rows ≡ head.rows) typed coded sized)
dictionary_fits nodes head (n ∷ m ∷ k ∷ ns) count typed coded sized = absurd (omega arith)

list_heads : (nodes : List Node) (head : Head) (t : DataType) (n m : ℕ) → ((element : DataType) → element ≡ t → IsListOf head.dtype element) → At nodes n (λ elements. elements.dtype ≡ t) → At nodes m (λ offsets. IsOffsets offsets.dtype) → At nodes m (λ offsets. offsets.rows ≡ head.rows + 1) → BothHeads nodes (IsList head) n m
list_heads nodes head t n m listed typed starts sized =
    heads_from nodes n m (λ elements offsets. (elements.dtype ≡ t) × (IsOffsets offsets.dtype × (offsets.rows ≡ head.rows + 1))) (IsList head)
    (λ elements offsets is. record { dtype = listed elements.dtype is.0; offsets = is.1.0; rows = is.1.1 })
    (each_said (slice_get nodes n) (slice_get nodes m) (λ elements. elements.dtype ≡ t) (λ offsets. IsOffsets offsets.dtype × (offsets.rows ≡ head.rows + 1)) typed
    (both_at (slice_get nodes m) (λ offsets. IsOffsets offsets.dtype) (λ offsets. offsets.rows ≡ head.rows + 1) starts sized))

list_fits : (nodes : List Node) (head : Head) (t : DataType) (nulls : Nullability) (ns : List ℕ) → ((element : DataType) → element ≡ t → IsListOf head.dtype element) → length ns ≡ 2 + validity_count nulls → ChildIn nodes ns 0 (λ elements. elements.dtype ≡ t) → ChildIn nodes ns 1 (λ offsets. IsOffsets offsets.dtype) → ValidityAt nodes ns 2 nulls → RowsAt nodes ns 1 (head.rows + 1) → ValidityRowsAt nodes ns 2 head.rows nulls → ListFits nodes nulls (IsList head) head.rows ns
list_fits nodes head t NonNullable [] listed count typed starts valid sized valid_rows = absurd (omega arith)
list_fits nodes head t NonNullable (n ∷ []) listed count typed starts valid sized valid_rows = absurd (omega arith)
list_fits nodes head t NonNullable (n ∷ m ∷ []) listed count typed starts valid sized valid_rows = list_heads nodes head t n m listed typed starts sized
list_fits nodes head t NonNullable (n ∷ m ∷ k ∷ ns) listed count typed starts valid sized valid_rows = absurd (omega arith)
list_fits nodes head t Nullable [] listed count typed starts valid sized valid_rows = absurd (omega arith)
list_fits nodes head t Nullable (n ∷ []) listed count typed starts valid sized valid_rows = absurd (omega arith)
list_fits nodes head t Nullable (n ∷ m ∷ []) listed count typed starts valid sized valid_rows = absurd (omega arith)
list_fits nodes head t Nullable (n ∷ m ∷ k ∷ []) listed count typed starts valid sized valid_rows = (list_heads nodes head t n m listed typed starts sized, whole_head nodes k (bool_type NonNullable) head.rows valid valid_rows)
list_fits nodes head t Nullable (n ∷ m ∷ k ∷ j ∷ ns) listed count typed starts valid sized valid_rows = absurd (omega arith)

zoned_fits : (nodes : List Node) (head : Head) (zones : Zones) (ns : List ℕ) → length ns ≡ 2 → ChildIn nodes ns 0 (λ content. content.dtype ≡ head.dtype) → RowsAt nodes ns 0 head.rows → StandOver head.dtype zones.statistics → ChildIn nodes ns 1 (λ table. (table.dtype ≡ zones_type head.dtype zones.statistics) × ZonesCount zones.zone_len head.rows table.rows) → PairFits nodes (λ content table. IsHead content head.dtype head.rows × AreZones zones head table) ns
zoned_fits nodes head zones [] count typed sized stand told = absurd (omega arith)
zoned_fits nodes head zones (n ∷ []) count typed sized stand told = absurd (omega arith)
zoned_fits nodes head zones (n ∷ m ∷ []) count typed sized stand told =
    heads_from nodes n m (λ content table. ((content.dtype ≡ head.dtype) × (content.rows ≡ head.rows)) × ((table.dtype ≡ zones_type head.dtype zones.statistics) × ZonesCount zones.zone_len head.rows table.rows)) (λ content table. IsHead content head.dtype head.rows × AreZones zones head table)
    (λ content table is. (record { dtype = is.0.0; rows = is.0.1 }, record { dtype = is.1.0; stand = stand; rows = is.1.1 }))
    (each_said (slice_get nodes n) (slice_get nodes m) (λ content. (content.dtype ≡ head.dtype) × (content.rows ≡ head.rows)) (λ table. (table.dtype ≡ zones_type head.dtype zones.statistics) × ZonesCount zones.zone_len head.rows table.rows)
    (both_at (slice_get nodes n) (λ content. content.dtype ≡ head.dtype) (λ content. content.rows ≡ head.rows) typed sized) told)
zoned_fits nodes head zones (n ∷ m ∷ k ∷ ns) count typed sized stand told = absurd (omega arith)

-- ---- nodes

struct_ruled : (nodes : List Node) (node : Node) (head : Head) (t : DataType) → head.rows ≡ node.rows → KeepsRules nodes node kinds.Struct t → IsStruct t × StructFits nodes (nullability_of t) (struct_members t) node.rows node.children
struct_ruled nodes node head (struct_type ms n) e rules = (tt, struct_fits nodes n ms node.rows node.children rules.counted rules.typed.0 rules.typed.1 rules.aligned)
struct_ruled nodes node head (bool_type n) e rules = absurd rules.counted
struct_ruled nodes node head (int_type kind n) e rules = absurd rules.counted
struct_ruled nodes node head (utf8_type n) e rules = absurd rules.counted
struct_ruled nodes node head (list_type t n) e rules = absurd rules.counted

list_ruled : (nodes : List Node) (number : ℕ) (node : Node) (t : DataType) → node.dtype ≡ t → KeepsRules nodes node kinds.List t → ListFits nodes (nullability_of t) (IsList (head_at number node)) node.rows node.children
list_ruled nodes number node (list_type t n) e rules =
    list_fits nodes (head_at number node) t n node.children (λ element is. subst (λ (s : DataType). IsListOf s element) (sym e) is) rules.counted rules.typed.0 rules.typed.1 rules.typed.2 rules.aligned.0
    (subst (λ (s : DataType). ValidityRowsAt nodes node.children 2 node.rows (nullability_of s)) e rules.aligned.1)
list_ruled nodes number node (bool_type n) e rules = absurd rules.counted
list_ruled nodes number node (int_type kind n) e rules = absurd rules.counted
list_ruled nodes number node (utf8_type n) e rules = absurd rules.counted
list_ruled nodes number node (struct_type ms n) e rules = absurd rules.counted

kind_ruled : (nodes : List Node) (number : ℕ) (node : Node) (kind : LayoutKind) → KeepsRules nodes node kind node.dtype → FitsKind nodes (head_at number node) kind node.children
kind_ruled nodes number node (kinds.Flat segment coding) rules = rules.typed
kind_ruled nodes number node kinds.Chunked rules = (chunks_fit nodes node.dtype node.children rules.typed, rows_sum nodes node.children ∙ rules.aligned)
kind_ruled nodes number node kinds.Struct rules = struct_ruled nodes node (head_at number node) node.dtype refl rules
kind_ruled nodes number node kinds.Dict rules = dictionary_fits nodes (head_at number node) node.children rules.counted rules.typed rules.coded rules.aligned
kind_ruled nodes number node kinds.List rules = list_ruled nodes number node node.dtype refl rules
kind_ruled nodes number node (kinds.Zoned zone_len stats) rules = zoned_fits nodes (head_at number node) (zones_of false zone_len stats) node.children rules.counted rules.typed rules.aligned rules.zoned.0 rules.zoned.1
kind_ruled nodes number node (kinds.LegacyStats zone_len stats) rules = zoned_fits nodes (head_at number node) (zones_of true zone_len stats) node.children rules.counted rules.typed rules.aligned rules.zoned.0 rules.zoned.1

-- a node that keeps these rules fits its children
fits_by : (nodes : List Node) (n : ℕ) (o : Option Node) → ((rule : ShapeRule) → IsSomeAnd o (Asks rule nodes n)) → IfSome o (λ node. FitsKind nodes (head_at n node) node.kind node.children)
fits_by nodes n None kept = tt
fits_by nodes n (Some node) kept = kind_ruled nodes n node node.kind (record { counted = kept ChildCount; typed = kept FittingTypes; coded = kept UnsignedCodes; aligned = kept RowCounts; zoned = kept FittingZones })

-- each tree of a good tree's nodes is sound
pub good_sound : (nodes : List Node) → IsGoodTree nodes → (n : ℕ) → n < length nodes → IsSound (subtree nodes n)
good_sound nodes good n lt = grows_sound nodes (good_later nodes good) (λ m inside. fits_by nodes m (slice_get nodes m) (λ rule. good.kept rule m inside)) n lt
