-- Structs are lowered to a pack of their fields' plans, with the validity's behind them.
use Rattle.std.proofs.Common.{◌≡◌, ℕ, ◌+◌, List, [], ◌∷◌, ◌++◌, Option, Some, None, map, refl, sym, ap, ◌∙◌, subst, arith}
use Rattle.vx_base.specs.declared.dtypes.Nullability.{Nullability}
use Rattle.vx_base.specs.declared.dtypes.Nullability.TheVariants.{NonNullable, Nullable}
use Rattle.vx_base.specs.Data.{DataType, bool_type, int_type, utf8_type, struct_type, list_type, Members, no_members, member}
use Rattle.vx_base.specs.Fits.{nullability_of}
use Rattle.vx_layout.specs.Kept.{all}
use Rattle.vx_layout.specs.Nodes.{Node}
use Rattle.vx_layout.specs.Rows.{struct_members}
use Rattle.vx_rows.specs.TypeForms.{IsStruct}
use Rattle.vx_layout.specs.Sound.{IsSound, AreFields, IsValidity}
use Rattle.vx_layout.specs.Trees.{Tree, fields, forest_from, subtree}
use Rattle.vx_plan.specs.Nodes.{Node as PlanNode}
use Rattle.vx_plan.specs.Plans.{Plan, Plans, plan, plans_from, pack_plan}
use Rattle.vx_plan.specs.Rules.{given_validity, is_given, nodes_at, packed_node, KeepsRules}
use Rattle.vx_plan.specs.Tables.{AreIn, IsAdded}
use Rattle.vx_lower.specs.Lowered.{lowered, lowered_fields, lowered_validity, kept_head}
use Rattle.vx_lower.specs.NodeParts.{tree_head, trees_of, validity_of, lowered_each, packed_plan, ArePacked, CanLower, CanLowerEach, IsStructNode}
use Rattle.vx_lower.specs.Numbered.{list_size, AddsPlan, AddsPlans}
use Rattle.vx_lower.specs.Sizes.{plan_size, plans_size, plan_validity_size}
use Rattle.vx_lower.proofs.Appending.{added_like, joined_added, size_append}
use Rattle.vx_lower.proofs.Heads.{lowered_head}
use Rattle.vx_lower.proofs.Made.{is_valid_as, pack_adds, size_from, validity_list, validity_size_of}
use Rattle.vx_lower.proofs.Nodes.{each_append, each_can, sound_as}
use Rattle.vx_lower.proofs.Rules.{pack_can, AreFieldPlans, IsValidityPlan}

-- ---- validities

pub validity_plans : (nodes : List Node) (v : Option ℕ) → validity_list (lowered_validity (validity_of nodes v)) ≡ lowered_each nodes all (given_validity v)
validity_plans nodes None = refl
validity_plans nodes (Some n) = refl

pub validity_there : (nodes : List Node) (v : Option ℕ) → is_valid_as (lowered_validity (validity_of nodes v)) ≡ is_given v
validity_there nodes None = refl
validity_there nodes (Some n) = refl

pub validity_fits : (nodes : List Node) (k : Nullability) (rows : ℕ) (v : Option ℕ) → IsValidity k rows (validity_of nodes v) → IsValidityPlan k rows (lowered_validity (validity_of nodes v))
validity_fits nodes NonNullable rows None valid = tt
validity_fits nodes NonNullable rows (Some n) valid = absurd valid
validity_fits nodes Nullable rows None valid = absurd valid
validity_fits nodes Nullable rows (Some n) valid = ((lowered_head (subtree nodes n) all valid.0).dtype ∙ valid.1.dtype, (lowered_head (subtree nodes n) all valid.0).rows ∙ valid.1.rows)

pub validity_size : (nodes : List Node) (v : Option ℕ) → plan_validity_size (lowered_validity (validity_of nodes v)) ≡ list_size (lowered_each nodes all (given_validity v))
validity_size nodes v = sym (validity_size_of (lowered_validity (validity_of nodes v))) ∙ ap list_size (validity_plans nodes v)

-- ---- fields

field_plans_fit : (f : ℕ → Tree) (ms : Members) (rows : ℕ) (ns : List ℕ) → AreFields ms rows (forest_from (map f ns)) → AreFieldPlans ms rows (map (λ n. lowered (f n) all) ns)
field_plans_fit f no_members rows [] sound = tt
field_plans_fit f no_members rows (n ∷ ns) sound = absurd sound
field_plans_fit f (member name t ms) rows [] sound = absurd sound
field_plans_fit f (member name t ms) rows (n ∷ ns) sound = ((lowered_head (f n) all sound.0).dtype ∙ sound.1.dtype, (lowered_head (f n) all sound.0).rows ∙ sound.1.rows, field_plans_fit f ms rows ns sound.2)

fields_from : (f : ℕ → Tree) (ms : Members) (rows : ℕ) (ns : List ℕ) → AreFields ms rows (forest_from (map f ns)) → lowered_fields ms (forest_from (map f ns)) all ≡ plans_from (map (λ n. lowered (f n) all) ns)
fields_from f no_members rows [] sound = refl
fields_from f no_members rows (n ∷ ns) sound = absurd sound
fields_from f (member name t ms) rows [] sound = absurd sound
fields_from f (member name t ms) rows (n ∷ ns) sound = ap (plan (lowered (f n) all)) (fields_from f ms rows ns sound.2)

-- ---- a pack of them

-- the plans of the fields, and of the validity
record HasParts (nodes : List Node) (old new : List PlanNode) (ns : List ℕ) (v : Option ℕ) (numbers : List ℕ) (w : Option ℕ) : Type 0 where
  adds : AddsPlans old new (lowered_each nodes all ns ++ validity_list (lowered_validity (validity_of nodes v))) (numbers ++ given_validity w)
  given : is_given w ≡ is_valid_as (lowered_validity (validity_of nodes v))

has_parts : (nodes : List Node) (old mid new : List PlanNode) (ns : List ℕ) (v : Option ℕ) (numbers : List ℕ) (w : Option ℕ) → AddsPlans old mid (lowered_each nodes all ns) numbers → AddsPlans mid new (lowered_each nodes all (given_validity v)) (given_validity w) → is_given w ≡ is_given v → HasParts nodes old new ns v numbers w
has_parts nodes old mid new ns v numbers w adds then given = record {
  adds = joined_added old mid new (lowered_each nodes all ns) (validity_list (lowered_validity (validity_of nodes v))) numbers (given_validity w) adds
      (subst (λ (ps : List Plan). AddsPlans mid new ps (given_validity w)) (sym (validity_plans nodes v)) then);
  given = given ∙ sym (validity_there nodes v);
}

pub packed_known : (nodes : List Node) (old mid new : List PlanNode) (ns : List ℕ) (v : Option ℕ) (numbers : List ℕ) (w : Option ℕ) → AddsPlans old mid (lowered_each nodes all ns) numbers → AddsPlans mid new (lowered_each nodes all (given_validity v)) (given_validity w) → AreIn new (numbers ++ given_validity w)
packed_known nodes old mid new ns v numbers w adds then = (joined_added old mid new (lowered_each nodes all ns) (lowered_each nodes all (given_validity v)) numbers (given_validity w) adds then).known

pack_can_of : (t : DataType) → IsStruct t → (nodes : List Node) (mid : List PlanNode) (rows : ℕ) (ns : List ℕ) (v : Option ℕ) (ps : List Plan) (numbers : List ℕ) (w : Option ℕ) (old : List PlanNode) → HasParts nodes old mid ns v numbers w → AreFields (struct_members t) rows (trees_of nodes ns) → IsValidity (nullability_of t) rows (validity_of nodes v) → KeepsRules (packed_node t rows numbers w) (nodes_at mid (numbers ++ given_validity w))
pack_can_of (struct_type ms k) is nodes mid rows ns v ps numbers w old parts fit valid =
    pack_can mid ms k rows numbers w (lowered_each nodes all ns) (lowered_validity (validity_of nodes v))
    (added_like old mid (lowered_each nodes all ns ++ validity_list (lowered_validity (validity_of nodes v))) (numbers ++ given_validity w) parts.adds)
    parts.given (field_plans_fit (subtree nodes) ms rows ns fit) (validity_fits nodes k rows v valid)
pack_can_of (bool_type k) is nodes mid rows ns v ps numbers w old parts fit valid = absurd is
pack_can_of (int_type kind k) is nodes mid rows ns v ps numbers w old parts fit valid = absurd is
pack_can_of (utf8_type k) is nodes mid rows ns v ps numbers w old parts fit valid = absurd is
pack_can_of (list_type t k) is nodes mid rows ns v ps numbers w old parts fit valid = absurd is

pub packed_can : (nodes : List Node) (old mid new : List PlanNode) (t : DataType) (rows : ℕ) (ns : List ℕ) (v : Option ℕ) (numbers : List ℕ) (w : Option ℕ) → ArePacked nodes t rows ns v → AddsPlans old mid (lowered_each nodes all ns) numbers → AddsPlans mid new (lowered_each nodes all (given_validity v)) (given_validity w) → is_given w ≡ is_given v → KeepsRules (packed_node t rows numbers w) (nodes_at new (numbers ++ given_validity w))
packed_can nodes old mid new t rows ns v numbers w packed adds then given =
    pack_can_of t packed.structs nodes new rows ns v [] numbers w old (has_parts nodes old mid new ns v numbers w adds then given) packed.fields packed.valid

pub packed_adds : (nodes : List Node) (old mid new last : List PlanNode) (t : DataType) (rows : ℕ) (ns : List ℕ) (v : Option ℕ) (numbers : List ℕ) (w : Option ℕ) (k number : ℕ) → AddsPlans old mid (lowered_each nodes all ns) numbers → AddsPlans mid new (lowered_each nodes all (given_validity v)) (given_validity w) → is_given w ≡ is_given v → IsAdded new last (packed_node t rows numbers w) k → AddsPlan old last (packed_plan nodes (record { number = number; dtype = t; rows = rows }) ns v) k
packed_adds nodes old mid new last t rows ns v numbers w k number adds then given added =
    let parts : HasParts nodes old new ns v numbers w = has_parts nodes old mid new ns v numbers w adds then given in
    pack_adds old new last (lowered_each nodes all ns) (lowered_validity (validity_of nodes v)) numbers w t rows k (record { number = number; dtype = t; rows = rows }) parts.adds parts.given added refl refl

-- ---- a struct node, with all its fields

struct_size : (nodes : List Node) (n : ℕ) (ns : List ℕ) (v : Option ℕ) → IsSound (fields (tree_head nodes n) (trees_of nodes ns) (validity_of nodes v)) → plan_size (lowered (fields (tree_head nodes n) (trees_of nodes ns) (validity_of nodes v)) all) ≡ 1 + list_size (lowered_each nodes all (ns ++ given_validity v))
struct_size nodes n ns v sound =
    let a : plans_size (lowered_fields (struct_members (tree_head nodes n).dtype) (trees_of nodes ns) all) ≡ list_size (lowered_each nodes all ns) = ap plans_size (fields_from (subtree nodes) (struct_members (tree_head nodes n).dtype) (tree_head nodes n).rows ns sound.1) ∙ size_from (lowered_each nodes all ns) in
    let b : list_size (lowered_each nodes all (ns ++ given_validity v)) ≡ list_size (lowered_each nodes all ns) + list_size (lowered_each nodes all (given_validity v)) = ap list_size (each_append nodes all ns (given_validity v)) ∙ size_append (lowered_each nodes all ns) (lowered_each nodes all (given_validity v)) in
    omega (arith, validity_size nodes v)

pub fields_can : (nodes : List Node) (n : ℕ) (ns : List ℕ) (v : Option ℕ) (table : List PlanNode) → CanLower nodes n all table → IsStructNode nodes n ns v → CanLowerEach nodes n (ns ++ given_validity v) all table
fields_can nodes n ns v table can over =
    let t : Tree = fields (tree_head nodes n) (trees_of nodes ns) (validity_of nodes v) in
    each_can nodes n all table t (ns ++ given_validity v) can over (struct_size nodes n ns v (sound_as nodes n t (ns ++ given_validity v) can.tree can.known over))

pub struct_packed : (nodes : List Node) (n : ℕ) (ns : List ℕ) (v : Option ℕ) (table : List PlanNode) (t : DataType) → CanLower nodes n all table → IsStructNode nodes n ns v → t ≡ (tree_head nodes n).dtype → ArePacked nodes t (tree_head nodes n).rows ns v
struct_packed nodes n ns v table t can over is =
    let tree : Tree = fields (tree_head nodes n) (trees_of nodes ns) (validity_of nodes v) in
    let sound : IsSound tree = sound_as nodes n tree (ns ++ given_validity v) can.tree can.known over in
    subst (λ (s : DataType). ArePacked nodes s (tree_head nodes n).rows ns v) (sym is) (record { structs = sound.0; fields = sound.1; valid = sound.2 })

pub struct_adds : (nodes : List Node) (n : ℕ) (ns : List ℕ) (v : Option ℕ) (old new : List PlanNode) (t : DataType) (k : ℕ) → CanLower nodes n all old → IsStructNode nodes n ns v → t ≡ (tree_head nodes n).dtype → ((number : ℕ) → AddsPlan old new (packed_plan nodes (record { number = number; dtype = t; rows = (tree_head nodes n).rows }) ns v) k) → AddsPlan old new (lowered (subtree nodes n) all) k
struct_adds nodes n ns v old new t k can over is adds =
    let tree : Tree = fields (tree_head nodes n) (trees_of nodes ns) (validity_of nodes v) in
    let sound : IsSound tree = sound_as nodes n tree (ns ++ given_validity v) can.tree can.known over in
    let e : plans_from (lowered_each nodes all ns) ≡ lowered_fields (struct_members (tree_head nodes n).dtype) (trees_of nodes ns) all = sym (fields_from (subtree nodes) (struct_members (tree_head nodes n).dtype) (tree_head nodes n).rows ns sound.1) in
    let number : ℕ = (tree_head nodes n).number in
    let p : AddsPlan old new (packed_plan nodes (kept_head all (tree_head nodes n)) ns v) k = subst (λ (s : DataType). AddsPlan old new (packed_plan nodes (record { number = number; dtype = s; rows = (tree_head nodes n).rows }) ns v) k) is (adds number) in
    subst (λ (t : Tree). AddsPlan old new (lowered t all) k) (sym over.tree)
    (subst (λ (qs : Plans). AddsPlan old new (pack_plan (kept_head all (tree_head nodes n)) qs (lowered_validity (validity_of nodes v))) k) e p)
