-- Structs of the columns of a pack's children.
use Rattle.std.proofs.Common.{◌≡◌, ℕ, zero, suc, ◌+◌, ◌-◌, ◌<◌, ◌≤◌, Bool, true, false, List, [], ◌∷◌, ◌++◌, Option, Some, None, Result, Ok, Err, ◌↔◌, is_some, length, map, take, refl, sym, ap, ◌∙◌, subst, arith}
use Rattle.std.specs.Prelude.{IfOk, IfSome, IsSome, IsSomeAnd, IsTrue}
use Rattle.std.specs.List.{slice_get, AllByRecursion}
use Rattle.std.proofs.lemmas.List.{length-map}
use Rattle.std.proofs.lemmas.Option.{slice_get-get_or}
use Rattle.vx_base.specs.declared.dtypes.Nullability.{Nullability}
use Rattle.vx_base.specs.declared.dtypes.Nullability.TheVariants.{NonNullable, Nullable}
use Rattle.vx_base.specs.ColumnCalls.{nullability_with, ArePartsOf, IsBool}
use Rattle.vx_base.specs.Columns.{ColumnData}
use Rattle.vx_base.specs.Data.{DataType, bool_type, int_type, utf8_type, struct_type, list_type, Members, no_members, member}
use Rattle.vx_base.specs.Fits.{takes_null}
use Rattle.vx_base.specs.Slots.{truth_in}
use Rattle.vx_base.specs.Views.{fields_in}
use Rattle.vx_plan.specs.declared.children.PlanRef.{PlanRef}
use Rattle.vx_plan.specs.declared.nodes.PlanKind.{PlanKind}
use Rattle.vx_plan.specs.declared.nodes.PlanKind.TheVariants as kinds
use Rattle.vx_plan.specs.declared.rules.PlanRule.TheVariants as rules
use Rattle.vx_plan.specs.Kinds.{has_validity_of, HasKind, IsPack}
use Rattle.vx_plan.specs.Nodes.{Node, absent}
use Rattle.vx_plan.specs.Refs.{number_of}
use Rattle.vx_plan.specs.Rules.{node_at, nodes_at, members_at, members_of_type, field_count, FieldsFit, IsValidityType, ValidityFits, TypesFit, CountFits}
use Rattle.vx_plan.specs.Tables.{IsGoodNode, IsGoodTable}
use Rattle.vx_plan.proofs.Collecting.{kind_known}
use Rattle.vx_steps.specs.Structs.{field_parts, front_parts, last_part, truths_of, validity_part, HaveTypes, LastIsBool}

-- ---- the last column

pub last_pushed : (front : List ColumnData) (part : ColumnData) → last_part (front ++ part ∷ []) ≡ Some part
last_pushed [] part = refl
last_pushed (first ∷ []) part = refl
last_pushed (first ∷ next ∷ front) part = last_pushed (next ∷ front) part

pub front_pushed : (front : List ColumnData) (part : ColumnData) → front_parts (front ++ part ∷ []) ≡ front
front_pushed [] part = refl
front_pushed (first ∷ []) part = refl
front_pushed (first ∷ next ∷ front) part = ap (λ (parts : List ColumnData). first ∷ parts) (front_pushed (next ∷ front) part)

pub bool_pushed : (front : List ColumnData) (part : ColumnData) → LastIsBool (front ++ part ∷ []) → IsBool part.dtype
bool_pushed [] part is = is
bool_pushed (first ∷ []) part is = is
bool_pushed (first ∷ next ∷ front) part is = bool_pushed (next ∷ front) part is

-- ---- the fields and the validity of a pack

pub record IsPackPlan (nodes : List Node) (n : ℕ) (has_validity : Bool) : Type 0 where
  pub nullability : Nullability
  pub dtype : (node_at nodes n).dtype ≡ struct_type (members_at nodes n) nullability
  pub fields : FieldsFit (members_at nodes n) (field_count has_validity (length (nodes_at nodes (node_at nodes n).children))) (nodes_at nodes (node_at nodes n).children)
  pub validity : ValidityFits has_validity (field_count has_validity (length (nodes_at nodes (node_at nodes n).children))) (nodes_at nodes (node_at nodes n).children)
  pub count : field_count has_validity (length (node_at nodes n).children) ≡ length (fields_in (members_at nodes n))
  pub nullable : has_validity ≡ takes_null nullability

-- what the rules say of a kind and a dtype
record IsPackOf (has_validity : Bool) (t : DataType) (below : List Node) (count : ℕ) : Type 0 where
  nullability : Nullability
  dtype : t ≡ struct_type (members_of_type t) nullability
  fields : FieldsFit (members_of_type t) (field_count has_validity (length below)) below
  validity : ValidityFits has_validity (field_count has_validity (length below)) below
  counted : field_count has_validity count ≡ length (fields_in (members_of_type t))
  nullable : has_validity ≡ takes_null nullability

pack_of : (kind : PlanKind) (t : DataType) (below : List Node) (count : ℕ) → IsPack kind → TypesFit kind t below → CountFits kind t count → IsPackOf (has_validity_of kind) t below count
pack_of (kinds.Pack b) (struct_type ms n) below count is types counts = record { nullability = n; dtype = refl; fields = types.0; validity = types.1; counted = counts.0; nullable = counts.1 }
pack_of (kinds.Pack b) (bool_type n) below count is types counts = absurd types
pack_of (kinds.Pack b) (int_type kind n) below count is types counts = absurd types
pack_of (kinds.Pack b) (utf8_type n) below count is types counts = absurd types
pack_of (kinds.Pack b) (list_type t n) below count is types counts = absurd types
pack_of kinds.Concat t below count is types counts = absurd is
pack_of (kinds.Eval a) t below count is types counts = absurd is
pack_of kinds.Filter t below count is types counts = absurd is
pack_of kinds.Take t below count is types counts = absurd is
pack_of kinds.Share t below count is types counts = absurd is
pack_of (kinds.ListPack b) t below count is types counts = absurd is
pack_of kinds.RowIdx t below count is types counts = absurd is
pack_of (kinds.SegmentScan segment coding) t below count is types counts = absurd is
pack_of (kinds.Zoned zone_len stats) t below count is types counts = absurd is
pack_of (kinds.LegacyStats zone_len stats) t below count is types counts = absurd is
pack_of (kinds.Pruning zone_len stats proof) t below count is types counts = absurd is

pack_plan_at : (nodes : List Node) → IsGoodTable nodes → (n : ℕ) → HasKind IsPack nodes n → IsPackPlan nodes n (has_validity_of (node_at nodes n).kind)
pack_plan_at nodes good n has =
    let node : Node = node_at nodes n in
    let there = slice_get-get_or nodes n absent (kind_known IsPack nodes n has) in
    let is : IsPack node.kind = subst (λ (o : Option Node). IsSomeAnd o (λ node. IsPack node.kind)) there has in
    let here : IsGoodNode nodes n node = subst (λ (o : Option Node). IfSome o (IsGoodNode nodes n)) there (good n) in
    let p = pack_of node.kind node.dtype (nodes_at nodes node.children) (length node.children) is (here.kept rules.ChildTypes) (here.kept rules.FieldCount) in
    record { nullability = p.nullability; dtype = p.dtype; fields = p.fields; validity = p.validity; count = p.counted; nullable = p.nullable }

given_is : (found : Option PlanRef) (b : Bool) → IsSome found ↔ IsTrue b → is_some found ≡ b
given_is None false same = refl
given_is None true same = same.1 refl
given_is (Some plan) false same = sym (same.0 refl)
given_is (Some plan) true same = refl

-- what the calls say of a pack
pub pack_there : (nodes : List Node) → IsGoodTable nodes → (n : ℕ) (plan : PlanRef) (found : Option PlanRef) (given : Bool) → HasKind IsPack nodes n → plan ≡ record { 0 = n } → IsSome found ↔ IsTrue (has_validity_of (node_at nodes (number_of plan)).kind) → given ≡ is_some found → IsPackPlan nodes n given
pack_there nodes good n plan found given has same some is =
    let kind : given ≡ has_validity_of (node_at nodes n).kind = is ∙ given_is found (has_validity_of (node_at nodes (number_of plan)).kind) some ∙ ap (λ (p : PlanRef). has_validity_of (node_at nodes (number_of p)).kind) same in
    subst (IsPackPlan nodes n) (sym kind) (pack_plan_at nodes good n has)

-- ---- columns of the children

count_parts : (nodes : List Node) (ns : List ℕ) (parts : List ColumnData) → HaveTypes nodes ns parts → length parts ≡ length ns
count_parts nodes [] [] types = refl
count_parts nodes [] (part ∷ parts) types = absurd types
count_parts nodes (n ∷ ns) [] types = absurd types
count_parts nodes (n ∷ ns) (part ∷ parts) types = ap suc (count_parts nodes ns parts types.1)

bool_last : (nodes : List Node) (ns : List ℕ) (parts : List ColumnData) (place : ℕ) → HaveTypes nodes ns parts → place + 1 ≡ length ns → IsSomeAnd (slice_get (nodes_at nodes ns) place) (λ validity. IsValidityType validity.dtype) → LastIsBool parts
bool_last nodes [] [] place types e is = tt
bool_last nodes [] (part ∷ parts) place types e is = absurd types
bool_last nodes (n ∷ ns) [] place types e is = absurd types
bool_last nodes (n ∷ []) (part ∷ []) zero types e is = subst IsBool (sym (types.0 ∙ is)) tt
bool_last nodes (n ∷ []) (part ∷ []) (suc place) types e is = absurd (omega arith)
bool_last nodes (n ∷ []) (part ∷ next ∷ parts) place types e is = absurd types.1
bool_last nodes (n ∷ m ∷ ns) (part ∷ []) place types e is = absurd types.1
bool_last nodes (n ∷ m ∷ ns) (part ∷ next ∷ parts) zero types e is = absurd (omega arith)
bool_last nodes (n ∷ m ∷ ns) (part ∷ next ∷ parts) (suc place) types e is = bool_last nodes (m ∷ ns) (next ∷ parts) place types.1 (omega arith) is

place_known : (nodes : List Node) (ns : List ℕ) (place : ℕ) → IsSomeAnd (slice_get (nodes_at nodes ns) place) (λ validity. IsValidityType validity.dtype) → place < length ns
place_known nodes [] place is = absurd is
place_known nodes (n ∷ ns) zero is = omega arith
place_known nodes (n ∷ ns) (suc place) is = omega (arith, place_known nodes ns place is)

-- where a validity is given it is the last column
validity_last : (nodes : List Node) (ns : List ℕ) (parts : List ColumnData) → HaveTypes nodes ns parts → ValidityFits true (length (nodes_at nodes ns) - 1) (nodes_at nodes ns) → (length (nodes_at nodes ns) - 1) + 1 ≡ length ns
validity_last nodes ns parts types fits = omega (arith, length-map ns (node_at nodes), place_known nodes ns (length (nodes_at nodes ns) - 1) fits)

pub last_is_bool : (nodes : List Node) (n : ℕ) (has_validity : Bool) (parts : List ColumnData) → IsPackPlan nodes n has_validity → HaveTypes nodes (node_at nodes n).children parts → has_validity ≡ true → LastIsBool parts
last_is_bool nodes n has_validity parts pack types given =
    let ns : List ℕ = (node_at nodes n).children in
    let fits : ValidityFits true (length (nodes_at nodes ns) - 1) (nodes_at nodes ns) = subst (λ (b : Bool). ValidityFits b (field_count b (length (nodes_at nodes ns))) (nodes_at nodes ns)) given pack.validity in
    bool_last nodes ns parts (length (nodes_at nodes ns) - 1) types (validity_last nodes ns parts types fits) fits

-- ---- the columns of the fields

fields_taken : (nodes : List Node) (ms : Members) (ns : List ℕ) (parts : List ColumnData) (rows count : ℕ) → HaveTypes nodes ns parts → AllByRecursion (λ part. length part.values ≡ rows) parts → FieldsFit ms count (nodes_at nodes ns) → count ≡ length (fields_in ms) → count ≤ length ns → ArePartsOf ms (take count parts) rows
fields_taken nodes no_members ns parts rows zero types long fit e inside = by_parts parts
  where
    by_parts : (ps : List ColumnData) → ArePartsOf no_members (take 0 ps) rows
    by_parts [] = tt
    by_parts (p ∷ ps) = tt
fields_taken nodes no_members ns parts rows (suc count) types long fit e inside = absurd (omega arith)
fields_taken nodes (member name t ms) ns parts rows zero types long fit e inside = absurd (omega arith)
fields_taken nodes (member name t ms) [] parts rows (suc count) types long fit e inside = absurd (omega arith)
fields_taken nodes (member name t ms) (n ∷ ns) [] rows (suc count) types long fit e inside = absurd types
fields_taken nodes (member name t ms) (n ∷ ns) (part ∷ parts) rows (suc count) types long fit e inside =
    (types.0 ∙ fit 0 (omega arith), long.0, fields_taken nodes ms ns parts rows count types.1 long.1 (λ place h. fit (suc place) (omega arith)) (omega arith) (omega arith))

front_is : (parts : List ColumnData) (count : ℕ) → count + 1 ≡ length parts → front_parts parts ≡ take count parts
front_is [] count e = absurd (omega arith)
front_is (part ∷ []) zero e = refl
front_is (part ∷ []) (suc count) e = absurd (omega arith)
front_is (part ∷ next ∷ parts) zero e = absurd (omega arith)
front_is (part ∷ next ∷ parts) (suc count) e = ap (λ (ps : List ColumnData). part ∷ ps) (front_is (next ∷ parts) count (omega arith))

all_taken : (parts : List ColumnData) (count : ℕ) → count ≡ length parts → parts ≡ take count parts
all_taken [] zero e = refl
all_taken [] (suc count) e = absurd (omega arith)
all_taken (part ∷ parts) zero e = absurd (omega arith)
all_taken (part ∷ parts) (suc count) e = ap (λ (ps : List ColumnData). part ∷ ps) (all_taken parts count (omega arith))

pub field_columns : (nodes : List Node) (n : ℕ) (has_validity : Bool) (parts : List ColumnData) (rows : ℕ) → IsPackPlan nodes n has_validity → HaveTypes nodes (node_at nodes n).children parts → AllByRecursion (λ part. length part.values ≡ rows) parts → ArePartsOf (members_at nodes n) (field_parts has_validity parts) rows
field_columns nodes n false parts rows pack types long =
    let ns : List ℕ = (node_at nodes n).children in
    let count : ℕ = length (nodes_at nodes ns) in
    let same : count ≡ length ns = length-map ns (node_at nodes) in
    subst (λ (ps : List ColumnData). ArePartsOf (members_at nodes n) ps rows) (sym (all_taken parts count (omega (arith, same, count_parts nodes ns parts types))))
    (fields_taken nodes (members_at nodes n) ns parts rows count types long pack.fields (same ∙ pack.count) (omega arith))
field_columns nodes n true parts rows pack types long =
    let ns : List ℕ = (node_at nodes n).children in
    let count : ℕ = length (nodes_at nodes ns) - 1 in
    let same : length (nodes_at nodes ns) ≡ length ns = length-map ns (node_at nodes) in
    let last : count + 1 ≡ length ns = validity_last nodes ns parts types pack.validity in
    subst (λ (ps : List ColumnData). ArePartsOf (members_at nodes n) ps rows) (sym (front_is parts count (omega (arith, last, count_parts nodes ns parts types))))
    (fields_taken nodes (members_at nodes n) ns parts rows count types long pack.fields (ap (λ (k : ℕ). k - 1) same ∙ pack.count) (omega arith))

-- ---- the validity

last_long : (parts : List ColumnData) (rows : ℕ) (bits : List Bool) → AllByRecursion (λ part. length part.values ≡ rows) parts → truths_of (last_part parts) ≡ Some bits → length bits ≡ rows
last_long [] rows bits long is = absurd cc
last_long (part ∷ []) rows bits long is =
    let same : map truth_in part.values ≡ bits = cc in
    ap length (sym same) ∙ length-map part.values truth_in ∙ long.0
last_long (part ∷ next ∷ parts) rows bits long is = last_long (next ∷ parts) rows bits long.1 is

pub validity_long : (has_validity : Bool) (parts : List ColumnData) (rows : ℕ) (bits : List Bool) → AllByRecursion (λ part. length part.values ≡ rows) parts → validity_part has_validity parts ≡ Some bits → length bits ≡ rows
validity_long false parts rows bits long is = absurd cc
validity_long true parts rows bits long is = last_long parts rows bits long is

last_nullable : (parts : List ColumnData) → 0 < length parts → nullability_with (truths_of (last_part parts)) ≡ Nullable
last_nullable [] some = absurd (omega arith)
last_nullable (part ∷ []) some = refl
last_nullable (part ∷ next ∷ parts) some = last_nullable (next ∷ parts) (omega arith)

nullable_is : (n : Nullability) → true ≡ takes_null n → Nullable ≡ n
nullable_is NonNullable e = absurd cc
nullable_is Nullable e = refl

bare_is : (n : Nullability) → false ≡ takes_null n → NonNullable ≡ n
bare_is NonNullable e = refl
bare_is Nullable e = absurd cc

nullability_is : (nodes : List Node) (n : ℕ) (has_validity : Bool) (parts : List ColumnData) → (pack : IsPackPlan nodes n has_validity) → HaveTypes nodes (node_at nodes n).children parts → nullability_with (validity_part has_validity parts) ≡ pack.nullability
nullability_is nodes n false parts pack types = bare_is pack.nullability pack.nullable
nullability_is nodes n true parts pack types =
    let ns : List ℕ = (node_at nodes n).children in
    let last = validity_last nodes ns parts types pack.validity in
    last_nullable parts (omega (arith, last, count_parts nodes ns parts types)) ∙ nullable_is pack.nullability pack.nullable

pub struct_made : {E : Type 0} (result : Result ColumnData E) (nodes : List Node) (n : ℕ) (has_validity : Bool) (parts : List ColumnData) (fields : Members) (validity : Option (List Bool)) → IsPackPlan nodes n has_validity → HaveTypes nodes (node_at nodes n).children parts → fields ≡ members_at nodes n → validity ≡ validity_part has_validity parts → IfOk result (λ column. column.dtype ≡ struct_type fields (nullability_with validity)) → IfOk result (λ column. column.dtype ≡ (node_at nodes n).dtype)
struct_made (Err error) nodes n has_validity parts fields validity pack types members truths is = tt
struct_made (Ok column) nodes n has_validity parts fields validity pack types members truths is =
    is ∙ ap (λ (ms : Members). struct_type ms (nullability_with validity)) members ∙ ap (λ (mask : Option (List Bool)). struct_type (members_at nodes n) (nullability_with mask)) truths ∙ ap (struct_type (members_at nodes n)) (nullability_is nodes n has_validity parts pack types) ∙ sym pack.dtype
