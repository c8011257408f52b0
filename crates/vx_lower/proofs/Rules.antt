-- Plans over plans whose heads fit keep the rules.
use Rattle.std.proofs.Common.{◌≡◌, ℕ, zero, suc, ◌+◌, ◌-◌, ◌<◌, ◌^◌, Bool, true, false, List, [], ◌∷◌, ◌++◌, Option, Some, None, length, refl, sym, ◌∙◌, subst, arith}
use Rattle.std.specs.Prelude.{IsSomeAnd}
use Rattle.std.specs.List.{slice_get, All}
use Rattle.std.proofs.lemmas.List.{length-map, length-append}
use Rattle.std.proofs.lemmas.List.Elements.{All-cons, All-nil}
use Rattle.vx_base.specs.declared.dtypes.Nullability.{Nullability}
use Rattle.vx_base.specs.declared.dtypes.Nullability.TheVariants.{NonNullable, Nullable}
use Rattle.vx_base.specs.ColumnCalls.{IsUnsigned}
use Rattle.vx_base.specs.Data.{DataType, bool_type, struct_type, Members, no_members, member}
use Rattle.vx_base.specs.Fits.{takes_null}
use Rattle.vx_base.specs.Views.{fields_in}
use Rattle.vx_expr.specs.declared.statistics.Statistic.{Statistic}
use Rattle.vx_plan.specs.Nodes.{Node}
use Rattle.vx_plan.specs.Plans.{Plan, PlanValidity, all_valid, valid_as, plan_head}
use Rattle.vx_rows.specs.TypeForms.{IsOffsets}
use Rattle.vx_plan.specs.Rules.{concat_node, field_count, given_validity, is_given, list_node, node_at, nodes_at, packed_node, take_node, AreZones, FieldFits, KeepsRules, PackCountFits, PackFits}
use Rattle.vx_plan.proofs.Keeping.{concat_keeps, legacy_keeps, list_keeps, pack_keeps, take_keeps, zoned_keeps}
use Rattle.vx_lower.specs.NodeParts.{zones_node}
use Rattle.vx_lower.proofs.Appending.{AreLike}
use Rattle.vx_lower.proofs.Made.{is_valid_as, rows_alike, rows_of_all, validity_list}

like_count : (nodes : List Node) (ps : List Plan) → AreLike nodes ps → length nodes ≡ length ps
like_count [] [] like = refl
like_count [] (p ∷ ps) like = absurd like
like_count (node ∷ nodes) [] like = absurd like
like_count (node ∷ nodes) (p ∷ ps) like = omega (arith, like_count nodes ps like.1)

-- ---- chunks

abbrev pub AreOfType : DataType → List Plan → Type 0
AreOfType t [] = Unit {0}
AreOfType t (p ∷ ps) = ((plan_head p).dtype ≡ t) × AreOfType t ps

types_alike : (t : DataType) (nodes : List Node) (ps : List Plan) → AreLike nodes ps → AreOfType t ps → All (λ node. node.dtype ≡ t) nodes
types_alike t [] ps like fit = All-nil (λ (node : Node). node.dtype ≡ t)
types_alike t (node ∷ nodes) [] like fit = absurd like
types_alike t (node ∷ nodes) (p ∷ ps) like fit = All-cons (λ (node : Node). node.dtype ≡ t) node nodes (like.0.dtype ∙ fit.0) (types_alike t nodes ps like.1 fit.1)

pub concat_can : (mid : List Node) (t : DataType) (ns : List ℕ) (ps : List Plan) → AreLike (nodes_at mid ns) ps → AreOfType t ps → rows_of_all ps < 2 ^ 64 → KeepsRules (concat_node mid t ns) (nodes_at mid ns)
concat_can mid t ns ps like fit few = concat_keeps mid t ns (types_alike t (nodes_at mid ns) ps like fit) (omega (arith, rows_alike (nodes_at mid ns) ps like, few))

-- ---- structs

-- a plan of its dtype and so many rows for each field
abbrev pub AreFieldPlans : Members → ℕ → List Plan → Type 0
AreFieldPlans no_members rows [] = Unit {0}
AreFieldPlans no_members rows (p ∷ ps) = ⊥
AreFieldPlans (member name t ms) rows [] = ⊥
AreFieldPlans (member name t ms) rows (p ∷ ps) = ((plan_head p).dtype ≡ t) × ((plan_head p).rows ≡ rows) × AreFieldPlans ms rows ps

-- a plan of truth values and so many rows exactly where nulls are taken
abbrev pub IsValidityPlan : Nullability → ℕ → PlanValidity → Type 0
IsValidityPlan NonNullable rows all_valid = Unit {0}
IsValidityPlan NonNullable rows (valid_as p) = ⊥
IsValidityPlan Nullable rows all_valid = ⊥
IsValidityPlan Nullable rows (valid_as p) = ((plan_head p).dtype ≡ bool_type NonNullable) × ((plan_head p).rows ≡ rows)

field_plans_count : (ms : Members) (rows : ℕ) (ps : List Plan) → AreFieldPlans ms rows ps → length ps ≡ length (fields_in ms)
field_plans_count no_members rows [] fit = refl
field_plans_count no_members rows (p ∷ ps) fit = absurd fit
field_plans_count (member name t ms) rows [] fit = absurd fit
field_plans_count (member name t ms) rows (p ∷ ps) fit = omega (arith, field_plans_count ms rows ps fit.2)

field_fits : (ms : Members) (rows : ℕ) (nodes : List Node) (ps qs : List Plan) → AreLike nodes (ps ++ qs) → AreFieldPlans ms rows ps → (place : ℕ) → place < length ps → FieldFits (slice_get nodes place) (slice_get (fields_in ms) place)
field_fits ms rows [] ps qs like fit place lt = tt
field_fits ms rows (node ∷ nodes) [] qs like fit place lt = absurd (omega arith)
field_fits no_members rows (node ∷ nodes) (p ∷ ps) qs like fit place lt = absurd fit
field_fits (member name t ms) rows (node ∷ nodes) (p ∷ ps) qs like fit zero lt = like.0.dtype ∙ fit.0
field_fits (member name t ms) rows (node ∷ nodes) (p ∷ ps) qs like fit (suc place) lt = field_fits ms rows nodes ps qs like.1 fit.2 place (omega arith)

last_fits : (nodes : List Node) (ps : List Plan) (p : Plan) → AreLike nodes (ps ++ p ∷ []) → (plan_head p).dtype ≡ bool_type NonNullable → (k : ℕ) → k ≡ length ps → IsSomeAnd (slice_get nodes k) (λ validity. validity.dtype ≡ bool_type NonNullable)
last_fits [] [] p like is k e = absurd like
last_fits [] (q ∷ ps) p like is k e = absurd like
last_fits (node ∷ nodes) [] p like is zero e = like.0.dtype ∙ is
last_fits (node ∷ nodes) [] p like is (suc k) e = absurd (omega arith)
last_fits (node ∷ nodes) (q ∷ ps) p like is zero e = absurd (omega arith)
last_fits (node ∷ nodes) (q ∷ ps) p like is (suc k) e = last_fits nodes ps p like.1 is k (omega arith)

fields_and_validity : (ms : Members) (n : Nullability) (rows : ℕ) (nodes : List Node) (ps : List Plan) (w : PlanValidity) → AreLike nodes (ps ++ validity_list w) → AreFieldPlans ms rows ps → IsValidityPlan n rows w → PackFits (is_valid_as w) (struct_type ms n) nodes
fields_and_validity ms n rows nodes ps all_valid like fit valid =
    let count : length nodes ≡ length ps = omega (arith, like_count nodes (ps ++ []) like, length-append ps []) in
    (λ place lt. field_fits ms rows nodes ps [] like fit place (omega arith), tt)
fields_and_validity ms NonNullable rows nodes ps (valid_as p) like fit valid = absurd valid
fields_and_validity ms Nullable rows nodes ps (valid_as p) like fit valid =
    let count : length nodes ≡ length ps + 1 = omega (arith, like_count nodes (ps ++ p ∷ []) like, length-append ps (p ∷ [])) in
    (λ place lt. field_fits ms rows nodes ps (p ∷ []) like fit place (omega arith), last_fits nodes ps p like valid.0 (length nodes - 1) (omega arith))

validity_rows : (n : Nullability) (rows : ℕ) (nodes : List Node) (w : PlanValidity) → AreLike nodes (validity_list w) → IsValidityPlan n rows w → All (λ node. node.rows ≡ rows) nodes
validity_rows n rows [] w like valid = All-nil (λ (node : Node). node.rows ≡ rows)
validity_rows n rows (node ∷ nodes) all_valid like valid = absurd like
validity_rows NonNullable rows (node ∷ nodes) (valid_as p) like valid = absurd valid
validity_rows Nullable rows (node ∷ []) (valid_as p) like valid = All-cons (λ (node : Node). node.rows ≡ rows) node [] (like.0.rows ∙ valid.1) (All-nil (λ (node : Node). node.rows ≡ rows))
validity_rows Nullable rows (node ∷ other ∷ nodes) (valid_as p) like valid = absurd like.1

all_rows : (ms : Members) (n : Nullability) (rows : ℕ) (nodes : List Node) (ps : List Plan) (w : PlanValidity) → AreLike nodes (ps ++ validity_list w) → AreFieldPlans ms rows ps → IsValidityPlan n rows w → All (λ node. node.rows ≡ rows) nodes
all_rows ms n rows [] ps w like fit valid = All-nil (λ (node : Node). node.rows ≡ rows)
all_rows ms n rows (node ∷ nodes) [] w like fit valid = validity_rows n rows (node ∷ nodes) w like valid
all_rows no_members n rows (node ∷ nodes) (p ∷ ps) w like fit valid = absurd fit
all_rows (member name t ms) n rows (node ∷ nodes) (p ∷ ps) w like fit valid = All-cons (λ (node : Node). node.rows ≡ rows) node nodes (like.0.rows ∙ fit.1) (all_rows ms n rows nodes ps w like.1 fit.2 valid)

given_where : (n : Nullability) (rows : ℕ) (w : PlanValidity) → IsValidityPlan n rows w → is_valid_as w ≡ takes_null n
given_where NonNullable rows all_valid valid = refl
given_where NonNullable rows (valid_as p) valid = absurd valid
given_where Nullable rows all_valid valid = absurd valid
given_where Nullable rows (valid_as p) valid = refl

counted : (w : PlanValidity) (fields count : ℕ) → count ≡ fields + length (validity_list w) → field_count (is_valid_as w) count ≡ fields
counted all_valid fields count e = omega arith
counted (valid_as p) fields count e = omega arith

pub pack_can : (mid : List Node) (ms : Members) (n : Nullability) (rows : ℕ) (ns : List ℕ) (v : Option ℕ) (ps : List Plan) (w : PlanValidity) → AreLike (nodes_at mid (ns ++ given_validity v)) (ps ++ validity_list w) → is_given v ≡ is_valid_as w → AreFieldPlans ms rows ps → IsValidityPlan n rows w → KeepsRules (packed_node (struct_type ms n) rows ns v) (nodes_at mid (ns ++ given_validity v))
pack_can mid ms n rows ns v ps w like given fit valid =
    let below : List Node = nodes_at mid (ns ++ given_validity v) in
    let Fits : Bool → Type 0 = λ (b : Bool). PackFits b (struct_type ms n) below in
    let Counts : Bool → Type 0 = λ (b : Bool). PackCountFits b (struct_type ms n) (length (ns ++ given_validity v)) in
    let count : length (ns ++ given_validity v) ≡ length ps + length (validity_list w) = omega (arith, like_count below (ps ++ validity_list w) like, length-map (ns ++ given_validity v) (node_at mid), length-append ps (validity_list w)) in
    pack_keeps ms n rows ns v below
    (subst Fits (sym given) (fields_and_validity ms n rows below ps w like fit valid))
    (all_rows ms n rows below ps w like fit valid)
    (subst Counts (sym given) (counted w (length ps) (length (ns ++ given_validity v)) count ∙ field_plans_count ms rows ps fit, given_where n rows w valid))

-- ---- dictionaries

pub take_can : (mid : List Node) (c v : ℕ) (p q : Plan) → AreLike (nodes_at mid (c ∷ v ∷ [])) (p ∷ q ∷ []) → IsUnsigned (plan_head p).dtype → KeepsRules (take_node mid c v) (nodes_at mid (c ∷ v ∷ []))
take_can mid c v p q like unsigned = take_keeps mid c v (subst IsUnsigned (sym like.0.dtype) unsigned)

-- ---- lists

pub list_can : (mid : List Node) (k : Nullability) (rows e o : ℕ) (v : Option ℕ) (p q : Plan) (w : PlanValidity) → AreLike (nodes_at mid (e ∷ o ∷ given_validity v)) (p ∷ q ∷ validity_list w) → is_given v ≡ is_valid_as w → IsOffsets (plan_head q).dtype → (plan_head q).rows ≡ rows + 1 → IsValidityPlan k rows w → KeepsRules (list_node mid k rows e o v) (nodes_at mid (e ∷ o ∷ given_validity v))
list_can mid NonNullable rows e o None p q all_valid like given offsets count valid =
    list_keeps mid NonNullable rows e o None (nodes_at mid (e ∷ o ∷ []))
    (subst IsOffsets (sym like.1.0.dtype) offsets, tt) (like.1.0.rows ∙ count, tt) refl
list_can mid Nullable rows e o None p q all_valid like given offsets count valid = absurd valid
list_can mid k rows e o None p q (valid_as r) like given offsets count valid = absurd cc
list_can mid k rows e o (Some a) p q all_valid like given offsets count valid = absurd cc
list_can mid NonNullable rows e o (Some a) p q (valid_as r) like given offsets count valid = absurd valid
list_can mid Nullable rows e o (Some a) p q (valid_as r) like given offsets count valid =
    list_keeps mid Nullable rows e o (Some a) (nodes_at mid (e ∷ o ∷ a ∷ []))
    (subst IsOffsets (sym like.1.0.dtype) offsets, like.1.1.0.dtype ∙ valid.0) (like.1.0.rows ∙ count, like.1.1.0.rows ∙ valid.1) refl

-- ---- zones

pub zoned_can : (mid : List Node) (is_legacy : Bool) (zone_len : ℕ) (stats : List Statistic) (c z : ℕ) → AreZones zone_len stats (node_at mid c).dtype (node_at mid c).rows (node_at mid z) → KeepsRules (zones_node is_legacy mid c z zone_len stats) (nodes_at mid (c ∷ z ∷ []))
zoned_can mid false zone_len stats c z fit = zoned_keeps mid c z zone_len stats fit
zoned_can mid true zone_len stats c z fit = legacy_keeps mid c z zone_len stats fit
