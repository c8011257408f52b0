-- The node of a pruning plan keeps the rules: its zones are those of the plan over data.
use Rattle.std.proofs.Common.{◌≡◌, ℕ, ◌<◌, ◌⊎◌, inl, inr, ⊎_elim, Bool, true, false, List, [], ◌∷◌, Option, Some, None, length, refl, sym, ap, ◌∙◌, subst, arith}
use Rattle.std.specs.Prelude.{◌&&◌, ◌||◌, if◌then◌else◌, is_some, option_map}
use Rattle.std.specs.List.{slice_get, slice_index_or}
use Rattle.std.proofs.lemmas.List.Elements.{All-cons, All-nil}
use Rattle.vx_base.specs.Data.{DataType}
use Rattle.vx_expr.specs.Bound.{Bound, IsBoundTo}
use Rattle.vx_expr.specs.Mentions.{is_root, uses_root}
use Rattle.vx_expr.specs.Terms.{Term, root, literal, get_field, pack, negation, conjunction, disjunction, comparison, null_test, value_test, arithmetic, row_number, bound_test}
use Rattle.vx_operators.specs.declared.operators.CompareOp.{CompareOp}
use Rattle.vx_zones.specs.Prunes.{is_provable, literal_in, mirrored, root_comparison, HasProof}
use Rattle.vx_plan.specs.declared.errors.PlanError.{PlanError}
use Rattle.vx_plan.specs.declared.errors.PlanError.TheVariants.{BadPlan, Memory}
use Rattle.vx_plan.specs.declared.nodes.PlanKind.{PlanKind}
use Rattle.vx_plan.specs.declared.nodes.PlanKind.TheVariants as kinds
use Rattle.vx_plan.specs.declared.rules.PlanRule.TheVariants as rules
use Rattle.vx_plan.specs.Kinds.{stats_of, zone_len_of, HasKind, IsOverData}
use Rattle.vx_plan.specs.Nodes.{Node}
use Rattle.vx_plan.specs.Rules.{node_at, nodes_at, pruning_node, zones_of_node, AreZones, IsMadeAs, KeepsRules, RefusedBy, ZonesFit}
use Rattle.vx_plan.specs.Tables.{AreIn, CanPrune, IsGoodTable}
use Rattle.vx_plan.proofs.Collecting.{good_there, kind_known, kind_there}
use Rattle.vx_plan.proofs.Each.{each_at}

-- ---- a predicate with a proof looks at the root

or_first : (a b : Bool) → a ≡ true → (a || b) ≡ true
or_first true b e = refl
or_first false b e = absurd cc

or_second : (a b : Bool) → b ≡ true → (a || b) ≡ true
or_second true b e = refl
or_second false b e = e

root_uses : (e : Term) → is_root e ≡ true → uses_root e ≡ true
root_uses root is = refl
root_uses (literal v t) is = absurd cc
root_uses (get_field name e) is = absurd cc
root_uses (pack es) is = absurd cc
root_uses (negation e) is = absurd cc
root_uses (conjunction a b) is = absurd cc
root_uses (disjunction a b) is = absurd cc
root_uses (comparison op a b) is = absurd cc
root_uses (null_test e) is = absurd cc
root_uses (value_test e) is = absurd cc
root_uses (arithmetic op a b) is = absurd cc
root_uses row_number is = absurd cc
root_uses (bound_test e) is = absurd cc

one_side : {X : Type 0} (a b : Bool) (p q : Option X) → is_some (if a then p else if b then q else None) ≡ true → (a ≡ true) ⊎ (b ≡ true)
one_side true b p q some = inl refl
one_side false true p q some = inr refl
one_side false false p q some = absurd cc

some_side : (a b : Bool) → (a || b) ≡ true → (a ≡ true) ⊎ (b ≡ true)
some_side true b is = inl refl
some_side false b is = inr is

provable_uses : (e : Term) → is_provable e ≡ true → uses_root e ≡ true
provable_uses (comparison op a b) is =
    ⊎_elim (λ (left : is_root a ≡ true). or_first (uses_root a) (uses_root b) (root_uses a left)) (λ (right : is_root b ≡ true). or_second (uses_root a) (uses_root b) (root_uses b right))
    (one_side (is_root a) (is_root b) (option_map (λ c. (op, c)) (literal_in b)) (option_map (λ c. (mirrored op, c)) (literal_in a)) is)
provable_uses (bound_test e) is = or_second false (uses_root e) (root_uses e is)
provable_uses (null_test e) is = root_uses e is
provable_uses (value_test e) is = root_uses e is
provable_uses (conjunction a b) is =
    ⊎_elim (λ (left : is_provable a ≡ true). or_first (uses_root a) (uses_root b) (provable_uses a left)) (λ (right : is_provable b ≡ true). or_second (uses_root a) (uses_root b) (provable_uses b right)) (some_side (is_provable a) (is_provable b) is)
provable_uses (disjunction a b) is = or_first (uses_root a) (uses_root b) (provable_uses a (first_of (is_provable a) (is_provable b) is))
  where
    first_of : (x y : Bool) → (x && y) ≡ true → x ≡ true
    first_of true y h = refl
    first_of false y h = absurd cc
provable_uses root is = absurd cc
provable_uses (literal v t) is = absurd cc
provable_uses (get_field name e) is = absurd cc
provable_uses (pack es) is = absurd cc
provable_uses (negation e) is = absurd cc
provable_uses (arithmetic op a b) is = absurd cc
provable_uses row_number is = absurd cc

-- so it is bound to that dtype
root_is : (predicate : Bound) (t : DataType) → HasProof predicate → IsBoundTo predicate t → predicate.root ≡ t
root_is predicate t has bound = bound (provable_uses predicate.term has.provable)

-- ---- the zones

zones_of_kind : (kind : PlanKind) (t : DataType) (rows : ℕ) (nodes : List Node) (children : List ℕ) → IsOverData kind → ZonesFit kind t rows (nodes_at nodes children) → AreZones (zone_len_of kind) (stats_of kind) t rows (node_at nodes (slice_index_or children 1 0))
zones_of_kind (kinds.Zoned zone_len stats) t rows nodes [] is fit = absurd fit
zones_of_kind (kinds.Zoned zone_len stats) t rows nodes (n ∷ []) is fit = absurd fit
zones_of_kind (kinds.Zoned zone_len stats) t rows nodes (n ∷ m ∷ children) is fit = fit
zones_of_kind kinds.Concat t rows nodes children is fit = absurd is
zones_of_kind (kinds.Eval a) t rows nodes children is fit = absurd is
zones_of_kind kinds.Filter t rows nodes children is fit = absurd is
zones_of_kind (kinds.Pack has_validity) t rows nodes children is fit = absurd is
zones_of_kind kinds.Take t rows nodes children is fit = absurd is
zones_of_kind kinds.Share t rows nodes children is fit = absurd is
zones_of_kind (kinds.ListPack has_validity) t rows nodes children is fit = absurd is
zones_of_kind kinds.RowIdx t rows nodes children is fit = absurd is
zones_of_kind (kinds.SegmentScan segment coding) t rows nodes children is fit = absurd is
zones_of_kind (kinds.LegacyStats zone_len stats) t rows nodes children is fit = absurd is
zones_of_kind (kinds.Pruning zone_len stats proof) t rows nodes children is fit = absurd is

-- ---- the node

zones_keep : (nodes : List Node) (n : ℕ) (predicate : Bound) → AreZones (zone_len_of (node_at nodes n).kind) (stats_of (node_at nodes n).kind) predicate.root (node_at nodes n).rows (node_at nodes (zones_of_node (node_at nodes n))) → KeepsRules (pruning_node nodes n predicate) (nodes_at nodes (zones_of_node (node_at nodes n) ∷ []))
zones_keep nodes n predicate fit rules.ChildTypes = tt
zones_keep nodes n predicate fit rules.ChildRows = tt
zones_keep nodes n predicate fit rules.BoundExpression = tt
zones_keep nodes n predicate fit rules.NoRowIndex = tt
zones_keep nodes n predicate fit rules.FieldCount = tt
zones_keep nodes n predicate fit rules.UnsignedCodes = tt
zones_keep nodes n predicate fit rules.LeafType = tt
zones_keep nodes n predicate fit rules.FittingZones = fit

pub pruning_keeps : (nodes : List Node) → IsGoodTable nodes → (n : ℕ) (predicate : Bound) → CanPrune nodes n predicate → IsBoundTo predicate (node_at nodes n).dtype → KeepsRules (pruning_node nodes n predicate) (nodes_at nodes (zones_of_node (node_at nodes n) ∷ []))
pruning_keeps nodes good n predicate can bound =
    let node : Node = node_at nodes n in
    let fit : AreZones (zone_len_of node.kind) (stats_of node.kind) node.dtype node.rows (node_at nodes (zones_of_node node)) =
    zones_of_kind node.kind node.dtype node.rows nodes node.children (kind_there IsOverData nodes n can.over) ((good_there nodes good n (kind_known IsOverData nodes n can.over)).kept rules.FittingZones) in
    zones_keep nodes n predicate (subst (λ (t : DataType). AreZones (zone_len_of node.kind) (stats_of node.kind) t node.rows (node_at nodes (zones_of_node node))) (sym (root_is predicate node.dtype can.proof bound)) fit)

-- ---- it is over a plan of the table

zones_second : (kind : PlanKind) (node : Node) (nodes : List Node) (children : List ℕ) → IsOverData kind → IsMadeAs kind node (nodes_at nodes children) → slice_get children 1 ≡ Some (slice_index_or children 1 0)
zones_second (kinds.Zoned zone_len stats) node nodes [] is made = absurd made
zones_second (kinds.Zoned zone_len stats) node nodes (n ∷ []) is made = absurd made
zones_second (kinds.Zoned zone_len stats) node nodes (n ∷ m ∷ children) is made = refl
zones_second kinds.Concat node nodes children is made = absurd is
zones_second (kinds.Eval a) node nodes children is made = absurd is
zones_second kinds.Filter node nodes children is made = absurd is
zones_second (kinds.Pack has_validity) node nodes children is made = absurd is
zones_second kinds.Take node nodes children is made = absurd is
zones_second kinds.Share node nodes children is made = absurd is
zones_second (kinds.ListPack has_validity) node nodes children is made = absurd is
zones_second kinds.RowIdx node nodes children is made = absurd is
zones_second (kinds.SegmentScan segment coding) node nodes children is made = absurd is
zones_second (kinds.LegacyStats zone_len stats) node nodes children is made = absurd is
zones_second (kinds.Pruning zone_len stats proof) node nodes children is made = absurd is

pub zones_at : (nodes : List Node) → IsGoodTable nodes → (n : ℕ) → HasKind IsOverData nodes n → slice_get (node_at nodes n).children 1 ≡ Some (zones_of_node (node_at nodes n))
zones_at nodes good n has =
    let node : Node = node_at nodes n in
    zones_second node.kind node nodes node.children (kind_there IsOverData nodes n has) (good_there nodes good n (kind_known IsOverData nodes n has)).made

pub zones_in : (nodes : List Node) → IsGoodTable nodes → (n : ℕ) → HasKind IsOverData nodes n → AreIn nodes (zones_of_node (node_at nodes n) ∷ [])
zones_in nodes good n has =
    let known : n < length nodes = kind_known IsOverData nodes n has in
    let lower : zones_of_node (node_at nodes n) < n = each_at (λ (m : ℕ). m < n) (node_at nodes n).children 1 (zones_of_node (node_at nodes n)) (zones_at nodes good n has) (good_there nodes good n known).below in
    All-cons (λ (m : ℕ). m < length nodes) (zones_of_node (node_at nodes n)) [] (omega arith) (All-nil (λ (m : ℕ). m < length nodes))

-- a plan that keeps the rules is refused for want of memory alone
pub kept_refused : (node : Node) (below : List Node) (error : PlanError) → KeepsRules node below → RefusedBy node below error → error ≡ Memory
kept_refused node below (BadPlan number) kept broken = absurd (broken.broken (kept broken.rule))
kept_refused node below Memory kept broken = refl
