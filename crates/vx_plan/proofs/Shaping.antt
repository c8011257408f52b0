-- What a node of each kind is over.
use Rattle.std.proofs.Common.{◌≡◌, ℕ, Bool, true, false, List, [], ◌∷◌, Option, Some, map, refl, sym, ap, ◌∙◌, subst}
use Rattle.std.specs.Prelude.{IsSomeAnd}
use Rattle.std.specs.List.{slice_get}
use Rattle.vx_base.specs.declared.codings.Coding.{Coding}
use Rattle.vx_base.specs.Data.{DataType}
use Rattle.vx_expr.specs.declared.statistics.Statistic.{Statistic}
use Rattle.vx_expr.specs.Bound.{Bound}
use Rattle.vx_plan.specs.declared.nodes.PlanKind.{PlanKind}
use Rattle.vx_plan.specs.declared.nodes.PlanKind.TheVariants as kinds
use Rattle.vx_plan.specs.declared.shapes.Shape.TheVariants as shapes
use Rattle.vx_plan.specs.Nodes.{Node}
use Rattle.vx_plan.specs.Kinds.{coding_of}
use Rattle.vx_plan.specs.Plans.{head_at, plan_at, plan_grown_as, scan_plan}
use Rattle.vx_plan.specs.Rules.{nodes_at, HasZones, AreTruthsOver, IsLike, IsLookUp, IsMadeAs, IsWorkedOut}
use Rattle.vx_plan.specs.Shapes.{HasShape, IsOver, ShapeOf}
use Rattle.vx_plan.specs.Tables.{IsGoodTable}
use Rattle.vx_plan.proofs.Unfolding.{Known, known}

there : {X : Type 0} (P : X → Type 0) (o : Option X) (x : X) → o ≡ Some x → P x → IsSomeAnd o P
there P o x at h = subst (λ o. IsSomeAnd o P) (sym at) h

-- the node with the children that are known of it
over : (nodes : List Node) → IsGoodTable nodes → (n : ℕ) (node : Node) (kind : PlanKind) (children : List ℕ) → slice_get nodes n ≡ Some node → node.kind ≡ kind → node.children ≡ children → IsOver nodes n node (plan_grown_as (head_at n node) kind (map (plan_at nodes) children)) kind children
over nodes good n node kind children at is these =
    let k : Known nodes n node kind = known nodes good n node kind at is in
    record {
      law = k.law ∙ ap (λ (ns : List ℕ). plan_grown_as (head_at n node) kind (map (plan_at nodes) ns)) these;
      kind_is = is;
      children_are = these;
      good = k.good;
    }

pub made_as : (nodes : List Node) → IsGoodTable nodes → (n : ℕ) (node : Node) (kind : PlanKind) → slice_get nodes n ≡ Some node → node.kind ≡ kind → IsMadeAs kind node (nodes_at nodes node.children)
made_as nodes good n node kind at is =
    let k : Known nodes n node kind = known nodes good n node kind at is in
    subst (λ (kind : PlanKind). IsMadeAs kind node (nodes_at nodes node.children)) is k.good.made

no_children : (nodes : List Node) (ns : List ℕ) → nodes_at nodes ns ≡ [] → ns ≡ []
no_children nodes [] e = refl
no_children nodes (n ∷ ns) e = absurd cc

one_like : (nodes : List Node) (node : Node) (ns : List ℕ) (n : ℕ) → IsLike node (nodes_at nodes ns) → slice_get ns 0 ≡ Some n → ns ≡ n ∷ []
one_like nodes node [] n like at = absurd like
one_like nodes node (m ∷ []) n like at = cc
one_like nodes node (m ∷ k ∷ ns) n like at = absurd like

one_worked_out : (nodes : List Node) (t : DataType) (node : Node) (ns : List ℕ) (n : ℕ) → IsWorkedOut t node (nodes_at nodes ns) → slice_get ns 0 ≡ Some n → ns ≡ n ∷ []
one_worked_out nodes t node [] n made at = absurd made
one_worked_out nodes t node (m ∷ []) n made at = cc
one_worked_out nodes t node (m ∷ k ∷ ns) n made at = absurd made

two_looked_up : (nodes : List Node) (node : Node) (ns : List ℕ) (n m : ℕ) → IsLookUp node (nodes_at nodes ns) → slice_get ns 0 ≡ Some n → slice_get ns 1 ≡ Some m → ns ≡ n ∷ m ∷ []
two_looked_up nodes node [] n m made at also = absurd made
two_looked_up nodes node (a ∷ []) n m made at also = absurd made
two_looked_up nodes node (a ∷ b ∷ []) n m made at also = cc
two_looked_up nodes node (a ∷ b ∷ c ∷ ns) n m made at also = absurd made

two_zoned : (nodes : List Node) (node : Node) (ns : List ℕ) (n m : ℕ) → HasZones node (nodes_at nodes ns) → slice_get ns 0 ≡ Some n → slice_get ns 1 ≡ Some m → ns ≡ n ∷ m ∷ []
two_zoned nodes node [] n m made at also = absurd made
two_zoned nodes node (a ∷ []) n m made at also = absurd made
two_zoned nodes node (a ∷ b ∷ []) n m made at also = cc
two_zoned nodes node (a ∷ b ∷ c ∷ ns) n m made at also = absurd made

one_truths : (nodes : List Node) (node : Node) (ns : List ℕ) (n : ℕ) → AreTruthsOver node (nodes_at nodes ns) → slice_get ns 0 ≡ Some n → ns ≡ n ∷ []
one_truths nodes node [] n made at = absurd made
one_truths nodes node (m ∷ []) n made at = cc
one_truths nodes node (m ∷ k ∷ ns) n made at = absurd made

pub leaf_shape : (nodes : List Node) → IsGoodTable nodes → (n : ℕ) (node : Node) (segment : ℕ) (coding : Coding) → slice_get nodes n ≡ Some node → node.kind ≡ kinds.SegmentScan segment coding → HasShape nodes n (shapes.Leaf segment)
leaf_shape nodes good n node segment coding at is =
    let here : IsOver nodes n node (scan_plan (head_at n node) segment coding) (kinds.SegmentScan segment coding) [] = over nodes good n node (kinds.SegmentScan segment coding) [] at is (no_children nodes node.children (made_as nodes good n node (kinds.SegmentScan segment coding) at is)) in
    let same : coding_of node.kind ≡ coding = ap coding_of is in
    there (λ node. ShapeOf nodes n node (shapes.Leaf segment)) (slice_get nodes n) node at
    (subst (λ (c : Coding). IsOver nodes n node (scan_plan (head_at n node) segment c) (kinds.SegmentScan segment c) []) (sym same) here)

pub filter_shape : (nodes : List Node) → IsGoodTable nodes → (n : ℕ) (node : Node) (child : ℕ) → slice_get nodes n ≡ Some node → node.kind ≡ kinds.Filter → slice_get node.children 0 ≡ Some child → HasShape nodes n (shapes.Same child)
filter_shape nodes good n node child at is first =
    there (λ node. ShapeOf nodes n node (shapes.Same child)) (slice_get nodes n) node at
    (over nodes good n node kinds.Filter (child ∷ []) at is (one_like nodes node node.children child (made_as nodes good n node kinds.Filter at is) first))

pub share_shape : (nodes : List Node) → IsGoodTable nodes → (n : ℕ) (node : Node) (child : ℕ) → slice_get nodes n ≡ Some node → node.kind ≡ kinds.Share → slice_get node.children 0 ≡ Some child → HasShape nodes n (shapes.Shared child)
share_shape nodes good n node child at is first =
    there (λ node. ShapeOf nodes n node (shapes.Shared child)) (slice_get nodes n) node at
    (over nodes good n node kinds.Share (child ∷ []) at is (one_like nodes node node.children child (made_as nodes good n node kinds.Share at is) first))

pub concat_shape : (nodes : List Node) → IsGoodTable nodes → (n : ℕ) (node : Node) → slice_get nodes n ≡ Some node → node.kind ≡ kinds.Concat → HasShape nodes n shapes.Chunks
concat_shape nodes good n node at is =
    there (λ node. ShapeOf nodes n node shapes.Chunks) (slice_get nodes n) node at
    (over nodes good n node kinds.Concat node.children at is refl)

pub pack_shape : (nodes : List Node) → IsGoodTable nodes → (n : ℕ) (node : Node) (has_validity : Bool) → slice_get nodes n ≡ Some node → node.kind ≡ kinds.Pack has_validity → HasShape nodes n (shapes.Fields has_validity)
pack_shape nodes good n node has_validity at is =
    there (λ node. ShapeOf nodes n node (shapes.Fields has_validity)) (slice_get nodes n) node at
    (over nodes good n node (kinds.Pack has_validity) node.children at is refl)

pub take_shape : (nodes : List Node) → IsGoodTable nodes → (n : ℕ) (node : Node) (codes values : ℕ) → slice_get nodes n ≡ Some node → node.kind ≡ kinds.Take → slice_get node.children 0 ≡ Some codes → slice_get node.children 1 ≡ Some values → HasShape nodes n (shapes.LookUp codes values)
take_shape nodes good n node codes values at is first second =
    there (λ node. ShapeOf nodes n node (shapes.LookUp codes values)) (slice_get nodes n) node at
    (over nodes good n node kinds.Take (codes ∷ values ∷ []) at is (two_looked_up nodes node node.children codes values (made_as nodes good n node kinds.Take at is) first second))

pub eval_shape : (nodes : List Node) → IsGoodTable nodes → (n : ℕ) (node : Node) (a : Bound) (child : ℕ) → slice_get nodes n ≡ Some node → node.kind ≡ kinds.Eval a → slice_get node.children 0 ≡ Some child → HasShape nodes n (shapes.Over child)
eval_shape nodes good n node a child at is first =
    there (λ node. ShapeOf nodes n node (shapes.Over child)) (slice_get nodes n) node at
    (record { expression = a; over = over nodes good n node (kinds.Eval a) (child ∷ []) at is (one_worked_out nodes a.dtype node node.children child (made_as nodes good n node (kinds.Eval a) at is) first) })

pub list_shape : (nodes : List Node) → IsGoodTable nodes → (n : ℕ) (node : Node) (has_validity : Bool) → slice_get nodes n ≡ Some node → node.kind ≡ kinds.ListPack has_validity → HasShape nodes n shapes.Lists
list_shape nodes good n node has_validity at is =
    there (λ node. ShapeOf nodes n node shapes.Lists) (slice_get nodes n) node at
    (record { has_validity = has_validity; over = over nodes good n node (kinds.ListPack has_validity) node.children at is refl })

pub row_idx_shape : (nodes : List Node) → IsGoodTable nodes → (n : ℕ) (node : Node) → slice_get nodes n ≡ Some node → node.kind ≡ kinds.RowIdx → HasShape nodes n shapes.RowNumbers
row_idx_shape nodes good n node at is =
    there (λ node. ShapeOf nodes n node shapes.RowNumbers) (slice_get nodes n) node at
    (over nodes good n node kinds.RowIdx [] at is (no_children nodes node.children (made_as nodes good n node kinds.RowIdx at is).1))

pub zoned_shape : (nodes : List Node) → IsGoodTable nodes → (n : ℕ) (node : Node) (zone_len : ℕ) (stats : List Statistic) (content table : ℕ) → slice_get nodes n ≡ Some node → node.kind ≡ kinds.Zoned zone_len stats → slice_get node.children 0 ≡ Some content → slice_get node.children 1 ≡ Some table → HasShape nodes n (shapes.Zoned content table)
zoned_shape nodes good n node zone_len stats content table at is first second =
    there (λ node. ShapeOf nodes n node (shapes.Zoned content table)) (slice_get nodes n) node at
    (record { is_legacy = false; zone_len = zone_len; stats = stats; over = over nodes good n node (kinds.Zoned zone_len stats) (content ∷ table ∷ []) at is (two_zoned nodes node node.children content table (made_as nodes good n node (kinds.Zoned zone_len stats) at is) first second) })

pub legacy_shape : (nodes : List Node) → IsGoodTable nodes → (n : ℕ) (node : Node) (zone_len : ℕ) (stats : List Statistic) (content table : ℕ) → slice_get nodes n ≡ Some node → node.kind ≡ kinds.LegacyStats zone_len stats → slice_get node.children 0 ≡ Some content → slice_get node.children 1 ≡ Some table → HasShape nodes n (shapes.Zoned content table)
legacy_shape nodes good n node zone_len stats content table at is first second =
    there (λ node. ShapeOf nodes n node (shapes.Zoned content table)) (slice_get nodes n) node at
    (record { is_legacy = true; zone_len = zone_len; stats = stats; over = over nodes good n node (kinds.LegacyStats zone_len stats) (content ∷ table ∷ []) at is (two_zoned nodes node node.children content table (made_as nodes good n node (kinds.LegacyStats zone_len stats) at is) first second) })

pub pruning_shape : (nodes : List Node) → IsGoodTable nodes → (n : ℕ) (node : Node) (zone_len : ℕ) (stats : List Statistic) (proof : Bound) (table : ℕ) → slice_get nodes n ≡ Some node → node.kind ≡ kinds.Pruning zone_len stats proof → slice_get node.children 0 ≡ Some table → HasShape nodes n (shapes.Pruned table)
pruning_shape nodes good n node zone_len stats proof table at is first =
    there (λ node. ShapeOf nodes n node (shapes.Pruned table)) (slice_get nodes n) node at
    (record { zone_len = zone_len; stats = stats; proof = proof; over = over nodes good n node (kinds.Pruning zone_len stats proof) (table ∷ []) at is (one_truths nodes node node.children table (made_as nodes good n node (kinds.Pruning zone_len stats proof) at is) first) })
