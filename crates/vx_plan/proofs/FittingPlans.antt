-- The rows of a table's plans are those of what they are over.
use Rattle.std.proofs.Common.{◌≡◌, ℕ, zero, suc, ◌<◌, Bool, true, false, List, [], ◌∷◌, length, map, refl, sym, ap, ◌∙◌, subst, arith}
use Rattle.std.specs.Prelude.{IsTrue}
use Rattle.std.specs.List.{All}
use Rattle.std.proofs.lemmas.List.Elements.{All-head, All-tail}
use Rattle.std.proofs.lemmas.Option.{slice_get-get_or}
use Rattle.vx_plan.specs.declared.nodes.PlanKind.{PlanKind}
use Rattle.vx_plan.specs.declared.nodes.PlanKind.TheVariants as kinds
use Rattle.vx_plan.specs.declared.rules.PlanRule.TheVariants.{ChildTypes, ChildRows}
use Rattle.vx_plan.specs.FittingRows.{HasFittingRows, HaveFittingRows, FieldsHaveRows, ValidityHasRows}
use Rattle.vx_plan.specs.Nodes.{Node, absent}
use Rattle.vx_rows.specs.Heads.{Head}
use Rattle.vx_plan.specs.Plans.{plan_head, head_at, plan_at, plan_grown_as, plans_from, front_plans, last_plan, field_plans, last_validity}
use Rattle.vx_plan.specs.Rules.{node_at, nodes_at, IsMadeAs, RowsFit, TypesFit}
use Rattle.vx_plan.specs.Tables.{AreIn, IsGoodTable}
use Rattle.vx_plan.proofs.Adding.{head_in_table}
use Rattle.vx_plan.proofs.ChildNodes.{count_at}
use Rattle.vx_plan.proofs.Growing.{below_known}
use Rattle.vx_plan.proofs.Unfolding.{Known, known}
use Rattle.vx_plan.proofs.Validities.{some_children}

-- the plan of a node, whose rows fit and are the node's
record IsFitting (nodes : List Node) (n : ℕ) : Type 0 where
  fit : HasFittingRows (plan_at nodes n)
  rows : (plan_head (plan_at nodes n)).rows ≡ (node_at nodes n).rows

abbrev AreFitting : List Node → List ℕ → Type 0
AreFitting nodes [] = Unit {0}
AreFitting nodes (n ∷ ns) = IsFitting nodes n × AreFitting nodes ns

chunks_fit : (nodes : List Node) (ns : List ℕ) → AreFitting nodes ns → HaveFittingRows (plans_from (map (plan_at nodes) ns))
chunks_fit nodes [] each = tt
chunks_fit nodes (n ∷ ns) each = (each.0.fit, chunks_fit nodes ns each.1)

fields_fit : (nodes : List Node) (rows : ℕ) (ns : List ℕ) → AreFitting nodes ns → All (λ (child : Node). child.rows ≡ rows) (nodes_at nodes ns) → FieldsHaveRows rows (plans_from (map (plan_at nodes) ns))
fields_fit nodes rows [] each same = tt
fields_fit nodes rows (n ∷ ns) each same = (
  each.0.rows ∙ All-head (λ (child : Node). child.rows ≡ rows) (node_at nodes n) (nodes_at nodes ns) same,
  each.0.fit,
  fields_fit nodes rows ns each.1 (All-tail (λ (child : Node). child.rows ≡ rows) (node_at nodes n) (nodes_at nodes ns) same),
)

front_fit : (nodes : List Node) (rows : ℕ) (ns : List ℕ) → AreFitting nodes ns → All (λ (child : Node). child.rows ≡ rows) (nodes_at nodes ns) → FieldsHaveRows rows (plans_from (front_plans (map (plan_at nodes) ns)))
front_fit nodes rows [] each same = tt
front_fit nodes rows (n ∷ []) each same = tt
front_fit nodes rows (n ∷ m ∷ ns) each same = (
  each.0.rows ∙ All-head (λ (child : Node). child.rows ≡ rows) (node_at nodes n) (nodes_at nodes (m ∷ ns)) same,
  each.0.fit,
  front_fit nodes rows (m ∷ ns) each.1 (All-tail (λ (child : Node). child.rows ≡ rows) (node_at nodes n) (nodes_at nodes (m ∷ ns)) same),
)

last_fit : (nodes : List Node) (rows : ℕ) (ns : List ℕ) → 0 < length ns → AreFitting nodes ns → All (λ (child : Node). child.rows ≡ rows) (nodes_at nodes ns) → ((plan_head (last_plan (map (plan_at nodes) ns))).rows ≡ rows) × HasFittingRows (last_plan (map (plan_at nodes) ns))
last_fit nodes rows [] some each same = absurd (omega arith)
last_fit nodes rows (n ∷ []) some each same = (each.0.rows ∙ All-head (λ (child : Node). child.rows ≡ rows) (node_at nodes n) [] same, each.0.fit)
last_fit nodes rows (n ∷ m ∷ ns) some each same = last_fit nodes rows (m ∷ ns) (omega arith) each.1 (All-tail (λ (child : Node). child.rows ≡ rows) (node_at nodes n) (nodes_at nodes (m ∷ ns)) same)

pack_fit : (has_validity : Bool) (nodes : List Node) (rows : ℕ) (ns : List ℕ) → (IsTrue has_validity → 0 < length ns) → AreFitting nodes ns → All (λ (child : Node). child.rows ≡ rows) (nodes_at nodes ns) → FieldsHaveRows rows (plans_from (field_plans has_validity (map (plan_at nodes) ns))) × ValidityHasRows rows (last_validity has_validity (map (plan_at nodes) ns))
pack_fit false nodes rows ns some each same = (fields_fit nodes rows ns each same, tt)
pack_fit true nodes rows ns some each same = (front_fit nodes rows ns each same, last_fit nodes rows ns (some refl) each same)

one_fit : (kind : PlanKind) (nodes : List Node) (head : Head) (node : Node) (ns : List ℕ) → head.rows ≡ node.rows → IsMadeAs kind node (nodes_at nodes ns) → RowsFit kind node.rows (nodes_at nodes ns) → TypesFit kind node.dtype (nodes_at nodes ns) → AreFitting nodes ns → HasFittingRows (plan_grown_as head kind (map (plan_at nodes) ns))
one_fit kinds.Concat nodes head node ns e made rows types each = chunks_fit nodes ns each
one_fit (kinds.Eval a) nodes head node [] e made rows types each = absurd made
one_fit (kinds.Eval a) nodes head node (n ∷ []) e made rows types each = (each.0.rows ∙ sym made.1 ∙ sym e, each.0.fit)
one_fit (kinds.Eval a) nodes head node (n ∷ m ∷ ns) e made rows types each = absurd made
one_fit kinds.Filter nodes head node [] e made rows types each = absurd made
one_fit kinds.Filter nodes head node (n ∷ []) e made rows types each = (each.0.rows ∙ sym made.1 ∙ sym e, each.0.fit)
one_fit kinds.Filter nodes head node (n ∷ m ∷ ns) e made rows types each = absurd made
one_fit (kinds.Pack has_validity) nodes head node ns e made rows types each =
    pack_fit has_validity nodes head.rows ns
    (λ has. let some : 0 < length (nodes_at nodes ns) = some_children (kinds.Pack has_validity) node.dtype (nodes_at nodes ns) types has in omega (arith, count_at nodes ns))
    each (subst (λ (r : ℕ). All (λ (child : Node). child.rows ≡ r) (nodes_at nodes ns)) (sym e) rows)
one_fit kinds.Take nodes head node [] e made rows types each = absurd made
one_fit kinds.Take nodes head node (n ∷ []) e made rows types each = absurd made
one_fit kinds.Take nodes head node (n ∷ m ∷ []) e made rows types each = (each.0.rows ∙ sym made.1 ∙ sym e, each.0.fit, each.1.0.fit)
one_fit kinds.Take nodes head node (n ∷ m ∷ k ∷ ns) e made rows types each = absurd made
one_fit kinds.Share nodes head node [] e made rows types each = absurd made
one_fit kinds.Share nodes head node (n ∷ []) e made rows types each = (each.0.rows ∙ sym made.1 ∙ sym e, each.0.fit)
one_fit kinds.Share nodes head node (n ∷ m ∷ ns) e made rows types each = absurd made
one_fit (kinds.ListPack has_validity) nodes head node ns e made rows types each = tt
one_fit kinds.RowIdx nodes head node ns e made rows types each = tt
one_fit (kinds.SegmentScan segment coding) nodes head node ns e made rows types each = tt
one_fit (kinds.Zoned zone_len stats) nodes head node [] e made rows types each = absurd made
one_fit (kinds.Zoned zone_len stats) nodes head node (n ∷ []) e made rows types each = absurd made
one_fit (kinds.Zoned zone_len stats) nodes head node (n ∷ m ∷ []) e made rows types each = (each.0.rows ∙ sym made.1 ∙ sym e, each.0.fit)
one_fit (kinds.Zoned zone_len stats) nodes head node (n ∷ m ∷ k ∷ ns) e made rows types each = absurd made
one_fit (kinds.LegacyStats zone_len stats) nodes head node [] e made rows types each = absurd made
one_fit (kinds.LegacyStats zone_len stats) nodes head node (n ∷ []) e made rows types each = absurd made
one_fit (kinds.LegacyStats zone_len stats) nodes head node (n ∷ m ∷ []) e made rows types each = (each.0.rows ∙ sym made.1 ∙ sym e, each.0.fit)
one_fit (kinds.LegacyStats zone_len stats) nodes head node (n ∷ m ∷ k ∷ ns) e made rows types each = absurd made
one_fit (kinds.Pruning zone_len stats proof) nodes head node [] e made rows types each = absurd made
one_fit (kinds.Pruning zone_len stats proof) nodes head node (n ∷ []) e made rows types each = each.0.fit
one_fit (kinds.Pruning zone_len stats proof) nodes head node (n ∷ m ∷ ns) e made rows types each = absurd made

all_fit : (nodes : List Node) (bound : ℕ) → ((n : ℕ) → n < bound → n < length nodes → IsFitting nodes n) → (ns : List ℕ) → All (λ n. n < bound) ns → AreIn nodes ns → AreFitting nodes ns
all_fit nodes bound each [] below these = tt
all_fit nodes bound each (n ∷ ns) below these = (
  each n (All-head (λ n. n < bound) n ns below) (All-head (λ n. n < length nodes) n ns these),
  all_fit nodes bound each ns (All-tail (λ n. n < bound) n ns below) (All-tail (λ n. n < length nodes) n ns these),
)

fit_below : (nodes : List Node) → IsGoodTable nodes → (bound n : ℕ) → n < bound → n < length nodes → IsFitting nodes n
fit_below nodes good zero n lt there = absurd (omega arith)
fit_below nodes good (suc bound) n lt there =
    let node : Node = node_at nodes n in
    let k : Known nodes n node node.kind = known nodes good n node node.kind (slice_get-get_or nodes n absent there) refl in
    let each : AreFitting nodes node.children = all_fit nodes n (λ m less within. fit_below nodes good bound m (omega arith) within) node.children k.good.below (below_known nodes n node.children (omega arith) k.good.below) in
    record {
      fit = subst HasFittingRows (sym k.law) (one_fit node.kind nodes (head_at n node) node node.children refl k.good.made (k.good.kept ChildRows) (k.good.kept ChildTypes) each);
      rows = ap (λ (head : Head). head.rows) (head_in_table nodes good n there);
    }

pub rows_fit : (nodes : List Node) → IsGoodTable nodes → (n : ℕ) → n < length nodes → HasFittingRows (plan_at nodes n)
rows_fit nodes good n there = (fit_below nodes good (suc n) n (omega arith) there).fit
