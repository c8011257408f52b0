-- What a table stands for once plans are appended.
use Rattle.std.proofs.Common.{◌≡◌, ℕ, suc, ◌+◌, ◌<◌, List, [], ◌∷◌, ◌++◌, Some, length, map, refl, ap, ◌∙◌, subst, arith, length-append}
use Rattle.std.specs.List.{slice_get}
use Rattle.std.proofs.lemmas.List.Elements.{All-head, All-tail}
use Rattle.std.proofs.lemmas.Option.{get_or_from_slice_get, slice_get-get_or}
use Rattle.vx_plan.specs.declared.nodes.PlanKind.{PlanKind}
use Rattle.vx_plan.specs.declared.nodes.PlanKind.TheVariants as kinds
use Rattle.vx_plan.specs.Nodes.{Node, absent}
use Rattle.vx_rows.specs.Heads.{Head}
use Rattle.vx_plan.specs.Kinds.{coding_of}
use Rattle.vx_plan.specs.Plans.{Plan, plan_coding, plan_head, head_at, plan_at, plan_grown_as}
use Rattle.vx_plan.specs.Rules.{node_at}
use Rattle.vx_plan.specs.Tables.{AreIn, IsAdded, IsGoodTable}
use Rattle.vx_plan.proofs.Growing.{get_in_front, get_at_seam}
use Rattle.vx_plan.proofs.Unfolding.{HaveEarlier, have_earlier, grow_same, Known, known}

pub stays : (nodes more : List Node) → HaveEarlier (nodes ++ more) → (n : ℕ) → n < length nodes → plan_at (nodes ++ more) n ≡ plan_at nodes n
stays nodes more earlier n lt = grow_same (nodes ++ more) nodes earlier (suc n) (suc n) n (omega arith) (omega arith) (λ m le. get_in_front nodes more m (omega arith))

all_stay_in : (nodes more : List Node) → HaveEarlier (nodes ++ more) → (ns : List ℕ) → AreIn nodes ns → map (plan_at (nodes ++ more)) ns ≡ map (plan_at nodes) ns
all_stay_in nodes more earlier [] known = refl
all_stay_in nodes more earlier (n ∷ ns) known =
    let p : plan_at (nodes ++ more) n ≡ plan_at nodes n = stays nodes more earlier n (All-head (λ n. n < length nodes) n ns known) in
    let q : map (plan_at (nodes ++ more)) ns ≡ map (plan_at nodes) ns = all_stay_in nodes more earlier ns (All-tail (λ n. n < length nodes) n ns known) in
    cc

pub all_stay : (old new more : List Node) → new ≡ old ++ more → IsGoodTable new → (ns : List ℕ) → AreIn old ns → map (plan_at new) ns ≡ map (plan_at old) ns
all_stay old new more e good ns known =
    ap (λ (nodes : List Node). map (plan_at nodes) ns) e ∙ all_stay_in old more (subst HaveEarlier e (have_earlier new good)) ns known

-- ---- a node that was added

pub node_added_at : (old new : List Node) (node : Node) (n : ℕ) → IsAdded old new node n → slice_get new n ≡ Some node
node_added_at old new node n added = ap (λ (nodes : List Node). slice_get nodes n) added.appended ∙ get_at_seam old [] node n added.last

pub node_added : (old new : List Node) (node : Node) (n : ℕ) → IsAdded old new node n → node_at new n ≡ node
node_added old new node n added = get_or_from_slice_get new n node absent (node_added_at old new node n added)

pub length_added : (old new : List Node) (node : Node) (n : ℕ) → IsAdded old new node n → length new ≡ length old + 1
length_added old new node n added = omega (arith, ap length added.appended, length-append old (node ∷ []))

pub plan_added : (old new : List Node) (node : Node) (n : ℕ) → IsAdded old new node n → AreIn old node.children → plan_at new n ≡ plan_grown_as (head_at n node) node.kind (map (plan_at old) node.children)
plan_added old new node n added these =
    let k : Known new n node node.kind = known new added.good n node node.kind (node_added_at old new node n added) refl in
    k.law ∙ ap (plan_grown_as (head_at n node) node.kind) (all_stay old new (node ∷ []) added.appended added.good node.children these)

-- ---- heads

pub head_grown : (head : Head) (kind : PlanKind) (ps : List Plan) → plan_head (plan_grown_as head kind ps) ≡ head
head_grown head kinds.Concat ps = refl
head_grown head (kinds.Eval a) ps = refl
head_grown head kinds.Filter ps = refl
head_grown head (kinds.Pack has_validity) ps = refl
head_grown head kinds.Take ps = refl
head_grown head kinds.Share ps = refl
head_grown head (kinds.ListPack has_validity) ps = refl
head_grown head kinds.RowIdx ps = refl
head_grown head (kinds.SegmentScan segment coding) ps = refl
head_grown head (kinds.Zoned zone_len stats) ps = refl
head_grown head (kinds.LegacyStats zone_len stats) ps = refl
head_grown head (kinds.Pruning zone_len stats proof) ps = refl

pub head_in_table : (nodes : List Node) → IsGoodTable nodes → (n : ℕ) → n < length nodes → plan_head (plan_at nodes n) ≡ head_at n (node_at nodes n)
head_in_table nodes good n lt =
    let k : Known nodes n (node_at nodes n) (node_at nodes n).kind = known nodes good n (node_at nodes n) (node_at nodes n).kind (slice_get-get_or nodes n absent lt) refl in
    ap plan_head k.law ∙ head_grown (head_at n (node_at nodes n)) (node_at nodes n).kind (map (plan_at nodes) (node_at nodes n).children)

-- ---- codings

pub coding_grown : (head : Head) (kind : PlanKind) (ps : List Plan) → plan_coding (plan_grown_as head kind ps) ≡ coding_of kind
coding_grown head kinds.Concat ps = refl
coding_grown head (kinds.Eval a) ps = refl
coding_grown head kinds.Filter ps = refl
coding_grown head (kinds.Pack has_validity) ps = refl
coding_grown head kinds.Take ps = refl
coding_grown head kinds.Share ps = refl
coding_grown head (kinds.ListPack has_validity) ps = refl
coding_grown head kinds.RowIdx ps = refl
coding_grown head (kinds.SegmentScan segment coding) ps = refl
coding_grown head (kinds.Zoned zone_len stats) ps = refl
coding_grown head (kinds.LegacyStats zone_len stats) ps = refl
coding_grown head (kinds.Pruning zone_len stats proof) ps = refl

pub coding_in_table : (nodes : List Node) → IsGoodTable nodes → (n : ℕ) → n < length nodes → plan_coding (plan_at nodes n) ≡ coding_of (node_at nodes n).kind
coding_in_table nodes good n lt =
    let k : Known nodes n (node_at nodes n) (node_at nodes n).kind = known nodes good n (node_at nodes n) (node_at nodes n).kind (slice_get-get_or nodes n absent lt) refl in
    ap plan_coding k.law ∙ coding_grown (head_at n (node_at nodes n)) (node_at nodes n).kind (map (plan_at nodes) (node_at nodes n).children)
