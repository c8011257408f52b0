-- The whole values that rows of a table's plan ask for are those of plans of the table.
use Rattle.std.proofs.Common.{◌≡◌, ℕ, ◌+◌, ◌<◌, Bool, List, [], ◌∷◌, None, Some, length, get_or, map, refl, sym, ap, ◌∙◌, subst, arith}
use Rattle.std.specs.List.{All}
use Rattle.std.proofs.lemmas.List.Elements.{All-head, All-tail}
use Rattle.std.proofs.lemmas.Option.{slice_get-get_or}
use Rattle.vx_plan.specs.declared.nodes.PlanKind.{PlanKind}
use Rattle.vx_plan.specs.declared.nodes.PlanKind.TheVariants as kinds
use Rattle.vx_plan.specs.Nodes.{Node, absent}
use Rattle.vx_plan.specs.Plans.{Plan, plan_head, head_at, plan_at, plan_gap, plan_grown_as}
use Rattle.vx_plan.specs.Rules.{node_at, nodes_at, IsMadeAs}
use Rattle.vx_plan.specs.Tables.{AreIn, IsGoodTable}
use Rattle.vx_plan.proofs.Adding.{head_in_table}
use Rattle.vx_plan.proofs.Growing.{below_known}
use Rattle.vx_plan.proofs.Unfolding.{Known, known}
use Rattle.vx_rows.specs.Reads.{IsAmong}
use Rattle.vx_rows.specs.Heads.{Head}
use Rattle.vx_steps.specs.Asked.{AreAskedPlans}
use Rattle.vx_steps.specs.Given.{Handed, handed_by}
use Rattle.vx_steps.specs.Visits.{IsWholeRead}
use Rattle.vx_steps.specs.Wholes.{Asks}
use Rattle.vx_steps.proofs.EachOnce.{among_is, at_among}
use Rattle.vx_steps.proofs.PlacedVisits.{is_placed, IsPlaced}

pub head_number : (nodes : List Node) → IsGoodTable nodes → (n : ℕ) → n < length nodes → (plan_head (plan_at nodes n)).number ≡ n
head_number nodes good n there = ap (λ (head : Head). head.number) (head_in_table nodes good n there)

pub asked_gap : (number : ℕ) (handed : Handed) (row : ℕ) → IsWholeRead number handed (plan_gap 0) row → ⊥
asked_gap number None row v = v
asked_gap number (Some given) row v = v

asked_kind : (kind : PlanKind) (nodes : List Node) → IsGoodTable nodes → (handed : Handed) (head : Head) (node : Node) (ns : List ℕ) (number row : ℕ) → head.number < length nodes → IsMadeAs kind node (nodes_at nodes ns) → All (λ n. n < length nodes) ns →
    IsWholeRead number handed (plan_grown_as head kind (map (plan_at nodes) ns)) row → number < length nodes
asked_kind kind nodes good None head node ns number row there made these v = absurd v
asked_kind kinds.Concat nodes good (Some given) head node ns number row there made these v = absurd v
asked_kind (kinds.Eval a) nodes good (Some given) head node ns number row there made these v = absurd v
asked_kind kinds.Filter nodes good (Some given) head node ns number row there made these v = absurd v
asked_kind (kinds.Pack has_validity) nodes good (Some given) head node ns number row there made these v = absurd v
asked_kind kinds.Take nodes good (Some given) head node [] number row there made these v = absurd made
asked_kind kinds.Take nodes good (Some given) head node (n ∷ []) number row there made these v = absurd made
asked_kind kinds.Take nodes good (Some given) head node (n ∷ m ∷ ns) number row there made these v =
    let known_m : m < length nodes = All-head (λ k. k < length nodes) m ns (All-tail (λ k. k < length nodes) n (m ∷ ns) these) in
    let same : m ≡ number = sym (head_number nodes good m known_m) ∙ v in
    subst (λ (k : ℕ). k < length nodes) same known_m
asked_kind kinds.Share nodes good (Some given) head node ns number row there made these v = subst (λ (k : ℕ). k < length nodes) v there
asked_kind (kinds.ListPack has_validity) nodes good (Some given) head node ns number row there made these v = absurd v
asked_kind kinds.RowIdx nodes good (Some given) head node ns number row there made these v = absurd v
asked_kind (kinds.SegmentScan segment coding) nodes good (Some given) head node ns number row there made these v = absurd v
asked_kind (kinds.Zoned zone_len stats) nodes good (Some given) head node ns number row there made these v = absurd v
asked_kind (kinds.LegacyStats zone_len stats) nodes good (Some given) head node ns number row there made these v = absurd v
asked_kind (kinds.Pruning zone_len stats proof) nodes good (Some given) head node ns number row there made these v = absurd v

-- the plan of that number is in the table
asked_known : (nodes : List Node) → IsGoodTable nodes → (n start : ℕ) (bits : List Bool) (number : ℕ) → n < length nodes → Asks nodes [] n start bits number → number < length nodes
asked_known nodes good n start bits number there (place, at, v) =
    let one : IsPlaced (IsWholeRead number) nodes = is_placed (IsWholeRead number) (asked_gap number) nodes good n there (handed_by nodes (Some [])) (start + place) v in
    let m : ℕ = one.number in
    let node : Node = node_at nodes m in
    let k : Known nodes m node node.kind = known nodes good m node node.kind (slice_get-get_or nodes m absent one.there) refl in
    let F : Plan → Type 0 = λ p. IsWholeRead number one.handed p one.row in
    asked_kind node.kind nodes good one.handed (head_at m node) node node.children number one.row one.there k.good.made (below_known nodes m node.children (omega (arith, one.there)) k.good.below) (subst F k.law one.is)

-- and so are all that are listed
pub are_known : (nodes : List Node) → IsGoodTable nodes → (n start : ℕ) (bits : List Bool) (listed : List ℕ) → n < length nodes → AreAskedPlans nodes n start bits listed → AreIn nodes listed
are_known nodes good n start bits listed there are i d less =
    let here : IsAmong (get_or listed i d) listed = among_is (get_or listed i d) listed (at_among listed i d less) in
    asked_known nodes good n start bits (get_or listed i d) there ((are (get_or listed i d)).0 here)
