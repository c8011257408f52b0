-- What whole values have of visits and causes, the selected rows have that ask for them.
use Rattle.std.proofs.Common.{◌≡◌, ℕ, ◌+◌, ◌<◌, ◌≤◌, inl, inr, Bool, true, List, [], ◌∷◌, None, Some, length, map, refl, sym, ap, ◌∙◌, subst, arith}
use Rattle.std.specs.List.{All}
use Rattle.std.proofs.lemmas.List.Elements.{All-head, All-tail}
use Rattle.std.proofs.lemmas.Option.{slice_get-get_or, slice_get_within}
use Rattle.vx_rows.specs.Derivations.{Leaves}
use Rattle.vx_rows.specs.Given.{GivenValues}
use Rattle.vx_rows.specs.Heads.{Head}
use Rattle.vx_plan.specs.declared.nodes.PlanKind.{PlanKind}
use Rattle.vx_plan.specs.declared.nodes.PlanKind.TheVariants as kinds
use Rattle.vx_plan.specs.declared.shapes.Shape.TheVariants as shapes
use Rattle.vx_plan.specs.Nodes.{Node, absent}
use Rattle.vx_plan.specs.Plans.{Plan, no_plan, concat_plan, eval_plan, filter_plan, pack_plan, take_plan, share_plan, list_plan, row_idx_plan, scan_plan, zoned_plan, pruning_plan, plan_head, head_at, plan_at, plan_grown_as}
use Rattle.vx_plan.specs.Refs.{number_of}
use Rattle.vx_plan.specs.Rules.{node_at, nodes_at, IsMadeAs}
use Rattle.vx_plan.specs.Tables.{IsGoodTable}
use Rattle.vx_plan.proofs.Growing.{below_known}
use Rattle.vx_plan.proofs.Unfolding.{Known, known}
use Rattle.vx_plan.proofs.Collecting.{head_rows}
use Rattle.vx_steps.specs.declared.errors.StepError.{StepError}
use Rattle.vx_steps.specs.declared.errors.StepError.TheVariants.{Unsupported, BadSegment, BadCode, EvalFault, Memory}
use Rattle.vx_steps.specs.declared.leaf_reads.LeafRead.{LeafRead}
use Rattle.vx_steps.specs.Computed.{HasCause}
use Rattle.vx_steps.specs.Given.{given_for, handed_by}
use Rattle.vx_steps.specs.Laws.{HandsNone}
use Rattle.vx_steps.specs.Visits.{Test, Visits, SomeVisit, SomeWholeVisit, IsLeafRead, IsListRead, IsWholeRead, HasBadCode, HasEvalFault}
use Rattle.vx_steps.specs.Wholes.{Asks, IsWholeOf}
use Rattle.vx_steps.proofs.AskedKnown.{asked_gap, head_number}
use Rattle.vx_steps.proofs.FreeVisits.{code_becomes, fault_becomes, free_same, freed, hands_none, leaf_becomes, list_becomes, none_same, Becomes}
use Rattle.vx_steps.proofs.PlacedVisits.{visit_placed, InTable}
use Rattle.vx_steps.proofs.ReadVisits.{no_columns}
use Rattle.vx_steps.proofs.Shaping.{share_plan_at}
use Rattle.vx_steps.proofs.WholeMaking.{shape_known}

-- ---- the plans of a table

-- the plan is that of a number of the table
pub record IsPlanOf (nodes : List Node) (p : Plan) : Type 0 where
  pub number : ℕ
  pub there : number < length nodes
  pub is : p ≡ plan_at nodes number

-- the values of a take of the table are a plan of the table
pub second_plan : (kind : PlanKind) (nodes : List Node) (node : Node) (other : Head) (ns : List ℕ) (head : Head) (codes values : Plan) → IsMadeAs kind node (nodes_at nodes ns) → All (λ n. n < length nodes) ns → take_plan head codes values ≡ plan_grown_as other kind (map (plan_at nodes) ns) → IsPlanOf nodes values
second_plan kinds.Concat nodes node other ns head codes values made these is = absurd cc
second_plan (kinds.Eval a) nodes node other ns head codes values made these is = absurd cc
second_plan kinds.Filter nodes node other ns head codes values made these is = absurd cc
second_plan (kinds.Pack has_validity) nodes node other ns head codes values made these is = absurd cc
second_plan kinds.Take nodes node other [] head codes values made these is = absurd made
second_plan kinds.Take nodes node other (n ∷ []) head codes values made these is = absurd made
second_plan kinds.Take nodes node other (n ∷ m ∷ ns) head codes values made these is =
    let same : values ≡ plan_at nodes m = cc in
    record { number = m; there = All-head (λ k. k < length nodes) m ns (All-tail (λ k. k < length nodes) n (m ∷ ns) these); is = same }
second_plan kinds.Share nodes node other ns head codes values made these is = absurd cc
second_plan (kinds.ListPack has_validity) nodes node other ns head codes values made these is = absurd cc
second_plan kinds.RowIdx nodes node other ns head codes values made these is = absurd cc
second_plan (kinds.SegmentScan segment coding) nodes node other ns head codes values made these is = absurd cc
second_plan (kinds.Zoned zone_len stats) nodes node other ns head codes values made these is = absurd cc
second_plan (kinds.LegacyStats zone_len stats) nodes node other ns head codes values made these is = absurd cc
second_plan (kinds.Pruning zone_len stats proof) nodes node other ns head codes values made these is = absurd cc

-- and that of their own number
values_plan : (nodes : List Node) → IsGoodTable nodes → (m : ℕ) → m < length nodes → (head : Head) (codes values : Plan) → take_plan head codes values ≡ plan_at nodes m → (number : ℕ) → (plan_head values).number ≡ number → (number < length nodes) × (values ≡ plan_at nodes number)
values_plan nodes good m there head codes values is number named =
    let node : Node = node_at nodes m in
    let k : Known nodes m node node.kind = known nodes good m node node.kind (slice_get-get_or nodes m absent there) refl in
    let one : IsPlanOf nodes values = second_plan node.kind nodes node (head_at m node) node.children head codes values k.good.made (below_known nodes m node.children (omega (arith, there)) k.good.below) (is ∙ k.law) in
    let same : one.number ≡ number = sym (head_number nodes good one.number one.there) ∙ sym (ap (λ (p : Plan). (plan_head p).number) one.is) ∙ named in
    let F : ℕ → Type 0 = λ k. (k < length nodes) × (values ≡ plan_at nodes k) in
    subst F same (one.there, one.is)

-- a plan of the table that has a number is that number's
pub own_plan : (nodes : List Node) → IsGoodTable nodes → (m : ℕ) → m < length nodes → (p : Plan) → p ≡ plan_at nodes m → (number : ℕ) → (plan_head p).number ≡ number → p ≡ plan_at nodes number
own_plan nodes good m there p is number named =
    let same : m ≡ number = sym (head_number nodes good m there) ∙ sym (ap (λ (q : Plan). (plan_head q).number) is) ∙ named in
    is ∙ ap (plan_at nodes) same

-- ---- whole values by their number

-- the test sees no share
abbrev PassesShares : Test → Type 0
PassesShares P = (head : Head) (child : Plan) (row : ℕ) → P None (share_plan head child) row → ⊥

-- a row of the plan is visited by a row of the plan of the number
number_visit : (nodes : List Node) → IsGoodTable nodes → (P : Test) (number whole : ℕ) → IsWholeOf nodes number whole → (other : ℕ) → other < (node_at nodes whole).rows → Visits P None (plan_at nodes whole) other → SomeWholeVisit P (plan_at nodes number) (node_at nodes number).rows
number_visit nodes good P number whole (inl same) other less v =
    let F : ℕ → Type 0 = λ k. SomeWholeVisit P (plan_at nodes k) (node_at nodes k).rows in
    subst F (sym same) (other, less, v)
number_visit nodes good P number whole (inr has) other less v =
    let over = share_plan_at nodes good number whole (shape_known nodes number (shapes.Shared whole) has) has in
    let rows : (node_at nodes number).rows ≡ (node_at nodes whole).rows = over.like.rows in
    let head_is : (plan_head (plan_at nodes whole)).rows ≡ (node_at nodes whole).rows = ap (λ (head : Head). head.rows) over.child_head in
    let inside : other < (node_at nodes number).rows = omega (arith, rows, less) in
    let within : other < (plan_head (plan_at nodes whole)).rows = omega (arith, head_is, less) in
    let F : Plan → Type 0 = λ p. Visits P None p other in
    (other, inside, subst F (sym over.law) (inr (refl, (other, within, v))))

-- a share of the number visits what the plan of the number does
share_visit : (P : Test) → PassesShares P → (f : GivenValues) → HandsNone (Some f) → (head : Head) (child : Plan) (row other : ℕ) → Visits P None (share_plan head child) other → Visits P (Some f) (share_plan head child) row
share_visit P passes f none head child row other (inl own) = absurd (passes head child other own)
share_visit P passes f none head child row other (inr (closed, inside)) = inr (none head.number, inside)

abbrev AsksInTable : List Node → ℕ → Test
AsksInTable nodes number = InTable nodes (IsWholeRead number)

asked_inside : (nodes : List Node) (number : ℕ) (P : Test) → Becomes (AsksInTable nodes number) P None None
asked_inside nodes number P p row v = absurd v.0

-- where the plan's row asks for the whole values of the number, it visits what a row of these does
asked_becomes : (nodes : List Node) → IsGoodTable nodes → (P : Test) → PassesShares P → (number : ℕ) → SomeWholeVisit P (plan_at nodes number) (node_at nodes number).rows → (f : GivenValues) → HandsNone (Some f) → Becomes (AsksInTable nodes number) P (Some f) (Some f)
asked_becomes nodes good P passes number w f none (no_plan head) row v = absurd v.0
asked_becomes nodes good P passes number w f none (concat_plan head children) row v = absurd v.0
asked_becomes nodes good P passes number w f none (eval_plan head e child) row v = absurd v.0
asked_becomes nodes good P passes number w f none (filter_plan head child) row v = absurd v.0
asked_becomes nodes good P passes number w f none (pack_plan head children validity) row v = absurd v.0
asked_becomes nodes good P passes number w f none (take_plan head codes values) row v =
    let one : (number < length nodes) × (values ≡ plan_at nodes number) = values_plan nodes good v.1.0 v.1.1 head codes values v.1.2 number v.0 in
    let rows : (plan_head (plan_at nodes number)).rows ≡ (node_at nodes number).rows = head_rows nodes good number one.0 in
    let less : w.0 < (plan_head (plan_at nodes number)).rows = omega (arith, rows, w.1) in
    let F : Plan → Type 0 = λ q. (other : ℕ) × (other < (plan_head q).rows) × Visits P None q other in
    inr (inr (none head.number, subst F (sym one.1) (w.0, less, w.2)))
asked_becomes nodes good P passes number w f none (share_plan head child) row v =
    let same : share_plan head child ≡ plan_at nodes number = own_plan nodes good v.1.0 v.1.1 (share_plan head child) v.1.2 number v.0 in
    let F : Plan → Type 0 = λ q. Visits P None q w.0 in
    share_visit P passes f none head child row w.0 (subst F (sym same) w.2)
asked_becomes nodes good P passes number w f none (list_plan head elements offsets validity) row v = absurd v.0
asked_becomes nodes good P passes number w f none (row_idx_plan head) row v = absurd v.0
asked_becomes nodes good P passes number w f none (scan_plan head segment coding) row v = absurd v.0
asked_becomes nodes good P passes number w f none (zoned_plan head zones content table) row v = absurd v.0
asked_becomes nodes good P passes number w f none (pruning_plan head pruning table) row v = absurd v.0

-- ---- selected rows

-- with no columns, and inside whole values, the test sees the same
record SeesAlike (nodes : List Node) (P : Test) : Type 0 where
  deeper : Becomes P P (handed_by nodes (Some [])) None
  deep : Becomes P P None None
  passes : PassesShares P

selected_whole : (nodes : List Node) → IsGoodTable nodes → (P : Test) → SeesAlike nodes P → (n start : ℕ) (bits : List Bool) (number whole from : ℕ) (rows : List Bool) → n < length nodes → Asks nodes [] n start bits number → IsWholeOf nodes number whole → from + length rows ≤ (node_at nodes whole).rows →
    SomeVisit P (handed_by nodes (Some [])) (plan_at nodes whole) from rows → SomeVisit P (handed_by nodes (Some [])) (plan_at nodes n) start bits
selected_whole nodes good P sees n start bits number whole from rows there (place, at, asks) of inside (other, chosen, v) =
    let f : GivenValues = given_for nodes [] in
    let none : HandsNone (Some (given_for nodes [])) = no_columns nodes in
    let less : from + other < (node_at nodes whole).rows = omega (arith, inside, slice_get_within rows other true chosen) in
    let deep : Visits P None (plan_at nodes whole) (from + other) = freed P P (handed_by nodes (Some [])) None hands_none sees.deeper sees.deep (plan_at nodes whole) (from + other) v in
    let w : SomeWholeVisit P (plan_at nodes number) (node_at nodes number).rows = number_visit nodes good P number whole of (from + other) less deep in (
      place,
      at,
      freed (AsksInTable nodes number) P (Some f) (Some f) none (asked_becomes nodes good P sees.passes number w f none) (asked_inside nodes number P) (plan_at nodes n) (start + place)
          (visit_placed (IsWholeRead number) (asked_gap number) nodes good n there (Some f) (start + place) asks),
    )

pub whole_leaf : (nodes : List Node) → IsGoodTable nodes → (n start : ℕ) (bits : List Bool) (number whole from : ℕ) (rows : List Bool) (read : LeafRead) → n < length nodes → Asks nodes [] n start bits number → IsWholeOf nodes number whole → from + length rows ≤ (node_at nodes whole).rows →
    SomeVisit (IsLeafRead read) (handed_by nodes (Some [])) (plan_at nodes whole) from rows → SomeVisit (IsLeafRead read) (handed_by nodes (Some [])) (plan_at nodes n) start bits
whole_leaf nodes good n start bits number whole from rows read there asks of inside v =
    selected_whole nodes good (IsLeafRead read) (record { deeper = leaf_becomes read (handed_by nodes (Some [])) None; deep = leaf_becomes read None None; passes = λ head child row none. none }) n start bits number whole from rows there asks of inside v

pub whole_cause : (nodes : List Node) → IsGoodTable nodes → (leaves : Leaves) (offset n start : ℕ) (bits : List Bool) (number whole from : ℕ) (rows : List Bool) (error : StepError) → n < length nodes → Asks nodes [] n start bits number → IsWholeOf nodes number whole → from + length rows ≤ (node_at nodes whole).rows →
    HasCause leaves (handed_by nodes (Some [])) offset (plan_at nodes whole) from rows error → HasCause leaves (handed_by nodes (Some [])) offset (plan_at nodes n) start bits error
whole_cause nodes good leaves offset n start bits number whole from rows (Unsupported list) there asks of inside h =
    selected_whole nodes good (IsListRead (number_of list)) (record { deeper = list_becomes (number_of list) (handed_by nodes (Some [])) None; deep = list_becomes (number_of list) None None; passes = λ head child row none. none }) n start bits number whole from rows there asks of inside h
whole_cause nodes good leaves offset n start bits number whole from rows (BadSegment segment) there asks of inside h = h
whole_cause nodes good leaves offset n start bits number whole from rows (BadCode take at) there asks of inside h =
    let same = free_same leaves offset (handed_by nodes (Some [])) None (no_columns nodes) hands_none in
    selected_whole nodes good (HasBadCode leaves offset (number_of take) at) (record { deeper = code_becomes leaves offset (number_of take) at (handed_by nodes (Some [])) None same; deep = code_becomes leaves offset (number_of take) at None None (none_same leaves offset); passes = λ head child row none. none }) n start bits number whole from rows there asks of inside h
whole_cause nodes good leaves offset n start bits number whole from rows (EvalFault at) there asks of inside h =
    let same = free_same leaves offset (handed_by nodes (Some [])) None (no_columns nodes) hands_none in
    selected_whole nodes good (HasEvalFault leaves offset at) (record { deeper = fault_becomes leaves offset at (handed_by nodes (Some [])) None same; deep = fault_becomes leaves offset at None None (none_same leaves offset); passes = λ head child row none. none }) n start bits number whole from rows there asks of inside h
whole_cause nodes good leaves offset n start bits number whole from rows Memory there asks of inside h = tt
