-- Columns that have the rows of their plans are fit to be handed in.
use Rattle.std.proofs.Common.{◌≡◌, ℕ, zero, suc, ◌<◌, Bool, true, false, List, [], ◌∷◌, Option, Some, None, length, map, refl, sym, ap, ◌∙◌, subst, arith}
use Rattle.std.specs.Prelude.{IfSome}
use Rattle.std.specs.List.{slice_get, All}
use Rattle.std.proofs.lemmas.List.Elements.{All-head, All-tail}
use Rattle.std.proofs.lemmas.Option.{slice_get-get_or}
use Rattle.vx_base.specs.Columns.{ColumnData}
use Rattle.vx_base.specs.Data.{Datum}
use Rattle.vx_plan.specs.declared.nodes.PlanKind.{PlanKind}
use Rattle.vx_plan.specs.declared.nodes.PlanKind.TheVariants as kinds
use Rattle.vx_plan.specs.Nodes.{Node, absent}
use Rattle.vx_rows.specs.Heads.{Head}
use Rattle.vx_plan.specs.Plans.{Plan, plan_head, head_at, plan_at, plan_in, plan_grown_as, plans_from, front_plans, last_plan, field_plans, last_validity, no_plan, concat_plan, eval_plan, filter_plan, pack_plan, take_plan, share_plan, list_plan, row_idx_plan, scan_plan, zoned_plan, pruning_plan, Plans, no_plans, plan, PlanValidity, all_valid, valid_as}
use Rattle.vx_plan.specs.Rules.{node_at}
use Rattle.vx_plan.specs.Tables.{IsGoodTable}
use Rattle.vx_plan.proofs.Adding.{head_in_table}
use Rattle.vx_plan.proofs.Growing.{below_known}
use Rattle.vx_plan.proofs.Unfolding.{Known, known}
use Rattle.vx_steps.specs.Given.{Handed, given_as, given_at, given_for, handed_by, values_for, whole_at}
use Rattle.vx_steps.specs.Held.{AreTyped}
use Rattle.vx_steps.specs.KeptData.{Kept}
use Rattle.vx_steps.specs.Kept.{kept_at, values_of}
use Rattle.vx_steps.specs.Laws.{GivenFits, GivenFitsEach, GivenFitsValidity}

-- ---- where nothing is handed in

mutual
  pub none_fits : (p : Plan) → GivenFits None p
  none_fits (no_plan head) = tt
  none_fits (concat_plan head children) = none_fits_each children
  none_fits (eval_plan head e child) = none_fits child
  none_fits (filter_plan head child) = none_fits child
  none_fits (pack_plan head children validity) = (none_fits_each children, none_fits_validity validity)
  none_fits (take_plan head codes values) = (tt, none_fits codes)
  none_fits (share_plan head child) = tt
  none_fits (list_plan head elements offsets validity) = tt
  none_fits (row_idx_plan head) = tt
  none_fits (scan_plan head segment coding) = tt
  none_fits (zoned_plan head zones content table) = none_fits content
  none_fits (pruning_plan head pruning table) = none_fits table

  none_fits_each : (ps : Plans) → GivenFitsEach None ps
  none_fits_each no_plans = tt
  none_fits_each (plan first rest) = (none_fits first, none_fits_each rest)

  none_fits_validity : (validity : PlanValidity) → GivenFitsValidity None validity
  none_fits_validity all_valid = tt
  none_fits_validity (valid_as validity) = none_fits validity

-- ---- the children of a node

abbrev AreFit : List Node → Handed → List ℕ → Type 0
AreFit nodes handed [] = Unit {0}
AreFit nodes handed (n ∷ ns) = GivenFits handed (plan_at nodes n) × AreFit nodes handed ns

one_fits : (nodes : List Node) (handed : Handed) (ns : List ℕ) (place : ℕ) → AreFit nodes handed ns → GivenFits handed (plan_in (map (plan_at nodes) ns) place)
one_fits nodes handed [] place each = tt
one_fits nodes handed (n ∷ ns) zero each = each.0
one_fits nodes handed (n ∷ ns) (suc place) each = one_fits nodes handed ns place each.1

each_fits : (nodes : List Node) (handed : Handed) (ns : List ℕ) → AreFit nodes handed ns → GivenFitsEach handed (plans_from (map (plan_at nodes) ns))
each_fits nodes handed [] each = tt
each_fits nodes handed (n ∷ ns) each = (each.0, each_fits nodes handed ns each.1)

front_fits : (nodes : List Node) (handed : Handed) (ns : List ℕ) → AreFit nodes handed ns → GivenFitsEach handed (plans_from (front_plans (map (plan_at nodes) ns)))
front_fits nodes handed [] each = tt
front_fits nodes handed (n ∷ []) each = tt
front_fits nodes handed (n ∷ m ∷ ns) each = (each.0, front_fits nodes handed (m ∷ ns) each.1)

last_fits : (nodes : List Node) (handed : Handed) (ns : List ℕ) → AreFit nodes handed ns → GivenFits handed (last_plan (map (plan_at nodes) ns))
last_fits nodes handed [] each = tt
last_fits nodes handed (n ∷ []) each = each.0
last_fits nodes handed (n ∷ m ∷ ns) each = last_fits nodes handed (m ∷ ns) each.1

pack_fits : (has_validity : Bool) (nodes : List Node) (handed : Handed) (ns : List ℕ) → AreFit nodes handed ns → GivenFitsEach handed (plans_from (field_plans has_validity (map (plan_at nodes) ns))) × GivenFitsValidity handed (last_validity has_validity (map (plan_at nodes) ns))
pack_fits false nodes handed ns each = (each_fits nodes handed ns each, tt)
pack_fits true nodes handed ns each = (front_fits nodes handed ns each, last_fits nodes handed ns each)

-- what is handed in for a take of that number over these children has the rows of the second
abbrev HasSecondRows : List Node → List ℕ → Option (List Datum) → Type 0
HasSecondRows nodes ns handed = IfSome handed (λ vs. length vs ≡ (plan_head (plan_in (map (plan_at nodes) ns) 1)).rows)

grown_fits : (kind : PlanKind) (nodes : List Node) (handed : Handed) (head : Head) (ns : List ℕ) → (kind ≡ kinds.Take → HasSecondRows nodes ns (values_for handed head.number)) → AreFit nodes handed ns → GivenFits handed (plan_grown_as head kind (map (plan_at nodes) ns))
grown_fits kinds.Concat nodes handed head ns own each = each_fits nodes handed ns each
grown_fits (kinds.Eval a) nodes handed head ns own each = one_fits nodes handed ns 0 each
grown_fits kinds.Filter nodes handed head ns own each = one_fits nodes handed ns 0 each
grown_fits (kinds.Pack has_validity) nodes handed head ns own each = pack_fits has_validity nodes handed ns each
grown_fits kinds.Take nodes handed head ns own each = (own refl, one_fits nodes handed ns 0 each)
grown_fits kinds.Share nodes handed head ns own each = tt
grown_fits (kinds.ListPack has_validity) nodes handed head ns own each = tt
grown_fits kinds.RowIdx nodes handed head ns own each = tt
grown_fits (kinds.SegmentScan segment coding) nodes handed head ns own each = tt
grown_fits (kinds.Zoned zone_len stats) nodes handed head ns own each = one_fits nodes handed ns 0 each
grown_fits (kinds.LegacyStats zone_len stats) nodes handed head ns own each = one_fits nodes handed ns 0 each
grown_fits (kinds.Pruning zone_len stats proof) nodes handed head ns own each = one_fits nodes handed ns 0 each

-- ---- the columns of a table

column_fits : (nodes : List Node) → IsGoodTable nodes → (kept : List Kept) → AreTyped nodes kept → (n : ℕ) → n < length nodes → (column : Option ColumnData) → kept_at kept n ≡ column → IfSome (values_of column) (λ vs. length vs ≡ (plan_head (plan_at nodes n)).rows)
column_fits nodes good kept typed n there None at = tt
column_fits nodes good kept typed n there (Some column) at = (typed n column at).1 ∙ sym (ap (λ (head : Head). head.rows) (head_in_table nodes good n there))

second_fits : (nodes : List Node) → IsGoodTable nodes → (kept : List Kept) → AreTyped nodes kept → (ns : List ℕ) → All (λ n. n < length nodes) ns → HasSecondRows nodes ns (whole_at kept (slice_get ns 1))
second_fits nodes good kept typed [] these = tt
second_fits nodes good kept typed (n ∷ []) these = tt
second_fits nodes good kept typed (n ∷ m ∷ ns) these = column_fits nodes good kept typed m (All-head (λ k. k < length nodes) m ns (All-tail (λ k. k < length nodes) n (m ∷ ns) these)) (kept_at kept m) refl

take_fits : (nodes : List Node) → IsGoodTable nodes → (kept : List Kept) → AreTyped nodes kept → (n : ℕ) → n < length nodes → All (λ m. m < length nodes) (node_at nodes n).children → (node_at nodes n).kind ≡ kinds.Take → HasSecondRows nodes (node_at nodes n).children (given_for nodes kept n)
take_fits nodes good kept typed n there these is =
    let ns : List ℕ = (node_at nodes n).children in
    let same : given_for nodes kept n ≡ whole_at kept (slice_get ns 1) = ap (given_at kept n) (slice_get-get_or nodes n absent there) ∙ ap (λ (kind : PlanKind). given_as kept n kind ns) is in
    subst (HasSecondRows nodes ns) (sym same) (second_fits nodes good kept typed ns these)

all_fit : (nodes : List Node) (handed : Handed) (bound : ℕ) → ((n : ℕ) → n < bound → GivenFits handed (plan_at nodes n)) → (ns : List ℕ) → All (λ n. n < bound) ns → AreFit nodes handed ns
all_fit nodes handed bound each [] below = tt
all_fit nodes handed bound each (n ∷ ns) below = (each n (All-head (λ n. n < bound) n ns below), all_fit nodes handed bound each ns (All-tail (λ n. n < bound) n ns below))

fits_below : (nodes : List Node) → IsGoodTable nodes → (kept : List Kept) → AreTyped nodes kept → (bound n : ℕ) → n < bound → n < length nodes → GivenFits (handed_by nodes (Some kept)) (plan_at nodes n)
fits_below nodes good kept typed zero n lt there = absurd (omega arith)
fits_below nodes good kept typed (suc bound) n lt there =
    let handed : Handed = handed_by nodes (Some kept) in
    let node : Node = node_at nodes n in
    let k : Known nodes n node node.kind = known nodes good n node node.kind (slice_get-get_or nodes n absent there) refl in
    let these : All (λ m. m < length nodes) node.children = below_known nodes n node.children (omega arith) k.good.below in
    let each : AreFit nodes handed node.children = all_fit nodes handed n (λ m less. fits_below nodes good kept typed bound m (omega arith) (omega arith)) node.children k.good.below in
    subst (GivenFits handed) (sym k.law) (grown_fits node.kind nodes handed (head_at n node) node.children (take_fits nodes good kept typed n there these) each)

pub typed_fit : (nodes : List Node) → IsGoodTable nodes → (kept : List Kept) → AreTyped nodes kept → (n : ℕ) → n < length nodes → GivenFits (handed_by nodes (Some kept)) (plan_at nodes n)
typed_fit nodes good kept typed n there = fits_below nodes good kept typed (suc n) n (omega arith) there
