-- Rows ask for the whole values of each outermost take that they read.
use Rattle.std.proofs.Common.{◌≡◌, ℕ, zero, suc, ◌+◌, ◌-◌, ◌<◌, ◌⊎◌, inl, inr, ⊎_elim, Bool, List, [], ◌∷◌, Option, Some, None, length, map, refl, sym, ap, ◌∙◌, subst, arith}
use Rattle.std.specs.Prelude.{nat_lt}
use Rattle.std.specs.List.{slice_get, All, AllByRecursion}
use Rattle.std.proofs.lemmas.List.Elements.{All-head, All-tail}
use Rattle.std.proofs.lemmas.Option.{slice_get-get_or}
use Rattle.vx_rows.specs.Derivations.{Derivation, packed, Derivations, each_row}
use Rattle.vx_rows.specs.Given.{GivenValues}
use Rattle.vx_rows.specs.Reads.{directly, through, Read, reads_of, reads_of_each, AnyOf, IsCodeOf}
use Rattle.vx_rows.specs.Heads.{Head}
use Rattle.vx_rows.proofs.ReadRows.{any_either, each_lies_through}
use Rattle.vx_picking.specs.Rows.{SomeRow}
use Rattle.vx_plan.specs.declared.nodes.PlanKind.{PlanKind}
use Rattle.vx_plan.specs.declared.nodes.PlanKind.TheVariants as kinds
use Rattle.vx_plan.specs.Nodes.{Node, absent}
use Rattle.vx_plan.specs.Plans.{Plan, no_plan, concat_plan, eval_plan, filter_plan, pack_plan, take_plan, share_plan, list_plan, row_idx_plan, scan_plan, zoned_plan, pruning_plan, Plans, no_plans, plan, PlanValidity, all_valid, valid_as, plan_head, head_at, plan_at, plan_gap, plan_in, plan_grown_as}
use Rattle.vx_plan.specs.PlanRows.{plan_derivation, plan_derivation_in, plan_derivations, plan_where_valid}
use Rattle.vx_plan.specs.Rules.{node_at, nodes_at, IsMadeAs}
use Rattle.vx_plan.specs.Tables.{IsGoodTable}
use Rattle.vx_plan.proofs.Adding.{head_in_table}
use Rattle.vx_plan.proofs.Growing.{below_known}
use Rattle.vx_plan.proofs.Unfolding.{Known, known}
use Rattle.vx_steps.specs.declared.wholes.Wholes.{Wholes}
use Rattle.vx_steps.specs.Below.{HasNoShare, IsSharePlan}
use Rattle.vx_steps.specs.Given.{Handed, given_for}
use Rattle.vx_steps.specs.KeptData.{Kept}
use Rattle.vx_steps.specs.Laws.{ReadsTake, IsValuesOf}
use Rattle.vx_steps.specs.Visits.{Test, Visits, VisitsIn, VisitsField, VisitsValidity, IsWholeRead}
use Rattle.vx_steps.specs.Wholes.{AreThere, IsThere}
use Rattle.vx_steps.proofs.PlacedVisits.{Implies, IsPlaced, is_placed, visit_mapped}
use Rattle.vx_steps.proofs.ReadVisits.{by_match}
use Rattle.vx_steps.proofs.Standing.{visit_stands}

-- ---- what is read directly

abbrev IsDirect : ℕ → Read → Type 0
IsDirect take read = (read.way ≡ directly) × IsCodeOf take read.found

abbrev Reads : ℕ → Derivation → Type 0
Reads take d = AnyOf (IsDirect take) (reads_of directly d)

abbrev LiesBelow : ℕ → Read → Type 0
LiesBelow n read = read.way ≡ through n

none_direct : (take n : ℕ) (reads : List Read) → AllByRecursion (LiesBelow n) reads → AnyOf (IsDirect take) reads → ⊥
none_direct take n [] each any = any
none_direct take n (read ∷ reads) each (inl here) =
    let below : read.way ≡ through n = each.0 in
    let direct : read.way ≡ directly = here.0 in
    cc
none_direct take n (read ∷ reads) each (inr later) = none_direct take n reads each.1 later

-- a take of that number, over values of the other, and not inside whole values
abbrev pub IsTakeOver : ℕ → ℕ → Test
IsTakeOver take values_number (Some handed) (take_plan head codes values) row = (head.number ≡ take) × ((plan_head values).number ≡ values_number)
IsTakeOver take values_number handed p row = ⊥

abbrev IsShareRow : Test
IsShareRow handed p row = IsSharePlan p

-- a take of the number, by its values' plan, or else a share
abbrev TakeOrShare : ℕ → Option ℕ → Test
TakeOrShare take None = IsShareRow
TakeOrShare take (Some values) = IsTakeOver take values

abbrev Asked : ℕ → GivenValues → Plan → ℕ → Type 0
Asked take given p row = (x : Option ℕ) × Visits (TakeOrShare take x) (Some given) p row

abbrev ValidReads : ℕ → ℕ → PlanValidity → ℕ → Type 0
ValidReads take offset all_valid row = ⊥
ValidReads take offset (valid_as validity) row = Reads take (plan_derivation offset validity row)

either_valid : (take offset : ℕ) (validity : PlanValidity) (row : ℕ) (d : Derivation) → Reads take (plan_where_valid offset validity row d) → Reads take d ⊎ ValidReads take offset validity row
either_valid take offset all_valid row d any = inl any
either_valid take offset (valid_as validity) row d any = any_either (IsDirect take) (reads_of directly d) (reads_of directly (plan_derivation offset validity row)) any

-- one of so many rows that reads the take
abbrev RowReads : ℕ → (ℕ → Derivation) → ℕ → Type 0
RowReads take d end = (row : ℕ) × (row < end) × Reads take (d row)

row_first : (take : ℕ) (d : ℕ → Derivation) (from count : ℕ) → Reads take (d from) → RowReads take d (from + suc count)
row_first take d from count here =
    let less : from < from + suc count = omega arith in
    (from, less, here)

row_behind : (take : ℕ) (d : ℕ → Derivation) (from count : ℕ) → RowReads take d (from + 1 + count) → RowReads take d (from + suc count)
row_behind take d from count (row, less, reads) =
    let more : row < from + suc count = omega (arith, less) in
    (row, more, reads)

row_direct : (take : ℕ) (d : ℕ → Derivation) (from count : ℕ) → AnyOf (IsDirect take) (reads_of_each directly (each_row d from count)) → RowReads take d (from + count)
row_direct take d from zero any = absurd any
row_direct take d from (suc count) any =
    ⊎_elim
    (λ (here : Reads take (d from)). row_first take d from count here)
    (λ (later : AnyOf (IsDirect take) (reads_of_each directly (each_row d (from + 1) count))). row_behind take d from count (row_direct take d (from + 1) count later))
    (any_either (IsDirect take) (reads_of directly (d from)) (reads_of_each directly (each_row d (from + 1) count)) any)

mutual
  asked : (take offset : ℕ) (given : GivenValues) (p : Plan) (row : ℕ) → Reads take (plan_derivation offset p row) → (x : Option ℕ) × Visits (TakeOrShare take x) (Some given) p row
  asked take offset given (no_plan head) row any = absurd any
  asked take offset given (concat_plan head children) row any =
      let v = asked_in take offset given children row any in
      (v.0, inr v.1)
  asked take offset given (eval_plan head e child) row any =
      let v = asked take offset given child row any in
      (v.0, inr v.1)
  asked take offset given (filter_plan head child) row any =
      let v = asked take offset given child row any in
      (v.0, inr v.1)
  asked take offset given (pack_plan head children validity) row any =
      ⊎_elim
      (λ (left : Reads take (packed (plan_derivations offset children row))).
      let v : (x : Option ℕ) × VisitsField (TakeOrShare take x) (Some given) children row = asked_field take offset given children row left in
      (v.0, inr (inl v.1)))
      (λ (right : ValidReads take offset validity row).
      let v : (x : Option ℕ) × VisitsValidity (TakeOrShare take x) (Some given) validity row = asked_validity take offset given validity row right in
      (v.0, inr (inr v.1)))
      (either_valid take offset validity row (packed (plan_derivations offset children row)) any)
  asked take offset given (take_plan head codes values) row (inl here) = (Some (plan_head values).number, inl (here.1, refl))
  asked take offset given (take_plan head codes values) row (inr any) =
      let all : Derivations = each_row (plan_derivation offset values) 0 (plan_head values).rows in
      ⊎_elim
      (λ (left : Reads take (plan_derivation offset codes row)).
      let v : (x : Option ℕ) × Visits (TakeOrShare take x) (Some given) codes row = asked take offset given codes row left in
      (v.0, inr (inl v.1)))
      (λ (right : AnyOf (IsDirect take) (reads_of_each (through head.number) all)). absurd (none_direct take head.number (reads_of_each (through head.number) all) (each_lies_through head.number all) right))
      (any_either (IsDirect take) (reads_of directly (plan_derivation offset codes row)) (reads_of_each (through head.number) all) any)
  asked take offset given (share_plan head child) row any = (None, inl tt)
  asked take offset given (list_plan head elements offsets validity) row (inl here) = absurd here.1
  asked take offset given (list_plan head elements offsets validity) row (inr none) = absurd none
  asked take offset given (row_idx_plan head) row any = absurd any
  asked take offset given (scan_plan head segment coding) row (inl here) = absurd here.1
  asked take offset given (scan_plan head segment coding) row (inr none) = absurd none
  asked take offset given (zoned_plan head zones content table) row any =
      let v = asked take offset given content row any in
      (v.0, inr v.1)
  asked take offset given (pruning_plan head pruning table) row any =
      let one : RowReads take (plan_derivation offset table) (0 + (plan_head table).rows) = row_direct take (plan_derivation offset table) 0 (plan_head table).rows any in
      let less : one.0 < (plan_head table).rows = omega (arith, one.1) in
      let v : (x : Option ℕ) × Visits (TakeOrShare take x) (Some given) table one.0 = asked take offset given table one.0 one.2 in
      (v.0, inr (one.0, less, v.1))

  asked_in : (take offset : ℕ) (given : GivenValues) (ps : Plans) (row : ℕ) → Reads take (plan_derivation_in offset ps row) → (x : Option ℕ) × VisitsIn (TakeOrShare take x) (Some given) ps row
  asked_in take offset given no_plans row any = absurd any
  asked_in take offset given (plan first rest) row any =
      by_match (nat_lt row (plan_head first).rows) (Reads take) (plan_derivation offset first row) (plan_derivation_in offset rest (row - (plan_head first).rows))
      (λ x. Visits (TakeOrShare take x) (Some given) first row) (λ x. VisitsIn (TakeOrShare take x) (Some given) rest (row - (plan_head first).rows))
      (λ e here. asked take offset given first row here)
      (λ there. asked_in take offset given rest (row - (plan_head first).rows) there) any

  asked_field : (take offset : ℕ) (given : GivenValues) (ps : Plans) (row : ℕ) → AnyOf (IsDirect take) (reads_of_each directly (plan_derivations offset ps row)) → (x : Option ℕ) × VisitsField (TakeOrShare take x) (Some given) ps row
  asked_field take offset given no_plans row any = absurd any
  asked_field take offset given (plan first rest) row any =
      ⊎_elim
      (λ (left : Reads take (plan_derivation offset first row)).
      let v : (x : Option ℕ) × Visits (TakeOrShare take x) (Some given) first row = asked take offset given first row left in
      (v.0, inl v.1))
      (λ (right : AnyOf (IsDirect take) (reads_of_each directly (plan_derivations offset rest row))).
      let v : (x : Option ℕ) × VisitsField (TakeOrShare take x) (Some given) rest row = asked_field take offset given rest row right in
      (v.0, inr v.1))
      (any_either (IsDirect take) (reads_of directly (plan_derivation offset first row)) (reads_of_each directly (plan_derivations offset rest row)) any)

  asked_validity : (take offset : ℕ) (given : GivenValues) (validity : PlanValidity) (row : ℕ) → ValidReads take offset validity row → (x : Option ℕ) × VisitsValidity (TakeOrShare take x) (Some given) validity row
  asked_validity take offset given all_valid row any = absurd any
  asked_validity take offset given (valid_as validity) row any = asked take offset given validity row any

-- ---- the plans of a table

-- the values' plan is the second child
second_child : (nodes : List Node) → IsGoodTable nodes → (node : Node) (ns : List ℕ) (values : ℕ) → IsMadeAs kinds.Take node (nodes_at nodes ns) → All (λ n. n < length nodes) ns → (plan_head (plan_in (map (plan_at nodes) ns) 1)).number ≡ values → slice_get ns 1 ≡ Some values
second_child nodes good node [] values made these is = absurd made
second_child nodes good node (n ∷ []) values made these is = absurd made
second_child nodes good node (n ∷ m ∷ ns) values made these is =
    let there : m < length nodes = All-head (λ k. k < length nodes) m ns (All-tail (λ k. k < length nodes) n (m ∷ ns) these) in
    ap Some (sym (ap (λ (head : Head). head.number) (head_in_table nodes good m there)) ∙ is)

take_kind : (kind : PlanKind) (nodes : List Node) → IsGoodTable nodes → (handed : Handed) (head : Head) (node : Node) (ns : List ℕ) (take values row : ℕ) → IsMadeAs kind node (nodes_at nodes ns) → All (λ n. n < length nodes) ns → IsTakeOver take values handed (plan_grown_as head kind (map (plan_at nodes) ns)) row →
    (head.number ≡ take) × (kind ≡ kinds.Take) × (slice_get ns 1 ≡ Some values)
take_kind kind nodes good None head node ns take values row made these v = absurd v
take_kind kinds.Concat nodes good (Some given) head node ns take values row made these v = absurd v
take_kind (kinds.Eval a) nodes good (Some given) head node ns take values row made these v = absurd v
take_kind kinds.Filter nodes good (Some given) head node ns take values row made these v = absurd v
take_kind (kinds.Pack has_validity) nodes good (Some given) head node ns take values row made these v = absurd v
take_kind kinds.Take nodes good (Some given) head node ns take values row made these v = (v.0, refl, second_child nodes good node ns values made these v.1)
take_kind kinds.Share nodes good (Some given) head node ns take values row made these v = absurd v
take_kind (kinds.ListPack has_validity) nodes good (Some given) head node ns take values row made these v = absurd v
take_kind kinds.RowIdx nodes good (Some given) head node ns take values row made these v = absurd v
take_kind (kinds.SegmentScan segment coding) nodes good (Some given) head node ns take values row made these v = absurd v
take_kind (kinds.Zoned zone_len stats) nodes good (Some given) head node ns take values row made these v = absurd v
take_kind (kinds.LegacyStats zone_len stats) nodes good (Some given) head node ns take values row made these v = absurd v
take_kind (kinds.Pruning zone_len stats proof) nodes good (Some given) head node ns take values row made these v = absurd v

-- the node of a take
pub record IsTakeNode (nodes : List Node) (take values : ℕ) : Type 0 where
  pub there : take < length nodes
  pub kind : (node_at nodes take).kind ≡ kinds.Take
  pub second : IsValuesOf nodes take values

pub take_placed : (nodes : List Node) → IsGoodTable nodes → (take values : ℕ) → IsPlaced (IsTakeOver take values) nodes → IsTakeNode nodes take values
take_placed nodes good take values one =
    let n : ℕ = one.number in
    let node : Node = node_at nodes n in
    let k : Known nodes n node node.kind = known nodes good n node node.kind (slice_get-get_or nodes n absent one.there) refl in
    let F : Plan → Type 0 = λ p. IsTakeOver take values one.handed p one.row in
    let has : (n ≡ take) × (node.kind ≡ kinds.Take) × (slice_get node.children 1 ≡ Some values) = take_kind node.kind nodes good one.handed (head_at n node) node node.children take values one.row k.good.made (below_known nodes n node.children (omega (arith, one.there)) k.good.below) (subst F k.law one.is) in
    subst (λ (m : ℕ). IsTakeNode nodes m values) has.0 (record { there = one.there; kind = has.1; second = has.2 })

pub take_gap : (take values : ℕ) (handed : Handed) (row : ℕ) → IsTakeOver take values handed (plan_gap 0) row → ⊥
take_gap take values None row v = v
take_gap take values (Some given) row v = v

pub take_whole : (take values : ℕ) → Implies (IsTakeOver take values) (IsWholeRead values)
take_whole take values None p row v = absurd v
take_whole take values (Some given) (no_plan head) row v = absurd v
take_whole take values (Some given) (concat_plan head children) row v = absurd v
take_whole take values (Some given) (eval_plan head e child) row v = absurd v
take_whole take values (Some given) (filter_plan head child) row v = absurd v
take_whole take values (Some given) (pack_plan head children validity) row v = absurd v
take_whole take values (Some given) (take_plan head codes of) row v = v.1
take_whole take values (Some given) (share_plan head child) row v = absurd v
take_whole take values (Some given) (list_plan head elements offsets validity) row v = absurd v
take_whole take values (Some given) (row_idx_plan head) row v = absurd v
take_whole take values (Some given) (scan_plan head segment coding) row v = absurd v
take_whole take values (Some given) (zoned_plan head zones content table) row v = absurd v
take_whole take values (Some given) (pruning_plan head pruning table) row v = absurd v

abbrev AskedValues : List Node → ℕ → GivenValues → Plan → ℕ → Type 0
AskedValues nodes take given p row = (values : ℕ) × IsValuesOf nodes take values × Visits (IsWholeRead values) (Some given) p row

by_table : (nodes : List Node) → IsGoodTable nodes → (given : GivenValues) (n row take : ℕ) → n < length nodes → HasNoShare (plan_at nodes n) → Asked take given (plan_at nodes n) row → AskedValues nodes take given (plan_at nodes n) row
by_table nodes good given n row take there none (None, v) = absurd (none (visit_stands IsShareRow IsSharePlan (λ handed p row s. s) (Some given) (plan_at nodes n) row v))
by_table nodes good given n row take there none (Some values, v) = (
  values,
  (take_placed nodes good take values (is_placed (IsTakeOver take values) (take_gap take values) nodes good n there (Some given) row v)).second,
  visit_mapped (IsTakeOver take values) (IsWholeRead values) (take_whole take values) (Some given) (plan_at nodes n) row v,
)

pub take_asked : (nodes : List Node) → IsGoodTable nodes → (given : GivenValues) (offset n row take : ℕ) → n < length nodes → HasNoShare (plan_at nodes n) → ReadsTake take offset (plan_at nodes n) row → (values : ℕ) × IsValuesOf nodes take values × Visits (IsWholeRead values) (Some given) (plan_at nodes n) row
take_asked nodes good given offset n row take there none any = by_table nodes good given n row take there none (asked take offset given (plan_at nodes n) row any)

pub take_there : (nodes : List Node) → IsGoodTable nodes → (given : List Kept) (wholes : Wholes) (offset n start : ℕ) (bits : List Bool) (take : ℕ) → n < length nodes → HasNoShare (plan_at nodes n) → AreThere nodes given wholes n start bits → SomeRow (ReadsTake take offset (plan_at nodes n)) start bits →
    (values : ℕ) × IsValuesOf nodes take values × IsThere given wholes values
take_there nodes good given wholes offset n start bits take there none are (place, at, any) =
    let one : (values : ℕ) × IsValuesOf nodes take values × Visits (IsWholeRead values) (Some (given_for nodes given)) (plan_at nodes n) (start + place) = take_asked nodes good (given_for nodes given) offset n (start + place) take there none any in
    (one.0, one.1, are one.0 (place, at, one.2))
