-- The whole values through which a row reads: of which plan they are, and that the row asks for them.
use Rattle.std.proofs.Common.{◌≡◌, ℕ, ◌+◌, ◌<◌, inl, List, Option, Some, None, length, map, refl, subst, arith}
use Rattle.std.proofs.lemmas.Option.{slice_get-get_or}
use Rattle.vx_rows.specs.Given.{GivenValues}
use Rattle.vx_rows.specs.Reads.{through}
use Rattle.vx_plan.specs.Nodes.{Node, absent}
use Rattle.vx_plan.specs.Plans.{Plan, no_plan, concat_plan, eval_plan, filter_plan, pack_plan, take_plan, share_plan, list_plan, row_idx_plan, scan_plan, zoned_plan, pruning_plan, plan_head, head_at, plan_at}
use Rattle.vx_plan.specs.declared.nodes.PlanKind.TheVariants as kinds
use Rattle.vx_plan.specs.Refs.{number_of}
use Rattle.vx_plan.specs.Rules.{node_at}
use Rattle.vx_plan.specs.Tables.{IsGoodTable}
use Rattle.vx_plan.proofs.Unfolding.{Known, known}
use Rattle.vx_plan.proofs.Each.{each_at}
use Rattle.vx_steps.specs.declared.leaf_reads.LeafRead.{LeafRead}
use Rattle.vx_steps.specs.Given.{no_given, given_for}
use Rattle.vx_steps.specs.Kept.{whole_of}
use Rattle.vx_steps.specs.KeptData.{Kept}
use Rattle.vx_steps.specs.Rows.{SomeRow}
use Rattle.vx_steps.specs.Visits.{Visits, IsWholeRead}
use Rattle.vx_steps.proofs.FreeVisits.{Becomes, freed}
use Rattle.vx_steps.proofs.OutermostTakes.{IsTakeOver, take_gap, take_placed}
use Rattle.vx_steps.proofs.PlacedVisits.{IsPlaced, is_placed}
use Rattle.vx_steps.proofs.UsedValues.{IsShareOf, share_gap, of_share, share_given}
use Rattle.vx_splits.specs.declared.selected_rows.SelectedRows.{SelectedRows}
use Rattle.vx_drive.specs.declared.plans.ScanPlans.{ScanPlans}
use Rattle.vx_drive.specs.Plans.{projection_plan}
use Rattle.vx_chunks.specs.ChunkRows.{given_to}
use Rattle.vx_chunks.specs.Outcomes.{ChunkAsks}
use Rattle.vx_chunks.specs.Ways.{IsReadThrough, ReadsBy}
use Rattle.vx_chunks.proofs.OutsideReads.{LooksUp, share_asks, take_asks, take_given}
use Rattle.vx_chunks.proofs.Ways.{opened}
use Rattle.vx_chunks.proofs.WholeReads.{Chooses, visit_chosen}

-- ---- whole values are asked for whatever is given

whole_becomes : (n : ℕ) (given free : GivenValues) → Becomes (IsWholeRead n) (IsWholeRead n) (Some given) (Some free)
whole_becomes n given free (no_plan head) row v = absurd v
whole_becomes n given free (concat_plan head children) row v = absurd v
whole_becomes n given free (eval_plan head e child) row v = absurd v
whole_becomes n given free (filter_plan head child) row v = absurd v
whole_becomes n given free (pack_plan head children validity) row v = absurd v
whole_becomes n given free (take_plan head codes values) row v = inl v
whole_becomes n given free (share_plan head child) row v = inl v
whole_becomes n given free (list_plan head elements offsets validity) row v = absurd v
whole_becomes n given free (row_idx_plan head) row v = absurd v
whole_becomes n given free (scan_plan head segment coding) row v = absurd v
whole_becomes n given free (zoned_plan head zones content table) row v = absurd v
whole_becomes n given free (pruning_plan head pruning table) row v = absurd v

pub asks_same : (plans : ScanPlans) (given other : List Kept) (chosen : SelectedRows) (n : ℕ) → ChunkAsks plans given chosen n → ChunkAsks plans other chosen n
asks_same plans given other chosen n (place, at, v) =
    let row : ℕ = chosen.scope.rows.start + place in
    let free : Visits (IsWholeRead n) (Some no_given) (projection_plan plans) row =
    freed (IsWholeRead n) (IsWholeRead n) (given_to plans given) (Some no_given) (λ k. refl) (whole_becomes n (given_for plans.table given) no_given) (λ p at w. absurd w) (projection_plan plans) row v in
    (place, at, opened (IsWholeRead n) (IsWholeRead n) (given_for plans.table other) (whole_becomes n no_given (given_for plans.table other)) (λ p at w. w) (projection_plan plans) row free)

-- ---- the plan of the whole values that stand for a take or a share

-- they are those of that number, whatever is kept
pub record IsWholeFor (nodes : List Node) (take n : ℕ) : Type 0 where
  pub known : n < length nodes
  pub is : (kept : List Kept) → given_for nodes kept take ≡ whole_of kept n

share_known : (nodes : List Node) → IsGoodTable nodes → (n : ℕ) → IsPlaced (IsShareOf n) nodes → n < length nodes
share_known nodes good n one =
    let m : ℕ = one.number in
    let node : Node = node_at nodes m in
    let k : Known nodes m node node.kind = known nodes good m node node.kind (slice_get-get_or nodes m absent one.there) refl in
    let F : Plan → Type 0 = λ p. IsShareOf n one.handed p one.row in
    let has : (m ≡ n) × (node.kind ≡ kinds.Share) = of_share node.kind one.handed (head_at m node) (map (plan_at nodes) node.children) n one.row (subst F k.law one.is) in
    subst (λ (number : ℕ). number < length nodes) has.0 one.there

values_known : (nodes : List Node) → IsGoodTable nodes → (take values : ℕ) → IsPlaced (IsTakeOver take values) nodes → values < length nodes
values_known nodes good take values one =
    let is = take_placed nodes good take values one in
    let node : Node = node_at nodes take in
    let k : Known nodes take node node.kind = known nodes good take node node.kind (slice_get-get_or nodes take absent is.there) refl in
    let below : values < take = each_at (λ (m : ℕ). m < take) node.children 1 values is.second k.good.below in
    let there = is.there in
    omega (arith, below, there)

-- ---- a row that reads through a take or a share asks for its whole values

through_looks : (take : ℕ) (read : LeafRead) → Chooses {X = Option ℕ} (IsReadThrough take read) (LooksUp take)
through_looks take read None p row v = absurd v
through_looks take read (Some given) (no_plan head) row v = absurd v
through_looks take read (Some given) (concat_plan head children) row v = absurd v
through_looks take read (Some given) (eval_plan head e child) row v = absurd v
through_looks take read (Some given) (filter_plan head child) row v = absurd v
through_looks take read (Some given) (pack_plan head children validity) row v = absurd v
through_looks take read (Some given) (take_plan head codes values) row v = (Some (plan_head values).number, (v.0, refl))
through_looks take read (Some given) (share_plan head child) row v = (None, v.0)
through_looks take read (Some given) (list_plan head elements offsets validity) row v = absurd v
through_looks take read (Some given) (row_idx_plan head) row v = absurd v
through_looks take read (Some given) (scan_plan head segment coding) row v = absurd v
through_looks take read (Some given) (zoned_plan head zones content table) row v = absurd v
through_looks take read (Some given) (pruning_plan head pruning table) row v = absurd v

pub record AsksThrough (nodes : List Node) (take : ℕ) (p : Plan) (row : ℕ) : Type 0 where
  pub number : ℕ
  pub whole : IsWholeFor nodes take number
  pub asks : (given : GivenValues) → Visits (IsWholeRead number) (Some given) p row

looked_up_by : (nodes : List Node) → IsGoodTable nodes → (m : ℕ) → m < length nodes → (take : ℕ) (x : Option ℕ) (row : ℕ) → Visits (LooksUp take x) (Some no_given) (plan_at nodes m) row → AsksThrough nodes take (plan_at nodes m) row
looked_up_by nodes good m there take None row v =
    let one : IsPlaced (IsShareOf take) nodes = is_placed (IsShareOf take) (share_gap take) nodes good m there (Some no_given) row v in
    record {
      number = take;
      whole = record { known = share_known nodes good take one; is = share_given nodes good take one };
      asks = λ given. opened (IsShareOf take) (IsWholeRead take) given (share_asks take no_given given) (λ p at w. w) (plan_at nodes m) row v;
    }
looked_up_by nodes good m there take (Some values) row v =
    let one : IsPlaced (IsTakeOver take values) nodes = is_placed (IsTakeOver take values) (take_gap take values) nodes good m there (Some no_given) row v in
    record {
      number = values;
      whole = record { known = values_known nodes good take values one; is = take_given nodes good take values one };
      asks = λ given. opened (IsTakeOver take values) (IsWholeRead values) given (take_asks take values no_given given) (λ p at w. w) (plan_at nodes m) row v;
    }

-- What the selected rows of a chunk that read through the take or the share ask for.
pub record TakesWhole (plans : ScanPlans) (chosen : SelectedRows) (take : ℕ) : Type 0 where
  pub number : ℕ
  pub whole : IsWholeFor plans.table take number
  pub asks : (given : List Kept) → ChunkAsks plans given chosen number

pub takes_whole : (plans : ScanPlans) (chosen : SelectedRows) → IsGoodTable plans.table → number_of plans.projection < length plans.table → (take : ℕ) (read : LeafRead) → SomeRow (ReadsBy (through take) read (projection_plan plans)) chosen.scope.rows.start chosen.mask → TakesWhole plans chosen take
takes_whole plans chosen good there take read (place, at, v) =
    let row : ℕ = chosen.scope.rows.start + place in
    let found : (x : Option ℕ) × Visits (LooksUp take x) (Some no_given) (projection_plan plans) row = visit_chosen (IsReadThrough take read) (LooksUp take) (through_looks take read) (Some no_given) (projection_plan plans) row v in
    let one : AsksThrough plans.table take (projection_plan plans) row = looked_up_by plans.table good (number_of plans.projection) there take found.0 row found.1 in
    record { number = one.number; whole = one.whole; asks = λ given. (place, at, one.asks (given_for plans.table given)) }
