-- Values that were used serve in place of all that were handed in.
use Rattle.std.proofs.Common.{◌≡◌, ℕ, suc, ◌+◌, ◌-◌, ◌<◌, inl, inr, ⊎_elim, Bool, true, false, List, [], ◌∷◌, Option, Some, None, length, map, refl, sym, ap, ◌∙◌, subst, arith}
use Rattle.std.specs.Prelude.{if◌then◌else◌, nat_lt}
use Rattle.std.specs.Bool.{MatchBool}
use Rattle.std.specs.List.{slice_get}
use Rattle.std.proofs.lemmas.Option.{slice_get-get_or}
use Rattle.vx_base.specs.Columns.{ColumnData}
use Rattle.vx_base.specs.Data.{Datum}
use Rattle.vx_rows.specs.Derivations.{Derivation, packed, looked_up, worked_out, read_whole, concluded, Derivations, each_row, Leaves, derived}
use Rattle.vx_rows.specs.Given.{GivenValues, values_with, share_with, with_given, each_with_given}
use Rattle.vx_rows.specs.Heads.{Head}
use Rattle.vx_picking.specs.Rows.{rows_of, AreOf}
use Rattle.vx_plan.specs.declared.nodes.PlanKind.{PlanKind}
use Rattle.vx_plan.specs.declared.nodes.PlanKind.TheVariants as kinds
use Rattle.vx_plan.specs.Nodes.{Node, absent}
use Rattle.vx_plan.specs.Pruning.{is_pruned_at}
use Rattle.vx_plan.specs.Plans.{Plan, no_plan, concat_plan, eval_plan, filter_plan, pack_plan, take_plan, share_plan, list_plan, row_idx_plan, scan_plan, zoned_plan, pruning_plan, Plans, no_plans, plan, PlanValidity, all_valid, valid_as, plan_head, head_at, plan_at, plan_gap, plan_grown_as}
use Rattle.vx_plan.specs.PlanRows.{plan_derivation, plan_derivation_in, plan_derivations, plan_where_valid}
use Rattle.vx_plan.specs.Rules.{node_at}
use Rattle.vx_plan.specs.Tables.{IsGoodTable}
use Rattle.vx_plan.proofs.Unfolding.{Known, known}
use Rattle.vx_steps.specs.declared.jobs.Job.{Job}
use Rattle.vx_steps.specs.declared.wholes.Wholes.{Wholes}
use Rattle.vx_steps.specs.Given.{Handed, given_for, handed_by, row_value, whole_at}
use Rattle.vx_steps.specs.GivenLaws.{AreServed}
use Rattle.vx_steps.specs.Jobs.{KeepsWholes}
use Rattle.vx_steps.specs.KeptData.{Kept}
use Rattle.vx_steps.specs.Kept.{kept_at, values_of, whole_of}
use Rattle.vx_steps.specs.Laws.{row_with}
use Rattle.vx_steps.specs.Visits.{Test, Visits, VisitsIn, VisitsField, VisitsValidity, IsWholeRead}
use Rattle.vx_steps.specs.Wholes.{IsThere, UsesGiven}
use Rattle.vx_steps.proofs.AllRows.{rows_same}
use Rattle.vx_steps.proofs.OutermostTakes.{IsTakeNode, IsTakeOver, take_gap, take_placed, take_whole}
use Rattle.vx_steps.proofs.PlacedVisits.{Implies, IsPlaced, is_placed, visit_mapped}
use Rattle.vx_steps.proofs.Shaping.{given_known}

-- ---- what a row looks up

-- a share of the number, and not inside whole values
abbrev pub IsShareOf : ℕ → Test
IsShareOf n (Some given) (share_plan head child) row = head.number ≡ n
IsShareOf n handed p row = ⊥

-- a take of the number, by its values' plan, or else a share of the number
abbrev Looks : ℕ → Option ℕ → Test
Looks n None = IsShareOf n
Looks n (Some values) = IsTakeOver n values

-- the same is handed in for whatever is looked up so
abbrev SameFor : GivenValues → GivenValues → (ℕ → Option ℕ → Type 0) → Type 0
SameFor f g V = (n : ℕ) (x : Option ℕ) → V n x → f n ≡ g n

by_if : (b : Bool) (f g : GivenValues) (A B : ℕ → Option ℕ → Type 0) (d e : Derivation) → (SameFor f g A → with_given f d ≡ with_given g d) → (SameFor f g B → with_given f e ≡ with_given g e) → SameFor f g (λ n x. MatchBool b (A n x) (B n x)) → with_given f (if b then d else e) ≡ with_given g (if b then d else e)
by_if true f g A B d e first rest agree = first agree
by_if false f g A B d e first rest agree = rest agree

mutual
  same_with : (f g : GivenValues) (offset : ℕ) (p : Plan) (row : ℕ) → SameFor f g (λ n x. Visits (Looks n x) (Some f) p row) → with_given f (plan_derivation offset p row) ≡ with_given g (plan_derivation offset p row)
  same_with f g offset (no_plan head) row agree = refl
  same_with f g offset (concat_plan head children) row agree = same_in f g offset children row (λ n x v. agree n x (inr v))
  same_with f g offset (eval_plan head e child) row agree = ap (worked_out (plan_head child).dtype e) (same_with f g offset child row (λ n x v. agree n x (inr v)))
  same_with f g offset (filter_plan head child) row agree = same_with f g offset child row (λ n x v. agree n x (inr v))
  same_with f g offset (pack_plan head children validity) row agree =
      same_valid f g offset validity row (packed (plan_derivations offset children row)) (ap packed (same_fields f g offset children row (λ n x v. agree n x (inr (inl v))))) (λ n x v. agree n x (inr (inr v)))
  same_with f g offset (take_plan head codes values) row agree =
      let all : Derivations = each_row (plan_derivation offset values) 0 (plan_head values).rows in
      let code : with_given f (plan_derivation offset codes row) ≡ with_given g (plan_derivation offset codes row) = same_with f g offset codes row (λ n x v. agree n x (inr (inl v))) in
      let own : f head.number ≡ g head.number = agree head.number (Some (plan_head values).number) (inl (refl, refl)) in
      ap (λ (d : Derivation). looked_up head.number row d (values_with (f head.number) all)) code ∙ ap (λ (o : Option (List Datum)). looked_up head.number row (with_given g (plan_derivation offset codes row)) (values_with o all)) own
  same_with f g offset (share_plan head child) row agree =
      let whole : Derivation = read_whole head.number row (plan_derivation offset child row) (each_row (plan_derivation offset child) 0 (plan_head child).rows) in
      ap (λ (o : Option (List Datum)). share_with o row whole) (agree head.number None (inl refl))
  same_with f g offset (list_plan head elements offsets validity) row agree = refl
  same_with f g offset (row_idx_plan head) row agree = refl
  same_with f g offset (scan_plan head segment coding) row agree = refl
  same_with f g offset (zoned_plan head zones content table) row agree = same_with f g offset content row (λ n x v. agree n x (inr v))
  same_with f g offset (pruning_plan head pruning table) row agree =
      ap (concluded (is_pruned_at pruning head.rows row))
      (rows_same f g (plan_derivation offset table) 0 (plan_head table).rows (λ other lt. let less : other < (plan_head table).rows = omega arith in same_with f g offset table other (λ n x v. agree n x (inr (other, less, v)))))

  same_in : (f g : GivenValues) (offset : ℕ) (ps : Plans) (row : ℕ) → SameFor f g (λ n x. VisitsIn (Looks n x) (Some f) ps row) → with_given f (plan_derivation_in offset ps row) ≡ with_given g (plan_derivation_in offset ps row)
  same_in f g offset no_plans row agree = refl
  same_in f g offset (plan first rest) row agree =
      by_if (nat_lt row (plan_head first).rows) f g (λ n x. Visits (Looks n x) (Some f) first row) (λ n x. VisitsIn (Looks n x) (Some f) rest (row - (plan_head first).rows))
      (plan_derivation offset first row) (plan_derivation_in offset rest (row - (plan_head first).rows))
      (same_with f g offset first row) (same_in f g offset rest (row - (plan_head first).rows)) agree

  same_fields : (f g : GivenValues) (offset : ℕ) (ps : Plans) (row : ℕ) → SameFor f g (λ n x. VisitsField (Looks n x) (Some f) ps row) → each_with_given f (plan_derivations offset ps row) ≡ each_with_given g (plan_derivations offset ps row)
  same_fields f g offset no_plans row agree = refl
  same_fields f g offset (plan first rest) row agree =
      let one : with_given f (plan_derivation offset first row) ≡ with_given g (plan_derivation offset first row) = same_with f g offset first row (λ n x v. agree n x (inl v)) in
      let more : each_with_given f (plan_derivations offset rest row) ≡ each_with_given g (plan_derivations offset rest row) = same_fields f g offset rest row (λ n x v. agree n x (inr v)) in
      cc

  same_valid : (f g : GivenValues) (offset : ℕ) (validity : PlanValidity) (row : ℕ) (d : Derivation) → with_given f d ≡ with_given g d → SameFor f g (λ n x. VisitsValidity (Looks n x) (Some f) validity row) → with_given f (plan_where_valid offset validity row d) ≡ with_given g (plan_where_valid offset validity row d)
  same_valid f g offset all_valid row d same agree = same
  same_valid f g offset (valid_as validity) row d same agree =
      let valid : with_given f (plan_derivation offset validity row) ≡ with_given g (plan_derivation offset validity row) = same_with f g offset validity row agree in
      cc

-- ---- what a table hands in

pub share_gap : (n : ℕ) (handed : Handed) (row : ℕ) → IsShareOf n handed (plan_gap 0) row → ⊥
share_gap n None row v = v
share_gap n (Some given) row v = v

share_whole : (n : ℕ) → Implies (IsShareOf n) (IsWholeRead n)
share_whole n None p row v = absurd v
share_whole n (Some given) (no_plan head) row v = absurd v
share_whole n (Some given) (concat_plan head children) row v = absurd v
share_whole n (Some given) (eval_plan head e child) row v = absurd v
share_whole n (Some given) (filter_plan head child) row v = absurd v
share_whole n (Some given) (pack_plan head children validity) row v = absurd v
share_whole n (Some given) (take_plan head codes values) row v = absurd v
share_whole n (Some given) (share_plan head child) row v = v
share_whole n (Some given) (list_plan head elements offsets validity) row v = absurd v
share_whole n (Some given) (row_idx_plan head) row v = absurd v
share_whole n (Some given) (scan_plan head segment coding) row v = absurd v
share_whole n (Some given) (zoned_plan head zones content table) row v = absurd v
share_whole n (Some given) (pruning_plan head pruning table) row v = absurd v

pub of_share : (kind : PlanKind) (handed : Handed) (head : Head) (ps : List Plan) (n row : ℕ) → IsShareOf n handed (plan_grown_as head kind ps) row → (head.number ≡ n) × (kind ≡ kinds.Share)
of_share kind None head ps n row v = absurd v
of_share kinds.Concat (Some given) head ps n row v = absurd v
of_share (kinds.Eval a) (Some given) head ps n row v = absurd v
of_share kinds.Filter (Some given) head ps n row v = absurd v
of_share (kinds.Pack has_validity) (Some given) head ps n row v = absurd v
of_share kinds.Take (Some given) head ps n row v = absurd v
of_share kinds.Share (Some given) head ps n row v = (v, refl)
of_share (kinds.ListPack has_validity) (Some given) head ps n row v = absurd v
of_share kinds.RowIdx (Some given) head ps n row v = absurd v
of_share (kinds.SegmentScan segment coding) (Some given) head ps n row v = absurd v
of_share (kinds.Zoned zone_len stats) (Some given) head ps n row v = absurd v
of_share (kinds.LegacyStats zone_len stats) (Some given) head ps n row v = absurd v
of_share (kinds.Pruning zone_len stats proof) (Some given) head ps n row v = absurd v

-- for a share, what is kept for the share
pub share_given : (nodes : List Node) → IsGoodTable nodes → (n : ℕ) → IsPlaced (IsShareOf n) nodes → (kept : List Kept) → given_for nodes kept n ≡ whole_of kept n
share_given nodes good n one kept =
    let m : ℕ = one.number in
    let node : Node = node_at nodes m in
    let k : Known nodes m node node.kind = known nodes good m node node.kind (slice_get-get_or nodes m absent one.there) refl in
    let F : Plan → Type 0 = λ p. IsShareOf n one.handed p one.row in
    let has : (m ≡ n) × (node.kind ≡ kinds.Share) = of_share node.kind one.handed (head_at m node) (map (plan_at nodes) node.children) n one.row (subst F k.law one.is) in
    let same : given_for nodes kept m ≡ whole_of kept m = given_known nodes m kinds.Share node.children one.there has.1 refl kept in
    subst (λ (number : ℕ). given_for nodes kept number ≡ whole_of kept number) has.0 same

-- for a take, what is kept for its values
take_given : (nodes : List Node) (take values : ℕ) → IsTakeNode nodes take values → (kept : List Kept) → given_for nodes kept take ≡ whole_of kept values
take_given nodes take values is kept = given_known nodes take kinds.Take (node_at nodes take).children is.there is.kind refl kept ∙ ap (whole_at kept) is.second

-- ---- the used values are those that were handed in

used_same : (given used : List Kept) → UsesGiven given [] used → (n : ℕ) (column : ColumnData) → kept_at used n ≡ Some column → kept_at given n ≡ Some column
used_same given used uses n column at =
    ⊎_elim (λ (none : None ≡ Some column). absurd cc) (λ (handed : kept_at given n ≡ Some column). handed) (uses.only n column at)

none_used : (given used : List Kept) → UsesGiven given [] used → (n : ℕ) → kept_at given n ≡ None → (column : Option ColumnData) → kept_at used n ≡ column → column ≡ None
none_used given used uses n none None at = refl
none_used given used uses n none (Some column) at =
    let handed : kept_at given n ≡ Some column = used_same given used uses n column at in
    absurd cc

there_same : (given : List Kept) (wholes : Wholes) → UsesGiven given [] wholes.used → (n : ℕ) → IsThere given wholes n → whole_of given n ≡ whole_of wholes.used n
there_same given wholes uses n (inl (handed, (column, at))) = ap values_of (used_same given wholes.used uses n column at ∙ sym at)
there_same given wholes uses n (inr (none, made)) = ap values_of (none ∙ sym (none_used given wholes.used uses n none (kept_at wholes.used n) refl))

-- ---- more of them

still_there : (nodes : List Node) (job : Job) (old new : Wholes) → KeepsWholes nodes job old new → (n : ℕ) → IsThere job.given old n → IsThere job.given new n
still_there nodes job old new keeps n (inl (handed, (column, at))) = inl (handed, (column, keeps.used n column at))
still_there nodes job old new keeps n (inr (none, (column, at))) = inr (none, (column, keeps.made n column at))

pub served_stays : (nodes : List Node) (job : Job) (old new : Wholes) (n start : ℕ) (bits : List Bool) → KeepsWholes nodes job old new → UsesGiven job.given [] new.used → AreServed nodes job.given old n start bits → AreServed nodes job.given new n start bits
served_stays nodes job old new n start bits keeps uses served = record { uses = uses; there = λ m asks. still_there nodes job old new keeps m (served.there m asks) }

-- ---- selected rows

looks_same : (nodes : List Node) → IsGoodTable nodes → (given : List Kept) (wholes : Wholes) (n start : ℕ) (bits : List Bool) → n < length nodes → AreServed nodes given wholes n start bits → (place : ℕ) → slice_get bits place ≡ Some true →
    SameFor (given_for nodes given) (given_for nodes wholes.used) (λ m x. Visits (Looks m x) (Some (given_for nodes given)) (plan_at nodes n) (start + place))
looks_same nodes good given wholes n start bits there served place at m None v =
    let handed : Handed = Some (given_for nodes given) in
    let one : IsPlaced (IsShareOf m) nodes = is_placed (IsShareOf m) (share_gap m) nodes good n there handed (start + place) v in
    let whole : IsThere given wholes m = served.there m (place, at, visit_mapped (IsShareOf m) (IsWholeRead m) (share_whole m) handed (plan_at nodes n) (start + place) v) in
    share_given nodes good m one given ∙ there_same given wholes served.uses m whole ∙ sym (share_given nodes good m one wholes.used)
looks_same nodes good given wholes n start bits there served place at m (Some values) v =
    let handed : Handed = Some (given_for nodes given) in
    let one : IsTakeNode nodes m values = take_placed nodes good m values (is_placed (IsTakeOver m values) (take_gap m values) nodes good n there handed (start + place) v) in
    let whole : IsThere given wholes values = served.there values (place, at, visit_mapped (IsTakeOver m values) (IsWholeRead values) (take_whole m values) handed (plan_at nodes n) (start + place) v) in
    take_given nodes m values one given ∙ there_same given wholes served.uses values whole ∙ sym (take_given nodes m values one wholes.used)

pub used_serve : (nodes : List Node) → IsGoodTable nodes → (given : List Kept) (wholes : Wholes) (offset n start : ℕ) (bits : List Bool) → n < length nodes → AreServed nodes given wholes n start bits →
    (place : ℕ) → slice_get bits place ≡ Some true → row_with (handed_by nodes (Some given)) offset (plan_at nodes n) (start + place) ≡ row_with (handed_by nodes (Some wholes.used)) offset (plan_at nodes n) (start + place)
used_serve nodes good given wholes offset n start bits there served place at =
    same_with (given_for nodes given) (given_for nodes wholes.used) offset (plan_at nodes n) (start + place) (looks_same nodes good given wholes n start bits there served place at)

pub used_values : (nodes : List Node) → IsGoodTable nodes → (given : List Kept) (wholes : Wholes) (leaves : Leaves) (offset n start : ℕ) (bits : List Bool) → n < length nodes → AreServed nodes given wholes n start bits →
    (place : ℕ) → slice_get bits place ≡ Some true → row_value leaves (handed_by nodes (Some given)) offset (plan_at nodes n) (start + place) ≡ row_value leaves (handed_by nodes (Some wholes.used)) offset (plan_at nodes n) (start + place)
used_values nodes good given wholes leaves offset n start bits there served place at = ap (derived leaves) (used_serve nodes good given wholes offset n start bits there served place at)

-- the same at each selected row
pub selected_same : (f g : ℕ → Option Datum) (start : ℕ) (bits : List Bool) → ((place : ℕ) → slice_get bits place ≡ Some true → f (start + place) ≡ g (start + place)) → map f (rows_of start bits) ≡ map g (rows_of start bits)
selected_same f g start [] same = refl
selected_same f g start (true ∷ bits) same =
    let here : start + 0 ≡ start = omega arith in
    let first : f start ≡ g start = subst (λ (row : ℕ). f row ≡ g row) here (same 0 refl) in
    let rest : map f (rows_of (start + 1) bits) ≡ map g (rows_of (start + 1) bits) = selected_same f g (start + 1) bits (λ place at. let next : start + suc place ≡ start + 1 + place = omega arith in subst (λ (row : ℕ). f row ≡ g row) next (same (suc place) at)) in
    cc
selected_same f g start (false ∷ bits) same =
    selected_same f g (start + 1) bits (λ place at. let next : start + suc place ≡ start + 1 + place = omega arith in subst (λ (row : ℕ). f row ≡ g row) next (same (suc place) at))

pub used_columns : (nodes : List Node) → IsGoodTable nodes → (given : List Kept) (wholes : Wholes) (leaves : Leaves) (offset n start : ℕ) (bits : List Bool) (values : List Datum) → n < length nodes → AreServed nodes given wholes n start bits →
    AreOf (row_value leaves (handed_by nodes (Some given)) offset (plan_at nodes n)) (rows_of start bits) values → AreOf (row_value leaves (handed_by nodes (Some wholes.used)) offset (plan_at nodes n)) (rows_of start bits) values
used_columns nodes good given wholes leaves offset n start bits values there served are =
    sym (selected_same (row_value leaves (handed_by nodes (Some given)) offset (plan_at nodes n)) (row_value leaves (handed_by nodes (Some wholes.used)) offset (plan_at nodes n)) start bits (used_values nodes good given wholes leaves offset n start bits there served)) ∙ are
