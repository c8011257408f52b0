-- What a row visits with some whole values handed in, carried over to others.
use Rattle.std.proofs.Common.{◌≡◌, ℕ, zero, suc, ◌+◌, ◌-◌, ◌<◌, inl, inr, Bool, true, false, List, Option, None, Some, ap, subst, arith}
use Rattle.std.specs.Prelude.{if◌then◌else◌, nat_lt}
use Rattle.std.specs.Bool.{MatchBool}
use Rattle.vx_base.specs.Data.{DataType, Datum}
use Rattle.vx_expr.specs.Terms.{Term}
use Rattle.vx_rows.specs.Derivations.{Derivation, packed, valid_where, looked_up, worked_out, concluded, Derivations, no_more, also, each_row, Leaves, derived}
use Rattle.vx_rows.specs.Given.{GivenValues, values_with, with_given, each_with_given}
use Rattle.vx_plan.specs.Plans.{Plan, no_plan, concat_plan, eval_plan, filter_plan, pack_plan, take_plan, share_plan, list_plan, row_idx_plan, scan_plan, zoned_plan, pruning_plan, Plans, no_plans, plan, PlanValidity, all_valid, valid_as, plan_head}
use Rattle.vx_plan.specs.PlanRows.{plan_derivation, plan_derivation_in, plan_derivations, plan_where_valid}
use Rattle.vx_plan.specs.Pruning.{is_pruned_at}
use Rattle.vx_steps.specs.Visits.{Test, Visits, VisitsIn, VisitsField, VisitsValidity, HasEvalFault}
use Rattle.vx_steps.proofs.FreeVisits.{Becomes, IsFaultAt, freed, hands_none}

-- ---- what is equal inside equal rows

worked_in : (t : DataType) (e : Term) (one other : Derivation) → worked_out t e one ≡ worked_out t e other → one ≡ other
worked_in t e one other same = cc

packed_in : (ones others : Derivations) → packed ones ≡ packed others → ones ≡ others
packed_in ones others same = cc

where_in : (one other valid also_valid : Derivation) → valid_where one valid ≡ valid_where other also_valid → one ≡ other
where_in one other valid also_valid same = cc

valid_in : (one other valid also_valid : Derivation) → valid_where one valid ≡ valid_where other also_valid → valid ≡ also_valid
valid_in one other valid also_valid same = cc

code_in : (n row : ℕ) (one other : Derivation) (values more : Derivations) → looked_up n row one values ≡ looked_up n row other more → one ≡ other
code_in n row one other values more same = cc

first_in : (one other : Derivation) (ones others : Derivations) → also one ones ≡ also other others → one ≡ other
first_in one other ones others same = cc

rest_in : (one other : Derivation) (ones others : Derivations) → also one ones ≡ also other others → ones ≡ others
rest_in one other ones others same = cc

abbrev below : Derivation → Derivations
below (concluded rule ds) = ds
below d = no_more

concluded_in : (rule : List Datum → Option Datum) (ones others : Derivations) → concluded rule ones ≡ concluded rule others → ones ≡ others
concluded_in rule ones others same = ap below same

-- ---- visits

-- Where no values are handed in, none are with the others; and where rows are derived alike, if they need be, what the
-- first test sees the second sees with the others. Inside whole values, what the first sees the second visits.
module _ (offset : ℕ) (f g : GivenValues) (P Q : Test) (A : Type 0) (lacks : (n : ℕ) → f n ≡ None → g n ≡ None)
    (own : (p : Plan) (row : ℕ) → (A → with_given f (plan_derivation offset p row) ≡ with_given g (plan_derivation offset p row)) → P (Some f) p row → Q (Some g) p row)
    (deep : Becomes P Q None None) where
  -- the row is derived alike, if it need be
  abbrev IsAlike : Derivation → Type 0
  IsAlike d = A → with_given f d ≡ with_given g d

  rows_in : (d : ℕ → Derivation) (from count row : ℕ) → row < count → each_with_given f (each_row d from count) ≡ each_with_given g (each_row d from count) → with_given f (d (from + row)) ≡ with_given g (d (from + row))
  rows_in d from zero row less same = absurd (omega (arith, less))
  rows_in d from (suc count) zero less same =
      let here : from ≡ from + 0 = omega arith in
      subst (λ (r : ℕ). with_given f (d r) ≡ with_given g (d r)) here (first_in (with_given f (d from)) (with_given g (d from)) (each_with_given f (each_row d (from + 1) count)) (each_with_given g (each_row d (from + 1) count)) same)
  rows_in d from (suc count) (suc row) less same =
      let next : from + 1 + row ≡ from + suc row = omega arith in
      subst (λ (r : ℕ). with_given f (d r) ≡ with_given g (d r)) next (rows_in d (from + 1) count row (omega (arith, less)) (rest_in (with_given f (d from)) (with_given g (d from)) (each_with_given f (each_row d (from + 1) count)) (each_with_given g (each_row d (from + 1) count)) same))

  row_in : (d : ℕ → Derivation) (count row : ℕ) → row < count → each_with_given f (each_row d 0 count) ≡ each_with_given g (each_row d 0 count) → with_given f (d row) ≡ with_given g (d row)
  row_in d count row less same =
      let here : 0 + row ≡ row = omega arith in
      subst (λ (r : ℕ). with_given f (d r) ≡ with_given g (d r)) here (rows_in d 0 count row less same)

  match_alike : (b : Bool) (d e : Derivation) (V W X Y : Type 0) → (IsAlike d → V → X) → (IsAlike e → W → Y) → IsAlike (if b then d else e) → MatchBool b V W → MatchBool b X Y
  match_alike true d e V W X Y one other alike v = one alike v
  match_alike false d e V W X Y one other alike v = other alike v

  valid_alike : (validity : PlanValidity) (row : ℕ) (d : Derivation) → IsAlike (plan_where_valid offset validity row d) → IsAlike d
  valid_alike all_valid row d alike = alike
  valid_alike (valid_as validity) row d alike = λ a. where_in (with_given f d) (with_given g d) (with_given f (plan_derivation offset validity row)) (with_given g (plan_derivation offset validity row)) (alike a)

  mutual
    pub carried : (p : Plan) (row : ℕ) → IsAlike (plan_derivation offset p row) → Visits P (Some f) p row → Visits Q (Some g) p row
    carried (no_plan head) row alike v = own (no_plan head) row alike v
    carried (concat_plan head children) row alike (inl v) = inl (own (concat_plan head children) row alike v)
    carried (concat_plan head children) row alike (inr v) = inr (carried_in children row alike v)
    carried (eval_plan head e child) row alike (inl v) = inl (own (eval_plan head e child) row alike v)
    carried (eval_plan head e child) row alike (inr v) =
        inr (carried child row (λ a. worked_in (plan_head child).dtype e (with_given f (plan_derivation offset child row)) (with_given g (plan_derivation offset child row)) (alike a)) v)
    carried (filter_plan head child) row alike (inl v) = inl (own (filter_plan head child) row alike v)
    carried (filter_plan head child) row alike (inr v) = inr (carried child row alike v)
    carried (pack_plan head children validity) row alike (inl v) = inl (own (pack_plan head children validity) row alike v)
    carried (pack_plan head children validity) row alike (inr (inl v)) =
        let ds : Derivations = plan_derivations offset children row in
        inr (inl (carried_field children row (λ a. packed_in (each_with_given f ds) (each_with_given g ds) (valid_alike validity row (packed ds) alike a)) v))
    carried (pack_plan head children validity) row alike (inr (inr v)) = inr (inr (carried_validity validity row (packed (plan_derivations offset children row)) alike v))
    carried (take_plan head codes values) row alike (inl v) = inl (own (take_plan head codes values) row alike v)
    carried (take_plan head codes values) row alike (inr (inl v)) =
        let ds : Derivations = each_row (plan_derivation offset values) 0 (plan_head values).rows in
        inr (inl (carried codes row (λ a. code_in head.number row (with_given f (plan_derivation offset codes row)) (with_given g (plan_derivation offset codes row)) (values_with (f head.number) ds) (values_with (g head.number) ds) (alike a)) v))
    carried (take_plan head codes values) row alike (inr (inr (closed, (other, less, v)))) = inr (inr (lacks head.number closed, (other, less, freed P Q None None hands_none deep deep values other v)))
    carried (share_plan head child) row alike (inl v) = inl (own (share_plan head child) row alike v)
    carried (share_plan head child) row alike (inr (closed, (other, less, v))) = inr (lacks head.number closed, (other, less, freed P Q None None hands_none deep deep child other v))
    carried (list_plan head elements offsets validity) row alike v = own (list_plan head elements offsets validity) row alike v
    carried (row_idx_plan head) row alike v = own (row_idx_plan head) row alike v
    carried (scan_plan head segment coding) row alike v = own (scan_plan head segment coding) row alike v
    carried (zoned_plan head zones content table) row alike (inl v) = inl (own (zoned_plan head zones content table) row alike v)
    carried (zoned_plan head zones content table) row alike (inr v) = inr (carried content row alike v)
    carried (pruning_plan head pruning table) row alike (inl v) = inl (own (pruning_plan head pruning table) row alike v)
    carried (pruning_plan head pruning table) row alike (inr (other, less, v)) =
        let d : ℕ → Derivation = plan_derivation offset table in
        let all : Derivations = each_row d 0 (plan_head table).rows in
        inr (other, less, carried table other (λ a. row_in d (plan_head table).rows other less (concluded_in (is_pruned_at pruning head.rows row) (each_with_given f all) (each_with_given g all) (alike a))) v)

    carried_in : (ps : Plans) (row : ℕ) → IsAlike (plan_derivation_in offset ps row) → VisitsIn P (Some f) ps row → VisitsIn Q (Some g) ps row
    carried_in no_plans row alike v = v
    carried_in (plan first rest) row alike v =
        match_alike (nat_lt row (plan_head first).rows) (plan_derivation offset first row) (plan_derivation_in offset rest (row - (plan_head first).rows))
        (Visits P (Some f) first row) (VisitsIn P (Some f) rest (row - (plan_head first).rows)) (Visits Q (Some g) first row) (VisitsIn Q (Some g) rest (row - (plan_head first).rows))
        (carried first row) (carried_in rest (row - (plan_head first).rows)) alike v

    carried_field : (ps : Plans) (row : ℕ) → (A → each_with_given f (plan_derivations offset ps row) ≡ each_with_given g (plan_derivations offset ps row)) → VisitsField P (Some f) ps row → VisitsField Q (Some g) ps row
    carried_field no_plans row alike v = v
    carried_field (plan first rest) row alike (inl v) =
        inl (carried first row (λ a. first_in (with_given f (plan_derivation offset first row)) (with_given g (plan_derivation offset first row)) (each_with_given f (plan_derivations offset rest row)) (each_with_given g (plan_derivations offset rest row)) (alike a)) v)
    carried_field (plan first rest) row alike (inr v) =
        inr (carried_field rest row (λ a. rest_in (with_given f (plan_derivation offset first row)) (with_given g (plan_derivation offset first row)) (each_with_given f (plan_derivations offset rest row)) (each_with_given g (plan_derivations offset rest row)) (alike a)) v)

    carried_validity : (validity : PlanValidity) (row : ℕ) (d : Derivation) → IsAlike (plan_where_valid offset validity row d) → VisitsValidity P (Some f) validity row → VisitsValidity Q (Some g) validity row
    carried_validity all_valid row d alike v = v
    carried_validity (valid_as validity) row d alike v =
        carried validity row (λ a. valid_in (with_given f d) (with_given g d) (with_given f (plan_derivation offset validity row)) (with_given g (plan_derivation offset validity row)) (alike a)) v

-- an expression that is a fault over a row is one over the row that is derived alike
pub fault_alike : (leaves : Leaves) (offset at : ℕ) (f g : GivenValues) (p : Plan) (row : ℕ) → with_given f (plan_derivation offset p row) ≡ with_given g (plan_derivation offset p row) → HasEvalFault leaves offset at (Some f) p row → HasEvalFault leaves offset at (Some g) p row
fault_alike leaves offset at f g (no_plan head) row alike v = v
fault_alike leaves offset at f g (concat_plan head children) row alike v = v
fault_alike leaves offset at f g (eval_plan head e child) row alike v =
    let same : with_given f (plan_derivation offset child row) ≡ with_given g (plan_derivation offset child row) =
    worked_in (plan_head child).dtype e (with_given f (plan_derivation offset child row)) (with_given g (plan_derivation offset child row)) alike in
    (v.0, subst (IsFaultAt child e) (ap (derived leaves) same) v.1)
fault_alike leaves offset at f g (filter_plan head child) row alike v = v
fault_alike leaves offset at f g (pack_plan head children validity) row alike v = v
fault_alike leaves offset at f g (take_plan head codes values) row alike v = v
fault_alike leaves offset at f g (share_plan head child) row alike v = v
fault_alike leaves offset at f g (list_plan head elements offsets validity) row alike v = v
fault_alike leaves offset at f g (row_idx_plan head) row alike v = v
fault_alike leaves offset at f g (scan_plan head segment coding) row alike v = v
fault_alike leaves offset at f g (zoned_plan head zones content table) row alike v = v
fault_alike leaves offset at f g (pruning_plan head pruning table) row alike v = v
