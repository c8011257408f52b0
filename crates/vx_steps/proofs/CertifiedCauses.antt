-- Where what is handed in is the whole values of their plans, a cause is one where nothing is handed in.
use Rattle.std.proofs.Common.{◌≡◌, ℕ, ◌+◌, ◌-◌, ◌<◌, ◌≤◌, inl, inr, Bool, true, false, List, Some, length, sym, ◌∙◌, subst, arith}
use Rattle.std.specs.Prelude.{if◌then◌else◌, nat_lt}
use Rattle.std.specs.Bool.{MatchBool}
use Rattle.std.proofs.lemmas.Option.{slice_get_within}
use Rattle.vx_rows.specs.Derivations.{Derivation, packed, Leaves}
use Rattle.vx_rows.specs.Given.{GivenValues, AreCertified, EachCertified}
use Rattle.vx_rows.proofs.Givens.{certified}
use Rattle.vx_plan.specs.Nodes.{Node}
use Rattle.vx_plan.specs.Plans.{Plan, no_plan, concat_plan, eval_plan, filter_plan, pack_plan, take_plan, share_plan, list_plan, row_idx_plan, scan_plan, zoned_plan, pruning_plan, Plans, no_plans, plan, PlanValidity, all_valid, valid_as, plan_head, plan_at}
use Rattle.vx_plan.specs.PlanRows.{plan_derivation, plan_derivation_in, plan_derivations, plan_where_valid}
use Rattle.vx_plan.specs.Refs.{number_of}
use Rattle.vx_plan.specs.Rules.{node_at}
use Rattle.vx_plan.specs.Tables.{IsGoodTable}
use Rattle.vx_steps.specs.declared.errors.StepError.{StepError}
use Rattle.vx_steps.specs.declared.errors.StepError.TheVariants.{Unsupported, BadSegment, BadCode, EvalFault, Memory}
use Rattle.vx_steps.specs.Computed.{HasCause}
use Rattle.vx_steps.specs.Given.{Handed, given_for, handed_by, row_value}
use Rattle.vx_steps.specs.Held.{AreMade}
use Rattle.vx_steps.specs.KeptData.{Kept}
use Rattle.vx_steps.specs.Laws.{HandsNone}
use Rattle.vx_steps.specs.Visits.{Test, Visits, VisitsIn, VisitsField, VisitsValidity, SomeVisit, HasBadCode, HasEvalFault}
use Rattle.vx_steps.proofs.AllRows.{certified_at}
use Rattle.vx_steps.proofs.CertifiedValues.{row_certified}
use Rattle.vx_steps.proofs.FreeVisits.{list_selected, served_none, IsFaultAt, IsNoPlace}

-- what is handed in for the row are the values that would be read
abbrev IsCertified : Leaves → GivenValues → ℕ → Plan → ℕ → Type 0
IsCertified leaves f offset p row = AreCertified leaves f (plan_derivation offset p row)

-- where that is so, what the test sees with what is handed in it sees without
abbrev Stays : Leaves → GivenValues → ℕ → Test → Handed → Type 0
Stays leaves f offset P free = (p : Plan) (row : ℕ) → IsCertified leaves f offset p row → P (Some f) p row → P free p row

pub match_certified : (b : Bool) (F : Derivation → Type 0) (d e : Derivation) (A B C D : Type 0) → (F d → A → C) → (F e → B → D) → F (if b then d else e) → MatchBool b A B → MatchBool b C D
match_certified true F d e A B C D to more are v = to are v
match_certified false F d e A B C D to more are v = more are v

pub valid_first : (leaves : Leaves) (f : GivenValues) (offset : ℕ) (validity : PlanValidity) (row : ℕ) (d : Derivation) → AreCertified leaves f (plan_where_valid offset validity row d) → AreCertified leaves f d
valid_first leaves f offset all_valid row d are = are
valid_first leaves f offset (valid_as validity) row d are = are.0

mutual
  stays : (leaves : Leaves) (f : GivenValues) (offset : ℕ) (P : Test) (free : Handed) → HandsNone free → Stays leaves f offset P free → (p : Plan) (row : ℕ) → IsCertified leaves f offset p row → Visits P (Some f) p row → Visits P free p row
  stays leaves f offset P free none own (no_plan head) row are v = own (no_plan head) row are v
  stays leaves f offset P free none own (concat_plan head children) row are (inl v) = inl (own (concat_plan head children) row are v)
  stays leaves f offset P free none own (concat_plan head children) row are (inr v) = inr (stays_in leaves f offset P free none own children row are v)
  stays leaves f offset P free none own (eval_plan head e child) row are (inl v) = inl (own (eval_plan head e child) row are v)
  stays leaves f offset P free none own (eval_plan head e child) row are (inr v) = inr (stays leaves f offset P free none own child row are v)
  stays leaves f offset P free none own (filter_plan head child) row are (inl v) = inl (own (filter_plan head child) row are v)
  stays leaves f offset P free none own (filter_plan head child) row are (inr v) = inr (stays leaves f offset P free none own child row are v)
  stays leaves f offset P free none own (pack_plan head children validity) row are (inl v) = inl (own (pack_plan head children validity) row are v)
  stays leaves f offset P free none own (pack_plan head children validity) row are (inr (inl v)) =
      inr (inl (stays_field leaves f offset P free none own children row (valid_first leaves f offset validity row (packed (plan_derivations offset children row)) are) v))
  stays leaves f offset P free none own (pack_plan head children validity) row are (inr (inr v)) = inr (inr (stays_validity leaves f offset P free none own validity row (packed (plan_derivations offset children row)) are v))
  stays leaves f offset P free none own (take_plan head codes values) row are (inl v) = inl (own (take_plan head codes values) row are v)
  stays leaves f offset P free none own (take_plan head codes values) row are (inr (inl v)) = inr (inl (stays leaves f offset P free none own codes row are.0 v))
  stays leaves f offset P free none own (take_plan head codes values) row are (inr (inr (closed, inside))) = inr (inr (none head.number, inside))
  stays leaves f offset P free none own (share_plan head child) row are (inl v) = inl (own (share_plan head child) row are v)
  stays leaves f offset P free none own (share_plan head child) row are (inr (closed, inside)) = inr (none head.number, inside)
  stays leaves f offset P free none own (list_plan head elements offsets validity) row are v = own (list_plan head elements offsets validity) row are v
  stays leaves f offset P free none own (row_idx_plan head) row are v = own (row_idx_plan head) row are v
  stays leaves f offset P free none own (scan_plan head segment coding) row are v = own (scan_plan head segment coding) row are v
  stays leaves f offset P free none own (zoned_plan head zones content table) row are (inl v) = inl (own (zoned_plan head zones content table) row are v)
  stays leaves f offset P free none own (zoned_plan head zones content table) row are (inr v) = inr (stays leaves f offset P free none own content row are v)
  stays leaves f offset P free none own (pruning_plan head pruning table) row are (inl v) = inl (own (pruning_plan head pruning table) row are v)
  stays leaves f offset P free none own (pruning_plan head pruning table) row are (inr (other, less, v)) = inr (other, less, stays leaves f offset P free none own table other (certified_at leaves f (plan_derivation offset table) (plan_head table).rows other less are) v)

  stays_in : (leaves : Leaves) (f : GivenValues) (offset : ℕ) (P : Test) (free : Handed) → HandsNone free → Stays leaves f offset P free → (ps : Plans) (row : ℕ) → AreCertified leaves f (plan_derivation_in offset ps row) → VisitsIn P (Some f) ps row → VisitsIn P free ps row
  stays_in leaves f offset P free none own no_plans row are v = v
  stays_in leaves f offset P free none own (plan first rest) row are v =
      match_certified (nat_lt row (plan_head first).rows) (AreCertified leaves f) (plan_derivation offset first row) (plan_derivation_in offset rest (row - (plan_head first).rows))
      (Visits P (Some f) first row) (VisitsIn P (Some f) rest (row - (plan_head first).rows)) (Visits P free first row) (VisitsIn P free rest (row - (plan_head first).rows))
      (stays leaves f offset P free none own first row) (stays_in leaves f offset P free none own rest (row - (plan_head first).rows)) are v

  stays_field : (leaves : Leaves) (f : GivenValues) (offset : ℕ) (P : Test) (free : Handed) → HandsNone free → Stays leaves f offset P free → (ps : Plans) (row : ℕ) → EachCertified leaves f (plan_derivations offset ps row) → VisitsField P (Some f) ps row → VisitsField P free ps row
  stays_field leaves f offset P free none own no_plans row are v = v
  stays_field leaves f offset P free none own (plan first rest) row are (inl v) = inl (stays leaves f offset P free none own first row are.0 v)
  stays_field leaves f offset P free none own (plan first rest) row are (inr v) = inr (stays_field leaves f offset P free none own rest row are.1 v)

  stays_validity : (leaves : Leaves) (f : GivenValues) (offset : ℕ) (P : Test) (free : Handed) → HandsNone free → Stays leaves f offset P free → (validity : PlanValidity) (row : ℕ) (d : Derivation) → AreCertified leaves f (plan_where_valid offset validity row d) → VisitsValidity P (Some f) validity row → VisitsValidity P free validity row
  stays_validity leaves f offset P free none own all_valid row d are v = v
  stays_validity leaves f offset P free none own (valid_as validity) row d are v = stays leaves f offset P free none own validity row are.1 v

-- ---- faults over values

row_same : (leaves : Leaves) (f : GivenValues) (offset : ℕ) (free : Handed) → HandsNone free → (p : Plan) (row : ℕ) → IsCertified leaves f offset p row → row_value leaves (Some f) offset p row ≡ row_value leaves free offset p row
row_same leaves f offset free none p row are = certified leaves f (plan_derivation offset p row) are ∙ sym (served_none leaves offset free none p row)

code_stays : (leaves : Leaves) (f : GivenValues) (offset n at : ℕ) (free : Handed) → HandsNone free → Stays leaves f offset (HasBadCode leaves offset n at) free
code_stays leaves f offset n at free none (no_plan head) row are v = absurd v
code_stays leaves f offset n at free none (concat_plan head children) row are v = absurd v
code_stays leaves f offset n at free none (eval_plan head e child) row are v = absurd v
code_stays leaves f offset n at free none (filter_plan head child) row are v = absurd v
code_stays leaves f offset n at free none (pack_plan head children validity) row are v = absurd v
code_stays leaves f offset n at free none (take_plan head codes values) row are v = (v.0, v.1, subst (IsNoPlace (plan_head values).rows) (row_same leaves f offset free none codes row are.0) v.2)
code_stays leaves f offset n at free none (share_plan head child) row are v = absurd v
code_stays leaves f offset n at free none (list_plan head elements offsets validity) row are v = absurd v
code_stays leaves f offset n at free none (row_idx_plan head) row are v = absurd v
code_stays leaves f offset n at free none (scan_plan head segment coding) row are v = absurd v
code_stays leaves f offset n at free none (zoned_plan head zones content table) row are v = absurd v
code_stays leaves f offset n at free none (pruning_plan head pruning table) row are v = absurd v

fault_stays : (leaves : Leaves) (f : GivenValues) (offset at : ℕ) (free : Handed) → HandsNone free → Stays leaves f offset (HasEvalFault leaves offset at) free
fault_stays leaves f offset at free none (no_plan head) row are v = absurd v
fault_stays leaves f offset at free none (concat_plan head children) row are v = absurd v
fault_stays leaves f offset at free none (eval_plan head e child) row are v = (v.0, subst (IsFaultAt child e) (row_same leaves f offset free none child row are) v.1)
fault_stays leaves f offset at free none (filter_plan head child) row are v = absurd v
fault_stays leaves f offset at free none (pack_plan head children validity) row are v = absurd v
fault_stays leaves f offset at free none (take_plan head codes values) row are v = absurd v
fault_stays leaves f offset at free none (share_plan head child) row are v = absurd v
fault_stays leaves f offset at free none (list_plan head elements offsets validity) row are v = absurd v
fault_stays leaves f offset at free none (row_idx_plan head) row are v = absurd v
fault_stays leaves f offset at free none (scan_plan head segment coding) row are v = absurd v
fault_stays leaves f offset at free none (zoned_plan head zones content table) row are v = absurd v
fault_stays leaves f offset at free none (pruning_plan head pruning table) row are v = absurd v

-- ---- causes

selected_stays : (nodes : List Node) → IsGoodTable nodes → (given : List Kept) (free : Handed) → HandsNone free → (leaves : Leaves) (offset n start : ℕ) (bits : List Bool) → n < length nodes → start + length bits ≤ (node_at nodes n).rows → AreMade nodes offset given leaves →
    (P : Test) → Stays leaves (given_for nodes given) offset P free → SomeVisit P (handed_by nodes (Some given)) (plan_at nodes n) start bits → SomeVisit P free (plan_at nodes n) start bits
selected_stays nodes good given free none leaves offset n start bits there inside made P own (place, at, v) = (
  place,
  at,
  stays leaves (given_for nodes given) offset P free none own (plan_at nodes n) (start + place) (row_certified nodes good given leaves offset n (start + place) there (omega (arith, inside, slice_get_within bits place true at)) made) v,
)

pub certified_cause : (nodes : List Node) → IsGoodTable nodes → (given : List Kept) (free : Handed) → HandsNone free → (leaves : Leaves) (offset n start : ℕ) (bits : List Bool) (error : StepError) → n < length nodes → start + length bits ≤ (node_at nodes n).rows → AreMade nodes offset given leaves →
    HasCause leaves (handed_by nodes (Some given)) offset (plan_at nodes n) start bits error → HasCause leaves free offset (plan_at nodes n) start bits error
certified_cause nodes good given free none leaves offset n start bits (Unsupported list) there inside made h = list_selected (handed_by nodes (Some given)) free none (plan_at nodes n) start bits (number_of list) h
certified_cause nodes good given free none leaves offset n start bits (BadSegment segment) there inside made h = h
certified_cause nodes good given free none leaves offset n start bits (BadCode take at) there inside made h =
    selected_stays nodes good given free none leaves offset n start bits there inside made (HasBadCode leaves offset (number_of take) at) (code_stays leaves (given_for nodes given) offset (number_of take) at free none) h
certified_cause nodes good given free none leaves offset n start bits (EvalFault at) there inside made h =
    selected_stays nodes good given free none leaves offset n start bits there inside made (HasEvalFault leaves offset at) (fault_stays leaves (given_for nodes given) offset at free none) h
certified_cause nodes good given free none leaves offset n start bits Memory there inside made h = tt
