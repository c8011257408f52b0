-- What a row visits is among what it is derived from, with what was handed in in place of what it would read.
use Rattle.std.proofs.Common.{◌≡◌, ℕ, zero, suc, ◌+◌, ◌-◌, ◌<◌, ◌⊎◌, inl, inr, Bool, List, Option, None, refl, sym, ap, ◌∙◌, subst, arith}
use Rattle.std.specs.Prelude.{nat_lt}
use Rattle.vx_base.specs.Data.{Datum}
use Rattle.vx_expr.specs.Terms.{Term}
use Rattle.vx_rows.specs.Derivations.{Derivation, nothing, of_leaf, list_row, given, packed, valid_where, looked_up, worked_out, read_whole, concluded, Derivations, each_row, Leaves}
use Rattle.vx_rows.specs.Reads.{directly}
use Rattle.vx_rows.specs.Given.{GivenValues, values_with, share_with, with_given, each_with_given}
use Rattle.vx_rows.specs.Heads.{Head}
use Rattle.vx_plan.specs.Plans.{Plan, no_plan, concat_plan, eval_plan, filter_plan, pack_plan, take_plan, share_plan, list_plan, row_idx_plan, scan_plan, zoned_plan, pruning_plan, Plans, no_plans, plan, PlanValidity, all_valid, valid_as, plan_head}
use Rattle.vx_plan.specs.PlanRows.{plan_derivation, plan_derivation_in, plan_derivations, plan_where_valid}
use Rattle.vx_plan.specs.Refs.{number_of}
use Rattle.vx_steps.specs.declared.errors.StepError.{StepError}
use Rattle.vx_steps.specs.declared.errors.StepError.TheVariants.{Unsupported, BadSegment, BadCode, EvalFault, Memory}
use Rattle.vx_steps.specs.Computed.{HasCause}
use Rattle.vx_steps.specs.Given.{Handed, values_for}
use Rattle.vx_steps.specs.Laws.{GivenFits, HasPart, HavePart, IsEvalRow, IsFaultyRow, IsReadCause, row_with}
use Rattle.vx_steps.specs.Visits.{Test, Visits, VisitsIn, VisitsField, VisitsValidity, HasEvalFault}
use Rattle.vx_steps.proofs.AllRows.{rows_with}
use Rattle.vx_steps.proofs.CodeVisits.{code_found}
use Rattle.vx_steps.proofs.Standing.{stands_mapped}
use Rattle.vx_steps.proofs.StandingVisits.{visit_within, Within}
use Rattle.vx_steps.proofs.VisitedReads.{alone_same, by_test, list_found}

-- a derivation that is so has a part that is
part_of : (F : Derivation → Type 0) (d : Derivation) → F d → HasPart F d
part_of F nothing is = is
part_of F (of_leaf at) is = is
part_of F (list_row list row) is = is
part_of F (given v) is = is
part_of F (packed ds) is = inl is
part_of F (valid_where d validity) is = inl is
part_of F (looked_up dictionary row code values) is = inl is
part_of F (worked_out t e d) is = inl is
part_of F (read_whole share row d ds) is = inl is
part_of F (concluded rule ds) is = inl is

-- a row of several has the part
part_in : (F : Derivation → Type 0) (f : ℕ → Derivation) (from count row : ℕ) → row < count → HasPart F (f (from + row)) → HavePart F (each_row f from count)
part_in F f from zero row lt any = absurd (omega arith)
part_in F f from (suc count) zero lt any =
    let e : from + 0 ≡ from = omega arith in
    inl (subst (λ (r : ℕ). HasPart F (f r)) e any)
part_in F f from (suc count) (suc row) lt any =
    let e : from + suc row ≡ from + 1 + row = omega arith in
    inr (part_in F f (from + 1) count row (omega arith) (subst (λ (r : ℕ). HasPart F (f r)) e any))

part_alone : (F : Derivation → Type 0) (f : ℕ → Derivation) (count row : ℕ) → row < count → HasPart F (with_given (values_for None) (f row)) → HavePart F (each_row f 0 count)
part_alone F f count row lt any =
    let e : row ≡ 0 + row = omega arith in
    part_in F f 0 count row lt (subst (λ (r : ℕ). HasPart F (f r)) e (subst (HasPart F) (alone_same (f row)) any))

part_rows : (F : Derivation → Type 0) (v : GivenValues) (d : ℕ → Derivation) (count row : ℕ) → row < count → HasPart F (with_given v (d row)) → HavePart F (each_with_given v (each_row d 0 count))
part_rows F v d count row lt any =
    let e : row ≡ 0 + row = omega arith in
    subst (HavePart F) (sym (rows_with v d 0 count)) (part_in F (λ (r : ℕ). with_given v (d r)) 0 count row lt (subst (λ (r : ℕ). HasPart F (with_given v (d r))) e any))

front_part : (F : Derivation → Type 0) (handed : Handed) (offset : ℕ) (validity : PlanValidity) (row : ℕ) (d : Derivation) → HasPart F (with_given (values_for handed) d) → HasPart F (with_given (values_for handed) (plan_where_valid offset validity row d))
front_part F handed offset all_valid row d any = any
front_part F handed offset (valid_as validity) row d any = inr (inl any)

-- a row that is so itself is derived so
abbrev IsDerivedOwn : Test → (Derivation → Type 0) → ℕ → Type 0
IsDerivedOwn P F offset = (handed : Handed) (p : Plan) (row : ℕ) → P handed p row → F (row_with handed offset p row)

mutual
  visit_part : (P : Test) (F : Derivation → Type 0) (offset : ℕ) → IsDerivedOwn P F offset → (handed : Handed) (p : Plan) (row : ℕ) → Visits P handed p row → HasPart F (row_with handed offset p row)
  visit_part P F offset own handed (no_plan head) row v = part_of F (row_with handed offset (no_plan head) row) (own handed (no_plan head) row v)
  visit_part P F offset own handed (concat_plan head children) row (inl v) = part_of F (row_with handed offset (concat_plan head children) row) (own handed (concat_plan head children) row v)
  visit_part P F offset own handed (concat_plan head children) row (inr v) = visit_part_in P F offset own handed children row v
  visit_part P F offset own handed (eval_plan head e child) row (inl v) = part_of F (row_with handed offset (eval_plan head e child) row) (own handed (eval_plan head e child) row v)
  visit_part P F offset own handed (eval_plan head e child) row (inr v) = inr (visit_part P F offset own handed child row v)
  visit_part P F offset own handed (filter_plan head child) row (inl v) = part_of F (row_with handed offset (filter_plan head child) row) (own handed (filter_plan head child) row v)
  visit_part P F offset own handed (filter_plan head child) row (inr v) = visit_part P F offset own handed child row v
  visit_part P F offset own handed (pack_plan head children validity) row (inl v) = part_of F (row_with handed offset (pack_plan head children validity) row) (own handed (pack_plan head children validity) row v)
  visit_part P F offset own handed (pack_plan head children validity) row (inr (inl v)) =
      front_part F handed offset validity row (packed (plan_derivations offset children row)) (inr (visit_part_field P F offset own handed children row v))
  visit_part P F offset own handed (pack_plan head children validity) row (inr (inr v)) = visit_part_validity P F offset own handed validity row (packed (plan_derivations offset children row)) v
  visit_part P F offset own handed (take_plan head codes values) row (inl v) = part_of F (row_with handed offset (take_plan head codes values) row) (own handed (take_plan head codes values) row v)
  visit_part P F offset own handed (take_plan head codes values) row (inr (inl v)) = inr (inl (visit_part P F offset own handed codes row v))
  visit_part P F offset own handed (take_plan head codes values) row (inr (inr (none, (other, less, v)))) =
      let G : Option (List Datum) → Type 0 = λ vs. HavePart F (values_with vs (each_row (plan_derivation offset values) 0 (plan_head values).rows)) in
      inr (inr (subst G (sym none) (part_alone F (plan_derivation offset values) (plan_head values).rows other less (visit_part P F offset own None values other v))))
  visit_part P F offset own handed (share_plan head child) row (inl v) = part_of F (row_with handed offset (share_plan head child) row) (own handed (share_plan head child) row v)
  visit_part P F offset own handed (share_plan head child) row (inr (none, (other, less, v))) =
      let all : Derivations = each_row (plan_derivation offset child) 0 (plan_head child).rows in
      let G : Option (List Datum) → Type 0 = λ vs. HasPart F (share_with vs row (read_whole head.number row (plan_derivation offset child row) all)) in
      subst G (sym none) (inr (inr (part_alone F (plan_derivation offset child) (plan_head child).rows other less (visit_part P F offset own None child other v))))
  visit_part P F offset own handed (list_plan head elements offsets validity) row v = part_of F (row_with handed offset (list_plan head elements offsets validity) row) (own handed (list_plan head elements offsets validity) row v)
  visit_part P F offset own handed (row_idx_plan head) row v = part_of F (row_with handed offset (row_idx_plan head) row) (own handed (row_idx_plan head) row v)
  visit_part P F offset own handed (scan_plan head segment coding) row v = part_of F (row_with handed offset (scan_plan head segment coding) row) (own handed (scan_plan head segment coding) row v)
  visit_part P F offset own handed (zoned_plan head zones content table) row (inl v) = part_of F (row_with handed offset (zoned_plan head zones content table) row) (own handed (zoned_plan head zones content table) row v)
  visit_part P F offset own handed (zoned_plan head zones content table) row (inr v) = visit_part P F offset own handed content row v
  visit_part P F offset own handed (pruning_plan head pruning table) row (inl v) = part_of F (row_with handed offset (pruning_plan head pruning table) row) (own handed (pruning_plan head pruning table) row v)
  visit_part P F offset own handed (pruning_plan head pruning table) row (inr (other, less, v)) = inr (part_rows F (values_for handed) (plan_derivation offset table) (plan_head table).rows other less (visit_part P F offset own handed table other v))

  visit_part_in : (P : Test) (F : Derivation → Type 0) (offset : ℕ) → IsDerivedOwn P F offset → (handed : Handed) (ps : Plans) (row : ℕ) → VisitsIn P handed ps row → HasPart F (with_given (values_for handed) (plan_derivation_in offset ps row))
  visit_part_in P F offset own handed no_plans row v = absurd v
  visit_part_in P F offset own handed (plan first rest) row v =
      by_test (nat_lt row (plan_head first).rows) (Visits P handed first row) (VisitsIn P handed rest (row - (plan_head first).rows)) (λ d. HasPart F (with_given (values_for handed) d))
      (plan_derivation offset first row) (plan_derivation_in offset rest (row - (plan_head first).rows))
      (visit_part P F offset own handed first row) (visit_part_in P F offset own handed rest (row - (plan_head first).rows)) v

  visit_part_field : (P : Test) (F : Derivation → Type 0) (offset : ℕ) → IsDerivedOwn P F offset → (handed : Handed) (ps : Plans) (row : ℕ) → VisitsField P handed ps row → HavePart F (each_with_given (values_for handed) (plan_derivations offset ps row))
  visit_part_field P F offset own handed no_plans row v = absurd v
  visit_part_field P F offset own handed (plan first rest) row (inl v) = inl (visit_part P F offset own handed first row v)
  visit_part_field P F offset own handed (plan first rest) row (inr v) = inr (visit_part_field P F offset own handed rest row v)

  visit_part_validity : (P : Test) (F : Derivation → Type 0) (offset : ℕ) → IsDerivedOwn P F offset → (handed : Handed) (validity : PlanValidity) (row : ℕ) (d : Derivation) → VisitsValidity P handed validity row → HasPart F (with_given (values_for handed) (plan_where_valid offset validity row d))
  visit_part_validity P F offset own handed all_valid row d v = absurd v
  visit_part_validity P F offset own handed (valid_as validity) row d v = inr (inr (visit_part P F offset own handed validity row v))

-- ---- expressions

-- a visited row of an expression that stands in the plan is one of its rows
eval_row : (handed top : Handed) (offset at : ℕ) (head : Head) (e : Term) (child : Plan) (row : ℕ) → row ≡ at → (handed ≡ top) ⊎ (handed ≡ None) → IsEvalRow top offset at (row_with handed offset (eval_plan head e child) row) (eval_plan head e child)
eval_row handed top offset at head e child row here (inl same) = inl (ap (λ (h : Handed). row_with h offset (eval_plan head e child) row) same ∙ ap (row_with top offset (eval_plan head e child)) here)
eval_row handed top offset at head e child row here (inr none) = inr (ap (λ (h : Handed). row_with h offset (eval_plan head e child) row) none ∙ ap (row_with None offset (eval_plan head e child)) here)

term_own : (leaves : Leaves) (top : Handed) (offset : ℕ) (whole : Plan) (at : ℕ) → IsDerivedOwn (Within top whole (HasEvalFault leaves offset at)) (IsFaultyRow leaves top offset whole at) offset
term_own leaves top offset whole at handed (no_plan head) row v = absurd v.0
term_own leaves top offset whole at handed (concat_plan head children) row v = absurd v.0
term_own leaves top offset whole at handed (eval_plan head e child) row v =
    let d : Derivation = row_with handed offset (eval_plan head e child) row in
    let F : Plan → Type 0 = IsEvalRow top offset at d in
    (v.0.1, stands_mapped (λ q. q ≡ eval_plan head e child) F (λ q same. subst F (sym same) (eval_row handed top offset at head e child row v.0.0 v.1)) whole v.2)
term_own leaves top offset whole at handed (filter_plan head child) row v = absurd v.0
term_own leaves top offset whole at handed (pack_plan head children validity) row v = absurd v.0
term_own leaves top offset whole at handed (take_plan head codes values) row v = absurd v.0
term_own leaves top offset whole at handed (share_plan head child) row v = absurd v.0
term_own leaves top offset whole at handed (list_plan head elements offsets validity) row v = absurd v.0
term_own leaves top offset whole at handed (row_idx_plan head) row v = absurd v.0
term_own leaves top offset whole at handed (scan_plan head segment coding) row v = absurd v.0
term_own leaves top offset whole at handed (zoned_plan head zones content table) row v = absurd v.0
term_own leaves top offset whole at handed (pruning_plan head pruning table) row v = absurd v.0

pub term_worked : (leaves : Leaves) (handed : Handed) (offset : ℕ) (p : Plan) (row at : ℕ) → Visits (HasEvalFault leaves offset at) handed p row → HasPart (IsFaultyRow leaves handed offset p at) (row_with handed offset p row)
term_worked leaves handed offset p row at v =
    visit_part (Within handed p (HasEvalFault leaves offset at)) (IsFaultyRow leaves handed offset p at) offset (term_own leaves handed offset p at) handed p row
    (visit_within (HasEvalFault leaves offset at) handed p handed p row (inl refl) (λ q s. s) v)

pub cause_read : (leaves : Leaves) (handed : Handed) (offset : ℕ) (p : Plan) (start : ℕ) (bits : List Bool) (error : StepError) → GivenFits handed p → HasCause leaves handed offset p start bits error → IsReadCause leaves handed offset p start bits error
cause_read leaves handed offset p start bits (Unsupported list) fits (place, at, v) = (place, at, list_found handed offset p directly (start + place) (number_of list) v)
cause_read leaves handed offset p start bits (BadSegment segment) fits none = none
cause_read leaves handed offset p start bits (BadCode take row) fits (place, at, v) = (place, at, code_found leaves handed offset p directly (start + place) (number_of take) row fits v)
cause_read leaves handed offset p start bits (EvalFault row) fits (place, at, v) = (place, at, term_worked leaves handed offset p (start + place) row v)
cause_read leaves handed offset p start bits Memory fits any = any
