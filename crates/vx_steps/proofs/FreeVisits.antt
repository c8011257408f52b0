-- Visits and causes where nothing is handed in.
use Rattle.std.proofs.Common.{◌≡◌, ℕ, ◌+◌, ◌-◌, inl, inr, Bool, List, None, Some, refl, sym, ap, ◌∙◌, subst, Option}
use Rattle.std.specs.Prelude.{nat_lt, IsSomeAnd}
use Rattle.vx_base.specs.Data.{Datum}
use Rattle.vx_expr.specs.Meaning.{meaning}
use Rattle.vx_expr.specs.Terms.{Term}
use Rattle.vx_expr.specs.Rows.{no_bound}
use Rattle.vx_rows.specs.Derivations.{Leaves, derived}
use Rattle.vx_rows.specs.Given.{GivenValues}
use Rattle.vx_rows.specs.Reads.{IsPlaceAmong}
use Rattle.vx_plan.specs.Plans.{Plan, no_plan, concat_plan, eval_plan, filter_plan, pack_plan, take_plan, share_plan, list_plan, row_idx_plan, scan_plan, zoned_plan, pruning_plan, Plans, no_plans, plan, PlanValidity, all_valid, valid_as, plan_head}
use Rattle.vx_plan.specs.PlanRows.{plan_derivation}
use Rattle.vx_plan.specs.Refs.{number_of}
use Rattle.vx_steps.specs.declared.errors.StepError.{StepError}
use Rattle.vx_steps.specs.declared.errors.StepError.TheVariants.{Unsupported, BadSegment, BadCode, EvalFault, Memory}
use Rattle.vx_steps.specs.declared.leaf_reads.LeafRead.{LeafRead}
use Rattle.vx_steps.specs.Computed.{HasCause}
use Rattle.vx_steps.specs.Given.{Handed, row_value, values_for}
use Rattle.vx_steps.specs.Laws.{HandsNone}
use Rattle.vx_steps.specs.Visits.{Test, Visits, VisitsIn, VisitsField, VisitsValidity, SomeVisit, IsLeafRead, IsListRead, HasBadCode, HasEvalFault}
use Rattle.vx_steps.specs.Wholes.{HasInsideCause, Inside}
use Rattle.vx_steps.proofs.VisitedReads.{none_served}
use Rattle.vx_steps.proofs.PlacedVisits.{match_mapped}

-- ---- one visit for another

-- what the first test sees with what is handed in, the second sees, or visits, without
abbrev pub Becomes : Test → Test → Handed → Handed → Type 0
Becomes P Q handed free = (p : Plan) (row : ℕ) → P handed p row → Visits Q free p row

pub hands_none : HandsNone None
hands_none n = refl

mutual
  pub freed : (P Q : Test) (handed free : Handed) → HandsNone free → Becomes P Q handed free → Becomes P Q None None → (p : Plan) (row : ℕ) → Visits P handed p row → Visits Q free p row
  freed P Q handed free none own deep (no_plan head) row v = own (no_plan head) row v
  freed P Q handed free none own deep (concat_plan head children) row (inl v) = own (concat_plan head children) row v
  freed P Q handed free none own deep (concat_plan head children) row (inr v) = inr (freed_in P Q handed free none own deep children row v)
  freed P Q handed free none own deep (eval_plan head e child) row (inl v) = own (eval_plan head e child) row v
  freed P Q handed free none own deep (eval_plan head e child) row (inr v) = inr (freed P Q handed free none own deep child row v)
  freed P Q handed free none own deep (filter_plan head child) row (inl v) = own (filter_plan head child) row v
  freed P Q handed free none own deep (filter_plan head child) row (inr v) = inr (freed P Q handed free none own deep child row v)
  freed P Q handed free none own deep (pack_plan head children validity) row (inl v) = own (pack_plan head children validity) row v
  freed P Q handed free none own deep (pack_plan head children validity) row (inr (inl v)) = inr (inl (freed_field P Q handed free none own deep children row v))
  freed P Q handed free none own deep (pack_plan head children validity) row (inr (inr v)) = inr (inr (freed_validity P Q handed free none own deep validity row v))
  freed P Q handed free none own deep (take_plan head codes values) row (inl v) = own (take_plan head codes values) row v
  freed P Q handed free none own deep (take_plan head codes values) row (inr (inl v)) = inr (inl (freed P Q handed free none own deep codes row v))
  freed P Q handed free none own deep (take_plan head codes values) row (inr (inr (closed, (other, less, v)))) = inr (inr (none head.number, (other, less, freed P Q None None hands_none deep deep values other v)))
  freed P Q handed free none own deep (share_plan head child) row (inl v) = own (share_plan head child) row v
  freed P Q handed free none own deep (share_plan head child) row (inr (closed, (other, less, v))) = inr (none head.number, (other, less, freed P Q None None hands_none deep deep child other v))
  freed P Q handed free none own deep (list_plan head elements offsets validity) row v = own (list_plan head elements offsets validity) row v
  freed P Q handed free none own deep (row_idx_plan head) row v = own (row_idx_plan head) row v
  freed P Q handed free none own deep (scan_plan head segment coding) row v = own (scan_plan head segment coding) row v
  freed P Q handed free none own deep (zoned_plan head zones content table) row (inl v) = own (zoned_plan head zones content table) row v
  freed P Q handed free none own deep (zoned_plan head zones content table) row (inr v) = inr (freed P Q handed free none own deep content row v)
  freed P Q handed free none own deep (pruning_plan head pruning table) row (inl v) = own (pruning_plan head pruning table) row v
  freed P Q handed free none own deep (pruning_plan head pruning table) row (inr (other, less, v)) = inr (other, less, freed P Q handed free none own deep table other v)

  freed_in : (P Q : Test) (handed free : Handed) → HandsNone free → Becomes P Q handed free → Becomes P Q None None → (ps : Plans) (row : ℕ) → VisitsIn P handed ps row → VisitsIn Q free ps row
  freed_in P Q handed free none own deep no_plans row v = v
  freed_in P Q handed free none own deep (plan first rest) row v =
      match_mapped (nat_lt row (plan_head first).rows) (Visits P handed first row) (VisitsIn P handed rest (row - (plan_head first).rows)) (Visits Q free first row) (VisitsIn Q free rest (row - (plan_head first).rows))
      (freed P Q handed free none own deep first row) (freed_in P Q handed free none own deep rest (row - (plan_head first).rows)) v

  freed_field : (P Q : Test) (handed free : Handed) → HandsNone free → Becomes P Q handed free → Becomes P Q None None → (ps : Plans) (row : ℕ) → VisitsField P handed ps row → VisitsField Q free ps row
  freed_field P Q handed free none own deep no_plans row v = v
  freed_field P Q handed free none own deep (plan first rest) row (inl v) = inl (freed P Q handed free none own deep first row v)
  freed_field P Q handed free none own deep (plan first rest) row (inr v) = inr (freed_field P Q handed free none own deep rest row v)

  freed_validity : (P Q : Test) (handed free : Handed) → HandsNone free → Becomes P Q handed free → Becomes P Q None None → (validity : PlanValidity) (row : ℕ) → VisitsValidity P handed validity row → VisitsValidity Q free validity row
  freed_validity P Q handed free none own deep all_valid row v = v
  freed_validity P Q handed free none own deep (valid_as validity) row v = freed P Q handed free none own deep validity row v

-- ---- leaves and lists

pub leaf_becomes : (read : LeafRead) (handed free : Handed) → Becomes (IsLeafRead read) (IsLeafRead read) handed free
leaf_becomes read handed free (no_plan head) row v = absurd v
leaf_becomes read handed free (concat_plan head children) row v = absurd v
leaf_becomes read handed free (eval_plan head e child) row v = absurd v
leaf_becomes read handed free (filter_plan head child) row v = absurd v
leaf_becomes read handed free (pack_plan head children validity) row v = absurd v
leaf_becomes read handed free (take_plan head codes values) row v = absurd v
leaf_becomes read handed free (share_plan head child) row v = absurd v
leaf_becomes read handed free (list_plan head elements offsets validity) row v = absurd v
leaf_becomes read handed free (row_idx_plan head) row v = absurd v
leaf_becomes read handed free (scan_plan head segment coding) row v = v
leaf_becomes read handed free (zoned_plan head zones content table) row v = absurd v
leaf_becomes read handed free (pruning_plan head pruning table) row v = absurd v

pub list_becomes : (n : ℕ) (handed free : Handed) → Becomes (IsListRead n) (IsListRead n) handed free
list_becomes n handed free (no_plan head) row v = absurd v
list_becomes n handed free (concat_plan head children) row v = absurd v
list_becomes n handed free (eval_plan head e child) row v = absurd v
list_becomes n handed free (filter_plan head child) row v = absurd v
list_becomes n handed free (pack_plan head children validity) row v = absurd v
list_becomes n handed free (take_plan head codes values) row v = absurd v
list_becomes n handed free (share_plan head child) row v = absurd v
list_becomes n handed free (list_plan head elements offsets validity) row v = v
list_becomes n handed free (row_idx_plan head) row v = absurd v
list_becomes n handed free (scan_plan head segment coding) row v = absurd v
list_becomes n handed free (zoned_plan head zones content table) row v = absurd v
list_becomes n handed free (pruning_plan head pruning table) row v = absurd v

pub leaf_free : (handed free : Handed) → HandsNone free → (p : Plan) (row : ℕ) (read : LeafRead) → Visits (IsLeafRead read) handed p row → Visits (IsLeafRead read) free p row
leaf_free handed free none p row read v = freed (IsLeafRead read) (IsLeafRead read) handed free none (leaf_becomes read handed free) (leaf_becomes read None None) p row v

pub list_free : (handed free : Handed) → HandsNone free → (p : Plan) (row n : ℕ) → Visits (IsListRead n) handed p row → Visits (IsListRead n) free p row
list_free handed free none p row n v = freed (IsListRead n) (IsListRead n) handed free none (list_becomes n handed free) (list_becomes n None None) p row v

pub leaf_selected : (handed free : Handed) → HandsNone free → (p : Plan) (start : ℕ) (bits : List Bool) (read : LeafRead) → SomeVisit (IsLeafRead read) handed p start bits → SomeVisit (IsLeafRead read) free p start bits
leaf_selected handed free none p start bits read r = (r.0, r.1, leaf_free handed free none p (start + r.0) read r.2)

pub list_selected : (handed free : Handed) → HandsNone free → (p : Plan) (start : ℕ) (bits : List Bool) (n : ℕ) → SomeVisit (IsListRead n) handed p start bits → SomeVisit (IsListRead n) free p start bits
list_selected handed free none p start bits n r = (r.0, r.1, list_free handed free none p (start + r.0) n r.2)

-- ---- faults over values

-- each row is worth the same
abbrev pub SameValues : Leaves → ℕ → Handed → Handed → Type 0
SameValues leaves offset handed free = (p : Plan) (row : ℕ) → row_value leaves handed offset p row ≡ row_value leaves free offset p row

pub served_none : (leaves : Leaves) (offset : ℕ) (free : Handed) → HandsNone free → (p : Plan) (row : ℕ) → row_value leaves free offset p row ≡ derived leaves (plan_derivation offset p row)
served_none leaves offset free none p row = ap (derived leaves) (none_served (values_for free) none (plan_derivation offset p row))

pub free_same : (leaves : Leaves) (offset : ℕ) (free other : Handed) → HandsNone free → HandsNone other → SameValues leaves offset free other
free_same leaves offset free other none nothing p row = served_none leaves offset free none p row ∙ sym (served_none leaves offset other nothing p row)

-- a code that is neither null nor the place of one of so many values
abbrev pub IsNoPlace : ℕ → Option Datum → Type 0
IsNoPlace rows code = IsSomeAnd code (λ c. ¬ (IsPlaceAmong rows c))

-- a value over which the expression is a fault
abbrev pub IsFaultAt : Plan → Term → Option Datum → Type 0
IsFaultAt child e value = IsSomeAnd value (λ v. meaning (plan_head child).dtype no_bound e v 0 ≡ None)

pub code_becomes : (leaves : Leaves) (offset n at : ℕ) (handed free : Handed) → SameValues leaves offset handed free → Becomes (HasBadCode leaves offset n at) (HasBadCode leaves offset n at) handed free
code_becomes leaves offset n at handed free same (no_plan head) row v = absurd v
code_becomes leaves offset n at handed free same (concat_plan head children) row v = absurd v
code_becomes leaves offset n at handed free same (eval_plan head e child) row v = absurd v
code_becomes leaves offset n at handed free same (filter_plan head child) row v = absurd v
code_becomes leaves offset n at handed free same (pack_plan head children validity) row v = absurd v
code_becomes leaves offset n at handed free same (take_plan head codes values) row v = inl (v.0, v.1, subst (IsNoPlace (plan_head values).rows) (same codes row) v.2)
code_becomes leaves offset n at handed free same (share_plan head child) row v = absurd v
code_becomes leaves offset n at handed free same (list_plan head elements offsets validity) row v = absurd v
code_becomes leaves offset n at handed free same (row_idx_plan head) row v = absurd v
code_becomes leaves offset n at handed free same (scan_plan head segment coding) row v = absurd v
code_becomes leaves offset n at handed free same (zoned_plan head zones content table) row v = absurd v
code_becomes leaves offset n at handed free same (pruning_plan head pruning table) row v = absurd v

pub fault_becomes : (leaves : Leaves) (offset at : ℕ) (handed free : Handed) → SameValues leaves offset handed free → Becomes (HasEvalFault leaves offset at) (HasEvalFault leaves offset at) handed free
fault_becomes leaves offset at handed free same (no_plan head) row v = absurd v
fault_becomes leaves offset at handed free same (concat_plan head children) row v = absurd v
fault_becomes leaves offset at handed free same (eval_plan head e child) row v = inl (v.0, subst (IsFaultAt child e) (same child row) v.1)
fault_becomes leaves offset at handed free same (filter_plan head child) row v = absurd v
fault_becomes leaves offset at handed free same (pack_plan head children validity) row v = absurd v
fault_becomes leaves offset at handed free same (take_plan head codes values) row v = absurd v
fault_becomes leaves offset at handed free same (share_plan head child) row v = absurd v
fault_becomes leaves offset at handed free same (list_plan head elements offsets validity) row v = absurd v
fault_becomes leaves offset at handed free same (row_idx_plan head) row v = absurd v
fault_becomes leaves offset at handed free same (scan_plan head segment coding) row v = absurd v
fault_becomes leaves offset at handed free same (zoned_plan head zones content table) row v = absurd v
fault_becomes leaves offset at handed free same (pruning_plan head pruning table) row v = absurd v

pub none_same : (leaves : Leaves) (offset : ℕ) → SameValues leaves offset None None
none_same leaves offset p row = refl

-- ---- causes

-- whatever hands in nothing, the causes are the same
pub free_cause : (leaves : Leaves) (free other : Handed) → HandsNone free → HandsNone other → (offset : ℕ) (p : Plan) (start : ℕ) (bits : List Bool) (error : StepError) → HasCause leaves free offset p start bits error → HasCause leaves other offset p start bits error
free_cause leaves free other none nothing offset p start bits (Unsupported list) h = list_selected free other nothing p start bits (number_of list) h
free_cause leaves free other none nothing offset p start bits (BadSegment segment) h = h
free_cause leaves free other none nothing offset p start bits (BadCode take at) h =
    let T : Test = HasBadCode leaves offset (number_of take) at in
    (h.0, h.1, freed T T free other nothing (code_becomes leaves offset (number_of take) at free other (free_same leaves offset free other none nothing)) (code_becomes leaves offset (number_of take) at None None (none_same leaves offset)) p (start + h.0) h.2)
free_cause leaves free other none nothing offset p start bits (EvalFault at) h =
    let T : Test = HasEvalFault leaves offset at in
    (h.0, h.1, freed T T free other nothing (fault_becomes leaves offset at free other (free_same leaves offset free other none nothing)) (fault_becomes leaves offset at None None (none_same leaves offset)) p (start + h.0) h.2)
free_cause leaves free other none nothing offset p start bits Memory h = tt

-- nothing inside whole values is seen where values are handed in
not_inside : (P : Test) (given : GivenValues) (free : Handed) → Becomes (Inside P) P (Some given) free
not_inside P given free p row v = absurd v

-- a cause inside whole values is one whatever was handed in
pub inside_cause : (leaves : Leaves) (given : GivenValues) (free : Handed) → HandsNone free → (offset : ℕ) (p : Plan) (start : ℕ) (bits : List Bool) (error : StepError) → HasInsideCause leaves (Some given) offset p start bits error → HasCause leaves free offset p start bits error
inside_cause leaves given free none offset p start bits (Unsupported list) h =
    let T : Test = IsListRead (number_of list) in
    (h.0, h.1, freed (Inside T) T (Some given) free none (not_inside T given free) (list_becomes (number_of list) None None) p (start + h.0) h.2)
inside_cause leaves given free none offset p start bits (BadSegment segment) h = h
inside_cause leaves given free none offset p start bits (BadCode take at) h =
    let T : Test = HasBadCode leaves offset (number_of take) at in
    (h.0, h.1, freed (Inside T) T (Some given) free none (not_inside T given free) (code_becomes leaves offset (number_of take) at None None (none_same leaves offset)) p (start + h.0) h.2)
inside_cause leaves given free none offset p start bits (EvalFault at) h =
    let T : Test = HasEvalFault leaves offset at in
    (h.0, h.1, freed (Inside T) T (Some given) free none (not_inside T given free) (fault_becomes leaves offset at None None (none_same leaves offset)) p (start + h.0) h.2)
inside_cause leaves given free none offset p start bits Memory h = tt
