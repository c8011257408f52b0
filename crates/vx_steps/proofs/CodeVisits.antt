-- The bad codes that a row visits are those that it reads.
use Rattle.std.proofs.Common.{◌≡◌, ℕ, zero, suc, ◌+◌, ◌-◌, ◌<◌, inl, inr, List, [], ◌∷◌, Option, Some, None, length, refl, sym, ap, ◌∙◌, subst}
use Rattle.std.specs.Prelude.{nat_lt, IfSome, IsSomeAnd}
use Rattle.vx_base.specs.Data.{Datum}
use Rattle.vx_rows.specs.Derivations.{Derivation, Leaves, derivation_count, each_row}
use Rattle.vx_rows.specs.Reads.{Way, a_code, code_row, CodeRow, IsPlaceAmong}
use Rattle.vx_rows.specs.Given.{all_given, values_with, with_given}
use Rattle.vx_rows.specs.Heads.{Head}
use Rattle.vx_plan.specs.FittingRows.{HasFittingRows}
use Rattle.vx_plan.specs.Plans.{Plan, no_plan, concat_plan, eval_plan, filter_plan, pack_plan, take_plan, share_plan, list_plan, row_idx_plan, scan_plan, zoned_plan, pruning_plan, Plans, no_plans, plan, PlanValidity, all_valid, valid_as, plan_head}
use Rattle.vx_plan.specs.PlanRows.{plan_derivation}
use Rattle.vx_steps.specs.Given.{Handed, row_value, values_for}
use Rattle.vx_steps.specs.Laws.{GivenFits, GivenFitsEach, GivenFitsValidity, IsBadCodeAt}
use Rattle.vx_steps.specs.Visits.{Test, Visits, VisitsIn, VisitsField, VisitsValidity, HasBadCode}
use Rattle.vx_steps.proofs.HandedRows.{none_fits}
use Rattle.vx_steps.proofs.ReadVisits.{IsOwn, found_visit}
use Rattle.vx_steps.proofs.VisitedReads.{FindsOwn, RowReads, visit_found}
use Rattle.vx_steps.proofs.PlacedVisits.{match_mapped}

-- ---- one visit for another

-- where what is handed in fits, one is the other
abbrev Turns : Test → Test → Type 0
Turns P Q = (handed : Handed) (p : Plan) (row : ℕ) → GivenFits handed p → P handed p row → Q handed p row

mutual
  turned : (P Q : Test) → Turns P Q → (handed : Handed) (p : Plan) (row : ℕ) → GivenFits handed p → Visits P handed p row → Visits Q handed p row
  turned P Q f handed (no_plan head) row fits v = f handed (no_plan head) row fits v
  turned P Q f handed (concat_plan head children) row fits (inl v) = inl (f handed (concat_plan head children) row fits v)
  turned P Q f handed (concat_plan head children) row fits (inr v) = inr (turned_in P Q f handed children row fits v)
  turned P Q f handed (eval_plan head e child) row fits (inl v) = inl (f handed (eval_plan head e child) row fits v)
  turned P Q f handed (eval_plan head e child) row fits (inr v) = inr (turned P Q f handed child row fits v)
  turned P Q f handed (filter_plan head child) row fits (inl v) = inl (f handed (filter_plan head child) row fits v)
  turned P Q f handed (filter_plan head child) row fits (inr v) = inr (turned P Q f handed child row fits v)
  turned P Q f handed (pack_plan head children validity) row fits (inl v) = inl (f handed (pack_plan head children validity) row fits v)
  turned P Q f handed (pack_plan head children validity) row fits (inr (inl v)) = inr (inl (turned_field P Q f handed children row fits.0 v))
  turned P Q f handed (pack_plan head children validity) row fits (inr (inr v)) = inr (inr (turned_validity P Q f handed validity row fits.1 v))
  turned P Q f handed (take_plan head codes values) row fits (inl v) = inl (f handed (take_plan head codes values) row fits v)
  turned P Q f handed (take_plan head codes values) row fits (inr (inl v)) = inr (inl (turned P Q f handed codes row fits.1 v))
  turned P Q f handed (take_plan head codes values) row fits (inr (inr (none, (other, less, v)))) = inr (inr (none, (other, less, turned P Q f None values other (none_fits values) v)))
  turned P Q f handed (share_plan head child) row fits (inl v) = inl (f handed (share_plan head child) row fits v)
  turned P Q f handed (share_plan head child) row fits (inr (none, (other, less, v))) = inr (none, (other, less, turned P Q f None child other (none_fits child) v))
  turned P Q f handed (list_plan head elements offsets validity) row fits v = f handed (list_plan head elements offsets validity) row fits v
  turned P Q f handed (row_idx_plan head) row fits v = f handed (row_idx_plan head) row fits v
  turned P Q f handed (scan_plan head segment coding) row fits v = f handed (scan_plan head segment coding) row fits v
  turned P Q f handed (zoned_plan head zones content table) row fits (inl v) = inl (f handed (zoned_plan head zones content table) row fits v)
  turned P Q f handed (zoned_plan head zones content table) row fits (inr v) = inr (turned P Q f handed content row fits v)
  turned P Q f handed (pruning_plan head pruning table) row fits (inl v) = inl (f handed (pruning_plan head pruning table) row fits v)
  turned P Q f handed (pruning_plan head pruning table) row fits (inr (other, less, v)) = inr (other, less, turned P Q f handed table other fits v)

  turned_in : (P Q : Test) → Turns P Q → (handed : Handed) (ps : Plans) (row : ℕ) → GivenFitsEach handed ps → VisitsIn P handed ps row → VisitsIn Q handed ps row
  turned_in P Q f handed no_plans row fits v = v
  turned_in P Q f handed (plan first rest) row fits v =
      match_mapped (nat_lt row (plan_head first).rows) (Visits P handed first row) (VisitsIn P handed rest (row - (plan_head first).rows)) (Visits Q handed first row) (VisitsIn Q handed rest (row - (plan_head first).rows))
      (turned P Q f handed first row fits.0) (turned_in P Q f handed rest (row - (plan_head first).rows) fits.1) v

  turned_field : (P Q : Test) → Turns P Q → (handed : Handed) (ps : Plans) (row : ℕ) → GivenFitsEach handed ps → VisitsField P handed ps row → VisitsField Q handed ps row
  turned_field P Q f handed no_plans row fits v = v
  turned_field P Q f handed (plan first rest) row fits (inl v) = inl (turned P Q f handed first row fits.0 v)
  turned_field P Q f handed (plan first rest) row fits (inr v) = inr (turned_field P Q f handed rest row fits.1 v)

  turned_validity : (P Q : Test) → Turns P Q → (handed : Handed) (validity : PlanValidity) (row : ℕ) → GivenFitsValidity handed validity → VisitsValidity P handed validity row → VisitsValidity Q handed validity row
  turned_validity P Q f handed all_valid row fits v = v
  turned_validity P Q f handed (valid_as validity) row fits v = turned P Q f handed validity row fits v

-- ---- as many values

rows_counted : (f : ℕ → Derivation) (from count : ℕ) → derivation_count (each_row f from count) ≡ count
rows_counted f from zero = refl
rows_counted f from (suc count) = ap suc (rows_counted f (from + 1) count)

given_counted : (vs : List Datum) → derivation_count (all_given vs) ≡ length vs
given_counted [] = refl
given_counted (v ∷ vs) = ap suc (given_counted vs)

values_counted : (handed : Option (List Datum)) (f : ℕ → Derivation) (rows : ℕ) → IfSome handed (λ vs. length vs ≡ rows) → derivation_count (values_with handed (each_row f 0 rows)) ≡ rows
values_counted None f rows is = rows_counted f 0 rows
values_counted (Some vs) f rows is = given_counted vs ∙ is

-- ---- bad codes

-- the code of a take's row, as it is read
abbrev read_code : Handed → ℕ → Head → Plan → Plan → ℕ → CodeRow
read_code handed offset head codes values row = code_row head.number row (with_given (values_for handed) (plan_derivation offset codes row)) (values_with (values_for handed head.number) (each_row (plan_derivation offset values) 0 (plan_head values).rows))

-- the row of a take has such a bad code, as it is read
abbrev ReadsBadCode : Leaves → ℕ → ℕ → ℕ → Test
ReadsBadCode leaves offset n at handed (take_plan head codes values) row = IsBadCodeAt leaves n at (a_code (read_code handed offset head codes values row))
ReadsBadCode leaves offset n at handed p row = ⊥

-- the code is none of so many
abbrev IsNone : Leaves → ℕ → Handed → Plan → ℕ → ℕ → Type 0
IsNone leaves offset handed codes row count = IsSomeAnd (row_value leaves handed offset codes row) (λ code. ¬ (IsPlaceAmong count code))

into : (leaves : Leaves) (offset n at : ℕ) → Turns (HasBadCode leaves offset n at) (ReadsBadCode leaves offset n at)
into leaves offset n at handed (no_plan head) row fits v = absurd v
into leaves offset n at handed (concat_plan head children) row fits v = absurd v
into leaves offset n at handed (eval_plan head e child) row fits v = absurd v
into leaves offset n at handed (filter_plan head child) row fits v = absurd v
into leaves offset n at handed (pack_plan head children validity) row fits v = absurd v
into leaves offset n at handed (take_plan head codes values) row fits v =
    (v.0, v.1, subst (IsNone leaves offset handed codes row) (sym (values_counted (values_for handed head.number) (plan_derivation offset values) (plan_head values).rows fits.0)) v.2)
into leaves offset n at handed (share_plan head child) row fits v = absurd v
into leaves offset n at handed (list_plan head elements offsets validity) row fits v = absurd v
into leaves offset n at handed (row_idx_plan head) row fits v = absurd v
into leaves offset n at handed (scan_plan head segment coding) row fits v = absurd v
into leaves offset n at handed (zoned_plan head zones content table) row fits v = absurd v
into leaves offset n at handed (pruning_plan head pruning table) row fits v = absurd v

back : (leaves : Leaves) (offset n at : ℕ) → Turns (ReadsBadCode leaves offset n at) (HasBadCode leaves offset n at)
back leaves offset n at handed (no_plan head) row fits v = absurd v
back leaves offset n at handed (concat_plan head children) row fits v = absurd v
back leaves offset n at handed (eval_plan head e child) row fits v = absurd v
back leaves offset n at handed (filter_plan head child) row fits v = absurd v
back leaves offset n at handed (pack_plan head children validity) row fits v = absurd v
back leaves offset n at handed (take_plan head codes values) row fits v =
    (v.0, v.1, subst (IsNone leaves offset handed codes row) (values_counted (values_for handed head.number) (plan_derivation offset values) (plan_head values).rows fits.0) v.2)
back leaves offset n at handed (share_plan head child) row fits v = absurd v
back leaves offset n at handed (list_plan head elements offsets validity) row fits v = absurd v
back leaves offset n at handed (row_idx_plan head) row fits v = absurd v
back leaves offset n at handed (scan_plan head segment coding) row fits v = absurd v
back leaves offset n at handed (zoned_plan head zones content table) row fits v = absurd v
back leaves offset n at handed (pruning_plan head pruning table) row fits v = absurd v

code_own : (leaves : Leaves) (offset n at : ℕ) → FindsOwn (ReadsBadCode leaves offset n at) (IsBadCodeAt leaves n at) offset
code_own leaves offset n at handed way (no_plan head) row v = absurd v
code_own leaves offset n at handed way (concat_plan head children) row v = absurd v
code_own leaves offset n at handed way (eval_plan head e child) row v = absurd v
code_own leaves offset n at handed way (filter_plan head child) row v = absurd v
code_own leaves offset n at handed way (pack_plan head children validity) row v = absurd v
code_own leaves offset n at handed way (take_plan head codes values) row v = inl v
code_own leaves offset n at handed way (share_plan head child) row v = absurd v
code_own leaves offset n at handed way (list_plan head elements offsets validity) row v = absurd v
code_own leaves offset n at handed way (row_idx_plan head) row v = absurd v
code_own leaves offset n at handed way (scan_plan head segment coding) row v = absurd v
code_own leaves offset n at handed way (zoned_plan head zones content table) row v = absurd v
code_own leaves offset n at handed way (pruning_plan head pruning table) row v = absurd v

pub code_found : (leaves : Leaves) (handed : Handed) (offset : ℕ) (p : Plan) (way : Way) (row n at : ℕ) → GivenFits handed p → Visits (HasBadCode leaves offset n at) handed p row → RowReads (IsBadCodeAt leaves n at) way handed (plan_derivation offset p row)
code_found leaves handed offset p way row n at fits v =
    visit_found (ReadsBadCode leaves offset n at) (IsBadCodeAt leaves n at) offset (code_own leaves offset n at) handed p way row
    (turned (HasBadCode leaves offset n at) (ReadsBadCode leaves offset n at) (into leaves offset n at) handed p row fits v)

pub code_visit : (leaves : Leaves) (handed : Handed) (offset : ℕ) (p : Plan) (way : Way) (row n at : ℕ) → GivenFits handed p → HasFittingRows p → row < (plan_head p).rows → RowReads (IsBadCodeAt leaves n at) way handed (plan_derivation offset p row) → Visits (HasBadCode leaves offset n at) handed p row
code_visit leaves handed offset p way row n at fits fit less any =
    let v = found_visit P (IsBadCodeAt leaves n at) offset own handed p way row fit less any in
    turned (ReadsBadCode leaves offset n at) (HasBadCode leaves offset n at) (back leaves offset n at) handed p row fits v.1
  where
    P : Unit {0} → Test
    P x = ReadsBadCode leaves offset n at

    own : IsOwn P (IsBadCodeAt leaves n at) offset
    own = record {
      of_cell = λ other head s coding here none. absurd none;
      of_list = λ other head elements offsets validity here none. absurd none;
      of_code = λ other head codes values here is. (tt, is);
    }
