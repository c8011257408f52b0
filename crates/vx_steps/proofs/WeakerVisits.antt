-- What is visited by one test is visited by a weaker one, and where nothing is handed in.
use Rattle.std.proofs.Common.{ℕ, ◌-◌, inl, inr, None, refl}
use Rattle.std.specs.Prelude.{nat_lt}
use Rattle.vx_plan.specs.Plans.{Plan, no_plan, concat_plan, eval_plan, filter_plan, pack_plan, take_plan, share_plan, list_plan, row_idx_plan, scan_plan, zoned_plan, pruning_plan, Plans, no_plans, plan, PlanValidity, all_valid, valid_as, plan_head}
use Rattle.vx_steps.specs.declared.leaf_reads.LeafRead.{LeafRead}
use Rattle.vx_steps.specs.Given.{Handed}
use Rattle.vx_steps.specs.Leavings.{IsLeafOf}
use Rattle.vx_steps.specs.Visits.{Test, Visits, VisitsIn, VisitsField, VisitsValidity, IsLeafRead}
use Rattle.vx_steps.proofs.PlacedVisits.{match_mapped}

-- with nothing handed in, the second test sees what the first one sees
abbrev pub Weakens : Test → Test → Type 0
Weakens P Q = (handed : Handed) (p : Plan) (row : ℕ) → P handed p row → Q None p row

mutual
  pub weaker_visit : (P Q : Test) → Weakens P Q → (handed : Handed) (p : Plan) (row : ℕ) → Visits P handed p row → Visits Q None p row
  weaker_visit P Q weak handed (no_plan head) row v = weak handed (no_plan head) row v
  weaker_visit P Q weak handed (concat_plan head children) row (inl v) = inl (weak handed (concat_plan head children) row v)
  weaker_visit P Q weak handed (concat_plan head children) row (inr v) = inr (weaker_in P Q weak handed children row v)
  weaker_visit P Q weak handed (eval_plan head e child) row (inl v) = inl (weak handed (eval_plan head e child) row v)
  weaker_visit P Q weak handed (eval_plan head e child) row (inr v) = inr (weaker_visit P Q weak handed child row v)
  weaker_visit P Q weak handed (filter_plan head child) row (inl v) = inl (weak handed (filter_plan head child) row v)
  weaker_visit P Q weak handed (filter_plan head child) row (inr v) = inr (weaker_visit P Q weak handed child row v)
  weaker_visit P Q weak handed (pack_plan head children validity) row (inl v) = inl (weak handed (pack_plan head children validity) row v)
  weaker_visit P Q weak handed (pack_plan head children validity) row (inr (inl v)) = inr (inl (weaker_field P Q weak handed children row v))
  weaker_visit P Q weak handed (pack_plan head children validity) row (inr (inr v)) = inr (inr (weaker_validity P Q weak handed validity row v))
  weaker_visit P Q weak handed (take_plan head codes values) row (inl v) = inl (weak handed (take_plan head codes values) row v)
  weaker_visit P Q weak handed (take_plan head codes values) row (inr (inl v)) = inr (inl (weaker_visit P Q weak handed codes row v))
  weaker_visit P Q weak handed (take_plan head codes values) row (inr (inr (none, (other, less, v)))) = inr (inr (refl, (other, less, weaker_visit P Q weak None values other v)))
  weaker_visit P Q weak handed (share_plan head child) row (inl v) = inl (weak handed (share_plan head child) row v)
  weaker_visit P Q weak handed (share_plan head child) row (inr (none, (other, less, v))) = inr (refl, (other, less, weaker_visit P Q weak None child other v))
  weaker_visit P Q weak handed (list_plan head elements offsets validity) row v = weak handed (list_plan head elements offsets validity) row v
  weaker_visit P Q weak handed (row_idx_plan head) row v = weak handed (row_idx_plan head) row v
  weaker_visit P Q weak handed (scan_plan head segment coding) row v = weak handed (scan_plan head segment coding) row v
  weaker_visit P Q weak handed (zoned_plan head zones content table) row (inl v) = inl (weak handed (zoned_plan head zones content table) row v)
  weaker_visit P Q weak handed (zoned_plan head zones content table) row (inr v) = inr (weaker_visit P Q weak handed content row v)
  weaker_visit P Q weak handed (pruning_plan head pruning table) row (inl v) = inl (weak handed (pruning_plan head pruning table) row v)
  weaker_visit P Q weak handed (pruning_plan head pruning table) row (inr (other, less, v)) = inr (other, less, weaker_visit P Q weak handed table other v)

  weaker_in : (P Q : Test) → Weakens P Q → (handed : Handed) (ps : Plans) (row : ℕ) → VisitsIn P handed ps row → VisitsIn Q None ps row
  weaker_in P Q weak handed no_plans row v = v
  weaker_in P Q weak handed (plan first rest) row v =
      match_mapped (nat_lt row (plan_head first).rows) (Visits P handed first row) (VisitsIn P handed rest (row - (plan_head first).rows)) (Visits Q None first row) (VisitsIn Q None rest (row - (plan_head first).rows))
      (weaker_visit P Q weak handed first row) (weaker_in P Q weak handed rest (row - (plan_head first).rows)) v

  weaker_field : (P Q : Test) → Weakens P Q → (handed : Handed) (ps : Plans) (row : ℕ) → VisitsField P handed ps row → VisitsField Q None ps row
  weaker_field P Q weak handed no_plans row v = v
  weaker_field P Q weak handed (plan first rest) row (inl v) = inl (weaker_visit P Q weak handed first row v)
  weaker_field P Q weak handed (plan first rest) row (inr v) = inr (weaker_field P Q weak handed rest row v)

  weaker_validity : (P Q : Test) → Weakens P Q → (handed : Handed) (validity : PlanValidity) (row : ℕ) → VisitsValidity P handed validity row → VisitsValidity Q None validity row
  weaker_validity P Q weak handed all_valid row v = v
  weaker_validity P Q weak handed (valid_as validity) row v = weaker_visit P Q weak handed validity row v

pub same_read : (read : LeafRead) → Weakens (IsLeafRead read) (IsLeafRead read)
same_read read handed (no_plan head) row v = v
same_read read handed (concat_plan head children) row v = v
same_read read handed (eval_plan head e child) row v = v
same_read read handed (filter_plan head child) row v = v
same_read read handed (pack_plan head children validity) row v = v
same_read read handed (take_plan head codes values) row v = v
same_read read handed (share_plan head child) row v = v
same_read read handed (list_plan head elements offsets validity) row v = v
same_read read handed (row_idx_plan head) row v = v
same_read read handed (scan_plan head segment coding) row v = v
same_read read handed (zoned_plan head zones content table) row v = v
same_read read handed (pruning_plan head pruning table) row v = v

pub leaf_read : (read : LeafRead) → Weakens (IsLeafRead read) (IsLeafOf read.leaf)
leaf_read read handed (no_plan head) row v = v
leaf_read read handed (concat_plan head children) row v = v
leaf_read read handed (eval_plan head e child) row v = v
leaf_read read handed (filter_plan head child) row v = v
leaf_read read handed (pack_plan head children validity) row v = v
leaf_read read handed (take_plan head codes values) row v = v
leaf_read read handed (share_plan head child) row v = v
leaf_read read handed (list_plan head elements offsets validity) row v = v
leaf_read read handed (row_idx_plan head) row v = v
leaf_read read handed (scan_plan head segment coding) row v = v.0
leaf_read read handed (zoned_plan head zones content table) row v = v
leaf_read read handed (pruning_plan head pruning table) row v = v
