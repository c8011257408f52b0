-- Visits of a plan that know where they stand.
use Rattle.std.proofs.Common.{◌≡◌, ℕ, ◌-◌, ◌⊎◌, inl, inr, None, refl}
use Rattle.std.specs.Prelude.{nat_lt}
use Rattle.vx_plan.specs.Plans.{Plan, no_plan, concat_plan, eval_plan, filter_plan, pack_plan, take_plan, share_plan, list_plan, row_idx_plan, scan_plan, zoned_plan, pruning_plan, Plans, no_plans, plan, PlanValidity, all_valid, valid_as, plan_head}
use Rattle.vx_steps.specs.Below.{StandsIn, StandsAmong, StandsInValidity}
use Rattle.vx_steps.specs.Given.{Handed}
use Rattle.vx_steps.specs.Visits.{Test, Visits, VisitsIn, VisitsField, VisitsValidity}
use Rattle.vx_steps.proofs.Standing.{stands_self}
use Rattle.vx_steps.proofs.PlacedVisits.{match_mapped}

-- what was handed in where the visit stands is what was on top, or nothing
abbrev pub IsFrom : Handed → Handed → Type 0
IsFrom top handed = (handed ≡ top) ⊎ (handed ≡ None)

-- the visited plan stands in the whole one
abbrev pub Within : Handed → Plan → Test → Test
Within top whole P handed p row = P handed p row × IsFrom top handed × StandsIn (λ q. q ≡ p) whole

own : (P : Test) (top : Handed) (whole : Plan) (handed : Handed) (p : Plan) (row : ℕ) → IsFrom top handed → ((q : Plan) → StandsIn (λ r. r ≡ q) p → StandsIn (λ r. r ≡ q) whole) → P handed p row → Within top whole P handed p row
own P top whole handed p row from up v = (v, from, up p (stands_self (λ r. r ≡ p) p refl))

mutual
  pub visit_within : (P : Test) (top : Handed) (whole : Plan) (handed : Handed) (p : Plan) (row : ℕ) → IsFrom top handed → ((q : Plan) → StandsIn (λ r. r ≡ q) p → StandsIn (λ r. r ≡ q) whole) → Visits P handed p row → Visits (Within top whole P) handed p row
  visit_within P top whole handed (no_plan head) row from up v = own P top whole handed (no_plan head) row from up v
  visit_within P top whole handed (concat_plan head children) row from up (inl v) = inl (own P top whole handed (concat_plan head children) row from up v)
  visit_within P top whole handed (concat_plan head children) row from up (inr v) = inr (within_in P top whole handed children row from (λ q s. up q (inr s)) v)
  visit_within P top whole handed (eval_plan head e child) row from up (inl v) = inl (own P top whole handed (eval_plan head e child) row from up v)
  visit_within P top whole handed (eval_plan head e child) row from up (inr v) = inr (visit_within P top whole handed child row from (λ q s. up q (inr s)) v)
  visit_within P top whole handed (filter_plan head child) row from up (inl v) = inl (own P top whole handed (filter_plan head child) row from up v)
  visit_within P top whole handed (filter_plan head child) row from up (inr v) = inr (visit_within P top whole handed child row from (λ q s. up q (inr s)) v)
  visit_within P top whole handed (pack_plan head children validity) row from up (inl v) = inl (own P top whole handed (pack_plan head children validity) row from up v)
  visit_within P top whole handed (pack_plan head children validity) row from up (inr (inl v)) = inr (inl (within_field P top whole handed children row from (λ q s. up q (inr (inl s))) v))
  visit_within P top whole handed (pack_plan head children validity) row from up (inr (inr v)) = inr (inr (within_validity P top whole handed validity row from (λ q s. up q (inr (inr s))) v))
  visit_within P top whole handed (take_plan head codes values) row from up (inl v) = inl (own P top whole handed (take_plan head codes values) row from up v)
  visit_within P top whole handed (take_plan head codes values) row from up (inr (inl v)) = inr (inl (visit_within P top whole handed codes row from (λ q s. up q (inr (inl s))) v))
  visit_within P top whole handed (take_plan head codes values) row from up (inr (inr (none, (other, less, v)))) = inr (inr (none, (other, less, visit_within P top whole None values other (inr refl) (λ q s. up q (inr (inr s))) v)))
  visit_within P top whole handed (share_plan head child) row from up (inl v) = inl (own P top whole handed (share_plan head child) row from up v)
  visit_within P top whole handed (share_plan head child) row from up (inr (none, (other, less, v))) = inr (none, (other, less, visit_within P top whole None child other (inr refl) (λ q s. up q (inr s)) v))
  visit_within P top whole handed (list_plan head elements offsets validity) row from up v = own P top whole handed (list_plan head elements offsets validity) row from up v
  visit_within P top whole handed (row_idx_plan head) row from up v = own P top whole handed (row_idx_plan head) row from up v
  visit_within P top whole handed (scan_plan head segment coding) row from up v = own P top whole handed (scan_plan head segment coding) row from up v
  visit_within P top whole handed (zoned_plan head zones content table) row from up (inl v) = inl (own P top whole handed (zoned_plan head zones content table) row from up v)
  visit_within P top whole handed (zoned_plan head zones content table) row from up (inr v) = inr (visit_within P top whole handed content row from (λ q s. up q (inr (inl s))) v)
  visit_within P top whole handed (pruning_plan head pruning table) row from up (inl v) = inl (own P top whole handed (pruning_plan head pruning table) row from up v)
  visit_within P top whole handed (pruning_plan head pruning table) row from up (inr (other, less, v)) = inr (other, less, visit_within P top whole handed table other from (λ q s. up q (inr s)) v)

  within_in : (P : Test) (top : Handed) (whole : Plan) (handed : Handed) (ps : Plans) (row : ℕ) → IsFrom top handed → ((q : Plan) → StandsAmong (λ r. r ≡ q) ps → StandsIn (λ r. r ≡ q) whole) → VisitsIn P handed ps row → VisitsIn (Within top whole P) handed ps row
  within_in P top whole handed no_plans row from up v = v
  within_in P top whole handed (plan first rest) row from up v =
      match_mapped (nat_lt row (plan_head first).rows) (Visits P handed first row) (VisitsIn P handed rest (row - (plan_head first).rows)) (Visits (Within top whole P) handed first row) (VisitsIn (Within top whole P) handed rest (row - (plan_head first).rows))
      (visit_within P top whole handed first row from (λ q s. up q (inl s))) (within_in P top whole handed rest (row - (plan_head first).rows) from (λ q s. up q (inr s))) v

  within_field : (P : Test) (top : Handed) (whole : Plan) (handed : Handed) (ps : Plans) (row : ℕ) → IsFrom top handed → ((q : Plan) → StandsAmong (λ r. r ≡ q) ps → StandsIn (λ r. r ≡ q) whole) → VisitsField P handed ps row → VisitsField (Within top whole P) handed ps row
  within_field P top whole handed no_plans row from up v = v
  within_field P top whole handed (plan first rest) row from up (inl v) = inl (visit_within P top whole handed first row from (λ q s. up q (inl s)) v)
  within_field P top whole handed (plan first rest) row from up (inr v) = inr (within_field P top whole handed rest row from (λ q s. up q (inr s)) v)

  within_validity : (P : Test) (top : Handed) (whole : Plan) (handed : Handed) (validity : PlanValidity) (row : ℕ) → IsFrom top handed → ((q : Plan) → StandsInValidity (λ r. r ≡ q) validity → StandsIn (λ r. r ≡ q) whole) → VisitsValidity P handed validity row → VisitsValidity (Within top whole P) handed validity row
  within_validity P top whole handed all_valid row from up v = v
  within_validity P top whole handed (valid_as validity) row from up v = visit_within P top whole handed validity row from up v
