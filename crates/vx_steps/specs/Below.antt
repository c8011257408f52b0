-- What stands in a plan, and what stands below its takes.
use Rattle.std.specs.Prelude.{◌⊎◌}
use Rattle.vx_plan.specs.Plans.{Plan, no_plan, concat_plan, eval_plan, filter_plan, pack_plan, take_plan, share_plan, list_plan, row_idx_plan, scan_plan, zoned_plan, pruning_plan, Plans, no_plans, plan, PlanValidity, all_valid, valid_as}

-- P of the plan, or of some plan below it, whether or not a row is derived from that
abbrev mutual
  pub StandsIn : (Plan → Type 0) → Plan → Type 0
  StandsIn P (no_plan head) = P (no_plan head)
  StandsIn P (concat_plan head children) = P (concat_plan head children) ⊎ StandsAmong P children
  StandsIn P (eval_plan head e child) = P (eval_plan head e child) ⊎ StandsIn P child
  StandsIn P (filter_plan head child) = P (filter_plan head child) ⊎ StandsIn P child
  StandsIn P (pack_plan head children validity) = P (pack_plan head children validity) ⊎ (StandsAmong P children ⊎ StandsInValidity P validity)
  StandsIn P (take_plan head codes values) = P (take_plan head codes values) ⊎ (StandsIn P codes ⊎ StandsIn P values)
  StandsIn P (share_plan head child) = P (share_plan head child) ⊎ StandsIn P child
  StandsIn P (list_plan head elements offsets validity) = P (list_plan head elements offsets validity) ⊎ (StandsIn P elements ⊎ (StandsIn P offsets ⊎ StandsInValidity P validity))
  StandsIn P (row_idx_plan head) = P (row_idx_plan head)
  StandsIn P (scan_plan head segment coding) = P (scan_plan head segment coding)
  StandsIn P (zoned_plan head zones content table) = P (zoned_plan head zones content table) ⊎ (StandsIn P content ⊎ StandsIn P table)
  StandsIn P (pruning_plan head pruning table) = P (pruning_plan head pruning table) ⊎ StandsIn P table

  pub StandsAmong : (Plan → Type 0) → Plans → Type 0
  StandsAmong P no_plans = ⊥
  StandsAmong P (plan first rest) = StandsIn P first ⊎ StandsAmong P rest

  pub StandsInValidity : (Plan → Type 0) → PlanValidity → Type 0
  StandsInValidity P all_valid = ⊥
  StandsInValidity P (valid_as validity) = StandsIn P validity

abbrev pub IsSharePlan : Plan → Type 0
IsSharePlan (share_plan head child) = Unit {0}
IsSharePlan p = ⊥

abbrev pub IsEvalPlan : Plan → Type 0
IsEvalPlan (eval_plan head e child) = Unit {0}
IsEvalPlan p = ⊥

-- a take, in whose codes or values an expression stands
abbrev pub IsTakeOverEval : Plan → Type 0
IsTakeOverEval (take_plan head codes values) = StandsIn IsEvalPlan codes ⊎ StandsIn IsEvalPlan values
IsTakeOverEval p = ⊥

-- no share stands in the plan
abbrev pub HasNoShare : Plan → Type 0
HasNoShare p = ¬ (StandsIn IsSharePlan p)

-- no expression stands below a take of the plan
abbrev pub HasNoEvalBelowTake : Plan → Type 0
HasNoEvalBelowTake p = ¬ (StandsIn IsTakeOverEval p)
