-- Plans that have as many rows as what they are over, where they give its rows one by one.
use Rattle.std.specs.Prelude.{◌≡◌, ℕ}
use Rattle.vx_plan.specs.Plans.{Plan, no_plan, concat_plan, eval_plan, filter_plan, pack_plan, take_plan, share_plan, list_plan, row_idx_plan, scan_plan, zoned_plan, pruning_plan, Plans, no_plans, plan, PlanValidity, all_valid, valid_as, plan_head}

abbrev mutual
  pub HasFittingRows : Plan → Type 0
  HasFittingRows (no_plan head) = Unit {0}
  HasFittingRows (concat_plan head children) = HaveFittingRows children
  HasFittingRows (eval_plan head e child) = ((plan_head child).rows ≡ head.rows) × HasFittingRows child
  HasFittingRows (filter_plan head child) = ((plan_head child).rows ≡ head.rows) × HasFittingRows child
  HasFittingRows (pack_plan head children validity) = FieldsHaveRows head.rows children × ValidityHasRows head.rows validity
  HasFittingRows (take_plan head codes values) = ((plan_head codes).rows ≡ head.rows) × HasFittingRows codes × HasFittingRows values
  HasFittingRows (share_plan head child) = ((plan_head child).rows ≡ head.rows) × HasFittingRows child
  HasFittingRows (list_plan head elements offsets validity) = Unit {0}
  HasFittingRows (row_idx_plan head) = Unit {0}
  HasFittingRows (scan_plan head segment coding) = Unit {0}
  HasFittingRows (zoned_plan head zones content table) = ((plan_head content).rows ≡ head.rows) × HasFittingRows content
  HasFittingRows (pruning_plan head pruning table) = HasFittingRows table

  pub HaveFittingRows : Plans → Type 0
  HaveFittingRows no_plans = Unit {0}
  HaveFittingRows (plan first rest) = HasFittingRows first × HaveFittingRows rest

  -- each has so many rows
  pub FieldsHaveRows : ℕ → Plans → Type 0
  FieldsHaveRows rows no_plans = Unit {0}
  FieldsHaveRows rows (plan first rest) = ((plan_head first).rows ≡ rows) × HasFittingRows first × FieldsHaveRows rows rest

  pub ValidityHasRows : ℕ → PlanValidity → Type 0
  ValidityHasRows rows all_valid = Unit {0}
  ValidityHasRows rows (valid_as validity) = ((plan_head validity).rows ≡ rows) × HasFittingRows validity
