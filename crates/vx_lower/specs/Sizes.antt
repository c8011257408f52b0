-- How many nodes a tree and a plan have.
use Rattle.std.specs.Prelude.{ℕ, ◌+◌}
use Rattle.vx_layout.specs.Trees.{Tree, missing, leaf, chunks, fields, dict, lists, zoned, Forest, no_trees, tree, Validity, always, valid_by}
use Rattle.vx_plan.specs.Plans.{Plan, no_plan, concat_plan, eval_plan, filter_plan, pack_plan, take_plan, share_plan, list_plan, row_idx_plan, scan_plan, zoned_plan, pruning_plan, Plans, no_plans, plan, PlanValidity, all_valid, valid_as}

abbrev mutual
  pub tree_size : Tree → ℕ
  tree_size (missing head) = 1
  tree_size (leaf head segment coding) = 1
  tree_size (chunks head forest) = 1 + forest_size forest
  tree_size (fields head forest validity) = 1 + (forest_size forest + validity_size validity)
  tree_size (dict head values codes) = 1 + (tree_size values + tree_size codes)
  tree_size (lists head elements offsets validity) = 1 + (tree_size elements + (tree_size offsets + validity_size validity))
  tree_size (zoned head zones content table) = 1 + (tree_size content + tree_size table)

  pub forest_size : Forest → ℕ
  forest_size no_trees = 0
  forest_size (tree first rest) = tree_size first + forest_size rest

  pub validity_size : Validity → ℕ
  validity_size always = 0
  validity_size (valid_by validity) = tree_size validity

abbrev mutual
  pub plan_size : Plan → ℕ
  plan_size (no_plan head) = 1
  plan_size (concat_plan head children) = 1 + plans_size children
  plan_size (eval_plan head e child) = 1 + plan_size child
  plan_size (filter_plan head child) = 1 + plan_size child
  plan_size (pack_plan head children validity) = 1 + (plans_size children + plan_validity_size validity)
  plan_size (take_plan head codes values) = 1 + (plan_size codes + plan_size values)
  plan_size (share_plan head child) = 1 + plan_size child
  plan_size (list_plan head elements offsets validity) = 1 + (plan_size elements + (plan_size offsets + plan_validity_size validity))
  plan_size (row_idx_plan head) = 1
  plan_size (scan_plan head segment coding) = 1
  plan_size (zoned_plan head zones content table) = 1 + (plan_size content + plan_size table)
  plan_size (pruning_plan head pruning table) = 1 + plan_size table

  pub plans_size : Plans → ℕ
  plans_size no_plans = 0
  plans_size (plan first rest) = plan_size first + plans_size rest

  pub plan_validity_size : PlanValidity → ℕ
  plan_validity_size all_valid = 0
  plan_validity_size (valid_as validity) = plan_size validity
