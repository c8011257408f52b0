-- The numbers that the parts of a plan had before a table gave them new ones.
use Rattle.std.specs.Prelude.{ℕ, ◌-◌, List, [], ◌∷◌, ◌++◌, slice_index_or}
use Rattle.vx_plan.specs.Plans.{Plan, no_plan, concat_plan, eval_plan, filter_plan, pack_plan, take_plan, share_plan, list_plan, row_idx_plan, scan_plan, zoned_plan, pruning_plan, Plans, no_plans, plan, PlanValidity, all_valid, valid_as}

-- the numbers of a plan and its parts, in the order of a table: children first, and each plan after its children
abbrev mutual
  pub numbers_of : Plan → List ℕ
  numbers_of (no_plan head) = head.number ∷ []
  numbers_of (concat_plan head children) = each_numbers_of children ++ head.number ∷ []
  numbers_of (eval_plan head e child) = numbers_of child ++ head.number ∷ []
  numbers_of (filter_plan head child) = numbers_of child ++ head.number ∷ []
  numbers_of (pack_plan head children validity) = each_numbers_of children ++ (validity_numbers_of validity ++ head.number ∷ [])
  numbers_of (take_plan head codes values) = numbers_of codes ++ (numbers_of values ++ head.number ∷ [])
  numbers_of (share_plan head child) = numbers_of child ++ head.number ∷ []
  numbers_of (list_plan head elements offsets validity) =
      numbers_of elements ++ (numbers_of offsets ++ (validity_numbers_of validity ++ head.number ∷ []))
  numbers_of (row_idx_plan head) = head.number ∷ []
  numbers_of (scan_plan head segment coding) = head.number ∷ []
  numbers_of (zoned_plan head zones content table) = numbers_of content ++ (numbers_of table ++ head.number ∷ [])
  numbers_of (pruning_plan head pruning table) = numbers_of table ++ head.number ∷ []

  pub each_numbers_of : Plans → List ℕ
  each_numbers_of no_plans = []
  each_numbers_of (plan one rest) = numbers_of one ++ each_numbers_of rest

  pub validity_numbers_of : PlanValidity → List ℕ
  validity_numbers_of all_valid = []
  validity_numbers_of (valid_as validity) = numbers_of validity

-- the number that a part had, by its number in a table that numbers the plan from the first one on
abbrev pub old_number : ℕ → Plan → ℕ → ℕ
old_number first p n = slice_index_or (numbers_of p) (n - first) 0
