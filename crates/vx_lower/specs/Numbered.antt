-- The numbers of a plan that is appended to a table: children first, in their order, and each plan after its
-- children.
use Rattle.std.specs.Prelude.{◌≡◌, ℕ, ◌+◌, List, [], ◌∷◌, ◌++◌, length, map}
use Rattle.std.specs.List.{AllByRecursion}
use Rattle.vx_plan.specs.Kinds.{IsRowIdx}
use Rattle.vx_plan.specs.Nodes.{Node}
use Rattle.vx_rows.specs.Heads.{Head}
use Rattle.vx_plan.specs.Plans.{Plan, no_plan, concat_plan, eval_plan, filter_plan, pack_plan, take_plan, share_plan, list_plan, row_idx_plan, scan_plan, zoned_plan, pruning_plan, Plans, no_plans, plan, PlanValidity, all_valid, valid_as, plan_at}
use Rattle.vx_plan.specs.Tables.{AreIn, IsGoodTable}
use Rattle.vx_lower.specs.Sizes.{plan_size, plans_size, plan_validity_size}

abbrev pub head_with : ℕ → Head → Head
head_with number head = record { number = number; dtype = head.dtype; rows = head.rows }

-- the plan with the numbers from the first one on
abbrev mutual
  pub numbered : ℕ → Plan → Plan
  numbered first (no_plan head) = no_plan (head_with first head)
  numbered first (concat_plan head children) = concat_plan (head_with (first + plans_size children) head) (each_numbered first children)
  numbered first (eval_plan head e child) = eval_plan (head_with (first + plan_size child) head) e (numbered first child)
  numbered first (filter_plan head child) = filter_plan (head_with (first + plan_size child) head) (numbered first child)
  numbered first (pack_plan head children validity) =
      pack_plan (head_with (first + (plans_size children + plan_validity_size validity)) head)
      (each_numbered first children) (validity_numbered (first + plans_size children) validity)
  numbered first (take_plan head codes values) =
      take_plan (head_with (first + (plan_size codes + plan_size values)) head)
      (numbered first codes) (numbered (first + plan_size codes) values)
  numbered first (share_plan head child) = share_plan (head_with (first + plan_size child) head) (numbered first child)
  numbered first (list_plan head elements offsets validity) =
      list_plan (head_with (first + (plan_size elements + (plan_size offsets + plan_validity_size validity))) head)
      (numbered first elements) (numbered (first + plan_size elements) offsets)
      (validity_numbered (first + plan_size elements + plan_size offsets) validity)
  numbered first (row_idx_plan head) = row_idx_plan (head_with first head)
  numbered first (scan_plan head segment coding) = scan_plan (head_with first head) segment coding
  numbered first (zoned_plan head zones content table) =
      zoned_plan (head_with (first + (plan_size content + plan_size table)) head) zones
      (numbered first content) (numbered (first + plan_size content) table)
  numbered first (pruning_plan head pruning table) = pruning_plan (head_with (first + plan_size table) head) pruning (numbered first table)

  pub each_numbered : ℕ → Plans → Plans
  each_numbered first no_plans = no_plans
  each_numbered first (plan one rest) = plan (numbered first one) (each_numbered (first + plan_size one) rest)

  pub validity_numbered : ℕ → PlanValidity → PlanValidity
  validity_numbered first all_valid = all_valid
  validity_numbered first (valid_as validity) = valid_as (numbered first validity)

-- none of the nodes is that of row numbers
abbrev pub NumberNoRows : List Node → Type 0
NumberNoRows nodes = AllByRecursion (λ node. ¬ (IsRowIdx node.kind)) nodes

-- The table holds the plan and its parts behind what it held before; the plan is the last, and has this number. None of
-- them numbers rows.
pub record AddsPlan (old new : List Node) (p : Plan) (number : ℕ) : Type 0 where
  pub more : List Node
  pub appended : new ≡ old ++ more
  pub count : length new ≡ length old + plan_size p
  pub last : number + 1 ≡ length new
  pub plan_is : plan_at new number ≡ numbered (length old) p
  pub unnumbered : NumberNoRows more
  pub good : IsGoodTable new

-- ---- plans in a row

abbrev pub list_size : List Plan → ℕ
list_size [] = 0
list_size (p ∷ ps) = plan_size p + list_size ps

abbrev pub list_numbered : ℕ → List Plan → List Plan
list_numbered first [] = []
list_numbered first (p ∷ ps) = numbered first p ∷ list_numbered (first + plan_size p) ps

-- The table holds these plans, one after another, and their parts behind what it held before; they have these
-- numbers. None of them numbers rows.
pub record AddsPlans (old new : List Node) (ps : List Plan) (numbers : List ℕ) : Type 0 where
  pub more : List Node
  pub appended : new ≡ old ++ more
  pub count : length new ≡ length old + list_size ps
  pub known : AreIn new numbers
  pub plans_are : map (plan_at new) numbers ≡ list_numbered (length old) ps
  pub unnumbered : NumberNoRows more
  pub good : IsGoodTable new
