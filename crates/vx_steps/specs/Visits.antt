-- What a row of a plan visits: the plan itself, and the rows of plans below it that it is derived from. A test sees
-- what was handed in where the visit stands, which is nothing inside whole values, the plan that is visited, and
-- which of its rows.
use Rattle.std.specs.Prelude.{◌≡◌, ℕ, ◌-◌, ◌<◌, ◌⊎◌, nat_lt, Bool, List, Some, None, IsSomeAnd}
use Rattle.std.specs.Bool.{MatchBool}
use Rattle.vx_expr.specs.Meaning.{meaning}
use Rattle.vx_expr.specs.Rows.{no_bound}
use Rattle.vx_rows.specs.Derivations.{Leaves}
use Rattle.vx_rows.specs.Reads.{IsPlaceAmong}
use Rattle.vx_picking.specs.Rows.{SomeRow}
use Rattle.vx_plan.specs.Plans.{Plan, no_plan, concat_plan, eval_plan, filter_plan, pack_plan, take_plan, share_plan, list_plan, row_idx_plan, scan_plan, zoned_plan, pruning_plan, Plans, no_plans, plan, PlanValidity, all_valid, valid_as, plan_head}
use Rattle.vx_steps.specs.declared.leaf_reads.LeafRead.{LeafRead}
use Rattle.vx_steps.specs.Given.{Handed, values_for, row_value}

abbrev pub Test : Type 1
Test = Handed → Plan → ℕ → Type 0

-- A concat's row visits that of the child that holds it; a pack's visits each field and the validity; a take's the
-- codes and, where no values are handed in, every row of the values; a share's, where none are, every row of the
-- child; whether a row's zone is pruned visits every row of the zones. While whole values are made, nothing that was handed
-- in counts.
abbrev mutual
  pub Visits : Test → Handed → Plan → ℕ → Type 0
  Visits P handed (no_plan head) row = P handed (no_plan head) row
  Visits P handed (concat_plan head children) row = P handed (concat_plan head children) row ⊎ VisitsIn P handed children row
  Visits P handed (eval_plan head e child) row = P handed (eval_plan head e child) row ⊎ Visits P handed child row
  Visits P handed (filter_plan head child) row = P handed (filter_plan head child) row ⊎ Visits P handed child row
  Visits P handed (pack_plan head children validity) row =
      P handed (pack_plan head children validity) row ⊎ (VisitsField P handed children row ⊎ VisitsValidity P handed validity row)
  Visits P handed (take_plan head codes values) row =
      P handed (take_plan head codes values) row
      ⊎ (Visits P handed codes row ⊎ ((values_for handed head.number ≡ None) × ((other : ℕ) × (other < (plan_head values).rows) × Visits P None values other)))
  Visits P handed (share_plan head child) row =
      P handed (share_plan head child) row ⊎ ((values_for handed head.number ≡ None) × ((other : ℕ) × (other < (plan_head child).rows) × Visits P None child other))
  Visits P handed (list_plan head elements offsets validity) row = P handed (list_plan head elements offsets validity) row
  Visits P handed (row_idx_plan head) row = P handed (row_idx_plan head) row
  Visits P handed (scan_plan head segment coding) row = P handed (scan_plan head segment coding) row
  Visits P handed (zoned_plan head zones content table) row = P handed (zoned_plan head zones content table) row ⊎ Visits P handed content row
  Visits P handed (pruning_plan head pruning table) row =
      P handed (pruning_plan head pruning table) row ⊎ ((other : ℕ) × (other < (plan_head table).rows) × Visits P handed table other)

  -- of plans one after another
  pub VisitsIn : Test → Handed → Plans → ℕ → Type 0
  VisitsIn P handed no_plans row = ⊥
  VisitsIn P handed (plan first rest) row = MatchBool (nat_lt row (plan_head first).rows) (Visits P handed first row) (VisitsIn P handed rest (row - (plan_head first).rows))

  pub VisitsField : Test → Handed → Plans → ℕ → Type 0
  VisitsField P handed no_plans row = ⊥
  VisitsField P handed (plan first rest) row = Visits P handed first row ⊎ VisitsField P handed rest row

  pub VisitsValidity : Test → Handed → PlanValidity → ℕ → Type 0
  VisitsValidity P handed all_valid row = ⊥
  VisitsValidity P handed (valid_as validity) row = Visits P handed validity row

-- ---- what is visited

-- the leaf of that number, which names the segment
abbrev pub IsLeafRead : LeafRead → Test
IsLeafRead read handed (scan_plan head segment coding) row = (head.number ≡ read.leaf) × (segment ≡ read.segment)
IsLeafRead read handed p row = ⊥

-- The whole values of that number are asked for, and not inside others: they are the values of a take, or a share.
abbrev pub IsWholeRead : ℕ → Test
IsWholeRead n (Some given) (take_plan head codes values) row = (plan_head values).number ≡ n
IsWholeRead n (Some given) (share_plan head child) row = head.number ≡ n
IsWholeRead n handed p row = ⊥

-- a row of the list of that number
abbrev pub IsListRead : ℕ → Test
IsListRead n handed (list_plan head elements offsets validity) row = head.number ≡ n
IsListRead n handed p row = ⊥

-- the row of the take of that number, whose code is neither null nor the place of a value
abbrev pub HasBadCode : Leaves → ℕ → ℕ → ℕ → Test
HasBadCode leaves offset n at handed (take_plan head codes values) row =
    (head.number ≡ n) × (row ≡ at) × IsSomeAnd (row_value leaves handed offset codes row) (λ code. ¬ (IsPlaceAmong (plan_head values).rows code))
HasBadCode leaves offset n at handed p row = ⊥

-- that row of an expression, which is a fault over the value of its child
abbrev pub HasEvalFault : Leaves → ℕ → ℕ → Test
HasEvalFault leaves offset at handed (eval_plan head e child) row =
    (row ≡ at) × IsSomeAnd (row_value leaves handed offset child row) (λ v. meaning (plan_head child).dtype no_bound e v 0 ≡ None)
HasEvalFault leaves offset at handed p row = ⊥

-- ---- of selected rows

-- some selected row has such a visit
abbrev pub SomeVisit : Test → Handed → Plan → ℕ → List Bool → Type 0
SomeVisit P handed p start bits = SomeRow (Visits P handed p) start bits

-- some row of all has such a visit, while whole values are made
abbrev pub SomeWholeVisit : Test → Plan → ℕ → Type 0
SomeWholeVisit P p rows = (row : ℕ) × (row < rows) × Visits P None p row
