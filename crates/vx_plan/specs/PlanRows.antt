-- The rows of a plan: how each is derived, what it is worth and what it reads. `plan_derivation` alone says what
-- the kinds of plan are to a row.
use Rattle.std.specs.Prelude.{ℕ, ◌+◌, ◌-◌, nat_lt, pos, if◌then◌else◌, List, Option}
use Rattle.vx_base.specs.Data.{Datum, number}
use Rattle.vx_rows.specs.Derivations.{Derivation, nothing, of_leaf, list_row, given, packed, valid_where, looked_up, worked_out, read_whole, concluded, Derivations, no_more, also, each_row, Leaves, derived}
use Rattle.vx_rows.specs.Reads.{directly, Read, reads_of}
use Rattle.vx_plan.specs.Pruning.{is_pruned_at}
use Rattle.vx_plan.specs.Plans.{Plan, no_plan, concat_plan, eval_plan, filter_plan, pack_plan, take_plan, share_plan, list_plan, row_idx_plan, scan_plan, zoned_plan, pruning_plan, Plans, no_plans, plan, PlanValidity, all_valid, valid_as, plan_head}

-- A concat's row is that of the child that holds it; an eval's is worked out over the child's row; a filter
-- and zoned data give their child; a pack's is packed where it is valid; a take's is looked up by its code
-- among all rows of the values; a share reads all rows of its child besides; the row index is the row's number
-- and the offset; a scan's row is a cell; whether a row's zone is pruned is concluded from all rows of the zones.
abbrev mutual
  pub plan_derivation : ℕ → Plan → ℕ → Derivation
  plan_derivation offset (no_plan head) row = nothing
  plan_derivation offset (concat_plan head children) row = plan_derivation_in offset children row
  plan_derivation offset (eval_plan head e child) row = worked_out (plan_head child).dtype e (plan_derivation offset child row)
  plan_derivation offset (filter_plan head child) row = plan_derivation offset child row
  plan_derivation offset (pack_plan head children validity) row = plan_where_valid offset validity row (packed (plan_derivations offset children row))
  plan_derivation offset (take_plan head codes values) row = looked_up head.number row (plan_derivation offset codes row) (each_row (plan_derivation offset values) 0 (plan_head values).rows)
  plan_derivation offset (share_plan head child) row = read_whole head.number row (plan_derivation offset child row) (each_row (plan_derivation offset child) 0 (plan_head child).rows)
  plan_derivation offset (list_plan head elements offsets validity) row = list_row head.number row
  plan_derivation offset (row_idx_plan head) row = given (number (pos (row + offset)))
  plan_derivation offset (scan_plan head segment coding) row = of_leaf (record { dtype = head.dtype; coding = coding; rows = head.rows; segment = segment; row = row })
  plan_derivation offset (zoned_plan head zones content table) row = plan_derivation offset content row
  plan_derivation offset (pruning_plan head pruning table) row = concluded (is_pruned_at pruning head.rows row) (each_row (plan_derivation offset table) 0 (plan_head table).rows)

  -- the row of plans one after another
  pub plan_derivation_in : ℕ → Plans → ℕ → Derivation
  plan_derivation_in offset no_plans row = nothing
  plan_derivation_in offset (plan first rest) row = if nat_lt row (plan_head first).rows then plan_derivation offset first row else plan_derivation_in offset rest (row - (plan_head first).rows)

  -- the row of each plan
  pub plan_derivations : ℕ → Plans → ℕ → Derivations
  plan_derivations offset no_plans row = no_more
  plan_derivations offset (plan first rest) row = also (plan_derivation offset first row) (plan_derivations offset rest row)

  pub plan_where_valid : ℕ → PlanValidity → ℕ → Derivation → Derivation
  plan_where_valid offset all_valid row d = d
  plan_where_valid offset (valid_as validity) row d = valid_where d (plan_derivation offset validity row)

-- what a row of a plan is worth; none is a fault
abbrev pub plan_value : Leaves → ℕ → Plan → ℕ → Option Datum
plan_value leaves offset p row = derived leaves (plan_derivation offset p row)

-- what a row of a plan reads
abbrev pub plan_reads : ℕ → Plan → ℕ → List Read
plan_reads offset p row = reads_of directly (plan_derivation offset p row)
