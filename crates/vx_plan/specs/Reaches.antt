-- Which segments a plan could read for selected rows of a range, in the order of its children, and for which rows
-- of the root.
use Rattle.std.specs.Prelude.{ℕ, ◌+◌, ◌-◌, ◌<◌, ◌^◌, Bool, true, if◌then◌else◌, List, [], ◌∷◌, ◌++◌, length, replicate, take, drop, Option, Some, None}
use Rattle.std.specs.List.{list_any}
use Rattle.std.specs.declared.ops.Range.{Range}
use Rattle.vx_plan.specs.declared.reaching.Reach.{Reach}
use Rattle.vx_plan.specs.declared.reaching.Reach.TheVariants.{Offset, Fixed}
use Rattle.vx_plan.specs.declared.reaching.SegmentReach.{SegmentReach}
use Rattle.vx_plan.specs.Plans.{Plan, no_plan, concat_plan, eval_plan, filter_plan, pack_plan, take_plan, share_plan, list_plan, row_idx_plan, scan_plan, zoned_plan, pruning_plan, Plans, no_plans, plan, PlanValidity, all_valid, valid_as, plan_head, plans_from}

-- ---- rows of a plan as rows of the root

-- the row behind the offset is a `u64`
abbrev pub fits : Reach → ℕ → Type 0
fits (Offset offset) row = row + offset < 2 ^ 64
fits (Fixed rows) row = Unit {0}

-- the rows of the root, by those of the plan
abbrev pub rooted : Reach → ℕ → ℕ → Range ℕ
rooted (Offset offset) start end = record { start = start + offset; end = end + offset }
rooted (Fixed rows) start end = rows

abbrev pub shifted : Reach → ℕ → Reach
shifted (Offset offset) by = Offset (offset + by)
shifted (Fixed rows) by = Fixed rows

abbrev pub fixed : Reach → ℕ → ℕ → Reach
fixed at start end = Fixed (rooted at start end)

-- ---- what is reached

-- some row is selected
abbrev pub any_row : List Bool → Bool
any_row bits = list_any (λ bit. bit) bits

abbrev pub all_rows : ℕ → List Bool
all_rows count = replicate count true

-- so many rows of a mask from a row on; where there is no mask, all are selected
abbrev pub chosen_rows : Option (List Bool) → ℕ → ℕ → List Bool
chosen_rows None skip count = all_rows count
chosen_rows (Some mask) skip count = take count (drop skip mask)

-- a segment, for rows of a leaf from a first one on
abbrev pub reached_at : Reach → ℕ → ℕ → ℕ → SegmentReach
reached_at at start count segment = record { segment = segment; rows = rooted at start (start + count) }

-- The rows from a first one on of which these are selected. A leaf is read where one is. A concat's rows are those
-- of the children, each behind the rows before it. A take's values, and what is shared, are entered whole, for the
-- rows that were asked of the take or the share, and so are the zones of a pruning plan. No plan is entered of whose
-- rows none is selected; the rows of a list reach nothing.
abbrev mutual
  pub selected_of : Plan → Reach → ℕ → List Bool → List SegmentReach
  selected_of (no_plan head) at start bits = []
  selected_of (concat_plan head children) at start bits = selected_chunks 0 children at start bits
  selected_of (eval_plan head e child) at start bits = selected_of child at start bits
  selected_of (filter_plan head child) at start bits = selected_of child at start bits
  selected_of (pack_plan head children validity) at start bits = selected_fields children at start bits ++ selected_validity validity at start bits
  selected_of (take_plan head codes values) at start bits =
      if any_row bits then selected_of codes at start bits ++ selected_of values (fixed at start (start + length bits)) 0 (all_rows (plan_head values).rows) else []
  selected_of (share_plan head child) at start bits =
      if any_row bits then selected_of child (fixed at start (start + length bits)) 0 (all_rows (plan_head child).rows) else []
  selected_of (list_plan head elements offsets validity) at start bits = []
  selected_of (row_idx_plan head) at start bits = []
  selected_of (scan_plan head segment coding) at start bits = if any_row bits then reached_at at start (length bits) segment ∷ [] else []
  selected_of (zoned_plan head zones content table) at start bits = selected_of content at start bits
  selected_of (pruning_plan head pruning table) at start bits =
      if any_row bits then selected_of table (fixed at start (start + length bits)) 0 (all_rows (plan_head table).rows) else []

  -- Of chunks of which the first stands behind so many rows of the concat; the rows are counted from that one on.
  pub selected_chunks : ℕ → Plans → Reach → ℕ → List Bool → List SegmentReach
  selected_chunks before no_plans at start bits = []
  selected_chunks before (plan first rest) at start bits =
      selected_of first (shifted at before) start (take ((plan_head first).rows - start) bits)
      ++ selected_chunks (before + (plan_head first).rows) rest at (start - (plan_head first).rows) (drop ((plan_head first).rows - start) bits)

  pub selected_fields : Plans → Reach → ℕ → List Bool → List SegmentReach
  selected_fields no_plans at start bits = []
  selected_fields (plan first rest) at start bits = selected_of first at start bits ++ selected_fields rest at start bits

  pub selected_validity : PlanValidity → Reach → ℕ → List Bool → List SegmentReach
  selected_validity all_valid at start bits = []
  selected_validity (valid_as validity) at start bits = selected_of validity at start bits

-- what each of these plans could read
abbrev pub selected_each : List Plan → Reach → ℕ → List Bool → List SegmentReach
selected_each ps at start bits = selected_fields (plans_from ps) at start bits

-- what a chunk could read that starts behind so many rows
abbrev pub selected_in_chunk : Plan → ℕ → Reach → ℕ → List Bool → List SegmentReach
selected_in_chunk p before at start bits = selected_of p (shifted at before) (start - before) (take ((plan_head p).rows - (start - before)) (drop (before - start) bits))

-- what all rows of a range could read
abbrev pub reached : Plan → Reach → ℕ → ℕ → List SegmentReach
reached p at start end = selected_of p at start (all_rows (end - start))
