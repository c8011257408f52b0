-- What holds of the plans of a table.
use Rattle.std.specs.Prelude.{◌≡◌, ℕ, ◌+◌, ◌<◌, ◌≤◌, Bool, true, ◌++◌, List, length, Some}
use Rattle.std.specs.List.{slice_get}
use Rattle.vx_rows.specs.Reads.{AnyOf, Finds, IsIn}
use Rattle.vx_plan.specs.declared.reaching.Reach.{Reach}
use Rattle.vx_plan.specs.declared.reaching.SegmentReach.{SegmentReach}
use Rattle.vx_plan.specs.FittingRows.{HasFittingRows}
use Rattle.vx_plan.specs.Nodes.{Node}
use Rattle.vx_plan.specs.Plans.{Plan, plan_head, head_at, plan_at, plan_grown}
use Rattle.vx_plan.specs.PlanRows.{plan_reads}
use Rattle.vx_plan.specs.Reaches.{selected_of}
use Rattle.vx_plan.specs.Rules.{node_at}
use Rattle.vx_plan.specs.Tables.{IsGoodTable}

-- ---- the plans of a table

-- the plan of a number is its node over the plans of the node's children
abbrev pub PlanUnfolds : Type 0
PlanUnfolds = (nodes : List Node) → IsGoodTable nodes → (n : ℕ) → plan_at nodes n ≡ plan_grown (plan_at nodes) n (slice_get nodes n)

-- it stays when others are appended
abbrev pub PlanStays : Type 0
PlanStays = (nodes more : List Node) → IsGoodTable (nodes ++ more) → (n : ℕ) → n < length nodes → plan_at (nodes ++ more) n ≡ plan_at nodes n

-- it has the dtype and the rows of the node
abbrev pub PlanHasHead : Type 0
PlanHasHead = (nodes : List Node) → IsGoodTable nodes → (n : ℕ) → n < length nodes → plan_head (plan_at nodes n) ≡ head_at n (node_at nodes n)

-- and its rows are those of what it is over
abbrev pub PlanRowsFit : Type 0
PlanRowsFit = (nodes : List Node) → IsGoodTable nodes → (n : ℕ) → n < length nodes → HasFittingRows (plan_at nodes n)

-- ---- what is reached is what is read

-- one of the entries is of the segment
abbrev pub IsReached : ℕ → List SegmentReach → Type 0
IsReached segment entries = AnyOf (λ entry. entry.segment ≡ segment) entries

-- one of the rows that are selected, from a first one on, reads a cell of the segment
pub record IsReadBy (offset segment : ℕ) (p : Plan) (start : ℕ) (bits : List Bool) : Type 0 where
  pub row : ℕ
  pub chosen : slice_get bits row ≡ Some true
  pub read : Finds (IsIn segment) (plan_reads offset p (start + row))

-- Each segment that is given is one that a selected row reads.
abbrev pub ReachedIsRead : Type 0
ReachedIsRead = (p : Plan) (at : Reach) (offset start : ℕ) (bits : List Bool) (segment : ℕ) → IsReached segment (selected_of p at start bits) → IsReadBy offset segment p start bits

-- And each that a selected row reads is given, where the rows are rows of the plan.
abbrev pub ReadIsReached : Type 0
ReadIsReached = (p : Plan) (at : Reach) (offset start : ℕ) (bits : List Bool) (segment : ℕ) → HasFittingRows p → start + length bits ≤ (plan_head p).rows → IsReadBy offset segment p start bits → IsReached segment (selected_of p at start bits)
