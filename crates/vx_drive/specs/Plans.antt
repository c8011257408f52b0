-- What the plans of a scan and its chunks have to be, and when a source is quiet.
use Rattle.std.specs.Prelude.{◌≡◌, ℕ, ◌-◌, ◌<◌, ◌≤◌, List, [], ◌∷◌, length, Some}
use Rattle.vx_rows.specs.SegmentLeaves.{Bytes}
use Rattle.vx_layout.specs.Rows.{segment_bytes}
use Rattle.vx_plan.specs.declared.children.PlanRef.{PlanRef}
use Rattle.vx_plan.specs.Nodes.{Node}
use Rattle.vx_plan.specs.Plans.{Plan, plan_at}
use Rattle.vx_plan.specs.Refs.{number_of}
use Rattle.vx_plan.specs.Rules.{node_at}
use Rattle.vx_steps.specs.Held.{FitsOffset}
use Rattle.vx_splits.specs.declared.selected_rows.SelectedRows.{SelectedRows}
use Rattle.vx_io.specs.Ranges.{IsTableOf}
use Rattle.vx_drive.specs.declared.plans.ScanPlans.{ScanPlans}
use Rattle.vx_base.specs.Sources.{SourceState, Rose, RoseBy}
use Rattle.vx_base.specs.Limits.{most_segments}

-- What plans have to be wherever they are handed in: the projection is one of the table, the ranges are those of the
-- locations, of which there are few enough to be numbered, and each number of a row fits with the offset.
pub record ArePlans (plans : ScanPlans) : Type 0 where
  pub known : number_of plans.projection < length plans.table
  pub few : length plans.locations.items ≤ most_segments
  pub ranges : IsTableOf plans.ranges plans.locations.items
  pub numbers : FitsOffset plans.table plans.row_offset

-- the projection's node, and its plan
abbrev pub projection_node : ScanPlans → Node
projection_node plans = node_at plans.table (number_of plans.projection)

abbrev pub projection_plan : ScanPlans → Plan
projection_plan plans = plan_at plans.table (number_of plans.projection)

-- the plans of a scan, with that plan of the table in place of the projection's
abbrev pub with_projection : ScanPlans → PlanRef → ScanPlans
with_projection plans node = record plans { projection = node }

-- A chunk lies inside the projection's rows, with a truth value for each of its own.
pub record IsChunkOf (plans : ScanPlans) (chosen : SelectedRows) : Type 0 where
  pub forwards : chosen.scope.rows.start ≤ chosen.scope.rows.end
  pub inside : chosen.scope.rows.end ≤ (projection_node plans).rows
  pub mask : length chosen.mask ≡ chosen.scope.rows.end - chosen.scope.rows.start

-- the first of the chunks lies behind that row, and each other behind the rows of the one before; a chunk may have no rows
abbrev pub FollowFrom : ℕ → List SelectedRows → Type 0
FollowFrom row [] = Unit {0}
FollowFrom row (chunk ∷ chunks) = (row ≤ chunk.scope.rows.start) × (chunk.scope.rows.start ≤ chunk.scope.rows.end) × FollowFrom chunk.scope.rows.end chunks

abbrev pub AreInOrder : List SelectedRows → Type 0
AreInOrder chunks = FollowFrom 0 chunks

-- the bytes that a file has at each segment
abbrev pub bytes_of : ScanPlans → List ℕ → Bytes
bytes_of plans file = segment_bytes file plans.locations.items

-- where a source tells its file, this holds of it
abbrev pub WhereTold : SourceState → (List ℕ → Type 0) → Type 0
WhereTold source P = (file : List ℕ) → source.file ≡ Some file → P file

-- The source neither failed nor stalled.
pub record IsQuiet (limit : ℕ) (before after : SourceState) : Type 0 where
  pub faults : ¬ (Rose before.faults after.faults)
  pub idle : ¬ (RoseBy limit before.idle after.idle)
