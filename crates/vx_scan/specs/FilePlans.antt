-- What a scan is prepared to: a plan of its projection, and its chunks.
use Rattle.std.specs.Prelude.{◌≡◌, ◌⊎◌, ℕ, ◌+◌, ◌-◌, ◌<◌, ◌≤◌, nat_le, Bool, true, false, List, [], ◌∷◌, ◌++◌, length, map, Option, Some, None}
use Rattle.std.specs.List.{AllByRecursion}
use Rattle.vx_base.specs.Data.{DataType}
use Rattle.vx_expr.specs.Bound.{Bound}
use Rattle.vx_expr.specs.Mentions.{is_root}
use Rattle.vx_io.specs.Ranges.{IsTableOf}
use Rattle.vx_layout.specs.Trees.{head_of}
use Rattle.vx_lower.specs.Lowered.{lowered}
use Rattle.vx_lower.specs.OldNumbers.{old_number}
use Rattle.vx_lower.specs.PlannedOver.{IsPlannedOver}
use Rattle.vx_lower.specs.Projected.{Projection, kept_of, projected_at, scan_reads}
use Rattle.vx_plan.specs.Kinds.{HasKind, IsRowIdx}
use Rattle.vx_plan.specs.Nodes.{Node}
use Rattle.vx_plan.specs.Plans.{Plan, take_plan, share_plan, plan_head, plan_at}
use Rattle.vx_plan.specs.PlanRows.{plan_value, plan_reads}
use Rattle.vx_plan.specs.Refs.{number_of}
use Rattle.vx_plan.specs.Rules.{node_at}
use Rattle.vx_plan.specs.Tables.{IsGoodTable}
use Rattle.vx_rows.specs.Derivations.{Leaves}
use Rattle.vx_rows.specs.Renumbered.{read_renumbered}
use Rattle.vx_rows.specs.Whole.{GiveFitting}
use Rattle.vx_splits.specs.declared.selected_rows.SelectedRows.{SelectedRows}
use Rattle.vx_splits.specs.declared.selected_rows.WorkScope.{WorkScope}
use Rattle.vx_splits.specs.declared.selections.Selection.{Selection}
use Rattle.vx_splits.specs.Trimmed.{chosen_rows, IsTrimmed}
use Rattle.vx_steps.specs.Below.{StandsIn}
use Rattle.vx_steps.specs.Given.{Handed}
use Rattle.vx_steps.specs.Laws.{HandsNone}
use Rattle.vx_steps.specs.Visits.{Visits, HasEvalFault}
use Rattle.vx_drive.specs.declared.plans.ScanPlans.{ScanPlans}
use Rattle.vx_drive.specs.Plans.{AreInOrder}
use Rattle.vx_scan.specs.Answer.{FileScan, row_count, scan_pieces}
use Rattle.vx_scan.specs.Causes.{IsFaultAt}
use Rattle.vx_scan.specs.PlanTexts.{held_tree, IsProjectionPlan}

-- ---- the plan

-- the number of the node that a plan of the scan's table was lowered from
abbrev pub node_of : Projection → ℕ → ℕ
node_of p number = old_number 0 (lowered p.root (kept_of p)) number

-- a take of that number, or a share
abbrev pub IsTakeAs : ℕ → Plan → Type 0
IsTakeAs n (take_plan head codes values) = head.number ≡ n
IsTakeAs n (share_plan head child) = head.number ≡ n
IsTakeAs n p = ⊥

-- No two takes of the tree's plan were lowered from one dictionary.
abbrev pub TakesAreApart : Projection → Type 0
TakesAreApart p = (one other : ℕ) → StandsIn (IsTakeAs one) (held_tree p) → StandsIn (IsTakeAs other) (held_tree p) → node_of p one ≡ node_of p other → one ≡ other

-- The plan is worth at each row what the projection is worth there, and reads what it reads, but for the numbers of
-- dictionaries and lists. Where a row visits a row of an expression that is a fault, that is its own, and the projection
-- is a fault over the root's value.
pub record IsPlanOf (p : Projection) (q : Plan) : Type 0 where
  pub dtype : (plan_head q).dtype ≡ p.expression.dtype
  pub rows : (plan_head q).rows ≡ (head_of p.root).rows
  pub values : (leaves : Leaves) → GiveFitting leaves → (row : ℕ) → plan_value leaves p.offset q row ≡ projected_at leaves p row
  pub reads : (row : ℕ) → map (read_renumbered (node_of p)) (plan_reads p.offset q row) ≡ scan_reads p row
  pub faults : (leaves : Leaves) → GiveFitting leaves → (handed : Handed) (row at : ℕ) → HandsNone handed
      → Visits (HasEvalFault leaves p.offset at) handed q row → (row ≡ at) × IsFaultAt leaves p row

-- A table that held a plan holds besides, at that number, the plan of an expression over it: the plan itself, where the
-- expression is the root alone.
abbrev pub IsProjectedBy : Bool → List Node → List Node → Bound → ℕ → ℕ → Type 0
IsProjectedBy true old new a child number = (new ≡ old) × (number ≡ child)
IsProjectedBy false old new a child number = (t : DataType) × IsPlannedOver old new (record a { root = t }) child number

abbrev pub IsProjectedIn : List Node → List Node → Bound → ℕ → ℕ → Type 0
IsProjectedIn old new a child number = IsProjectedBy (is_root a.term) old new a child number

-- A good table with the plan of the projection as its last one. It is worth and reads what the projection does; what
-- numbers rows numbers all rows of the tree, and no two takes are of one dictionary.
pub record IsPlannedFor (p : Projection) (table : List Node) (number : ℕ) : Type 0 where
  pub good : IsGoodTable table
  pub last : number + 1 ≡ length table
  pub plan_is : IsProjectionPlan p (plan_at table number)
  pub plan : (offset : ℕ) → IsPlanOf (record p { offset = offset }) (plan_at table number)
  pub numbers : (n : ℕ) → HasKind IsRowIdx table n → (node_at table n).rows ≡ (head_of p.root).rows
  pub apart : TakesAreApart p

-- What the chunks of the scan share: a good table with the plan of the projection, and where the segments lie.
pub record ArePlansOf (scan : FileScan) (limit : ℕ) (plans : ScanPlans) : Type 0 where
  pub good : IsGoodTable plans.table
  pub known : number_of plans.projection < length plans.table
  pub plan_is : IsProjectionPlan scan.projection (plan_at plans.table (number_of plans.projection))
  pub plan : IsPlanOf scan.projection (plan_at plans.table (number_of plans.projection))
  pub locations : plans.locations.items ≡ scan.locations
  pub ranges : IsTableOf plans.ranges scan.locations
  pub offset : plans.row_offset ≡ scan.projection.offset
  -- what numbers rows numbers those of the file
  pub numbers : (n : ℕ) → HasKind IsRowIdx plans.table n → (node_at plans.table n).rows ≡ row_count scan
  pub limit_is : plans.idle_limit ≡ limit
  -- no two takes of the tree's plan are of one dictionary
  pub apart : TakesAreApart scan.projection

-- ---- the chunks

-- the chunk's rows lie among so many, and its mask is as long as its scope
pub record LiesInside (count : ℕ) (chunk : SelectedRows) : Type 0 where
  pub forwards : chunk.scope.rows.start ≤ chunk.scope.rows.end
  pub below : chunk.scope.rows.end ≤ count
  pub mask : length chunk.mask ≡ chunk.scope.rows.end - chunk.scope.rows.start

-- The chunk is a scope of the file's rows, cut down to its first and its last row that is selected.
abbrev pub IsCutBy : Selection → SelectedRows → Type 0
IsCutBy selection chunk = (scope : WorkScope) × (scope.file_ordinal ≡ 0) × IsTrimmed selection scope chunk

-- the limit, if one is given, is at most so many rows
abbrev pub is_met : Option ℕ → ℕ → Bool
is_met None count = false
is_met (Some limit) count = nat_le limit count

-- how many rows pieces have
abbrev pub rows_in : List (List ℕ) → ℕ
rows_in [] = 0
rows_in (rows ∷ pieces) = length rows + rows_in pieces

-- The pieces are all of these, or the first of them, which have rows up to the limit.
pub record AreEnough (limit : Option ℕ) (all pieces : List (List ℕ)) : Type 0 where
  pub later : List (List ℕ)
  pub joined : pieces ++ later ≡ all
  pub enough : (later ≡ []) ⊎ (is_met limit (rows_in pieces) ≡ true)

-- The chunks have the pieces of the scan's rows, in order.
pub record AreChunksOf (scan : FileScan) (chunks : List SelectedRows) : Type 0 where
  pub pieces : map chosen_rows chunks ≡ scan_pieces scan
  pub inside : AllByRecursion (LiesInside (row_count scan)) chunks
  pub ordered : AreInOrder chunks
  pub trimmed : AllByRecursion (IsCutBy scan.selection) chunks
