-- The plan of a projection of a tree: the tree is lowered with the fields that the expression keeps, and the
-- expression is planned over it. The root alone is the lowered tree.
use Rattle.std.specs.Prelude.{Bool, true, false, IsSome}
use Rattle.vx_base.specs.Names.{HasDistinctNames}
use Rattle.vx_expr.specs.Mentions.{is_root}
use Rattle.vx_expr.specs.Types.{type_of}
use Rattle.vx_layout.specs.Sound.{IsSound}
use Rattle.vx_layout.specs.Trees.{head_of}
use Rattle.vx_plan.specs.Plans.{Plan}
use Rattle.vx_lower.specs.Lowered.{lowered}
use Rattle.vx_lower.specs.Projected.{Projection, kept_of}
use Rattle.vx_lower.specs.RowIndex.{row_index_plan}

-- by whether the expression is the root
abbrev pub planned_by : Bool → Projection → Plan
planned_by true p = lowered p.root (kept_of p)
planned_by false p = row_index_plan p.expression (lowered p.root (kept_of p))

abbrev pub planned : Projection → Plan
planned p = planned_by (is_root p.expression.term) p

-- A sound tree whose fields have distinct names, under an expression that is bound to its dtype.
pub record CanBePlanned (p : Projection) : Type 0 where
  pub sound : IsSound p.root
  pub distinct : HasDistinctNames (head_of p.root).dtype
  pub bound : IsSome (type_of (head_of p.root).dtype p.expression.term)
