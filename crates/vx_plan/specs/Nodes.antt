-- A node of the table as plain data.
use Rattle.std.specs.Prelude.{ℕ, List, []}
use Rattle.std.specs.Arc.{arc_value}
use Rattle.vx_base.specs.declared.dtypes.Nullability.TheVariants.{NonNullable}
use Rattle.vx_base.specs.Data.{DataType, bool_type}
use Rattle.vx_base.specs.Views.{data_type}
use Rattle.vx_plan.specs.declared.nodes.PlanKind.{PlanKind}
use Rattle.vx_plan.specs.declared.nodes.PlanKind.TheVariants.{Filter}
use Rattle.vx_plan.specs.declared.nodes.PlanNode.{PlanNode}

-- The offsets are those of a concat, and none for any other kind.
pub record Node : Type 0 where
  pub kind : PlanKind
  pub dtype : DataType
  pub rows : ℕ
  pub children : List ℕ
  pub offsets : List ℕ

abbrev pub node_data : PlanNode → Node
node_data node = record { kind = node.kind; dtype = data_type (arc_value node.dtype); rows = node.row_count; children = node.children; offsets = node.row_offsets.items }

-- what stands where the table has no node
abbrev pub absent : Node
absent = record { kind = Filter; dtype = bool_type NonNullable; rows = 0; children = []; offsets = [] }
