-- The nodes of the plans between a plan and an expression over it and the numbers of its rows.
use Rattle.std.specs.Prelude.{ℕ, List, [], ◌∷◌, None}
use Rattle.vx_base.specs.declared.dtypes.Nullability.TheVariants.{NonNullable}
use Rattle.vx_base.specs.Data.{DataType, Members, no_members, member}
use Rattle.vx_expr.specs.Rewritten.{row_idx_name, child_name}
use Rattle.vx_expr.specs.Types.{row_number_type}
use Rattle.vx_plan.specs.Nodes.{Node}
use Rattle.vx_plan.specs.Rules.{node_at, pack_node}

-- so many empty structs
abbrev pub empty_node : ℕ → Node
empty_node rows = pack_node no_members NonNullable rows [] None

-- a row's number, and the row
abbrev pub numbered_members : DataType → Members
numbered_members t = member row_idx_name row_number_type (member child_name t no_members)

-- the numbers of the rows beside the rows of the child
abbrev pub numbered_node : List Node → ℕ → ℕ → Node
numbered_node nodes numbers child =
    pack_node (numbered_members (node_at nodes child).dtype) NonNullable (node_at nodes child).rows (numbers ∷ child ∷ []) None
