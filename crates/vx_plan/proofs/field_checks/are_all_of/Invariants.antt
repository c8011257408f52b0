use Rattle.std.proofs.Common.{◌≡◌, map, take}
use Rattle.std.specs.List.{All}
use Rattle.vx_base.specs.Views.{data_type}
use Rattle.vx_plan.specs.Nodes.{node_data}
use Rattle.vx_plan.specs.Rules.{nodes_at}
use Rattle.vx_plan.proofs.field_checks.are_all_of.Given as goal

abbrev pub invariant-loop-place : goal.invariant-loop-place
invariant-loop-place l = All (λ child. child.dtype ≡ data_type l.dtype) (take l.place (nodes_at (map node_data l.nodes) l.children))
