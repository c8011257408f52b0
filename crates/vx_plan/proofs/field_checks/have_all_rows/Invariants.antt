use Rattle.std.proofs.Common.{◌≡◌, map, take}
use Rattle.std.specs.List.{All}
use Rattle.vx_plan.specs.Nodes.{node_data}
use Rattle.vx_plan.specs.Rules.{nodes_at}
use Rattle.vx_plan.proofs.field_checks.have_all_rows.Given as goal

abbrev pub invariant-loop-place : goal.invariant-loop-place
invariant-loop-place l = All (λ child. child.rows ≡ l.rows) (take l.place (nodes_at (map node_data l.nodes) l.children))
