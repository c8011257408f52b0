use Rattle.std.proofs.Common.{ℕ, ◌<◌, map}
use Rattle.std.specs.List.{slice_get}
use Rattle.vx_base.specs.Views.{fields_in}
use Rattle.vx_plan.specs.Nodes.{node_data}
use Rattle.vx_plan.specs.Rules.{nodes_at, FieldFits}
use Rattle.vx_plan.proofs.field_checks.fit_fields.Given as goal

abbrev pub invariant-loop-place : goal.invariant-loop-place
invariant-loop-place l = (k : ℕ) → k < l.place → FieldFits (slice_get (nodes_at (map node_data l.nodes) l.children) k) (slice_get (fields_in l.fields) k)
