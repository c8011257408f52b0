use Rattle.std.proofs.Common.{◌≡◌, ◌≤◌}
use Rattle.vx_layout.specs.Migrations.{flats_before}
use Rattle.vx_layout.proofs.flat_kinds.flat_nodes.Given as goal

abbrev pub invariant-loop-number : goal.invariant-loop-number
invariant-loop-number l = (l.count ≡ flats_before l.tree l.number) × (l.count ≤ l.number)
