use Rattle.std.proofs.Common.{ap, map, ◌∙◌}
use Rattle.vx_plan.proofs.AlikePlans.{alike_reads, alike_values}
use Rattle.vx_rows.specs.Reads.{directly}
use Rattle.vx_rows.specs.Renumbered.{read_renumbered}
use Rattle.vx_lower.proofs.Lowering.{lowered_values}
use Rattle.vx_lower.proofs.LoweredRows.{lowered_reads}
use Rattle.vx_lower.proofs.Planning.{planned_reads, planned_values}
use Rattle.vx_lower.specs.Lowered.{lowered}
use Rattle.vx_lower.specs.Planned.{planned}
use Rattle.vx_lower.proofs.laws.alike_plans_serve.Goals as goal

pub returns-clause-lowered : goal.returns-clause-lowered
returns-clause-lowered c = λ f g leaves fitting offset q t kept row sound distinct may alike. alike_values f g leaves offset q (lowered t kept) row alike ∙ lowered_values leaves fitting offset t kept row sound distinct may

pub returns-clause-lowered_reads : goal.returns-clause-lowered_reads
returns-clause-lowered_reads c = λ f g offset q t kept row sound alike. alike_reads f g offset q (lowered t kept) row alike ∙ ap (map (read_renumbered g)) (lowered_reads offset t kept directly row sound)

pub returns-clause-projected : goal.returns-clause-projected
returns-clause-projected c = λ f g leaves fitting q p row can alike. alike_values f g leaves p.offset q (planned p) row alike ∙ planned_values leaves fitting p row can

pub returns-clause-projected_reads : goal.returns-clause-projected_reads
returns-clause-projected_reads c = λ f g q p row can alike. alike_reads f g p.offset q (planned p) row alike ∙ ap (map (read_renumbered g)) (planned_reads p row can)
