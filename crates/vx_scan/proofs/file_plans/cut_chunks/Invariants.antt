use Rattle.std.proofs.Common.{◌≡◌, ◌-◌}
use Rattle.vx_scan.proofs.Cutting.{Cutting}
use Rattle.vx_scan.proofs.file_plans.cut_chunks.Given as goal

abbrev pub invariant-loop-left : goal.invariant-loop-left
invariant-loop-left l = Cutting l.selection l.size l.fn.rows.start l.fn.rows.end l.left.start l.count l.chunks.items × (l.left.end ≡ l.fn.rows.end)

abbrev pub decreases-loop-left : goal.decreases-loop-left
decreases-loop-left l = l.left.end - l.left.start
