use Rattle.std.proofs.Common.{length}
use Rattle.vx_plan.specs.Parts.{parts_left, parts_of}
use Rattle.vx_steps.specs.declared.leavings.Sieve.{Sieve}
use Rattle.vx_steps.specs.Leavings.{Meets}
use Rattle.vx_steps.proofs.LeavingRows.{PartsRead}
use Rattle.vx_steps.proofs.leavings.+leavings.Given as goal

abbrev pub decreases-meet_rows : goal.decreases-meet_rows
decreases-meet_rows l = l.plan

abbrev pub invariant-loop-next : goal.invariant-loop-next
invariant-loop-next l = (new : Sieve) → Meets (PartsRead l.table l.count (parts_left l.table l.plan l.start l.count l.place)) l.sieve new → Meets (PartsRead l.table l.count (parts_of l.table l.plan l.start l.count)) l.fn.sieve new

abbrev pub decreases-loop-next : goal.decreases-loop-next
decreases-loop-next l = length (parts_left l.table l.plan l.start l.count l.place)
