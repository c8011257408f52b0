use Rattle.std.proofs.Common.{length, ◌-◌}
use Rattle.vx_claims.specs.Views.{above}
use Rattle.vx_claims.specs.Claims.{claimed}
use Rattle.vx_workers.proofs.WorkerStates.{Working}
use Rattle.vx_workers.proofs.workers.work.Given as goal

abbrev pub invariant-working : goal.invariant-working
invariant-working g l = Working l.common.shares l.common.claims.now l.common.plans.now l.common.chunks.now l.worker (g.S.SegmentSource.state l.fn.source) (g.S.SegmentSource.state l.source)

-- the numbers that the worker may still claim
abbrev pub decreases-working : goal.decreases-working
decreases-working g l = length l.common.chunks.now - above (claimed l.worker.seat)
