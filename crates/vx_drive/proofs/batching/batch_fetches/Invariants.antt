use Rattle.vx_drive.specs.Batched.{Batched, work_in}
use Rattle.vx_drive.proofs.batching.batch_fetches.Given as goal

abbrev pub invariant-batching : goal.invariant-batching
invariant-batching l = Batched l.locations l.first l.batch.items l.fn.scan l.scan

abbrev pub decreases-batching : goal.decreases-batching
decreases-batching l = work_in l.scan
