use Rattle.vx_chunks.specs.Outcomes.{data_of}
use Rattle.vx_workers.proofs.CertifyingEach.{Giving}
use Rattle.vx_execute.proofs.rerunning.all_right.Given as goal

abbrev pub invariant-loop-plan : goal.invariant-loop-plan
invariant-loop-plan g l = Giving l.plans l.chosen l.plan-items (data_of l.fn.right.items) (data_of l.right.items) (data_of l.given.items) l.plan-index (g.S.SegmentSource.state l.fn.source) (g.S.SegmentSource.state l.source)
