use Rattle.vx_chunks.specs.Outcomes.{data_of}
use Rattle.vx_workers.proofs.CertifyingEach.{Testing}
use Rattle.vx_execute.proofs.rerunning.first_wrong.Given as goal

abbrev pub invariant-loop-place : goal.invariant-loop-place
invariant-loop-place g l = Testing l.plans (data_of l.borrowed) (data_of l.fn.right.items) (data_of l.right.items) l.place (g.S.SegmentSource.state l.fn.source) (g.S.SegmentSource.state l.source)
