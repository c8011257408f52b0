use Rattle.vx_chunks.specs.Outcomes.{data_of}
use Rattle.vx_chunks.proofs.OwnValues.{Owning}
use Rattle.vx_chunks.proofs.chunks.made_for.Given as goal

abbrev pub invariant-loop-plan : goal.invariant-loop-plan
invariant-loop-plan l = Owning l.plan-items (data_of l.made) (data_of l.own.items) l.plan-index
