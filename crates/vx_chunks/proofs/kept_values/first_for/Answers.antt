use Rattle.std.proofs.Common.{add-one}
use Rattle.vx_plan.specs.Refs.{number_of}
use Rattle.vx_steps.proofs.Indexing.{first_at, not_at}
use Rattle.vx_chunks.proofs.kept_values.first_for.Goals as goal

pub returns-then-value-node : goal.returns-then-value-node
returns-then-value-node c = first_at c.args.entries.now c.loop-value.value-index c.value-item.result (number_of c.args.node) c.loop-value-test.true c.value-item.is c.if-value-node.true c.loop-value.invariant

pub loop-value-preserved : goal.loop-value-preserved
loop-value-preserved c = rw add-one (not_at c.args.entries.now c.loop-value.value-index c.value-item.result (number_of c.args.node) c.loop-value-test.true c.value-item.is c.if-value-node.false c.loop-value.invariant)
