use Rattle.vx_layout.specs.Nodes.{node_data}
use Rattle.vx_readers.proofs.Openings.{readable_more, refused_alone}
use Rattle.vx_readers.proofs.readers.check.Goals as goal

pub loop-node-preserved : goal.loop-node-preserved
loop-node-preserved c = readable_more c.args.tree.now c.loop-node.node c.lowest_stray-stray.result (node_data c.node.result.now) c.node.ensures.at c.loop-node-test.true c.in-None.ensures c.lowest_stray-stray.ensures.none c.loop-node.invariant

pub returns-in-Some-clause-refused : goal.returns-in-Some-clause-refused
returns-in-Some-clause-refused c = refused_alone c.args.tree.now c.loop-node.node (node_data c.node.result.now) c.in-Some.error c.node.ensures.at c.in-Some.ensures c.loop-node.invariant
