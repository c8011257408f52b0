use Rattle.vx_plan.specs.Nodes.{node_data}
use Rattle.vx_plan.proofs.Shaping.{leaf_shape, filter_shape, share_shape, concat_shape, pack_shape, take_shape, eval_shape, list_shape, row_idx_shape, zoned_shape, legacy_shape, pruning_shape}
use Rattle.vx_plan.proofs.tables.PlanTable.shape.Goals as goal

pub returns-in-Concat-clause-shape : goal.returns-in-Concat-clause-shape
returns-in-Concat-clause-shape c = concat_shape c.args.self.now c.node-node.ensures.good c.args.plan.0 (node_data c.node-node.result.now) c.node-node.ensures.at c.in-Concat.is

pub returns-in-Eval-clause-shape : goal.returns-in-Eval-clause-shape
returns-in-Eval-clause-shape c = eval_shape c.args.self.now c.node-node.ensures.good c.args.plan.0 (node_data c.node-node.result.now) c.in-Eval.field-0 c.at.result c.node-node.ensures.at c.in-Eval.is c.at.ensures

pub returns-in-Filter-clause-shape : goal.returns-in-Filter-clause-shape
returns-in-Filter-clause-shape c = filter_shape c.args.self.now c.node-node.ensures.good c.args.plan.0 (node_data c.node-node.result.now) c.at-in-Filter.result c.node-node.ensures.at c.in-Filter.is c.at-in-Filter.ensures

pub returns-in-Pack-clause-shape : goal.returns-in-Pack-clause-shape
returns-in-Pack-clause-shape c = pack_shape c.args.self.now c.node-node.ensures.good c.args.plan.0 (node_data c.node-node.result.now) c.in-Pack.has_validity c.node-node.ensures.at c.in-Pack.is

pub returns-in-Take-clause-shape : goal.returns-in-Take-clause-shape
returns-in-Take-clause-shape c = take_shape c.args.self.now c.node-node.ensures.good c.args.plan.0 (node_data c.node-node.result.now) c.at-in-Take.result c.at-in-Take-2.result c.node-node.ensures.at c.in-Take.is c.at-in-Take.ensures c.at-in-Take-2.ensures

pub returns-in-Share-clause-shape : goal.returns-in-Share-clause-shape
returns-in-Share-clause-shape c = share_shape c.args.self.now c.node-node.ensures.good c.args.plan.0 (node_data c.node-node.result.now) c.at-in-Share.result c.node-node.ensures.at c.in-Share.is c.at-in-Share.ensures

pub returns-in-ListPack-clause-shape : goal.returns-in-ListPack-clause-shape
returns-in-ListPack-clause-shape c = list_shape c.args.self.now c.node-node.ensures.good c.args.plan.0 (node_data c.node-node.result.now) _ c.node-node.ensures.at c.in-ListPack.is

pub returns-in-RowIdx-clause-shape : goal.returns-in-RowIdx-clause-shape
returns-in-RowIdx-clause-shape c = row_idx_shape c.args.self.now c.node-node.ensures.good c.args.plan.0 (node_data c.node-node.result.now) c.node-node.ensures.at c.in-RowIdx.is

pub returns-in-SegmentScan-clause-shape : goal.returns-in-SegmentScan-clause-shape
returns-in-SegmentScan-clause-shape c = leaf_shape c.args.self.now c.node-node.ensures.good c.args.plan.0 (node_data c.node-node.result.now) c.in-SegmentScan.segment _ c.node-node.ensures.at c.in-SegmentScan.is

pub returns-in-Zoned-clause-shape : goal.returns-in-Zoned-clause-shape
returns-in-Zoned-clause-shape c = zoned_shape c.args.self.now c.node-node.ensures.good c.args.plan.0 (node_data c.node-node.result.now) _ _ c.at-in-Zoned.result c.at-in-Zoned-2.result c.node-node.ensures.at c.in-Zoned.is c.at-in-Zoned.ensures c.at-in-Zoned-2.ensures

pub returns-in-LegacyStats-clause-shape : goal.returns-in-LegacyStats-clause-shape
returns-in-LegacyStats-clause-shape c = legacy_shape c.args.self.now c.node-node.ensures.good c.args.plan.0 (node_data c.node-node.result.now) _ _ c.at-in-LegacyStats.result c.at-in-LegacyStats-2.result c.node-node.ensures.at c.in-LegacyStats.is c.at-in-LegacyStats.ensures c.at-in-LegacyStats-2.ensures

pub returns-in-Pruning-clause-shape : goal.returns-in-Pruning-clause-shape
returns-in-Pruning-clause-shape c = pruning_shape c.args.self.now c.node-node.ensures.good c.args.plan.0 (node_data c.node-node.result.now) _ _ _ c.at-in-Pruning.result c.node-node.ensures.at c.in-Pruning.is c.at-in-Pruning.ensures
