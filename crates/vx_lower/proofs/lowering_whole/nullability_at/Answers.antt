use Rattle.std.proofs.Common.{ap, ◌∙◌}
use Rattle.vx_base.specs.Fits.{nullability_of}
use Rattle.vx_layout.specs.Nodes.{node_data}
use Rattle.vx_rows.specs.Heads.{Head}
use Rattle.vx_lower.proofs.Nodes.{node_head}
use Rattle.vx_lower.proofs.lowering_whole.nullability_at.Goals as goal

pub returns : goal.returns
returns c = c.nullability.ensures ∙ ap (λ (head : Head). nullability_of head.dtype) (node_head c.args.tree.now c.node-layout.ensures.good c.args.node (node_data c.node-layout.result.now) c.node-layout.ensures.at)
