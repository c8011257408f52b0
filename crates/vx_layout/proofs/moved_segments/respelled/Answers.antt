use Rattle.vx_layout.specs.Nodes.{node_data}
use Rattle.vx_layout.proofs.MovedParts.{respelled_by}
use Rattle.vx_layout.proofs.moved_segments.respelled.Goals as goal

pub returns-in-Ok-clause-spelled : goal.returns-in-Ok-clause-spelled
returns-in-Ok-clause-spelled c =
    let flat = c.args.flat in
    respelled_by (λ made. made.items) c.spelling_of-spelled.result (node_data c.args.node.now) flat.old flat.new c.args.bytes.now c.in-Ok.column c.in-Ok.ensures.column c.spelling_of-spelled.ensures.can c.spelling_of-spelled.ensures.spelled
