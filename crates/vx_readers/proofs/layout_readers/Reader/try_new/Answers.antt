use Rattle.vx_layout.specs.Nodes.{node_data}
use Rattle.vx_readers.proofs.Openings.{no_other_root}
use Rattle.vx_readers.proofs.layout_readers.Reader.try_new.Goals as goal

pub unreachable-requires : goal.unreachable-requires
unreachable-requires c =
    no_other_root c.args.tree.now c.root-root.result (node_data c.node.result.now) c.node.ensures.good c.root-root.ensures.zero c.node.ensures.at c.in-Ok.ensures.readable c.in_default.not-Flat c.in_default.not-Chunked c.in_default.not-Dict c.in_default.not-Zoned
