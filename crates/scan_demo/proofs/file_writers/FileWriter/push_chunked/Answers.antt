use Rattle.std.proofs.Common.{[], ◌∷◌}
use Rattle.vx_layout.specs.declared.nodes.LayoutKind.TheVariants.{Chunked}
use Rattle.scan_demo.specs.DemoNodes.{chunk_nodes}
use Rattle.scan_demo.specs.Flats.{chunk_flats, column_type}
use Rattle.scan_demo.proofs.Written.{wrote_then}
use Rattle.scan_demo.proofs.file_writers.FileWriter.push_chunked.Goals as goal
use Rattle.vx_layout.specs.Nodes.{parent_node}

pub returns : goal.returns
returns c =
    let column = c.args.column in
    let number = c.args.number in
    wrote_then c.args.self.now c.push_node.new.self c.push_chunks.new.self (parent_node Chunked (column_type column) number _ ∷ []) (chunk_nodes column number c.args.segment)
    [] (chunk_flats column number) (rw (c.in_ok-children.ensures, c.dtype.ensures, c.div_ceil-chunks.ensures) at c.in_ok-push_node.ensures) c.in_ok-push_chunks.ensures
