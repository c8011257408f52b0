use Rattle.std.proofs.Common.{◌+◌}
use Rattle.scan_demo.specs.DemoNodes.{flat_node}
use Rattle.scan_demo.specs.Flats.{chunk_flat}
use Rattle.scan_demo.proofs.SegmentSizes.{chunk_small}
use Rattle.scan_demo.proofs.Written.{wrote_more}
use Rattle.scan_demo.proofs.file_writers.FileWriter.push_chunks.Goals as goal

pub loop-chunk-preserved : goal.loop-chunk-preserved
loop-chunk-preserved c =
    let column = c.args.column in
    let number = c.args.number in
    wrote_more c.args.self.now c.loop-chunk.self c.push_flat.new.self (λ place. flat_node (c.args.segment + place) (chunk_flat column number place)) (chunk_flat column number) c.loop-chunk.chunk
    c.loop-chunk.invariant (rw c.in_ok-stored.ensures at c.in_ok-push_flat.ensures)

pub push_flat-requires-clause-small : goal.push_flat-requires-clause-small
push_flat-requires-clause-small c = rw c.in_ok-stored.ensures (chunk_small c.args.column c.args.number c.loop-chunk.chunk)
