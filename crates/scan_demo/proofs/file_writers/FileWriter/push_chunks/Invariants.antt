use Rattle.std.proofs.Common.{◌+◌, map}
use Rattle.std.specs.List.{range_with_len}
use Rattle.scan_demo.specs.DemoNodes.{flat_node}
use Rattle.scan_demo.specs.Flats.{chunk_flat}
use Rattle.scan_demo.specs.Writing.{Wrote}
use Rattle.scan_demo.proofs.file_writers.FileWriter.push_chunks.Given as goal

abbrev pub invariant-loop-chunk : goal.invariant-loop-chunk
invariant-loop-chunk l =
    Wrote l.initial.self l.self (map (λ place. flat_node (l.segment + place) (chunk_flat l.column l.number place)) (range_with_len 0 l.chunk))
    (map (chunk_flat l.column l.number) (range_with_len 0 l.chunk))
