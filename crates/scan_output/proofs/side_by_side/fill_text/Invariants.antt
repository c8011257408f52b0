use Rattle.std.proofs.Common.{◌≡◌, take}
use Rattle.scan_output.specs.RowWriting.{batch_lines}
use Rattle.scan_output.proofs.side_by_side.fill_text.Given as goal

abbrev pub invariant-loop-batch : goal.invariant-loop-batch
invariant-loop-batch l = l.text.items ≡ batch_lines (take l.batch-index l.batches)
