use Rattle.std.proofs.Common.{◌≡◌, drop}
use Rattle.vx_splits.specs.SplitRanges.{gathered_ranges}
use Rattle.vx_splits.proofs.SplitGather.{gathered_behind}
use Rattle.vx_splits.proofs.split_ranges.gather.Given as goal

abbrev pub invariant-loop-index : goal.invariant-loop-index
invariant-loop-index l = gathered_behind l.closed.items l.open.start l.open.end (drop l.index-index l.indices) ≡ gathered_ranges l.fn.indices
