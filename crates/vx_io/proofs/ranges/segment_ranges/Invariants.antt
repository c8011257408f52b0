use Rattle.std.proofs.Common.{take}
use Rattle.vx_io.specs.Ranges.{IsTableOf}
use Rattle.vx_io.proofs.ranges.segment_ranges.Given as goal

abbrev pub invariant-loop-number : goal.invariant-loop-number
invariant-loop-number l = IsTableOf l.segments.entries (take l.number l.locations)
