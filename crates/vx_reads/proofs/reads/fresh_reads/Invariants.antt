use Rattle.std.proofs.Common.{◌≡◌, take}
use Rattle.std.specs.List.{AllByRecursion}
use Rattle.vx_reads.specs.declared.reads.SegmentRead.{SegmentRead}
use Rattle.vx_reads.specs.Fresh.{IsNew}
use Rattle.vx_reads.specs.Reads.{segments_of}
use Rattle.vx_reads.proofs.reads.fresh_reads.Given as goal

abbrev pub invariant-loop-segment : goal.invariant-loop-segment
invariant-loop-segment l = record {
  segments : segments_of l.reads.items ≡ take l.segment-index l.needs;
  fresh : AllByRecursion (λ (read : SegmentRead). IsNew read.state) l.reads.items;
}
