use Rattle.std.proofs.Common.{◌≡◌}
use Rattle.vx_reads.specs.Reads.{asked_also, AreAsked, GoOn, NoneCame}
use Rattle.vx_reads.proofs.reads.start_all.Given as goal

abbrev pub invariant-loop-place : goal.invariant-loop-place
invariant-loop-place g l = record {
  goes : GoOn l.locations l.fn.reads.items l.reads.items (g.S.SegmentSource.state l.fn.source) (g.S.SegmentSource.state l.source);
  none : NoneCame 0 l.fn.reads.items l.reads.items;
  asked : AreAsked l.place l.reads.items;
  asks : asked_also l.locations l.reads.items (g.S.SegmentSource.state l.source).asked ≡ asked_also l.locations l.fn.reads.items (g.S.SegmentSource.state l.fn.source).asked;
}
