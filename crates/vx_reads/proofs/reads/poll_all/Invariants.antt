use Rattle.std.proofs.Common.{◌≡◌, ◌≤◌, length, take}
use Rattle.vx_base.specs.Sources.{RoseBy}
use Rattle.vx_reads.specs.Reads.{waiting_in, AreAsked, GoOn, NoneCame}
use Rattle.vx_reads.proofs.reads.poll_all.Given as goal

abbrev pub invariant-loop-place : goal.invariant-loop-place
invariant-loop-place g l = record {
  goes : GoOn l.locations l.fn.reads.items l.reads.items (g.S.SegmentSource.state l.fn.source) (g.S.SegmentSource.state l.source);
  none : NoneCame l.place l.fn.reads.items l.reads.items;
  quiet : (g.S.SegmentSource.state l.source).asked ≡ (g.S.SegmentSource.state l.fn.source).asked;
  asked : AreAsked (length l.fn.reads.items) l.fn.reads.items → AreAsked (length l.reads.items) l.reads.items;
  count : l.waiting ≡ waiting_in (take l.place l.reads.items);
  waited : RoseBy l.waiting (g.S.SegmentSource.state l.fn.source).idle (g.S.SegmentSource.state l.source).idle;
  few : l.waiting ≤ l.place;
}
