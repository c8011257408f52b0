use Rattle.std.proofs.Common.{inl, inr, refl}
use Rattle.vx_steps.proofs.letting_go.release_unneeded.Goals as goal

pub returns-then-is_segment_ahead-clause-segments : goal.returns-then-is_segment_ahead-clause-segments
returns-then-is_segment_ahead-clause-segments c = inl (refl, refl, c.if-is_segment_ahead.ensures)

pub returns-clause-segments : goal.returns-clause-segments
returns-clause-segments c = inr (c.let_go.ensures, c.remove.ensures.held, c.remove.ensures.kept, c.if-is_segment_ahead.ensures)
