use Rattle.vx_steps.proofs.Slots.{each_once}
use Rattle.vx_steps.proofs.held_segments.HeldSegments.as_slice.Goals as goal

pub returns-clause-once : goal.returns-clause-once
returns-clause-once c = rw (← c.self.view_is) (each_once c.self.inside.places c.self.inside.slots.items c.self.inside.count c.self.invariant.placed)
