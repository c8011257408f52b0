use Rattle.std.proofs.Common.{refl, sym}
use Rattle.std.specs.Prelude.{nat_lt}
use Rattle.vx_steps.proofs.Slots.{held_tells, none_held}
use Rattle.vx_steps.proofs.held_segments.HeldSegments.contains.Goals as goal

pub returns-in-Some : goal.returns-in-Some
returns-in-Some c = rw (← c.self.view_is) (held_tells c.self.inside.places c.self.inside.slots.items c.self.inside.count c.args.segment c.in-Some.place.now c.self.invariant.placed (sym c.in-Some.ensures.value) (nat_lt c.in-Some.place.now c.self.inside.count) refl)

pub returns-in-None : goal.returns-in-None
returns-in-None c = rw (← c.self.view_is) (none_held c.self.inside.places c.self.inside.slots.items c.self.inside.count c.args.segment c.self.invariant.placed (sym c.in-None.ensures.value))
