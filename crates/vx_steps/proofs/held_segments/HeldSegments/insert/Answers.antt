use Rattle.std.proofs.Common.{sym, take, arith}
use Rattle.std.proofs.lemmas.Option.{slice_get_within}
use Rattle.vx_steps.proofs.Slots.{at_taken, exchanged_room, held_already, no_room, one_more_held}
use Rattle.vx_steps.proofs.held_segments.HeldSegments.insert.Goals as goal

pub returns-in-None-clause-held : goal.returns-in-None-clause-held
returns-in-None-clause-held c = absurd (no_room c.self.inside.places c.self.inside.slots.items c.args.segment c.self.invariant.placed (sym c.in-None.ensures.value) (rw (← c.self.view_is) at c.requires))

pub returns-then-place-count-clause-held : goal.returns-then-place-count-clause-held
returns-then-place-count-clause-held c =
    let slots = c.self.inside.slots.items in
    let place = c.in-Some.place.now in
    rw (← c.self.view_is) (held_already (take c.self.inside.count slots) c.args.segment (at_taken c.self.inside.count slots place c.args.segment (omega arith) ((c.self.invariant.placed c.args.segment place).0 (sym c.in-Some.ensures.value))))

pub exchange-requires-clause-one : goal.exchange-requires-clause-one
exchange-requires-clause-one c = slice_get_within c.self.inside.slots.items c.in-Some.place.now c.args.segment ((c.self.invariant.placed c.args.segment c.in-Some.place.now).0 (sym c.in-Some.ensures.value))

pub exchange-requires-clause-other : goal.exchange-requires-clause-other
exchange-requires-clause-other c =
    let inside = slice_get_within c.self.inside.slots.items c.in-Some.place.now c.args.segment ((c.self.invariant.placed c.args.segment c.in-Some.place.now).0 (sym c.in-Some.ensures.value)) in
    omega arith

pub invariant_of-self : goal.invariant_of-self
invariant_of-self c =
    let slots = c.self.inside.slots.items in
    let inside = slice_get_within slots c.in-Some.place.now c.args.segment ((c.self.invariant.placed c.args.segment c.in-Some.place.now).0 (sym c.in-Some.ensures.value)) in
    let size = c.exchange.ensures.size in
    record { placed = c.exchange.ensures.placed; inside = omega arith }

pub returns-clause-held : goal.returns-clause-held
returns-clause-held c =
    let slots = c.self.inside.slots.items in
    let place = c.in-Some.place.now in
    let at = (c.self.invariant.placed c.args.segment place).0 (sym c.in-Some.ensures.value) in
    rw (← c.self.view_is) (one_more_held slots c.exchange.new.slots.items c.self.inside.count place c.args.segment at (omega arith) c.exchange.ensures.exchanged)

pub returns-clause-kept : goal.returns-clause-kept
returns-clause-kept c =
    let slots = c.self.inside.slots.items in
    rw (← c.self.view_is) (exchanged_room c.in-Some.place.now c.self.inside.count slots c.exchange.new.slots.items c.exchange.ensures.exchanged)
