use Rattle.std.proofs.Common.{◌≡◌, ℕ, ◌+◌, ◌-◌, ◌≢◌, take, sym, subst, arith}
use Rattle.std.specs.Prelude.{◌↔◌}
use Rattle.vx_steps.specs.Needs.{Among}
use Rattle.vx_steps.proofs.Slots.{exchanged_room, never_held, none_held, not_first, one_less_held}
use Rattle.vx_steps.proofs.held_segments.HeldSegments.remove.Goals as goal

pub returns-in-None-clause-held : goal.returns-in-None-clause-held
returns-in-None-clause-held c =
    let slots = c.self.inside.slots.items in
    rw (← c.self.view_is) (never_held (take c.self.inside.count slots) c.args.segment (none_held c.self.inside.places slots c.self.inside.count c.args.segment c.self.invariant.placed (sym c.in-None.ensures.value)))

pub returns-then-place-self-clause-held : goal.returns-then-place-self-clause-held
returns-then-place-self-clause-held c =
    let slots = c.self.inside.slots.items in
    rw (← c.self.view_is) (never_held (take c.self.inside.count slots) c.args.segment (not_first c.self.inside.places slots c.self.inside.count c.args.segment c.in-Some.place.now c.self.invariant.placed (sym c.in-Some.ensures.value) (omega arith)))

pub returns-clause-held : goal.returns-clause-held
returns-clause-held c =
    let slots = c.self.inside.slots.items in
    let place = c.in-Some.place.now in
    let new = c.exchange.new.slots.items in
    let segment = c.args.segment in
    let last = c.self.inside.count - 1 in
    let at = (c.self.invariant.placed segment place).0 (sym c.in-Some.ensures.value) in
    let more : last + 1 ≡ c.self.inside.count = omega arith in
    let less = one_less_held c.self.inside.places slots new last place segment c.self.invariant.placed at (omega arith) c.exchange.ensures.exchanged in
    rw (← c.self.view_is) (subst (λ (k : ℕ). (s : ℕ) → Among s (take last new) ↔ (Among s (take k slots) × (segment ≢ s))) more less)

pub returns-clause-kept : goal.returns-clause-kept
returns-clause-kept c =
    let slots = c.self.inside.slots.items in
    rw (← c.self.view_is) (exchanged_room c.in-Some.place.now (c.self.inside.count - 1) slots c.exchange.new.slots.items c.exchange.ensures.exchanged)
