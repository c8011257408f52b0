-- What is kept are the reads of the other tickets, and those lie below the next one as before.
use Rattle.std.proofs.Common.{◌∙◌, refl, ◌<◌, ℕ}
use Rattle.std.proofs.lemmas.List.Elements.{All-filter}
use Rattle.vx_outside.specs.declared.locations.SegmentLocation.{SegmentLocation}
use Rattle.vx_outside.proofs.Tickets.{removed_is_without}
use Rattle.vx_outside.proofs.in_flight.InFlight.end.Goals as goal

pub invariant_of-self : goal.invariant_of-self
invariant_of-self c =
    let kept = c.remove.ensures.entries ∙ removed_is_without c.args.ticket c.self.inside.reads.entries c.len-in_flight.ensures.ordered in
    rw kept (All-filter _ (λ (read : ℕ × SegmentLocation). read.0 < c.self.inside.next) c.self.inside.reads.entries c.self.invariant)

pub returns-clause-reads : goal.returns-clause-reads
returns-clause-reads c =
    let kept = c.remove.ensures.entries ∙ removed_is_without c.args.ticket c.self.inside.reads.entries c.len-in_flight.ensures.ordered in
    rw (kept, ← c.self.view_is) refl
