-- What the map finds is the location of the ticket.
use Rattle.std.proofs.Common.{◌∙◌, refl}
use Rattle.vx_outside.proofs.Tickets.{lookup_is_location}
use Rattle.vx_outside.proofs.in_flight.InFlight.location.Goals as goal

pub returns : goal.returns
returns c = c.copied.ensures ∙ c.get.ensures.value ∙ lookup_is_location c.args.ticket c.self.inside.reads.entries ∙ rw (← c.self.view_is) refl
