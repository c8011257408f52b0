use Rattle.vx_steps.proofs.CertifiedCauses.{certified_cause}
use Rattle.vx_steps.proofs.FreeVisits.{free_cause, inside_cause}
use Rattle.vx_steps.proofs.laws.causes_are_free.Goals as goal

pub returns : goal.returns
returns c = record { certified = certified_cause; inside = inside_cause; same = free_cause }
