use Rattle.vx_claims.specs.Claims.{IsSeatOf}
use Rattle.vx_claims_tests.proofs.claim_tests.work.Given as goal

abbrev pub invariant-claiming : goal.invariant-claiming
invariant-claiming l = IsSeatOf l.claims l.worker.seat
