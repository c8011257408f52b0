use Rattle.std.proofs.Common.{◌≡◌, ◌++◌}
use Rattle.vx_claims.specs.Claims.{parts}
use Rattle.vx_workers.specs.Merges.{Merges}
use Rattle.vx_workers.proofs.merges.merge_workers.Given as goal

abbrev pub invariant-loop-worker : goal.invariant-loop-worker
invariant-loop-worker l =
    Merges l.claims (parts l.fn.seat) l.yielded l.seat l.joined × (l.yielded ++ l.worker-iterator.rest.items ≡ l.fn.worker_states.items) × (l.joined.claimed.cap ≡ l.fn.joined.claimed.cap)
