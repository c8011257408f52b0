use Rattle.std.proofs.Common.{◌≤◌}
use Rattle.vx_workers.specs.Merges.{OpensWorkers}
use Rattle.vx_workers.proofs.merges.open_workers.Given as goal

abbrev pub invariant-loop-i : goal.invariant-loop-i
invariant-loop-i l = record {
  opens : OpensWorkers l.claims l._i l.worker_states.items l.seat;
  room : l.count ≤ l.worker_states.cap;
}
