use Rattle.std.proofs.Common.{length, ◌+◌, ◌*◌}
use Rattle.vx_workers.proofs.workers.+spreading.Given as goal

abbrev pub decreases-first_and_others-others : goal.decreases-first_and_others-others
decreases-first_and_others-others g l = 4 * length l.worker_states.now + 1

abbrev pub decreases-first_and_others : goal.decreases-first_and_others
decreases-first_and_others g l = 4 * length l.worker_states.now + 2

abbrev pub decreases-spread_from : goal.decreases-spread_from
decreases-spread_from g l = 4 * length l.worker_states.now + 3

abbrev pub decreases-spread_over : goal.decreases-spread_over
decreases-spread_over g l = 4 * length l.worker_states.now
