use Rattle.std.proofs.Common.{length}
use Rattle.vx_scan_cases.proofs.runs.+do_follow.Given as goal

abbrev pub decreases-do_follow : goal.decreases-do_follow
decreases-do_follow l = length l.chunks.now
