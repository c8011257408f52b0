use Rattle.std.proofs.Common.{length, ◌+◌, ◌*◌}
use Rattle.scan_output.proofs.side_by_side.+texts.Given as goal

abbrev pub decreases-make_both-make_others : goal.decreases-make_both-make_others
decreases-make_both-make_others g l = 4 * length l.others.now + 1

abbrev pub decreases-make_both : goal.decreases-make_both
decreases-make_both g l = 4 * length l.others.now + 2

abbrev pub decreases-make_texts : goal.decreases-make_texts
decreases-make_texts g l = 4 * length l.texts.now
